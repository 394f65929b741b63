-- What a Custody draws.
use Rattle.std.proofs.Common.{◌≡◌, ◌<◌, ◌≤◌, ◌+◌, ◌-◌, ◌∙◌, ℕ, Bool, true, false, arith, max, refl}
use Rattle.std.proofs.lemmas.Bool.Decides.{nat_tests}
use Rattle.std.specs.Prelude.{◌≢◌, ◌==◌, ◌&&◌, ◌||◌, not, nat_le, if◌then◌else◌, Option, None, Some}
use Rattle.rly_hop_pacing.specs.declared.round_trip.RoundTrip.{RoundTrip}
use Rattle.rly_hop_pacing.specs.CongestionControl.{ControlView, ends_doubling, is_missing, is_stopped, is_timeout, may_time_out, on_custody, slack, spare_number, waiting_since}
use Rattle.rly_hop_pacing.specs.RoundTrips.{plain_wait}
use Rattle.rly_hop_pacing.specs.Scoreboards.{is_heard, is_passed}
use Rattle.rly_hop_pacing.specs.Timers.{is_past, timer_anew}

-- the state after one that ends the doubling, if the first number in flight goes out again or doesn't
abbrev pub answered : ControlView → (is_due : Bool) → ControlView
answered p is_due = record p { timer = timer_anew p.timer; is_answered = true; is_due = is_due }

-- no other number does
due_none : (a b e rest : Bool) → e ≡ false → ((a && e) || rest) ≡ ((b && e) || rest)
due_none a b true rest none = absurd (cc)
due_none true true false rest none = refl
due_none true false false rest none = refl
due_none false true false rest none = refl
due_none false false false rest none = refl

others_cases : (ends : Bool) (p : ControlView) (is_due : Bool) (t number : ℕ) → (number - 1 == p.flight.covered) ≡ false
    → is_missing (if ends then answered p is_due else p) t number ≡ is_missing p t number
others_cases false p is_due t number other = refl
others_cases true p is_due t number other =
    due_none is_due p.is_due (number - 1 == p.flight.covered)
    ((p.is_reporting && not (is_heard p.board number)) && (is_passed p.board number t (slack p) || is_stopped p number)) other

not_equal : (a b : ℕ) → a ≢ b → (a == b) ≡ false
not_equal a b other = grind (arith, nat_tests)

pub others : (p : ControlView) (at t number : ℕ) → number - 1 ≢ p.flight.covered
    → is_missing (on_custody p at) t number ≡ is_missing p t number
others p at t number other =
    others_cases (ends_doubling p) p (p.is_due || (is_timeout (answered p p.is_due) at && not (is_timeout p at))) t number
    (not_equal (number - 1) p.flight.covered other)

spare_cases : (ends : Bool) (p : ControlView) (is_due : Bool) (t : ℕ)
    → spare_number (if ends then answered p is_due else p) t ≡ spare_number p t
spare_cases true p is_due t = refl
spare_cases false p is_due t = refl

pub spare : (p : ControlView) (at t : ℕ) → spare_number (on_custody p at) t ≡ spare_number p t
spare p at t = spare_cases (ends_doubling p) p (p.is_due || (is_timeout (answered p p.is_due) at && not (is_timeout p at))) t

-- the wait that isn't doubled is no shorter than `resend`
plain_least : (resend : ℕ) (trip : Option RoundTrip) → max resend 1 ≤ plain_wait resend trip
plain_least resend None = omega arith
plain_least resend (Some t) = omega arith

past_none : (wait since at : ℕ) → 1 ≤ wait → at < since + wait → nat_le wait (at - since) ≡ false
past_none wait since at some early = grind (arith, nat_tests)

early_due : (ends may past was due : Bool) → past ≡ false
    → (if ends then due || ((may && past) && not was) else due) ≡ due
early_due ends may true was due none = absurd (cc)
early_due false may false was due none = refl
early_due true true false was true none = refl
early_due true true false was false none = refl
early_due true false false was true none = refl
early_due true false false was false none = refl

-- before `resend` has passed nothing goes out again
pub is_early : (p : ControlView) (at : ℕ) → at < waiting_since p + p.timer.resend
    → is_past (timer_anew p.timer) (waiting_since p) at ≡ false
is_early p at early =
    let least = plain_least p.timer.resend p.timer.trip in
    past_none (plain_wait p.timer.resend p.timer.trip) (waiting_since p) at (omega (arith, least)) (omega (arith, least, early))

due_cases : (ends : Bool) (p : ControlView) (is_due : Bool) → (if ends then answered p is_due else p).is_due ≡ (if ends then is_due else p.is_due)
due_cases true p is_due = refl
due_cases false p is_due = refl

pub not_early : (p : ControlView) (at : ℕ) → at < waiting_since p + p.timer.resend → (on_custody p at).is_due ≡ p.is_due
not_early p at early =
    due_cases (ends_doubling p) p (p.is_due || (is_timeout (answered p p.is_due) at && not (is_timeout p at)))
    ∙ early_due (ends_doubling p) (may_time_out p) (is_past (timer_anew p.timer) (waiting_since p) at) (is_timeout p at) p.is_due (is_early p at early)
