-- A line is true, none is missing, and two at most follow at a look.
use Rattle.std.proofs.Common.{◌≡◌, ℕ, ◌+◌, ◌*◌, ◌/◌, ◌<◌, ◌≤◌, Bool, true, false, Option, Some, None, refl, subst, arith}
use Rattle.std.proofs.lemmas.Bool.Decides.{nat_tests}
use Rattle.rly_daemon_events.specs.declared.hop_event.HopEvent.{HopEvent}
use Rattle.rly_daemon_events.specs.declared.hop_event.HopEvent.TheVariants.{Opens, Open, Busy, Idle, Closed}
use Rattle.rly_daemon_events.specs.declared.hop_look.HopLook.{HopLook}
use Rattle.rly_daemon_events.specs.HopEvents.{announced, next_event}
use Rattle.rly_daemon_events.specs.HopRuns.{IsRoundedUp, IsTold, IsTrueAt, may_follow}

-- a look with these fields
abbrev pub seen : Bool → Bool → Option ℕ → ℕ → HopLook
seen is_open is_resting left lead = record { is_open = is_open; is_resting = is_resting; left = left; lead = lead }

-- what holds of one event holds of the same
pub held : (P : HopEvent → Type 0) (e event : HopEvent) → Some e ≡ Some event → P e → P event
held P e event is holds = let same : e ≡ event = cc in subst P same holds

-- ---- openings that are announced

pub record IsSoon (lead left : ℕ) (event : HopEvent) : Type 0 where
  pub some : 1 ≤ left
  pub within : left ≤ lead * 1000000
  pub is : event ≡ Opens ((left + 999999) / 1000000)

pub soon : (lead left : ℕ) (event : HopEvent) → announced lead left ≡ Some event → IsSoon lead left event
soon lead left event is = grind (arith, nat_tests)

pub not_soon : (lead left : ℕ) → announced lead left ≡ None → 1 ≤ left → lead * 1000000 < left
not_soon lead left is some = grind (arith, nat_tests)

pub far : (lead left : ℕ) → lead * 1000000 < left → announced lead left ≡ None
far lead left past = grind (arith, nat_tests)

rounded : (lead left : ℕ) → left ≤ lead * 1000000 → ((left + 999999) / 1000000 ≤ lead) × IsRoundedUp ((left + 999999) / 1000000) left
rounded lead left within = (omega arith, record { long = omega arith; short = omega arith })

-- ---- a line is true

true_soon : (resting : Bool) (left lead : ℕ) (event : HopEvent) → announced lead left ≡ Some event → IsTrueAt (seen false resting (Some left) lead) event
true_soon resting left lead event is =
    let there = soon lead left event is in
    let fits = rounded lead left there.within in
    rw there.is (refl, (there.some, fits.0, fits.1))

pub line_is_true : (last : Option HopEvent) (opened resting : Bool) (left : Option ℕ) (lead : ℕ) (event : HopEvent)
    → next_event last (seen opened resting left lead) ≡ Some event → IsTrueAt (seen opened resting left lead) event
line_is_true None true resting left lead event is = held (IsTrueAt (seen true resting left lead)) Open event is refl
line_is_true (Some Closed) true resting left lead event is = held (IsTrueAt (seen true resting left lead)) Open event is refl
line_is_true (Some (Opens s)) true resting left lead event is = held (IsTrueAt (seen true resting left lead)) Open event is refl
line_is_true (Some Open) true true left lead event is = held (IsTrueAt (seen true true left lead)) Idle event is (refl, refl)
line_is_true (Some Busy) true true left lead event is = held (IsTrueAt (seen true true left lead)) Idle event is (refl, refl)
line_is_true (Some Idle) true true left lead event is = absurd (cc)
line_is_true (Some Open) true false left lead event is = absurd (cc)
line_is_true (Some Busy) true false left lead event is = absurd (cc)
line_is_true (Some Idle) true false left lead event is = held (IsTrueAt (seen true false left lead)) Busy event is (refl, refl)
line_is_true None false resting left lead event is = held (IsTrueAt (seen false resting left lead)) Closed event is refl
line_is_true (Some Open) false resting left lead event is = held (IsTrueAt (seen false resting left lead)) Closed event is refl
line_is_true (Some Busy) false resting left lead event is = held (IsTrueAt (seen false resting left lead)) Closed event is refl
line_is_true (Some Idle) false resting left lead event is = held (IsTrueAt (seen false resting left lead)) Closed event is refl
line_is_true (Some (Opens s)) false resting left lead event is = absurd (cc)
line_is_true (Some Closed) false resting None lead event is = absurd (cc)
line_is_true (Some Closed) false resting (Some left) lead event is = true_soon resting left lead event is

-- ---- no line is missing

pub none_is_missing : (last : Option HopEvent) (opened resting : Bool) (left : Option ℕ) (lead : ℕ)
    → next_event last (seen opened resting left lead) ≡ None → IsTold last (seen opened resting left lead)
none_is_missing None true resting left lead is = absurd (cc)
none_is_missing None false resting left lead is = absurd (cc)
none_is_missing (Some Open) true true left lead is = absurd (cc)
none_is_missing (Some Open) true false left lead is = (refl, refl)
none_is_missing (Some Open) false resting left lead is = absurd (cc)
none_is_missing (Some Busy) true true left lead is = absurd (cc)
none_is_missing (Some Busy) true false left lead is = (refl, refl)
none_is_missing (Some Busy) false resting left lead is = absurd (cc)
none_is_missing (Some Idle) true true left lead is = (refl, refl)
none_is_missing (Some Idle) true false left lead is = absurd (cc)
none_is_missing (Some Idle) false resting left lead is = absurd (cc)
none_is_missing (Some Closed) true resting left lead is = absurd (cc)
none_is_missing (Some Closed) false resting None lead is = (refl, tt)
none_is_missing (Some Closed) false resting (Some left) lead is = (refl, not_soon lead left is)
none_is_missing (Some (Opens s)) true resting left lead is = absurd (cc)
none_is_missing (Some (Opens s)) false resting left lead is = refl

-- ---- which line may follow

pub may_follow_soon : (lead left : ℕ) (event : HopEvent) → announced lead left ≡ Some event → may_follow (Some Closed) event ≡ true
may_follow_soon lead left event is = rw ((soon lead left event is).is) refl

pub next_may_follow : (last : Option HopEvent) (opened resting : Bool) (left : Option ℕ) (lead : ℕ) (event : HopEvent)
    → next_event last (seen opened resting left lead) ≡ Some event → may_follow last event ≡ true
next_may_follow None true resting left lead event is = held (λ e. may_follow None e ≡ true) Open event is refl
next_may_follow None false resting left lead event is = held (λ e. may_follow None e ≡ true) Closed event is refl
next_may_follow (Some Closed) true resting left lead event is = held (λ e. may_follow (Some Closed) e ≡ true) Open event is refl
next_may_follow (Some (Opens s)) true resting left lead event is = held (λ e. may_follow (Some (Opens s)) e ≡ true) Open event is refl
next_may_follow (Some Open) true true left lead event is = held (λ e. may_follow (Some Open) e ≡ true) Idle event is refl
next_may_follow (Some Busy) true true left lead event is = held (λ e. may_follow (Some Busy) e ≡ true) Idle event is refl
next_may_follow (Some Idle) true true left lead event is = absurd (cc)
next_may_follow (Some Open) true false left lead event is = absurd (cc)
next_may_follow (Some Busy) true false left lead event is = absurd (cc)
next_may_follow (Some Idle) true false left lead event is = held (λ e. may_follow (Some Idle) e ≡ true) Busy event is refl
next_may_follow (Some Open) false resting left lead event is = held (λ e. may_follow (Some Open) e ≡ true) Closed event is refl
next_may_follow (Some Busy) false resting left lead event is = held (λ e. may_follow (Some Busy) e ≡ true) Closed event is refl
next_may_follow (Some Idle) false resting left lead event is = held (λ e. may_follow (Some Idle) e ≡ true) Closed event is refl
next_may_follow (Some (Opens s)) false resting left lead event is = absurd (cc)
next_may_follow (Some Closed) false resting None lead event is = absurd (cc)
next_may_follow (Some Closed) false resting (Some left) lead event is = may_follow_soon lead left event is

-- ---- two lines at most

-- none follows the second, where this is the first
abbrev EndsAfter : HopLook → HopEvent → Type 0
EndsAfter look first = (second : HopEvent) → next_event (Some first) look ≡ Some second → next_event (Some second) look ≡ None

after_open : (resting : Bool) (left : Option ℕ) (lead : ℕ) → EndsAfter (seen true resting left lead) Open
after_open true left lead second is = held (λ e. next_event (Some e) (seen true true left lead) ≡ None) Idle second is refl
after_open false left lead second is = absurd (cc)

after_closed : (resting : Bool) (left : Option ℕ) (lead : ℕ) → EndsAfter (seen false resting left lead) Closed
after_closed resting None lead second is = absurd (cc)
after_closed resting (Some left) lead second is = rw ((soon lead left second is).is) refl

after_soon : (resting : Bool) (left lead : ℕ) (first : HopEvent) → announced lead left ≡ Some first → EndsAfter (seen false resting (Some left) lead) first
after_soon resting left lead first is =
    rw ((soon lead left first is).is) (λ second more. absurd (cc))

pub two_at_most : (last : Option HopEvent) (opened resting : Bool) (left : Option ℕ) (lead : ℕ) (first : HopEvent)
    → next_event last (seen opened resting left lead) ≡ Some first → EndsAfter (seen opened resting left lead) first
two_at_most None true resting left lead first is = held (EndsAfter (seen true resting left lead)) Open first is (after_open resting left lead)
two_at_most (Some Closed) true resting left lead first is = held (EndsAfter (seen true resting left lead)) Open first is (after_open resting left lead)
two_at_most (Some (Opens s)) true resting left lead first is = held (EndsAfter (seen true resting left lead)) Open first is (after_open resting left lead)
two_at_most (Some Open) true true left lead first is = held (EndsAfter (seen true true left lead)) Idle first is (λ second more. absurd (cc))
two_at_most (Some Busy) true true left lead first is = held (EndsAfter (seen true true left lead)) Idle first is (λ second more. absurd (cc))
two_at_most (Some Idle) true true left lead first is = absurd (cc)
two_at_most (Some Open) true false left lead first is = absurd (cc)
two_at_most (Some Busy) true false left lead first is = absurd (cc)
two_at_most (Some Idle) true false left lead first is = held (EndsAfter (seen true false left lead)) Busy first is (λ second more. absurd (cc))
two_at_most None false resting left lead first is = held (EndsAfter (seen false resting left lead)) Closed first is (after_closed resting left lead)
two_at_most (Some Open) false resting left lead first is = held (EndsAfter (seen false resting left lead)) Closed first is (after_closed resting left lead)
two_at_most (Some Busy) false resting left lead first is = held (EndsAfter (seen false resting left lead)) Closed first is (after_closed resting left lead)
two_at_most (Some Idle) false resting left lead first is = held (EndsAfter (seen false resting left lead)) Closed first is (after_closed resting left lead)
two_at_most (Some (Opens s)) false resting left lead first is = absurd (cc)
two_at_most (Some Closed) false resting None lead first is = absurd (cc)
two_at_most (Some Closed) false resting (Some left) lead first is = after_soon resting left lead first is
