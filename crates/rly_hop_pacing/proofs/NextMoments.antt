-- Until the next moment, what a turn has to do stays the same.
use Rattle.std.proofs.Common.{◌≡◌, ◌∙◌, ℕ, ◌+◌, ◌-◌, ◌/◌, ◌^◌, ◌<◌, ◌≤◌, Bool, true, false, not, List, [], ◌∷◌, ap, arith, cond, length, map, min, refl, sym}
use Rattle.std.proofs.lemmas.Bool.Decides.{nat_tests}
use Rattle.std.specs.Prelude.{if◌then◌else◌, Option, Some, None, ◌&&◌, ◌||◌, is_some, nat_le, nat_lt, filter}
use Rattle.rly_hop_pacing.specs.declared.scoreboard.Scoreboard.{Scoreboard}
use Rattle.rly_hop_pacing.specs.CongestionControl.{ControlView, first_of, first_option, is_due_number, is_missing, is_on_way, is_spare, is_stopped, is_timeout, is_wide, may_probe, may_time_out, probe_number, probe_since, probe_wait, quiet_if_probe, quiet_since, slack, spare_number, spare_of, waiting_since, way_count}
use Rattle.rly_hop_pacing.specs.Flights.{sent_numbers}
use Rattle.rly_hop_pacing.specs.Moments.{IsBefore, moment_after, sooner, soonest}
use Rattle.rly_hop_pacing.specs.NextMoments.{again_after, first_missing, has_to_send, missing_after, number_after, probe_after, probe_from, spare_after, next_timeout, while_wide}
use Rattle.rly_hop_pacing.specs.Scoreboards.{is_after_timeout, is_heard, is_passed, is_repeated_before, last_sent, passed_after, repeated_after}
use Rattle.rly_hop_pacing.specs.Timers.{round_trip, timer_moment}

-- a wait passes at its moment, and not before
pub moment-steady : (at t since wait : ℕ) → at ≤ t → IsBefore t (moment_after since wait at)
    → nat_le wait (t - since) ≡ nat_le wait (at - since)
moment-steady at t since wait later before = grind (arith, nat_tests)

pub both_before : (t : ℕ) (a b : Option ℕ) → IsBefore t (sooner a b) → IsBefore t a × IsBefore t b
both_before t None b before = (tt, before)
both_before t (Some a) None before = (before, tt)
both_before t (Some a) (Some b) before = (omega arith, omega arith)

-- what is tested only if a condition holds
pub gated : (c : Bool) (t : ℕ) (o : Option ℕ) (x y : Bool) → (IsBefore t o → x ≡ y) → IsBefore t (if c then o else None)
    → (c && x) ≡ (c && y)
gated true t o x y same before = same before
gated false t o x y same before = refl

passed-steady : (b : Scoreboard) (number at t most : ℕ) → at ≤ t → IsBefore t (passed_after b number at most)
    → is_passed b number t most ≡ is_passed b number at most
passed-steady b number at t most later before =
    let sent = last_sent b number in
    gated (nat_lt sent.order b.newest) t (moment_after sent.at (min (b.trip + most) (2 ^ 64 - 1)) at) _ _
    (moment-steady at t sent.at (min (b.trip + most) (2 ^ 64 - 1)) later) before

repeated-steady : (b : Scoreboard) (number at t wait : ℕ) → at ≤ t → IsBefore t (repeated_after b number at wait)
    → is_repeated_before b number t wait ≡ is_repeated_before b number at wait
repeated-steady b number at t wait later before =
    let sent = last_sent b number in
    gated sent.again t (moment_after sent.at wait at) _ _ (moment-steady at t sent.at wait later) before

missing-steady : (p : ControlView) (at t number : ℕ) → at ≤ t → IsBefore t (missing_after p at number)
    → is_missing p t number ≡ is_missing p at number
missing-steady p at t number later before =
    ap (λ b. is_due_number p number || b)
    (gated (p.is_reporting && not (is_heard p.board number)) t (passed_after p.board number at (slack p)) _ _
    (λ h. ap (λ b. b || is_stopped p number) (passed-steady p.board number at t (slack p) later h)) before)

-- the window is wide for a while
wide-earlier : (p : ControlView) (at t : ℕ) → at ≤ t → is_wide p t ≡ true → is_wide p at ≡ true
wide-earlier p at t later wide = grind (arith, nat_tests)

wide-before_some : (p : ControlView) (t moment : ℕ) (b : Bool) → is_wide p moment ≡ b → is_wide p t ≡ true
    → IsBefore t (if b then Some moment else None) → (t < moment)
wide-before_some p t moment true is wide before = before
wide-before_some p t moment false is wide before =
    grind (arith, wide-earlier p moment t)

wide-before : (p : ControlView) (t : ℕ) (o : Option ℕ) → is_wide p t ≡ true → IsBefore t (while_wide p o) → IsBefore t o
wide-before p t None wide before = tt
wide-before p t (Some moment) wide before = wide-before_some p t moment (is_wide p moment) refl wide before

spare-steady : (p : ControlView) (at t number : ℕ) → at ≤ t → is_wide p t ≡ true → IsBefore t (spare_after p at number)
    → is_spare p t number ≡ is_spare p at number
spare-steady p at t number later wide before =
    let wait = round_trip p.timer / 4 in
    let o = repeated_after p.board number at wait in
    gated (not (is_heard p.board number)) t (while_wide p o) _ _
    (λ h. repeated-steady p.board number at t wait later (wide-before p t o wide h)) before

-- what passes a test that doesn't change
pub filter-steady : (t : ℕ) (f : ℕ → Option ℕ) (x y : ℕ → Bool) → ((n : ℕ) → IsBefore t (f n) → x n ≡ y n)
    → (l : List ℕ) → IsBefore t (soonest (map f l)) → filter x l ≡ filter y l
filter-steady t f x y same [] before = refl
filter-steady t f x y same (n ∷ l) before =
    let both = both_before t (f n) (soonest (map f l)) before in
    ap (λ b. cond b (n ∷ filter x l) (filter x l)) (same n both.0)
    ∙ ap (λ m. cond (y n) (n ∷ m) m) (filter-steady t f x y same l both.1)

number-steady : (p : ControlView) (at t number : ℕ) → at ≤ t → IsBefore t (number_after p at number)
    → is_missing p t number ≡ is_missing p at number
number-steady p at t number later before =
    missing-steady p at t number later (both_before t (missing_after p at number) (spare_after p at number) before).0

pub first_missing-steady : (p : ControlView) (at t : ℕ) → at ≤ t → IsBefore t (again_after p at)
    → first_missing p t ≡ first_missing p at
first_missing-steady p at t later before =
    ap first_of (filter-steady t (number_after p at) (is_missing p t) (is_missing p at) (λ n. number-steady p at t n later)
    (sent_numbers p.flight) before)

pub way-steady : (p : ControlView) (at t : ℕ) → at ≤ t → IsBefore t (again_after p at) → way_count p t ≡ way_count p at
way-steady p at t later before =
    ap length (filter-steady t (number_after p at) (is_on_way p t) (is_on_way p at)
    (λ n h. ap (λ b. (not (is_heard p.board n) && not b) && is_after_timeout p.board n) (number-steady p at t n later h))
    (sent_numbers p.flight) before)

spare_of-steady : (p : ControlView) (at t : ℕ) → at ≤ t → is_wide p t ≡ true → IsBefore t (again_after p at)
    → spare_of p t ≡ spare_of p at
spare_of-steady p at t later wide before =
    ap first_of (filter-steady t (number_after p at) (is_spare p t) (is_spare p at)
    (λ n h. spare-steady p at t n later wide (both_before t (missing_after p at n) (spare_after p at n) h).1)
    (sent_numbers p.flight) before)

probe-gated : (p : ControlView) (at t since : ℕ) (c : Bool) → at ≤ t → IsBefore t (probe_from p at (if c then Some since else None))
    → (if c && nat_le (probe_wait p) (t - since) then Some p.board.last else None)
    ≡ (if c && nat_le (probe_wait p) (at - since) then Some p.board.last else None)
probe-gated p at t since true later before =
    ap (λ b. if b then Some p.board.last else None) (moment-steady at t since (probe_wait p) later before)
probe-gated p at t since false later before = refl

probe_since-steady : (p : ControlView) (at t : ℕ) (news : Option ℕ) → at ≤ t → IsBefore t (probe_from p at (quiet_if_probe p news))
    → probe_since p t news ≡ probe_since p at news
probe_since-steady p at t None later before = refl
probe_since-steady p at t (Some news_at) later before = probe-gated p at t (quiet_since p news_at) (may_probe p) later before

pub probe-steady : (p : ControlView) (at t : ℕ) → at ≤ t → IsBefore t (probe_after p at) → probe_number p t ≡ probe_number p at
probe-steady p at t later before = probe_since-steady p at t p.news_at later before

-- a spare number is found earlier too
spare-cases : (wide_then wide : Bool) (spare_then spare probe : Option ℕ) → (wide_then ≡ true → (wide ≡ true) × (spare_then ≡ spare))
    → is_some (first_option (if wide_then then spare_then else None) probe) ≡ true
    → is_some (first_option (if wide then spare else None) probe) ≡ true
spare-cases true wide spare_then spare probe same some =
    let facts = same refl in
    grind (arith, facts)
spare-cases false wide spare_then spare None same some = absurd (grind arith)
spare-cases false true spare_then None (Some n) same some = refl
spare-cases false true spare_then (Some m) (Some n) same some = refl
spare-cases false false spare_then spare (Some n) same some = refl

spare-earlier : (p : ControlView) (at t : ℕ) → at ≤ t → IsBefore t (again_after p at) → IsBefore t (probe_after p at)
    → is_some (spare_number p t) ≡ true → is_some (spare_number p at) ≡ true
spare-earlier p at t later again probe some =
    spare-cases (is_wide p t) (is_wide p at) (spare_of p t) (spare_of p at) (probe_number p at)
    (λ wide. (wide-earlier p at t later wide, spare_of-steady p at t later wide again))
    (sym (ap (λ o. is_some (first_option (if is_wide p t then spare_of p t else None) o)) (probe-steady p at t later probe)) ∙ some)

pub timeout-steady : (p : ControlView) (at t : ℕ) → at ≤ t → IsBefore t (next_timeout p at) → is_timeout p t ≡ is_timeout p at
timeout-steady p at t later before =
    gated (may_time_out p) t (timer_moment p.timer (waiting_since p) at) _ _
    (moment-steady at t (waiting_since p) p.timer.wait later) before

-- what is to be sent then is to be sent now
or-earlier : (wants missing spare_then spare : Bool) → (spare_then ≡ true → spare ≡ true)
    → (wants || missing || spare_then) ≡ true → (wants || missing || spare) ≡ true
or-earlier true missing spare_then spare same some = refl
or-earlier false true spare_then spare same some = refl
or-earlier false false spare_then spare same some = same some

pub send-earlier : (p : ControlView) (at t : ℕ) (wants : Bool) → at ≤ t → IsBefore t (again_after p at)
    → IsBefore t (probe_after p at) → has_to_send p t wants ≡ true → has_to_send p at wants ≡ true
send-earlier p at t wants later again probe some =
    or-earlier wants (is_some (first_missing p at)) (is_some (spare_number p t)) (is_some (spare_number p at))
    (spare-earlier p at t later again probe)
    (sym (ap (λ o. wants || is_some o || is_some (spare_number p t)) (first_missing-steady p at t later again)) ∙ some)
