-- The moment at which the pacer has room.
use Rattle.std.proofs.Common.{◌≡◌, ◌∙◌, ℕ, ◌+◌, ◌-◌, ◌*◌, ◌/◌, ◌^◌, ◌<◌, ◌≤◌, Bool, true, false, ap, arith, max, min, refl}
use Rattle.std.proofs.lemmas.Bool.Decides.{nat_tests}
use Rattle.std.specs.Prelude.{◌⊎◌, if◌then◌else◌, ◌||◌, ◌==◌, None, Some, nat_le}
use Rattle.std.proofs.Common.{inl, inr}
use Rattle.std.specs.Int.{div_ceil}
use Rattle.rly_hop_pacing.specs.declared.pacer.Pacer.{Pacer}
use Rattle.rly_hop_pacing.specs.Moments.{IsBefore, moment_after}
use Rattle.rly_hop_pacing.specs.Pacers.{pacer_moment, pacer_room}
use Rattle.rly_hop_pacing.proofs.Gains.{full_room, has_room, le_or_gt, no_room}

-- a wait that hasn't passed doesn't pass before its moment
waits : (at t since wait : ℕ) → at ≤ t → at - since < wait → IsBefore t (moment_after since wait at) → t - since < wait
waits at t since wait later few before = grind (arith, nat_tests)

short_room : (credit need rate most mark at t : ℕ) → 0 < rate → 0 < need → need ≤ most → at ≤ t
    → (div_ceil (need - credit) rate ≤ at - mark) ⊎ (at - mark < div_ceil (need - credit) rate)
    → (need ≤ credit) ⊎ (credit < need)
    → IsBefore t (moment_after mark (div_ceil (need - credit) rate) at)
    → min (credit + rate * (at - mark)) most / need ≡ 0 → min (credit + rate * (t - mark)) most / need ≡ 0
short_room credit need rate most mark at t some costs fits later (inl many) size before none =
    absurd (omega (arith, none, has_room credit need rate (at - mark) most some costs fits many))
short_room credit need rate most mark at t some costs fits later (inr few) (inl full) before none =
    absurd (omega (arith, none, full_room credit need (rate * (at - mark)) most costs fits full))
short_room credit need rate most mark at t some costs fits later (inr few) (inr short) before none =
    no_room credit need rate (t - mark) most some short (waits at t mark (div_ceil (need - credit) rate) later few before)

-- without room at a moment there is none until then
pacer-cases : (p : Pacer) (allowed round at t : ℕ) (none_allowed unlimited : Bool) → (allowed == 0) ≡ none_allowed
    → (round == 2 ^ 32 - 1) ≡ unlimited → at ≤ t
    → IsBefore t (if none_allowed || unlimited then None else moment_after p.mark (div_ceil (max round 1 - p.credit) allowed) at)
    → (if unlimited then 64 else min (p.credit + allowed * (at - p.mark)) (max (2 * round) (20000 * allowed)) / max round 1) ≡ 0
    → (if unlimited then 64 else min (p.credit + allowed * (t - p.mark)) (max (2 * round) (20000 * allowed)) / max round 1) ≡ 0
pacer-cases p allowed round at t none_allowed true is_zero is_most later before none = none
pacer-cases p allowed round at t true false is_zero is_most later before none =
    let zero_allowed : allowed ≡ 0 = grind (arith, nat_tests) in
    let same : allowed * (t - p.mark) ≡ allowed * (at - p.mark) = grind arith in
    ap (λ x. min (p.credit + x) (max (2 * round) (20000 * allowed)) / max round 1) same ∙ none
pacer-cases p allowed round at t false false is_zero is_most later before none =
    let some : 0 < allowed = grind (arith, nat_tests) in
    let costs : 0 < max round 1 = omega arith in
    let fits : max round 1 ≤ max (2 * round) (20000 * allowed) = omega arith in
    short_room p.credit (max round 1) allowed (max (2 * round) (20000 * allowed)) p.mark at t some costs fits later
    (le_or_gt (div_ceil (max round 1 - p.credit) allowed) (at - p.mark)) (le_or_gt (max round 1) p.credit) before none

pub pacer-steady : (p : Pacer) (allowed round at t : ℕ) → at ≤ t → IsBefore t (pacer_moment p allowed round at)
    → pacer_room p allowed round at ≡ 0 → pacer_room p allowed round t ≡ 0
pacer-steady p allowed round at t later before none =
    pacer-cases p allowed round at t (allowed == 0) (round == 2 ^ 32 - 1) refl refl later before none

-- at that moment there is room
moment-is : (since wait moment : ℕ) (past : Bool) → moment < 2 ^ 64 - 1
    → (if past then None else Some (min (since + wait) (2 ^ 64 - 1))) ≡ Some moment → wait ≤ moment - since
moment-is since wait moment true fits is = absurd (cc)
moment-is since wait moment false fits is =
    let same : min (since + wait) (2 ^ 64 - 1) ≡ moment = cc in
    omega arith

then-cases : (p : Pacer) (allowed round at moment : ℕ) (none_allowed unlimited : Bool) → (allowed == 0) ≡ none_allowed
    → moment < 2 ^ 64 - 1
    → (if none_allowed || unlimited then None else moment_after p.mark (div_ceil (max round 1 - p.credit) allowed) at) ≡ Some moment
    → 0 < (if unlimited then 64 else min (p.credit + allowed * (moment - p.mark)) (max (2 * round) (20000 * allowed)) / max round 1)
then-cases p allowed round at moment true unlimited is_zero fits is = absurd (cc)
then-cases p allowed round at moment false true is_zero fits is = absurd (cc)
then-cases p allowed round at moment false false is_zero fits is =
    let wait = div_ceil (max round 1 - p.credit) allowed in
    let some : 0 < allowed = grind (arith, nat_tests) in
    let costs : 0 < max round 1 = omega arith in
    let high : max round 1 ≤ max (2 * round) (20000 * allowed) = omega arith in
    let passed = moment-is p.mark wait moment (nat_le wait (at - p.mark)) fits is in
    has_room p.credit (max round 1) allowed (moment - p.mark) (max (2 * round) (20000 * allowed)) some costs high passed

pub pacer-then : (p : Pacer) (allowed round at moment : ℕ) → moment < 2 ^ 64 - 1 → pacer_moment p allowed round at ≡ Some moment
    → 0 < pacer_room p allowed round moment
pacer-then p allowed round at moment fits is =
    then-cases p allowed round at moment (allowed == 0) (round == 2 ^ 32 - 1) refl fits is
