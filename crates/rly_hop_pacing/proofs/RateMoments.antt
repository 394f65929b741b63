-- The first moment at which a token bucket has room.
use Rattle.std.proofs.Common.{◌≡◌, ◌∙◌, ℕ, ◌+◌, ◌-◌, ◌*◌, ◌/◌, ◌^◌, ◌<◌, ◌≤◌, Bool, true, false, ap, arith, min, refl, subst, sym, inl, inr}
use Rattle.std.proofs.lemmas.Bool.Decides.{nat_tests}
use Rattle.std.specs.Prelude.{◌⊎◌, if◌then◌else◌, ◌==◌, nat_lt}
use Rattle.std.specs.Int.{div_ceil}
use Rattle.rly_hop_pacing.specs.declared.rate.Bucket.{Bucket}
use Rattle.rly_hop_pacing.specs.Rates.{burst, cost, next_room, room_at}
use Rattle.rly_hop_pacing.proofs.Gains.{full_room, has_room, le_or_gt, no_room}

-- without room, too little time has passed
short-wait : (credit need rate most passed : ℕ) → 0 < rate → 0 < need → need ≤ most
    → (div_ceil (need - credit) rate ≤ passed) ⊎ (passed < div_ceil (need - credit) rate)
    → min (credit + rate * passed) most / need ≡ 0 → passed < div_ceil (need - credit) rate
short-wait credit need rate most passed some costs fits (inl many) none =
    absurd (omega (arith, none, has_room credit need rate passed most some costs fits many))
short-wait credit need rate most passed some costs fits (inr few) none = few

-- a bucket with a rate has no room before that moment
before-short : (credit need rate most mark at t : ℕ) → 0 < rate → 0 < need → need ≤ most
    → (div_ceil (need - credit) rate ≤ at - mark) ⊎ (at - mark < div_ceil (need - credit) rate)
    → (need ≤ credit) ⊎ (credit < need) → t < mark + div_ceil (need - credit) rate
    → min (credit + rate * (at - mark)) most / need ≡ 0 → min (credit + rate * (t - mark)) most / need ≡ 0
before-short credit need rate most mark at t some costs fits (inl many) size before none =
    absurd (omega (arith, none, has_room credit need rate (at - mark) most some costs fits many))
before-short credit need rate most mark at t some costs fits (inr few) (inl full) before none =
    absurd (omega (arith, none, full_room credit need (rate * (at - mark)) most costs fits full))
before-short credit need rate most mark at t some costs fits (inr few) (inr short) before none =
    let waits : t - mark < div_ceil (need - credit) rate = omega arith in
    no_room credit need rate (t - mark) most some short waits

before-cases : (b : Bucket) (at t : ℕ) (has zero : Bool) → nat_lt 0 (room_at b at) ≡ has → (b.rate == 0) ≡ zero → at ≤ t
    → t < (if has then at else min (b.mark + (if zero then 2 ^ 64 - 1 else div_ceil (cost b.longest - b.credit) b.rate)) (2 ^ 64 - 1))
    → room_at b t ≡ 0
before-cases b at t true zero has_it is_zero later before = absurd (omega arith)
before-cases b at t false true has_it is_zero later before =
    let no_rate : b.rate ≡ 0 = grind (arith, nat_tests) in
    let same : b.rate * (t - b.mark) ≡ b.rate * (at - b.mark) = grind arith in
    let none : room_at b at ≡ 0 = grind (arith, nat_tests) in
    ap (λ x. min (b.credit + x) (burst b) / cost b.longest) same ∙ none
before-cases b at t false false has_it is_zero later before =
    let some : 0 < b.rate = grind (arith, nat_tests) in
    let none : room_at b at ≡ 0 = grind (arith, nat_tests) in
    let costs : 0 < cost b.longest = omega arith in
    let fits : cost b.longest ≤ burst b = omega arith in
    before-short b.credit (cost b.longest) b.rate (burst b) b.mark at t some costs fits
    (le_or_gt (div_ceil (cost b.longest - b.credit) b.rate) (at - b.mark)) (le_or_gt (cost b.longest) b.credit) (omega arith) none

pub no-room-before : (b : Bucket) (at t : ℕ) → at ≤ t → t < next_room b at → room_at b t ≡ 0
no-room-before b at t later before = before-cases b at t (nat_lt 0 (room_at b at)) (b.rate == 0) refl refl later before

-- it has room at that moment
then-cases : (b : Bucket) (at moment : ℕ) (has zero : Bool) → nat_lt 0 (room_at b at) ≡ has → (b.rate == 0) ≡ zero
    → moment ≡ (if has then at else min (b.mark + (if zero then 2 ^ 64 - 1 else div_ceil (cost b.longest - b.credit) b.rate)) (2 ^ 64 - 1))
    → moment < 2 ^ 64 - 1 → 0 < room_at b moment
then-cases b at moment true zero has_it is_zero is fits =
    let now : 0 < room_at b at = grind (arith, nat_tests) in
    subst (λ (m : ℕ). 0 < room_at b m) (sym is) now
then-cases b at moment false true has_it is_zero is fits = absurd (omega arith)
then-cases b at moment false false has_it is_zero is fits =
    let some : 0 < b.rate = grind (arith, nat_tests) in
    let costs : 0 < cost b.longest = omega arith in
    let high : cost b.longest ≤ burst b = omega arith in
    let passed : div_ceil (cost b.longest - b.credit) b.rate ≤ moment - b.mark = omega arith in
    has_room b.credit (cost b.longest) b.rate (moment - b.mark) (burst b) some costs high passed

pub room-then : (b : Bucket) (at : ℕ) → next_room b at < 2 ^ 64 - 1 → 0 < room_at b (next_room b at)
room-then b at fits = then-cases b at (next_room b at) (nat_lt 0 (room_at b at)) (b.rate == 0) refl refl refl fits

-- and it isn't earlier
after-cases : (b : Bucket) (at : ℕ) (has zero : Bool) → nat_lt 0 (room_at b at) ≡ has → (b.rate == 0) ≡ zero → at < 2 ^ 64
    → at ≤ (if has then at else min (b.mark + (if zero then 2 ^ 64 - 1 else div_ceil (cost b.longest - b.credit) b.rate)) (2 ^ 64 - 1))
after-cases b at true zero has_it is_zero fits = omega arith
after-cases b at false true has_it is_zero fits = omega arith
after-cases b at false false has_it is_zero fits =
    let some : 0 < b.rate = grind (arith, nat_tests) in
    let none : room_at b at ≡ 0 = grind (arith, nat_tests) in
    let costs : 0 < cost b.longest = omega arith in
    let high : cost b.longest ≤ burst b = omega arith in
    let short = short-wait b.credit (cost b.longest) b.rate (burst b) (at - b.mark) some costs high
    (le_or_gt (div_ceil (cost b.longest - b.credit) b.rate) (at - b.mark)) none in
    omega (arith, short)

pub no-earlier : (b : Bucket) (at : ℕ) → at < 2 ^ 64 → at ≤ next_room b at
no-earlier b at fits = after-cases b at (nat_lt 0 (room_at b at)) (b.rate == 0) refl refl fits
