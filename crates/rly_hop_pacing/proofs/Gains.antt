-- What is gained at a rate, and when it is enough.
use Rattle.std.proofs.Common.{◌≡◌, ℕ, ◌+◌, ◌-◌, ◌*◌, ◌/◌, ◌<◌, ◌≤◌, min, arith, inl, inr}
use Rattle.std.proofs.Math.Nat.{div-eq_of_lt}
use Rattle.std.specs.Int.{div_ceil}
use Rattle.std.specs.Prelude.{◌⊎◌}

pub le_or_gt : (a b : ℕ) → (a ≤ b) ⊎ (b < a)
le_or_gt a b = grind arith

-- before so many microseconds too little is gained, and after them enough
pub too_little : (x lacking rate : ℕ) → 0 < rate → x < div_ceil lacking rate → rate * x < lacking
too_little x lacking rate some few = grind arith

pub enough : (x lacking rate : ℕ) → 0 < rate → div_ceil lacking rate ≤ x → lacking ≤ rate * x
enough x lacking rate some many = grind arith

-- a bucket has no room for what costs `need`
pub no_room : (credit need rate passed most : ℕ) → 0 < rate → credit < need → passed < div_ceil (need - credit) rate
    → min (credit + rate * passed) most / need ≡ 0
no_room credit need rate passed most some short few =
    let gained : rate * passed < need - credit = too_little passed (need - credit) rate some few in
    let low : min (credit + rate * passed) most < need = omega arith in
    div-eq_of_lt low

-- it has
pub has_room : (credit need rate passed most : ℕ) → 0 < rate → 0 < need → need ≤ most → div_ceil (need - credit) rate ≤ passed
    → 0 < min (credit + rate * passed) most / need
has_room credit need rate passed most some costs fits many =
    let gained : need - credit ≤ rate * passed = enough passed (need - credit) rate some many in
    let high : need ≤ min (credit + rate * passed) most = omega arith in
    grind arith

pub full_room : (credit need gained most : ℕ) → 0 < need → need ≤ most → need ≤ credit → 0 < min (credit + gained) most / need
full_room credit need gained most costs fits full =
    let high : need ≤ min (credit + gained) most = omega arith in
    grind arith

-- what costs `need` has room in what is as much or more
room_of : (x need : ℕ) → (need ≤ x) ⊎ (x < need) → 0 < x / need → need ≤ x
room_of x need (inl much) some = much
room_of x need (inr few) some = absurd (omega (arith, div-eq_of_lt few, some))

pub more_room : (x y need : ℕ) → 0 < need → x ≤ y → 0 < x / need → 0 < y / need
more_room x y need costs more some =
    let high : need ≤ y = omega (arith, room_of x need (le_or_gt need x) some) in
    grind arith
