-- The turns of a worker's clock.
use Rattle.std.proofs.Common.{◌≡◌, ◌-◌, ℕ, zero, suc, List, [], ◌∷◌, ap, arith, min, refl}
use Rattle.std.specs.Prelude.{Option, Some, None}
use Rattle.rly_link.specs.declared.turn.Point.{Point}
use Rattle.rly_link.specs.declared.turn.Point.TheVariants.{Answered, Call, Heard, Start}
use Rattle.rly_link_udp.specs.WallClock.{start_count, turns_had, turns_of}

-- if they are endless
each_start : (points : List Point) → turns_had None points ≡ start_count points
each_start [] = refl
each_start (Start ∷ points) = omega (arith, each_start points)
each_start (Heard ∷ points) = omega (arith, each_start points)
each_start (Call ∷ points) = omega (arith, each_start points)
each_start (Answered ∷ points) = omega (arith, each_start points)

-- if this many are left
so_many : (left : ℕ) (points : List Point) → turns_had (Some left) points ≡ min left (start_count points)
so_many left [] = omega arith
so_many zero (Start ∷ points) =
    let none : 0 - 1 ≡ 0 = omega arith in
    let rest = ap (λ n. turns_had (Some n) points) none in
    omega (arith, rest, so_many zero points)
so_many (suc left) (Start ∷ points) =
    let one_less : suc left - 1 ≡ left = omega arith in
    let rest = ap (λ n. turns_had (Some n) points) one_less in
    omega (arith, rest, so_many left points)
so_many left (Heard ∷ points) = omega (arith, so_many left points)
so_many left (Call ∷ points) = omega (arith, so_many left points)
so_many left (Answered ∷ points) = omega (arith, so_many left points)

pub turns_handed : (left : Option ℕ) (points : List Point) → turns_had left points ≡ turns_of left (start_count points)
turns_handed None points = each_start points
turns_handed (Some left) points = so_many left points
