-- The lines of a kind are at least a second apart.
use Rattle.std.proofs.Common.{◌≡◌, ◌≤◌, ◌+◌, ℕ, Bool, true, false, List, [], ◌∷◌, arith, max, refl, if◌then◌else◌}
use Rattle.rly_station.specs.Kinds.{AreAfter, AreApart, after_one, is_due, lines_of, no_kind}
use Rattle.rly_station.specs.Warnings.{next_count}
use Rattle.rly_station.specs.declared.kind_count.KindCount.{KindCount}

-- a line is logged a second after the last one, if one of the kind came and the last line isn't after the last of them
is_late : (kind : KindCount) (now : ℕ) → 1 ≤ kind.count → kind.told ≤ kind.last → is_due kind now ≡ true
    → kind.told + 1000000 ≤ now
is_late kind now some order due = grind (arith, some, order, due)

later_lines : (kind : KindCount) (moments : List ℕ) → 1 ≤ kind.count → kind.told ≤ kind.last
    → AreAfter kind.told (lines_of kind moments)
later_lines kind [] some order = tt
later_lines kind (now ∷ rest) some order = by_cases (is_due kind now) refl (λ k. later_lines k rest)
  where
    at : Bool → KindCount
    at b = record { count = next_count kind.count; last = max kind.last now; told = if b then now else kind.told }

    came : 1 ≤ next_count kind.count
    came = omega arith

    by_cases : (b : Bool) → is_due kind now ≡ b
        → ((k : KindCount) → 1 ≤ k.count → k.told ≤ k.last → AreAfter k.told (lines_of k rest))
        → AreAfter kind.told (if b then now ∷ lines_of (at b) rest else lines_of (at b) rest)
    by_cases true due rest_of = (is_late kind now some order due, rest_of (at true) came (omega arith))
    by_cases false due rest_of = rest_of (at false) came (omega (arith, order))

-- from none on
pub lines_apart : (moments : List ℕ) → AreApart (lines_of no_kind moments)
lines_apart [] = tt
lines_apart (now ∷ rest) = later_lines (after_one no_kind now) rest (omega arith) (omega arith)
