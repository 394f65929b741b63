-- The rule by which the warnings of a kind are logged (docs/COMMANDS.md, "rly serve"). Moments are in microseconds.
use Rattle.std.specs.Prelude.{ℕ, ◌+◌, ◌-◌, ◌%◌, ◌==◌, ◌≤◌, nat_le, max, if◌then◌else◌, Bool, ◌&&◌, ◌||◌, ⊤, List, [], ◌∷◌, Option, None, Some}
use Rattle.rly_station.specs.Warnings.{next_count}
use Rattle.rly_station.specs.declared.kind_count.KindCount.{KindCount}

-- none yet
abbrev pub no_kind : KindCount
no_kind = record { count = 0; last = 0; told = 0 }

-- it is a first if none came before, or none for an hour
abbrev pub is_first : KindCount → ℕ → Bool
is_first kind now = (kind.count == 0) || nat_le 3600000000 (now - kind.last)

-- a thousandth is logged unless a line of the kind was logged less than a second ago
abbrev pub is_thousandth : KindCount → ℕ → Bool
is_thousandth kind now = (next_count kind.count % 1000 == 0) && nat_le 1000000 (now - kind.told)

abbrev pub is_due : KindCount → ℕ → Bool
is_due kind now = is_first kind now || is_thousandth kind now

-- the number in the line of one at this moment, if it is logged: the number so far
abbrev pub due_number : KindCount → ℕ → Option ℕ
due_number kind now = if is_due kind now then Some (next_count kind.count) else None

-- the kind with one more, at this moment
abbrev pub after_one : KindCount → ℕ → KindCount
after_one kind now = record {
  count = next_count kind.count;
  last = max kind.last now;
  told = if is_due kind now then now else kind.told;
}

-- the moments of the lines, of those at which one came
abbrev pub lines_of : KindCount → List ℕ → List ℕ
lines_of kind [] = []
lines_of kind (now ∷ later) =
    if is_due kind now then now ∷ lines_of (after_one kind now) later else lines_of (after_one kind now) later

-- each is at least a second after the one before it
abbrev pub AreAfter : ℕ → List ℕ → Type 0
AreAfter before [] = ⊤
AreAfter before (now ∷ later) = (before + 1000000 ≤ now) × AreAfter now later

abbrev pub AreApart : List ℕ → Type 0
AreApart [] = ⊤
AreApart (now ∷ later) = AreAfter now later
