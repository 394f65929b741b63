-- The effect of a failed write.
use Rattle.std.specs.Prelude.{◌≡◌, ◌<◌, ℕ, List, ◌++◌, length, take, Option, Some, None, ⊤}
use Rattle.std.specs.Io.KnownBytes.{Appends}

-- known output grows by a prefix of a text
abbrev pub AppendsBeginning : Option (List ℕ) → Option (List ℕ) → List ℕ → Type 0
AppendsBeginning None new text = ⊤
AppendsBeginning (Some xs) None text = ⊥
AppendsBeginning (Some xs) (Some ys) text = (count : ℕ) × (ys ≡ xs ++ take count text)

-- known output grows by a proper prefix of a text
abbrev pub BreaksOff : Option (List ℕ) → Option (List ℕ) → List ℕ → Type 0
BreaksOff old new text = (count : ℕ) × (count < length text) × Appends old new (take count text)
