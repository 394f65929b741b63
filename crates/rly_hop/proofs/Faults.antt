-- The first fault of a datagram, by the three groups of tests that find it.
use Rattle.std.proofs.Common.{◌≡◌, ℕ, Bool, true, false, if◌then◌else◌, nat_lt, List, [], ◌∷◌, ◌++◌, length, Option, Some, None, refl, sym, ap, ◌∙◌}
use Rattle.std.specs.Prelude.{is_some}
use Rattle.rly_core.specs.declared.refusal.Refusal.{Refusal}
use Rattle.rly_core.specs.declared.refusal.Refusal.TheVariants.{Short, Long}
use Rattle.rly_hop.specs.Rows.{first_row}
use Rattle.rly_hop.specs.MessageReads.{end_faults, first_fault, header_faults, kind_of, length_faults, whole_length}

-- a row that is met decides, whatever comes after these rows
met-row : (b : Bool) (x rest all : Option Refusal) (fault : Refusal) → (Some fault ≡ rest → Some fault ≡ all) → Some fault ≡ (if b then x else rest) → Some fault ≡ (if b then x else all)
met-row true x rest all fault later e = e
met-row false x rest all fault later e = later e

met : (rows more : List (Bool × Option Refusal)) (fault : Refusal) → Some fault ≡ first_row rows None → Some fault ≡ first_row (rows ++ more) None
met [] more fault e = absurd cc
met (row ∷ rows) more fault e = met-row row.0 row.1 (first_row rows None) (first_row (rows ++ more) None) fault (met rows more fault) e

-- each row has a fault
abbrev AreFaults : List (Bool × Option Refusal) → Type 0
AreFaults [] = Unit {0}
AreFaults (row ∷ rows) = (is_some row.1 ≡ true) × AreFaults rows

-- if none of these rows is met, those after them decide
unmet-row : (b : Bool) (x rest all last : Option Refusal) → is_some x ≡ true → (None ≡ rest → all ≡ last) → None ≡ (if b then x else rest) → (if b then x else all) ≡ last
unmet-row true None rest all last fault later e = absurd cc
unmet-row true (Some x) rest all last fault later e = absurd cc
unmet-row false x rest all last fault later e = later e

unmet : (rows more : List (Bool × Option Refusal)) → AreFaults rows → None ≡ first_row rows None → first_row (rows ++ more) None ≡ first_row more None
unmet [] more faults e = refl
unmet (row ∷ rows) more faults e =
    unmet-row row.0 row.1 (first_row rows None) (first_row (rows ++ more) None) (first_row more None) faults.0 (unmet rows more faults.1) e

after-header : (bytes : List ℕ) → None ≡ first_row (header_faults bytes) None → first_fault bytes ≡ first_row (length_faults bytes ++ end_faults bytes) None
unfolding first_fault
after-header bytes none = unmet (header_faults bytes) (length_faults bytes ++ end_faults bytes) (refl, (refl, (refl, (refl, (refl, tt))))) none

after-length : (bytes : List ℕ) → None ≡ first_row (header_faults bytes) None → None ≡ first_row (length_faults bytes) None → first_fault bytes ≡ first_row (end_faults bytes) None
after-length bytes none fits = after-header bytes none ∙ unmet (length_faults bytes) (end_faults bytes) (refl, (refl, (refl, tt))) fits

-- a fault of the header
pub header-fault : (bytes : List ℕ) (fault : Refusal) → Some fault ≡ first_row (header_faults bytes) None → Some fault ≡ first_fault bytes
unfolding first_fault
header-fault bytes fault e = met (header_faults bytes) (length_faults bytes ++ end_faults bytes) fault e

-- a fault of the length, if the header has none
pub length-fault : (bytes : List ℕ) (fault : Refusal) → None ≡ first_row (header_faults bytes) None → Some fault ≡ first_row (length_faults bytes) None → Some fault ≡ first_fault bytes
length-fault bytes fault none e = met (length_faults bytes) (end_faults bytes) fault e ∙ sym (after-header bytes none)

-- the fault of the number of bytes, if there is none before it
pub end-fault : (bytes : List ℕ) (found : Option Refusal) (whole kind : ℕ) → None ≡ first_row (header_faults bytes) None → None ≡ first_row (length_faults bytes) None
    → kind_of bytes ≡ kind → whole ≡ whole_length kind bytes
    → found ≡ first_row ((nat_lt (length bytes) whole, Some Short) ∷ (nat_lt whole (length bytes), Some Long) ∷ []) None → found ≡ first_fault bytes
end-fault bytes found whole kind none fits is whole_is e =
    let same : whole ≡ whole_length (kind_of bytes) bytes = whole_is ∙ ap (λ (k : ℕ). whole_length k bytes) (sym is) in
    let rows : first_row ((nat_lt (length bytes) whole, Some Short) ∷ (nat_lt whole (length bytes), Some Long) ∷ []) None ≡ first_row (end_faults bytes) None =
    λ i. first_row ((nat_lt (length bytes) (same i), Some Short) ∷ (nat_lt (same i) (length bytes), Some Long) ∷ []) None in
    e ∙ rows ∙ sym (after-length bytes none fits)
