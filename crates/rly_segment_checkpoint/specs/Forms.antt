-- The form of an entry's content: the bytes after its length. Each kind of content has its own form.
use Rattle.std.specs.Prelude.{◌≡◌, ℕ, ◌+◌, ◌<◌, ◌≤◌, List, ◌++◌, length, slice_index, Some, All}
use Rattle.rly_machine.specs.State.{HopState, live_line}
use Rattle.rly_record.specs.HelpersReader.{Reader}
use Rattle.rly_segment_checkpoint.specs.Checkpoint.{Spelled}
use Rattle.rly_segment_checkpoint.specs.Widths.{place_width}

-- reading inverts writing, for content that has a form. A form has at least one byte, and at most one byte and an
-- address more than its content
pub record AreForms {P : Type 0} (len : P → ℕ) (form : Spelled P) (HasForm : P → Type 0) (form_at : ℕ → Reader P)
    : Type 0 where
  pub takes : (size : ℕ) (bytes : List ℕ) (payload : P) (rest : List ℕ) → ((i : ℕ) → slice_index bytes i < 256)
      → form_at size bytes ≡ Some (payload, rest)
      → (bytes ≡ form.form payload ++ rest) × (len payload ≡ size) × HasForm payload
  pub again : (payload : P) (rest : List ℕ) → HasForm payload
      → form_at (len payload) (form.form payload ++ rest) ≡ Some (payload, rest)
  pub some : (payload : P) → 1 ≤ length (form.form payload)
  pub few : (payload : P) → length (form.form payload) ≤ len payload + 1 + place_width form.which

-- the content of each live item has a form
abbrev pub HaveForms : {P : Type 0} → (P → Type 0) → HopState P → Type 0
HaveForms HasForm h = All (λ item. HasForm item.payload) (live_line h)
