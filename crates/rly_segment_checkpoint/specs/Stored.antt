-- A payload in a head: its bytes, or their device address (docs/FORMATS.md, "Heads"). Over an image of the device an
-- address stands for the bytes there.
use Rattle.std.specs.Prelude.{ℕ, ◌+◌, ◌<◌, ◌≤◌, ◌^◌, List, ◌∷◌, length, slice_range}
use Rattle.byteorder.specs.Endian.{big_bytes}
use Rattle.rly_machine.specs.Map.{map_state}
use Rattle.rly_machine.specs.State.{State}
use Rattle.rly_segment_checkpoint.specs.Checkpoint.{Spelled, spelled_by}
use Rattle.rly_segment_checkpoint.specs.Widths.{place_width}
use Rattle.rly_segment_checkpoint.specs.declared.head_form.HeadForm.{HeadForm}
use Rattle.rly_segment_checkpoint.specs.declared.head_form.HeadForm.TheVariants.{Second}
use Rattle.rly_segment_checkpoint.specs.declared.stored.Stored.{Stored}
use Rattle.rly_segment_checkpoint.specs.declared.stored.Stored.TheVariants.{Inline, Placed}

-- the number of bytes of a payload
abbrev pub stored_length : Stored → ℕ
stored_length (Inline payload) = length payload
stored_length (Placed place) = place.length

-- its form, by the form of the head: the byte 0 and the payload, or the byte 1 and its offset
abbrev pub stored_form_of : HeadForm → Stored → List ℕ
stored_form_of which (Inline payload) = 0 ∷ payload
stored_form_of which (Placed place) = 1 ∷ big_bytes (place_width which) place.start

abbrev pub stored_spelled : HeadForm → Spelled Stored
stored_spelled = spelled_by stored_form_of

-- the same as it is written
abbrev pub stored_form : Spelled Stored
stored_form = stored_spelled Second

-- a payload that has a form: one without bytes is always inline
abbrev pub IsStorable : HeadForm → Stored → Type 0
IsStorable which (Inline payload) = Unit {0}
IsStorable which (Placed place) = (place.start < 256 ^ place_width which) × (1 ≤ place.length)

-- the payload in an image of the device
abbrev pub payload_in : List ℕ → Stored → List ℕ
payload_in image (Inline payload) = payload
payload_in image (Placed place) = slice_range image place.start (place.start + place.length)

-- the state that a state recovers to over an image: each payload by device address has the image's bytes there
abbrev pub state_in : List ℕ → State Stored → State (List ℕ)
state_in image s = map_state (payload_in image) s
