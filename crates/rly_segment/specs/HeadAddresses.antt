-- The device addresses of a head's inline payloads, which replace their bytes in a machine after the head was written
-- (docs/reference/DEFINITIONS.md, "Checkpoints, heads and devices").
use Rattle.std.specs.Prelude.{ℕ, ◌+◌, ◌*◌, List, [], ◌∷◌, length}
use Rattle.std.specs.List.{flat_map}
use Rattle.rly_core.specs.declared.params.Geometry.{Geometry}
use Rattle.rly_machine.specs.declared.hop.Item.{Item}
use Rattle.rly_machine.specs.Map.{map_item}
use Rattle.rly_machine.specs.State.{HopState, State}
use Rattle.rly_segment_checkpoint.specs.Checkpoint.{entry_spelled, hop_spelled}
use Rattle.rly_segment_checkpoint.specs.Stored.{stored_length, stored_spelled}
use Rattle.rly_segment_checkpoint.specs.Widths.{entry_width, hop_width}
use Rattle.rly_segment_checkpoint.specs.declared.head_form.HeadForm.{HeadForm}
use Rattle.rly_segment_checkpoint.specs.declared.stored.Stored.{Stored}
use Rattle.rly_segment_checkpoint.specs.declared.stored.Stored.TheVariants.{Inline, Placed}
use Rattle.rly_segment.specs.Heads.{segment_place}

-- an inline payload at an offset becomes its device address. One without bytes stays inline
abbrev pub stored_in_head : ℕ → Stored → Stored
stored_in_head at (Inline []) = Inline []
stored_in_head at (Inline (byte ∷ bytes)) = Placed (record { start = at; length = length (byte ∷ bytes) })
stored_in_head at (Placed place) = Placed place

-- items with consecutive entries from an offset on, in a head of a form; an inline payload follows the other fields of
-- its entry
abbrev pub items_in_head : HeadForm → ℕ → List (Item Stored) → List (Item Stored)
items_in_head which at [] = []
items_in_head which at (item ∷ items) =
    map_item (stored_in_head (at + entry_width which)) item
    ∷ items_in_head which (at + length (entry_spelled stored_length (stored_spelled which) item)) items

-- a hop at an offset: its entries follow its numbers, those in flight first
abbrev pub hop_in_head : HeadForm → ℕ → HopState Stored → HopState Stored
hop_in_head which at h = record h {
  flight = items_in_head which (at + hop_width which) h.flight;
  queue = items_in_head which
      (at + hop_width which + length (flat_map (entry_spelled stored_length (stored_spelled which)) h.flight)) h.queue;
}

abbrev pub hops_in_head : HeadForm → ℕ → List (HopState Stored) → List (HopState Stored)
hops_in_head which at [] = []
hops_in_head which at (h ∷ hops) =
    hop_in_head which at h
    ∷ hops_in_head which (at + length (hop_spelled stored_length (stored_spelled which) h)) hops

-- the state of a segment's head, in that form, with device addresses in place of inline bytes
abbrev pub state_in_head : HeadForm → Geometry → ℕ → State Stored → State Stored
state_in_head which g segment s =
    record s { hops = hops_in_head which (segment_place g segment + 21 + 8 * length s.lasts) s.hops }
