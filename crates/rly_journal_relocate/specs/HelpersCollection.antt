-- Helpers: the collection of a part of a spool. No public contract cites them.
use Rattle.std.specs.Prelude.{ℕ, List, drop, map, take}
use Rattle.std.specs.List.{flat_map}
use Rattle.rly_core.specs.declared.params.Geometry.{Geometry}
use Rattle.rly_disk.specs.Trace.{DeviceEvent}
use Rattle.rly_machine.specs.Map.{map_item}
use Rattle.rly_machine.specs.State.{HopState, live_line}
use Rattle.rly_machine.specs.declared.hop.Item.{Item}
use Rattle.rly_segment_checkpoint.specs.declared.stored.Stored.{Stored}
use Rattle.rly_reclaim.specs.LiveRoom.{collected_payload}
use Rattle.rly_journal_relocate.specs.Relocation.{zeros_at}
use Rattle.rly_journal_relocate.specs.Collection.{blank_payload, bytes_at, victim_payload_reads}

-- a payload in the next head over an image, and the same except for its bytes
abbrev pub collected_in : List ℕ → Geometry → ℕ → Stored → Stored
collected_in image g victim p = collected_payload g victim (bytes_at image) p

abbrev pub collected_blank : Geometry → ℕ → Stored → Stored
collected_blank g victim p = blank_payload (collected_payload g victim zeros_at p)

-- items with other payloads, and with zeros for their bytes
abbrev pub items_in : List ℕ → Geometry → ℕ → List (Item Stored) → List (Item Stored)
items_in image g victim items = map (map_item (collected_in image g victim)) items

abbrev pub blank_items : List (Item Stored) → List (Item Stored)
blank_items items = map (map_item blank_payload) items

abbrev pub items_blank : Geometry → ℕ → List (Item Stored) → List (Item Stored)
items_blank g victim items = map (map_item (collected_blank g victim)) items

-- a number of items of a hop, from an index on, which counts those in flight first
abbrev pub part_of : HopState Stored → ℕ → ℕ → List (Item Stored)
part_of h from count = take count (drop from (live_line h))

abbrev pub names : List (Item Stored) → List Stored
names items = map (λ item. item.payload) items

-- the reads of the payloads of items, and of hops
abbrev pub items_reads : Geometry → ℕ → List (Item Stored) → List DeviceEvent
items_reads g victim items = flat_map (victim_payload_reads g victim) (names items)

abbrev pub hops_reads : Geometry → ℕ → List (HopState Stored) → List DeviceEvent
hops_reads g victim hops = flat_map (victim_payload_reads g victim) (flat_map (λ h. names (live_line h)) hops)
