-- Helpers: the datagrams that a command removes, and the live bytes of the counters. No public contract cites them.
use Rattle.std.specs.Prelude.{◌≡◌, ℕ, ◌+◌, ◌≤◌, List, [], length, take, drop, IsTrue, true, Option, Some, None}
use Rattle.rly_core.specs.declared.ids.HopId.{HopId}
use Rattle.rly_core.specs.declared.params.Geometry.{Geometry}
use Rattle.rly_machine.specs.Kept.{hop_state}
use Rattle.rly_machine.specs.State.{State, bytes_of, has_hop, hop_at, live_line}
use Rattle.rly_machine.specs.declared.hop.Hop.{Hop}
use Rattle.rly_machine.specs.declared.hop.Item.{Item}
use Rattle.rly_segment_checkpoint.specs.declared.stored.Stored.{Stored}
use Rattle.rly_reclaim.specs.Places.{bytes_in, live_by_segment}
use Rattle.rly_journal_index.specs.Index.{HoldsIndex}
use Rattle.rly_journal_index.specs.declared.segment_counters.Part.{Part}

-- a hop that was read from a machine
pub record IsHopOf (s : State Stored) (hop : HopId) (found : Hop Stored) : Type 0 where
  pub there : has_hop s hop ≡ true
  pub same : hop_state found ≡ hop_at s hop

-- a part of a hop's live items
pub record IsPart (s : State Stored) (part : Part) : Type 0 where
  pub there : IsTrue (has_hop s part.hop)
  pub within : part.from + part.count ≤ length (live_line (hop_at s part.hop))

abbrev pub IsPartIfAny : State Stored → Option Part → Type 0
IsPartIfAny s None = Unit {0}
IsPartIfAny s (Some part) = IsPart s part

-- its items
abbrev pub items_of : State Stored → Option Part → List (Item Stored)
items_of s None = []
items_of s (Some part) = take part.count (drop part.from (live_line (hop_at s part.hop)))

-- the number of their bytes in a segment
abbrev pub part_in : Geometry → ℕ → State Stored → Option Part → ℕ
part_in g segment s part = bytes_of (bytes_in g segment) (items_of s part)

-- the fields of an index: the counters are the live bytes of each segment
pub record KeepsIndex (g : Geometry) (segment used : ℕ) (s : State Stored) (counters : List ℕ) : Type 0 where
  pub holds : HoldsIndex g segment used s
  pub live : take g.segments counters ≡ live_by_segment g s
