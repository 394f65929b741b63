-- Helpers: a spool with one updated hop. No public contract cites them.
use Rattle.std.specs.Prelude.{ℕ, ◌-◌, ◌≤◌, slice_set}
use Rattle.rly_core.specs.declared.ids.HopId.{HopId}
use Rattle.rly_core.specs.declared.params.Geometry.{Geometry}
use Rattle.rly_machine.specs.Map.{map_hop}
use Rattle.rly_machine.specs.State.{HopState, State}
use Rattle.rly_segment_checkpoint.specs.declared.stored.Stored.{Stored}
use Rattle.rly_segment_checkpoint.specs.declared.stored.Stored.TheVariants.{Inline, Placed}
use Rattle.rly_reclaim.specs.LiveRoom.{collected_payload}
use Rattle.rly_journal_relocate.specs.Relocation.{zeros_at}

abbrev pub with_hop : {P : Type 0} → State P → HopId → HopState P → State P
with_hop s hop h = record s { hops = slice_set s.hops (hop.0 - 1) h }

-- a payload in the next head, except its bytes
abbrev pub collected_blank : Geometry → ℕ → Stored → Stored
collected_blank g victim p = collected_payload g victim zeros_at p

abbrev pub blank_hop : Geometry → ℕ → HopState Stored → HopState Stored
blank_hop g victim h = map_hop (collected_blank g victim) h

-- a payload is inline
abbrev pub IsInline : Stored → Type 0
IsInline (Inline payload) = Unit {0}
IsInline (Placed place) = ⊥

-- a payload by device address has bytes
abbrev pub HasBytes : Stored → Type 0
HasBytes (Inline payload) = Unit {0}
HasBytes (Placed place) = 1 ≤ place.length
