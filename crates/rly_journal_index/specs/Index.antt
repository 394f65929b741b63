-- A spool whose payloads stay on the device, as a journal has it in memory (docs/reference/DEFINITIONS.md, "The index").
use Rattle.std.specs.Prelude.{◌≡◌, ℕ, ◌<◌, ◌≤◌, if◌then◌else◌}
use Rattle.rly_core.specs.declared.params.Geometry.{Geometry}
use Rattle.rly_machine.specs.Accepted.{is_accepted}
use Rattle.rly_machine.specs.State.{Spool, State}
use Rattle.rly_machine.specs.declared.reply.Reply.{Reply}
use Rattle.rly_segment_checkpoint.specs.declared.stored.Stored.{Stored}
use Rattle.rly_segment.specs.Device.{IsLayout, device_length}
use Rattle.rly_segment.specs.Heads.{segment_end, segment_place}
use Rattle.rly_journal_index.specs.IndexRelation.{IsIndex}

-- an index in contracts: its spool, the geometry of its device, the current segment, and the offset up to which that is
-- used
pub record IndexState : Type 0 where
  pub spool : Spool Stored
  pub geometry : Geometry
  pub segment : ℕ
  pub used : ℕ

-- an index of a device of that geometry, with the current segment used up to that offset
pub record IsAt (g : Geometry) (current place : ℕ) (x : IndexState) : Type 0 where
  pub geometry : x.geometry ≡ g
  pub segment : x.segment ≡ current
  pub used : x.used ≡ place

-- the invariant of every index
pub record HoldsIndex (g : Geometry) (segment used : ℕ) (s : State Stored) : Type 0 where
  -- a device may have that geometry
  pub layout : IsLayout g (device_length g)
  pub params : s.params ≡ g.params
  -- the current segment exists, and its used part ends within it
  pub there : segment < g.segments
  pub from : segment_place g segment ≤ used
  pub to : used ≤ segment_end g segment
  -- its payloads lie on the device, none in the unused part of the current segment
  pub index : IsIndex g segment used s

-- the offset up to which the current segment is used after a command: the end of its record, if it was accepted
abbrev pub used_after : ℕ → ℕ → Reply → ℕ
used_after used next reply = if is_accepted reply then next else used
