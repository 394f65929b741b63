-- The changes of a device that keep its recovered state, and the heads that may be written for it.
use Rattle.std.specs.Prelude.{◌≡◌, ◌≢◌, ℕ, ◌+◌, ◌<◌, ◌≤◌, ◌^◌, List, length, slice_index_or, All}
use Rattle.rly_machine.specs.Map.{payloads_of}
use Rattle.rly_machine.specs.Sound.{IsSound}
use Rattle.rly_machine.specs.State.{State}
use Rattle.rly_segment_checkpoint.specs.Stored.{payload_in, stored_form, stored_length}
use Rattle.rly_segment_checkpoint.specs.Stored.{state_in as state_over}
use Rattle.rly_segment_checkpoint.specs.declared.stored.Stored.{Stored}
use Rattle.rly_gate.specs.Group.{IsClosed}
use Rattle.rly_reclaim.specs.Placed.{IsPlaced, LiesElsewhere}
use Rattle.rly_segment.specs.Heads.{IsHeadOf, IsPassedOver, segment_place}
use Rattle.rly_journal.specs.Recovery.{Recovery, gate_of, state_in, stored_in}

-- between two offsets the bytes are the same
pub record SameBytes (from end : ℕ) (old new : List ℕ) : Type 0 where
  pub same_length : length new ≡ length old
  pub each : (i : ℕ) → from ≤ i → i < end → slice_index_or new i 0 ≡ slice_index_or old i 0

-- a payload is the same in two images
abbrev pub SamePayload : List ℕ → List ℕ → Stored → Type 0
SamePayload old new payload = payload_in new payload ≡ payload_in old payload

-- the bytes that decide the recovered state are unchanged: the header, the segment up to the first closed gate, which
-- is still closed, no other head that is newer, and those payloads that are live after the groups
pub record IsUntouched (x : Recovery) (old new : List ℕ) : Type 0 where
  pub header : SameBytes 0 64 old new
  pub heads : (t : ℕ) → t < x.geometry.segments → t ≢ x.segment → IsPassedOver x.geometry t old new
  pub own : SameBytes (segment_place x.geometry x.segment) (gate_of x) old new
  pub gate : IsClosed new (gate_of x)
  pub payloads : All (SamePayload old new) (payloads_of (stored_in x))

-- a head that may be written into another segment: no live payload lies there, and it recovers to the same state
pub record IsHeadFor (old : List ℕ) (x : Recovery) (segment : ℕ) (s : State Stored) : Type 0 where
  pub there : segment < x.geometry.segments
  pub other : segment ≢ x.segment
  pub free : All (LiesElsewhere x.geometry segment) (payloads_of (stored_in x))
  pub sound : IsSound stored_length s
  pub head : IsHeadOf stored_length stored_form x.geometry segment (x.generation + 1) s
  pub placed : IsPlaced x.geometry segment s
  pub small : x.generation + 1 < 2 ^ 64
  pub same : state_over old s ≡ state_in x
