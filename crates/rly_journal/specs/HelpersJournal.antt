-- Helpers: the invariant of a journal, and the progress of an opening. No public contract cites them; its laws state
-- the invariant, and `Standing` of rly_journal and `Faults` the result of an opening.
use Rattle.std.specs.Prelude.{◌≡◌, ◌≢◌, ℕ, ◌+◌, ◌<◌, ◌≤◌, List, [], Bool, false}
use Rattle.rly_core.specs.declared.params.Geometry.{Geometry}
use Rattle.rly_disk.specs.DiskModel.{DiskState}
use Rattle.rly_machine.specs.Map.{map_state}
use Rattle.rly_machine.specs.State.{State}
use Rattle.rly_segment_checkpoint.specs.Stored.{state_in, stored_length}
use Rattle.rly_segment_checkpoint.specs.declared.stored.Stored.{Stored}
use Rattle.rly_reclaim.specs.Places.{bytes_in}
use Rattle.rly_segment.specs.Device.{IsLayout}
use Rattle.rly_segment.specs.Heads.{segment_end, segment_place}
use Rattle.rly_journal_index.specs.IndexRelation.{IsAlike, StandsForBytes}
use Rattle.rly_journal_index.specs.Index.{IndexState, IsAt}
use Rattle.rly_journal.specs.Groups.{GroupState, empty_group}
use Rattle.rly_journal.specs.declared.tail.Tail.{Tail}
use Rattle.rly_journal.specs.HelpersScan.{IsReplayed}
use Rattle.rly_journal.specs.Log.{IsDurable, IsFull, IsLogged}
use Rattle.rly_journal.specs.Recovery.{IsRecovery, Recovery, stored_in}

-- the invariant of the end and of the index, on any disk of this size
pub record IsShaped (size : ℕ) (tail : Tail) (x : IndexState) : Type 0 where
  pub geometry : IsLayout tail.geometry size
  pub segment : tail.segment < tail.geometry.segments
  pub params : x.spool.state.params ≡ tail.geometry.params
  pub above : segment_place tail.geometry tail.segment + 13 ≤ tail.gate
  pub within : tail.gate < segment_end tail.geometry tail.segment
  pub generation : tail.generation ≤ x.spool.state.seq + 1
  -- a full segment has the commands of at least one group
  pub full : IsFull tail → tail.generation ≤ x.spool.state.seq

-- the index is used up to the end of the journal
abbrev pub IsAtEnd : Tail → IndexState → Type 0
IsAtEnd tail x = IsAt tail.geometry tail.segment tail.gate x

-- the length of a payload, and the number of its bytes in a segment
abbrev pub length_and_live_bytes : Geometry → ℕ → Stored → ℕ × ℕ
length_and_live_bytes g segment p = (stored_length p, bytes_in g segment p)

-- a spool of device addresses has in each segment except the newest the payloads that an image has there: payloads of
-- groups are inline in the one, and lie in the newest segment in the other
abbrev pub IsTagged : Recovery → State Stored → Type 0
IsTagged x s =
    (t : ℕ) → t ≢ x.segment
    → map_state (length_and_live_bytes x.geometry t) s
    ≡ map_state (length_and_live_bytes x.geometry t) (stored_in x)

abbrev pub IsTaggedIn : List ℕ → State Stored → Type 0
IsTaggedIn image s = (x : Recovery) → IsRecovery image x → IsTagged x s

-- the part of an image that was read so far recovers to the state of the index
pub record IsReplayedFor (image : List ℕ) (tail : Tail) (x : IndexState) : Type 0 where
  pub read : IsReplayed image tail (state_in image x.spool.state)
  pub tagged : IsTagged read.x x.spool.state

-- and that is all of the image's content
pub record IsLoggedFor (image : List ℕ) (tail : Tail) (x : IndexState) : Type 0 where
  pub read : IsLogged image tail (state_in image x.spool.state)
  pub tagged : IsTaggedIn image x.spool.state

-- the invariant of a journal's state: if it isn't broken its index is used up to the end, and on an honest disk no
-- write is pending, and the bytes that the device reads and the index both recover to the state
pub record IsSoundJournal (disk : DiskState) (tail : Tail) (x : IndexState) (s : State (List ℕ)) (position : ℕ)
    (broken : Bool) : Type 0 where
  pub shaped : IsShaped disk.size tail x
  pub alike : IsAlike x.spool.state s
  pub ends : broken ≡ false → IsAtEnd tail x
  pub kept : broken ≡ false → StandsForBytes disk x.spool.state s
  pub durable : broken ≡ false → disk.honest → IsDurable disk tail s
  -- and its payloads lie in the segments in which the device's content has them
  pub tagged : broken ≡ false → disk.honest → IsTaggedIn disk.seen x.spool.state
  pub counted : broken ≡ false → position ≡ s.seq

-- between rounds its group is empty, with memory for the outcomes of a round's calls
pub record IsIdle {A : Type 0} (payload : ℕ) (group : GroupState) (outcomes : List A) (capacity : ℕ) : Type 0 where
  pub empty : group ≡ empty_group payload
  pub none : outcomes ≡ []
  pub room : 64 ≤ capacity
