-- The end of the journal on a device, and its relation to the recovered state.
use Rattle.std.specs.Prelude.{◌≡◌, ℕ, ◌-◌, List}
use Rattle.rly_disk.specs.DiskModel.{DiskState, Settled}
use Rattle.rly_machine.specs.State.{State}
use Rattle.rly_reclaim.specs.Room.{IsDue}
use Rattle.rly_segment.specs.Answers.{AreClosed}
use Rattle.rly_segment.specs.Heads.{segment_place}
use Rattle.rly_journal.specs.declared.tail.Tail.{Tail}
use Rattle.rly_journal.specs.Recovery.{IsRecovery, Recovery, gate_of, state_in}

-- the offset of the next gate in its segment
abbrev pub gate_offset : Tail → ℕ
gate_offset tail = tail.gate - segment_place tail.geometry tail.segment

-- a new segment is due before the next round with a command
abbrev pub IsFull : Tail → Type 0
IsFull tail = IsDue tail.geometry (gate_offset tail)

-- the journal ends after the same head as before
pub record IsSameHead (old new : Tail) : Type 0 where
  pub segment : new.segment ≡ old.segment
  pub generation : new.generation ≡ old.generation

-- the reading of an image ends there
pub record EndsAt (tail : Tail) (x : Recovery) : Type 0 where
  pub geometry : tail.geometry ≡ x.geometry
  pub segment : tail.segment ≡ x.segment
  pub generation : tail.generation ≡ x.generation
  pub gate : tail.gate ≡ gate_of x

-- an image recovers to a state, and its journal ends there
pub record IsLogged (image : List ℕ) (tail : Tail) (s : State (List ℕ)) : Type 0 where
  pub x : Recovery
  pub stands : IsRecovery image x
  pub ends : EndsAt tail x
  pub state : s ≡ state_in x
  pub gates : AreClosed image tail.geometry tail.geometry.segments tail.closed

-- no write is pending, and the bytes that the device reads recover to a state, with the end of the journal there
pub record IsDurable (disk : DiskState) (tail : Tail) (s : State (List ℕ)) : Type 0 where
  pub settled : Settled disk
  pub logged : IsLogged disk.seen tail s
