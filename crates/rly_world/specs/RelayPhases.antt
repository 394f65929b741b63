-- The bytes that each phase of a round writes, from the content of the device at the phase's start.
use Rattle.std.specs.Prelude.{◌+◌, ◌-◌, ◌≤◌, ℕ, List, [], ◌∷◌, ◌++◌, length}
use Rattle.rly_gate.specs.Group.{IsClosed, IsOpen, StandsAt, frame_of, open_gate}
use Rattle.rly_machine.specs.State.{State}
use Rattle.rly_segment_checkpoint.specs.Stored.{stored_form, stored_length}
use Rattle.rly_segment_checkpoint.specs.declared.stored.Stored.{Stored}
use Rattle.rly_reclaim.specs.Room.{IsDue}
use Rattle.rly_record.specs.Spelling.{body_of}
use Rattle.rly_segment.specs.Heads.{head_spelled, segment_place}
use Rattle.rly_journal.specs.UntouchedBytes.{IsHeadFor}
use Rattle.rly_journal.specs.Recovery.{Commands, IsRecovery, Recovery, gate_of}
use Rattle.rly_world.specs.RelayWorld.{Body, Device, Gate, Head, Phase, Seal, Switch, seen_of}

-- the device offset of its range
abbrev pub place_of : Phase → Recovery → ℕ
place_of (Seal segment copy) x = segment_place x.geometry segment
place_of (Head segment copy) x = segment_place x.geometry segment + 1
place_of (Switch segment copy) x = segment_place x.geometry segment
place_of Body x = gate_of x + 1
place_of Gate x = gate_of x

-- the bytes after the gate of an opened segment: the head of the next generation with the copy, and a closed gate
abbrev pub next_head : Recovery → State Stored → List ℕ
next_head x copy = head_spelled stored_length stored_form (x.generation + 1) copy ++ 0 ∷ []

-- the bytes of its range at its end: a closed gate; the next head; an open gate; the frame of the commands; an open
-- gate
abbrev pub bytes_of : Phase → Recovery → Commands → List ℕ
bytes_of (Seal segment copy) x commands = 0 ∷ []
bytes_of (Head segment copy) x commands = next_head x copy
bytes_of (Switch segment copy) x commands = open_gate ∷ []
bytes_of Body x commands = frame_of (body_of commands)
bytes_of Gate x commands = open_gate ∷ []

-- the phase is done: the device reads these bytes, or any closed gate
abbrev pub IsDone : Phase → Recovery → Commands → List ℕ → Type 0
IsDone (Seal segment copy) x commands seen = IsClosed seen (segment_place x.geometry segment)
IsDone (Head segment copy) x commands seen = StandsAt seen (segment_place x.geometry segment + 1) (next_head x copy)
IsDone (Switch segment copy) x commands seen = IsOpen seen (segment_place x.geometry segment)
IsDone Body x commands seen = StandsAt seen (gate_of x + 1) (frame_of (body_of commands))
IsDone Gate x commands seen = IsOpen seen (gate_of x)

-- a gate that is closed already isn't written: a crash within that write could open it
abbrev pub IsNeeded : Phase → Recovery → List ℕ → Type 0
IsNeeded (Seal segment copy) x seen = IsOpen seen (segment_place x.geometry segment)
IsNeeded (Head segment copy) x seen = Unit {0}
IsNeeded (Switch segment copy) x seen = Unit {0}
IsNeeded Body x seen = Unit {0}
IsNeeded Gate x seen = Unit {0}

-- n bytes may be written at an offset: they lie in the phase's range
pub record MayWrite (phase : Phase) (device : Device) (commands : Commands) (place n : ℕ) : Type 0 where
  pub x : Recovery
  pub stands : IsRecovery device.synced x
  pub from : place_of phase x ≤ place
  pub to : place + n ≤ place_of phase x + length (bytes_of phase x commands)
  pub needed : IsNeeded phase x (seen_of device)

-- a sync may be made: the phase is done
pub record MaySync (phase : Phase) (device : Device) (commands : Commands) : Type 0 where
  pub x : Recovery
  pub stands : IsRecovery device.synced x
  pub done : IsDone phase x commands (seen_of device)

-- the largest group doesn't fit after the first closed gate
abbrev pub IsDueIn : List ℕ → Type 0
IsDueIn image =
    (x : Recovery) × IsRecovery image x × IsDue x.geometry (gate_of x - segment_place x.geometry x.segment)

-- a segment may be opened with such a head: it isn't that of the newest head, no live payload lies there, and the head
-- has the state, with each payload inline or elsewhere on the device
abbrev pub MayOpen : List ℕ → ℕ → State Stored → Type 0
MayOpen image segment copy = (x : Recovery) × IsRecovery image x × IsHeadFor image x segment copy
