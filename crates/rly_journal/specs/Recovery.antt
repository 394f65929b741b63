-- The recovery relation (docs/reference/DEFINITIONS.md, "What an image stands for"): an image recovers to the checkpoint of its
-- newest head, with the image's bytes for its payloads, followed by the commands of the groups after it, up to the
-- first closed gate.
use Rattle.std.specs.Prelude.{◌≡◌, ℕ, ◌+◌, ⊤, List, [], ◌∷◌, length, map}
use Rattle.rly_core.specs.declared.params.Geometry.{Geometry}
use Rattle.rly_machine.specs.declared.command.Command.{Command}
use Rattle.rly_machine.specs.Fold.{fold, AllAccepted}
use Rattle.rly_machine.specs.Map.{map_command}
use Rattle.rly_machine.specs.State.{State}
use Rattle.rly_gate.specs.Group.{IsClosed}
use Rattle.rly_gate.specs.GroupReads.{HoldsGroup}
use Rattle.rly_record.specs.Spelling.{HaveBody, body_of}
use Rattle.rly_segment_checkpoint.specs.Stored.{stored_length, stored_spelled}
use Rattle.rly_segment_checkpoint.specs.Stored.{state_in as state_over}
use Rattle.rly_segment_checkpoint.specs.declared.head_form.HeadForm.{HeadForm}
use Rattle.rly_segment_checkpoint.specs.declared.stored.Stored.{Stored}
use Rattle.rly_segment_checkpoint.specs.declared.stored.Stored.TheVariants.{Inline}
use Rattle.rly_segment.specs.Device.{IsDevice, IsLayout, geometry_in}
use Rattle.rly_segment.specs.Heads.{IsNewest, gate_after, segment_end}
use Rattle.rly_segment.specs.PlacedHeads.{HoldsPlaced}

-- the commands of one group
abbrev pub Commands : Type 0
Commands = List (Command (List ℕ))

-- the offset of the gate after a group of these commands
abbrev pub next_gate : ℕ → Commands → ℕ
next_gate at commands = at + 5 + length (body_of commands)

-- the offset of the gate after consecutive groups
abbrev pub gate_behind : ℕ → List Commands → ℕ
gate_behind at [] = at
gate_behind at (commands ∷ groups) = gate_behind (next_gate at commands) groups

-- consecutive groups of these commands lie from a gate on, and the gate after each lies before an end
abbrev pub HoldGroups : List ℕ → ℕ → ℕ → List Commands → Type 0
HoldGroups image end at [] = ⊤
HoldGroups image end at (commands ∷ groups) =
    HaveBody commands × HoldsGroup image at end (body_of commands) × HoldGroups image end (next_gate at commands) groups

-- the state after groups
abbrev pub state_after_groups : State (List ℕ) → List Commands → State (List ℕ)
state_after_groups s [] = s
state_after_groups s (commands ∷ groups) = state_after_groups (fold length s commands) groups

-- each command of the groups is accepted in the state that those before it left
abbrev pub AreAccepted : State (List ℕ) → List Commands → Type 0
AreAccepted s [] = ⊤
AreAccepted s (commands ∷ groups) = AllAccepted length s commands × AreAccepted (fold length s commands) groups

-- the content of an image that recovery reads: the geometry, the newest segment with the generation, the form and the
-- state of its head, that state with the image's bytes for its payloads, and the groups after the head
pub record Recovery : Type 0 where
  pub geometry : Geometry
  pub segment : ℕ
  pub generation : ℕ
  pub form : HeadForm
  pub head : State Stored
  pub checkpoint : State (List ℕ)
  pub groups : List Commands

-- the gate after the head
abbrev pub first_of : Recovery → ℕ
first_of x = gate_after stored_length (stored_spelled x.form) x.geometry x.segment x.head

-- the end of the segment
abbrev pub recovery_end : Recovery → ℕ
recovery_end x = segment_end x.geometry x.segment

-- the first closed gate
abbrev pub gate_of : Recovery → ℕ
gate_of x = gate_behind (first_of x) x.groups

-- the recovered state
abbrev pub state_in : Recovery → State (List ℕ)
state_in x = state_after_groups x.checkpoint x.groups

-- the same with payloads as stored: those of the groups are inline
abbrev pub stored_commands : Commands → List (Command Stored)
stored_commands commands = map (map_command Inline) commands

abbrev pub stored_after : State Stored → List Commands → State Stored
stored_after s [] = s
stored_after s (commands ∷ groups) = stored_after (fold stored_length s (stored_commands commands)) groups

abbrev pub stored_in : Recovery → State Stored
stored_in x = stored_after x.head x.groups

-- this is the content of an image, up to the gate after the groups
pub record IsScanned (image : List ℕ) (x : Recovery) : Type 0 where
  pub device : IsDevice image
  pub geometry : x.geometry ≡ geometry_in image
  pub fits : IsLayout x.geometry (length image)
  pub newest : IsNewest image x.geometry x.segment
  pub head : HoldsPlaced x.form image x.geometry x.segment x.generation x.head
  pub payloads : x.checkpoint ≡ state_over image x.head
  pub groups : HoldGroups image (recovery_end x) (first_of x) x.groups
  pub accepted : AreAccepted x.checkpoint x.groups

-- this is all of the content of an image: the gate after the groups is closed
pub record IsRecovery (image : List ℕ) (x : Recovery) : Type 0 where
  pub scanned : IsScanned image x
  pub closed : IsClosed image (gate_of x)

-- an image recovers to a state
abbrev pub Stands : List ℕ → State (List ℕ) → Type 0
Stands image s = (x : Recovery) × IsRecovery image x × (s ≡ state_in x)
