-- The invariant of a relay.
use Rattle.std.proofs.Common.{ℕ, ◌≡◌, ◌≤◌, Bool, true, false, List, Option, Some, None, length, take, drop}
use Rattle.rly_core.specs.Limits.{IsWithinLimits}
use Rattle.rly_core.specs.declared.params.Params.{Params}
use Rattle.rly_machine.specs.declared.call.Answer.{Answer}
use Rattle.rly_machine.specs.Fold.{AllAccepted}
use Rattle.rly_machine.specs.State.{State, new_state}
use Rattle.rly_journal.specs.Recovery.{Commands, IsRecovery, Recovery, Stands, state_in}
use Rattle.rly_world.specs.RelayWorld.{Answering, Device, IsImageOf, Phase, Ready, Round, Stage, Taking, World, Writing}
use Rattle.rly_world.specs.RelayWorld.{batches_in, calls_of, seen_of, state_from}
use Rattle.rly_world.proofs.RelayAnswers.{AreBelow}
use Rattle.rly_world.proofs.RelayPhases.{Begins, IsPhaseImage}

-- the relation of the device to the accepted commands
pub record Core : Type 0 where
  pub params : Params
  pub device : Device
  pub accepted : Commands
  pub position : ℕ
  pub told : ℕ

abbrev pub core_of : World → Core
core_of w = record { params = w.params; device = w.device; accepted = w.accepted; position = w.position; told = w.told }

-- the state after all accepted commands
abbrev pub whole_state : Core → State (List ℕ)
whole_state k = state_from k.params k.accepted

-- an image recovers to the first n accepted commands, and no more were acknowledged
pub record IsKept (k : Core) (image : List ℕ) : Type 0 where
  pub n : ℕ
  pub told : k.told ≤ n
  pub most : n ≤ length k.accepted
  pub stands : Stands image (state_from k.params (take n k.accepted))

-- between phases: no write is pending, and all accepted commands are recovered
pub record IsCalm (k : Core) : Type 0 where
  pub only : (c : List ℕ) → IsImageOf k.device c → c ≡ k.device.synced
  pub stands : Stands k.device.synced (whole_state k)
  pub counted : k.position ≡ length k.accepted

-- in a phase
pub record IsWritten (phase : Phase) (k : Core) : Type 0 where
  pub x : Recovery
  pub stands : IsRecovery k.device.synced x
  pub state : state_in x ≡ state_from k.params (take k.position k.accepted)
  pub told : k.told ≤ k.position
  pub counted : k.position ≤ length k.accepted
  pub begins : Begins phase x (drop k.position k.accepted) k.device.synced
  pub images : (c : List ℕ) → IsImageOf k.device c → IsPhaseImage phase x (drop k.position k.accepted) k.device.synced c

abbrev pub IsAt : Core → Stage → Type 0
IsAt k Taking = IsCalm k
IsAt k Ready = IsCalm k
IsAt k Answering = IsCalm k
IsAt k (Writing phase) = IsWritten phase k

-- in a broken relay: only failures are reported, and no phase remains
abbrev pub IsBrokenAt : Stage → List Answer → Type 0
IsBrokenAt Taking answers = Unit {0}
IsBrokenAt Ready answers = Unit {0}
IsBrokenAt Answering answers = (n : ℕ) → AreBelow n answers
IsBrokenAt (Writing phase) answers = ⊥

abbrev pub IsRunning : Core → Bool → Option Round → Type 0
IsRunning k true None = Unit {0}
IsRunning k true (Some round) = IsBrokenAt round.stage round.answers
IsRunning k false None = IsCalm k
IsRunning k false (Some round) = AreBelow (length k.accepted) round.answers × IsAt k round.stage

abbrev pub IsPlaced : Core → Bool → Bool → Option Round → Type 0
IsPlaced k true broken round = IsRunning k broken round
IsPlaced k false broken round = round ≡ None

pub record Holds (k : Core) (is_open is_broken : Bool) (round : Option Round) : Type 0 where
  pub within : IsWithinLimits k.params
  pub accepted : AllAccepted length (new_state k.params) k.accepted
  pub few : length (calls_of (batches_in round)) ≤ 64
  pub seen : IsImageOf k.device (seen_of k.device)
  pub kept : (image : List ℕ) → IsImageOf k.device image → IsKept k image
  pub placed : IsPlaced k is_open is_broken round

abbrev pub IsHeld : World → Type 0
IsHeld w = Holds (core_of w) w.is_open w.is_broken w.round
