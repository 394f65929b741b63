-- The events of the model for each step of a relay.
use Rattle.std.specs.Prelude.{ℕ}
use Rattle.rly_world.specs.RelaySteps as event
use Rattle.rly_world.specs.RelayWorld.{World}
use Rattle.rly_world_relay.specs.Relay.{Happened, IsCrash, IsOnly, IsOpening, RelayState, Shows, disk_in}
use Rattle.rly_world_relay.specs.RelayRounds.{Rounds}
use Rattle.rly_world_relay.specs.declared.step.Step.{Step}
use Rattle.rly_world_relay.specs.declared.step.Step.TheVariants.{Crash, Hear, Opening, Put, Round}

-- a round leads from the model state of a relay to that of another
pub record LeadsRound (most : ℕ) (w : World) (new : RelayState) : Type 0 where
  pub next : World
  pub rounds : Rounds most w next
  pub shows : Shows new next

-- from every model state of the relay before, such a round leads to one of it now
abbrev pub HappenedRound : ℕ → RelayState → RelayState → Type 0
HappenedRound most old new = (w : World) → Shows old w → LeadsRound most w new

-- a step is exactly the events of its name
abbrev pub IsStep : Step → RelayState → RelayState → Type 0
IsStep (Put seat asks) old new = Happened (IsOnly (event.Put seat.0 asks.items)) old new
IsStep (Round most) old new = HappenedRound most old new
IsStep (Hear seat) old new = Happened (IsOnly (event.Hears seat.0)) old new
IsStep (Crash torn) old new = Happened (IsCrash torn (disk_in old.spool)) old new
IsStep (Opening at torn after) old new = Happened (IsOpening new.spool) old new
