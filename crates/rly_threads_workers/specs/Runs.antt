-- The ghost histories of a worker's interfaces after it ended.
use Rattle.std.specs.Prelude.{◌≡◌, List, [], ◌∷◌, ◌++◌, false, Option, ℕ}
use Rattle.rly_core.specs.declared.ids.HopId.{HopId}
use Rattle.rly_link.specs.declared.turn.Go.{Go}
use Rattle.rly_link.specs.declared.turn.Point.TheVariants.{Start}
use Rattle.rly_link.specs.declared.turn.Worker.{Worker}
use Rattle.rly_threads_workers.specs.DeskExchanges.{Asked}
use Rattle.rly_link.specs.LinkHistory.{Handed, Hearing, TellsMore}
use Rattle.rly_threads_workers.specs.Turns.{Done}

-- the histories, each if it is recorded: receives and sends, asks, ticks, and the hops whose senders were woken
pub record EndsView : Type 0 where
  pub heard : Option (List Hearing)
  pub sent : Option (List (List ℕ))
  pub asked : Option (List Asked)
  pub handed : Option (List Handed)
  pub woken : Option (List HopId)

-- the histories grew by the worker's actions, and end with the tick that stopped it
pub record Ran {C : Type 0} (old new : EndsView) (worker : Worker) (d : Done C) : Type 0 where
  pub last : Go
  pub off : last.on ≡ false
  pub heard : TellsMore old.heard new.heard d.heard
  pub sent : TellsMore old.sent new.sent d.sent
  pub asked : TellsMore old.asked new.asked d.asked
  pub handed : TellsMore old.handed new.handed (d.handed ++ (worker, Start, last) ∷ [])
  pub woken : TellsMore old.woken new.woken d.woken
