-- The model of the ghost history of the answering thread.
use Rattle.std.specs.Prelude.{ℕ, List}
use Rattle.rly_machine.specs.History.{Entry}
use Rattle.rly_machine.specs.State.{State}

pub record HistoryView : Type 0 where
  pub start : State (List ℕ)
  pub history : List Entry
