-- Helpers: the progress of an opening. No public contract cites them; `Recovery` and `Faults` define its result.
use Rattle.std.specs.Prelude.{◌≡◌, ℕ, List}
use Rattle.rly_machine.specs.State.{State}
use Rattle.rly_segment.specs.Answers.{AreClosed}
use Rattle.rly_journal.specs.declared.tail.Tail.{Tail}
use Rattle.rly_journal.specs.Log.{EndsAt}
use Rattle.rly_journal.specs.Recovery.{IsScanned, Recovery, state_in}

-- the part of an image that was read so far recovers to a state
pub record IsReplayed (image : List ℕ) (tail : Tail) (s : State (List ℕ)) : Type 0 where
  pub x : Recovery
  pub scanned : IsScanned image x
  pub ends : EndsAt tail x
  pub state : s ≡ state_in x
  pub gates : AreClosed image tail.geometry tail.geometry.segments tail.closed
