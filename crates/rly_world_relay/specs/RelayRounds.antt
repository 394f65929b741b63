-- The events of a round of a relay: its takes, and all events up to its last reply.
use Rattle.std.specs.Prelude.{◌≡◌, ◌||◌, ℕ, Bool, true, false, not, nat_le, List, [], ◌∷◌, Option, Some, None, length}
use Rattle.std.specs.List.{AllByRecursion}
use Rattle.rly_world.specs.RelaySteps.{Answers, Calls, Crash, Evaluates, Event, FailedOpening, Happens, Hears, Opening}
use Rattle.rly_world.specs.RelaySteps.{Opens, Packet, Put, Run, Takes}
use Rattle.rly_world.specs.RelayWorld.{Batch, Round, World, batches_in, calls_of}

-- a kept batch is taken first, and no batch is taken after one is kept
abbrev pub may_take : Option Batch → List Batch → Option Round → Bool
may_take (Some batch) line None = true
may_take (Some batch) line (Some round) = false
may_take None [] round = false
may_take None (batch ∷ line) round = true

-- a round with this many requests takes no more: it has them, or there is no batch that it may take
abbrev pub is_enough : ℕ → World → Bool
is_enough most w =
    nat_le most (length (calls_of (batches_in w.round))) || not w.is_open || not (may_take w.kept w.line w.round)

-- batches are taken until there are enough requests
abbrev pub Gathers : ℕ → World → List Event → World → Type 0
Gathers most w [] new = (is_enough most w ≡ true) × (new ≡ w)
Gathers most w (event ∷ events) new =
    (is_enough most w ≡ false) × (event ≡ Takes) × ((mid : World) × Happens w Takes mid × Gathers most mid events new)

-- the committer's own events, after it took its batches
abbrev pub IsServing : Event → Type 0
IsServing (Opens segment copy) = Unit {0}
IsServing (Evaluates given) = Unit {0}
IsServing (Calls call) = Unit {0}
IsServing Answers = Unit {0}
IsServing (Put seat asks) = ⊥
IsServing Takes = ⊥
IsServing (Hears seat) = ⊥
IsServing Packet = ⊥
IsServing (Crash image) = ⊥
IsServing (Opening s) = ⊥
IsServing (FailedOpening synced) = ⊥

-- a round: batches are taken until they have enough requests, and the committer continues until the round is over
pub record Rounds (most : ℕ) (w new : World) : Type 0 where
  pub takes : List Event
  pub taken : World
  pub gathers : Gathers most w takes taken
  pub events : List Event
  pub serving : AllByRecursion IsServing events
  pub run : Run taken events new
  pub over : new.round ≡ None
