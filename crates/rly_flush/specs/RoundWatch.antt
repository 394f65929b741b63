-- What a watch of a flusher is shown: each round, once, in the order of the history.
use Rattle.std.specs.Prelude.{◌≡◌, ◌++◌, ℕ, ⊤, List, [], ◌∷◌, length, Option, None, Some}
use Rattle.std.specs.List.{flat_map, zip}
use Rattle.rly_machine.specs.declared.call.Answer.{Answer}
use Rattle.rly_machine.specs.declared.call.Call.{Call}
use Rattle.rly_machine.specs.History.{Entry}
use Rattle.rly_machine.specs.State.{live_bytes, live_items}
use Rattle.rly_flush.specs.FlusherHistory.{FlusherState}

-- the calls of a round; or its answers, and the live datagrams and payload bytes after it
pub data Look : Type 0 where
  Begun : List Call → Look
  Ended : List Answer → (items bytes : ℕ) → Look

-- a watch was shown more; one that records nothing may record anything later
abbrev pub ShowsMore : Option (List Look) → Option (List Look) → List Look → Type 0
ShowsMore None after more = ⊤
ShowsMore (Some before) after more = after ≡ Some (before ++ more)

-- a round: its calls, their answers, and the live datagrams and payload bytes after it
pub record MadeRound : Type 0 where
  pub calls : List Call
  pub given : List Answer
  pub items : ℕ
  pub bytes : ℕ

abbrev pub entries_of : MadeRound → List Entry
entries_of r = zip r.calls r.given

abbrev pub looks_of : MadeRound → List Look
looks_of r = Begun r.calls ∷ Ended r.given r.items r.bytes ∷ []

-- a watch was shown one round, which is the next part of the history: its calls, and then its answers
pub record HasWatchedRound {D : Type 0} (before after : Option (List Look)) (old new : FlusherState D) : Type 0 where
  pub round : MadeRound
  pub count : length round.given ≡ length round.calls
  pub history : new.line.history ≡ old.line.history ++ entries_of round
  pub items : round.items ≡ live_items new.journal.state
  pub bytes : round.bytes ≡ live_bytes length new.journal.state
  pub shown : ShowsMore before after (looks_of round)

-- it was shown each round of the history's new part, in order, and nothing else
pub record HasWatched {D : Type 0} (before after : Option (List Look)) (old new : FlusherState D) : Type 0 where
  pub rounds : List MadeRound
  pub history : new.line.history ≡ old.line.history ++ flat_map entries_of rounds
  pub shown : ShowsMore before after (flat_map looks_of rounds)
