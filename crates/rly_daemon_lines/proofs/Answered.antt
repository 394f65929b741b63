-- The facts of a round that was answered: its losses, and that 13 is a reply only if a read failed.
use Rattle.std.proofs.Common.{◌≡◌, ◌⊎◌, ◌++◌, [], List, false, sym, subst, inr}
use Rattle.std.specs.Prelude.{Err, Ok, OnOk, Result}
use Rattle.std.specs.List.{zip}
use Rattle.rly_core.specs.declared.refusal.Refusal.{Refusal}
use Rattle.rly_disk.specs.DiskModel.{DiskState}
use Rattle.rly_machine.specs.declared.call.Answer.{Answer}
use Rattle.rly_machine.specs.declared.call.Call.{Call}
use Rattle.rly_journal.specs.Journal.{IsRound, IsShut, JournalState, MakesRound, MakesShut}
use Rattle.rly_journal.specs.Log.{IsDurable}
use Rattle.rly_journal.specs.Rounds.{AreLostWhereWanted, refusals}
use Rattle.rly_journal.proofs.Unread.{round_unread}
use Rattle.rly_daemon_lines.specs.HelpersPlay.{IsAnsweredBy}

module _ {D : Type 0} (state : D → DiskState) (old new : JournalState D) (calls : List Call) where
  -- the replies of a round, if no answer was there before it
  answered_by : (before after : List Answer) → before ≡ [] → ((given : List Answer) × (after ≡ before ++ given) × IsRound state old new calls given)
      → ((given : List Answer) × (after ≡ before ++ given) × (AreLostWhereWanted old.state (zip calls given) ⊎ IsShut old new calls given))
      → (old.broken ≡ false → MakesRound state old new calls before after
      ⊎ ((new.state ≡ old.state) × (told : Refusal) × (after ≡ before ++ refusals told old.position calls) × MakesShut state old new calls told))
      → ((state old.disk).honest → old.broken ≡ false → IsDurable (state old.disk) old.tail old.state) → IsAnsweredBy state old new calls after
  answered_by before after none round lost trace durable =
      let round = rw none at round in
      let lost = rw none at lost in
      let trace = rw none at trace in
      let is_round : IsRound state old new calls after = subst (λ l. IsRound state old new calls l) (sym round.1) round.2 in
      inr (
        is_round,
        record {
          wanted = subst (λ l. AreLostWhereWanted old.state (zip calls l) ⊎ IsShut old new calls l) (sym lost.1) lost.2;
          unread = round_unread state old new calls after is_round trace;
          durable = durable;
        },
      )

  -- if it was made
  pub answered_ok : {T E : Type 0} (result : Result T E) (before after : List Answer) → before ≡ []
      → OnOk result ((given : List Answer) × (after ≡ before ++ given) × IsRound state old new calls given)
      → OnOk result ((given : List Answer) × (after ≡ before ++ given) × (AreLostWhereWanted old.state (zip calls given) ⊎ IsShut old new calls given))
      → (old.broken ≡ false → OnOk result (MakesRound state old new calls before after
      ⊎ ((new.state ≡ old.state) × (told : Refusal) × (after ≡ before ++ refusals told old.position calls) × MakesShut state old new calls told)))
      → ((state old.disk).honest → old.broken ≡ false → IsDurable (state old.disk) old.tail old.state) → OnOk result (IsAnsweredBy state old new calls after)
  answered_ok (Ok done) before after none round lost trace durable = answered_by before after none round lost trace durable
  answered_ok (Err fault) before after none round lost trace durable = tt
