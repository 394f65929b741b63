-- A round of the journal goes on from the history before it.
use Rattle.std.proofs.Common.{ℕ, ◌≡◌, ◌≤◌, inl, inr, ⊎_elim, ◌++◌, List, true, false, refl, sym, ap, subst, ◌∙◌, arith}
use Rattle.std.proofs.lemmas.Bool.{false≢true}
use Rattle.std.specs.List.{AllByRecursion, zip}
use Rattle.std.proofs.Common.{length}
use Rattle.std.proofs.lemmas.List.{length-map}
use Rattle.rly_core.specs.declared.refusal.Refusal.{Refusal}
use Rattle.rly_core.specs.declared.refusal.Refusal.TheVariants.{Broken, DeviceRead, OutOfMemory, Unsure}
use Rattle.rly_disk.specs.DiskModel.{DiskState, HasFailed}
use Rattle.rly_machine.specs.declared.call.Answer.{Answer}
use Rattle.rly_machine.specs.declared.call.Call.{Call}
use Rattle.rly_machine.specs.declared.reply.Reply.TheVariants.{Refused}
use Rattle.rly_machine.specs.History.{Entry, LegalBy, harm, harm_after, is_failure, state_after, without_bytes}
use Rattle.rly_machine.specs.State.{State}
use Rattle.rly_machine.proofs.Histories.{harm_after-append, legal_but_for_bytes, state_after-append}
use Rattle.rly_journal.specs.Journal.{Goes, HasFailedRead, IsRound, JournalState, StaysShut}
use Rattle.rly_journal.specs.Rounds.{AreUnreadWhere, refusal_of, refusals}
use Rattle.rly_flush.specs.FlusherHistory.{AreHarmless, IsTruthful}
use Rattle.rly_flush.proofs.Refusing.{all_refused, broken_truthful, harmless_after, harmless_truthful, most_after, refused_legal, refused_stays, served_harmless, unsure_truthful}

-- the answers of a round as a part of the history
pub record GoesOn {D : Type 0} (state : D → DiskState) (old new : JournalState D) (start : State (List ℕ)) (history : List Entry) (calls : List Call) (given : List Answer) : Type 0 where
  pub count : length given ≡ length calls
  pub legal : (state old.disk).honest → LegalBy (λ reply. reply) (harm_after 0 history) (state_after start history) (zip calls given)
  pub but_for_bytes : LegalBy without_bytes (harm_after 0 history) (state_after start history) (zip calls given)
  pub position_is : new.position ≡ (state_after start (history ++ zip calls given)).seq
  pub running : new.broken ≡ false → new.state ≡ state_after start (history ++ zip calls given)
  pub unharmed : new.broken ≡ false → harm_after 0 (history ++ zip calls given) ≡ 0
  pub stays : new.broken ≡ true → state_after start (history ++ zip calls given) ≡ state_after start history
  pub truthful : AllByRecursion (IsTruthful (HasFailed (state old.disk) (state new.disk)) (old.broken ≡ true) (HasFailedRead (state old.disk) (state new.disk))) (zip calls given)

module _ {D : Type 0} (state : D → DiskState) (old new : JournalState D) (start : State (List ℕ)) (history : List Entry) (calls : List Call) where
  abbrev Failed : Type 0
  Failed = HasFailed (state old.disk) (state new.disk)

  abbrev Unread : Type 0
  Unread = HasFailedRead (state old.disk) (state new.disk)

  -- all calls are refused
  refused : (refusal : Refusal) (p : ℕ) → is_failure (Refused refusal) ≡ true → harm_after 0 history ≤ harm (Refused refusal) → p ≡ (state_after start history).seq
      → new.position ≡ p → (new.broken ≡ false → (new.state ≡ state_after start history) × (harm_after 0 (history ++ zip calls (refusals refusal p calls)) ≡ 0))
      → AllByRecursion (IsTruthful Failed (old.broken ≡ true) Unread) (zip calls (refusals refusal p calls))
      → GoesOn state old new start history calls (refusals refusal p calls)
  refused refusal p fails low at stands going truthful =
      let same : state_after start (history ++ zip calls (refusals refusal p calls)) ≡ state_after start history =
      state_after-append start history (zip calls (refusals refusal p calls)) ∙ refused_stays refusal p (state_after start history) calls fails in
      let legal = refused_legal refusal p (harm_after 0 history) (state_after start history) calls fails low at in
      record {
        count = length-map calls (refusal_of refusal p);
        legal = λ _. legal;
        but_for_bytes = legal_but_for_bytes (harm_after 0 history) (state_after start history) (zip calls (refusals refusal p calls)) legal;
        position_is = stands ∙ at ∙ ap (λ (x : State (List ℕ)). x.seq) (sym same);
        running = λ whole. (going whole).0 ∙ sym same;
        unharmed = λ whole. (going whole).1;
        stays = λ _. same;
        truthful = truthful;
      }

  -- the journal is broken
  broken : (refusal : Refusal) (p : ℕ) → is_failure (Refused refusal) ≡ true → harm_after 0 history ≤ harm (Refused refusal) → p ≡ (state_after start history).seq
      → new.broken ≡ true → new.position ≡ p → AllByRecursion (IsTruthful Failed (old.broken ≡ true) Unread) (zip calls (refusals refusal p calls))
      → GoesOn state old new start history calls (refusals refusal p calls)
  broken refusal p fails low at broke stands truthful =
      refused refusal p fails low at stands (λ whole. absurd (false≢true (sym whole ∙ broke))) truthful

  -- a segment is due and was not opened
  shut : (refusal : Refusal) → is_failure (Refused refusal) ≡ true → harm (Refused refusal) ≡ 0 → StaysShut old new calls → old.position ≡ (state_after start history).seq
      → old.state ≡ state_after start history → harm_after 0 history ≡ 0 → AreUnreadWhere Unread (zip calls (refusals refusal old.position calls))
      → GoesOn state old new start history calls (refusals refusal old.position calls)
  shut refusal fails harmless stays at running unharmed unread =
      let none : AreHarmless (zip calls (refusals refusal old.position calls)) = all_refused (λ (x : Entry). harm x.1.reply ≡ 0) refusal old.position (λ call. harmless) calls in
      refused refusal old.position fails (omega (arith, unharmed)) at (ap (λ (j : JournalState D). j.position) stays.same)
      (λ _. (
        ap (λ (j : JournalState D). j.state) stays.same ∙ running,
        harm_after-append 0 history (zip calls (refusals refusal old.position calls)) ∙ harmless_after (harm_after 0 history) (zip calls (refusals refusal old.position calls)) none unharmed,
      ))
      (harmless_truthful Failed (old.broken ≡ true) Unread (zip calls (refusals refusal old.position calls)) none unread)

  -- the journal goes on
  served : (given : List Answer) → Goes state old new calls given → old.state ≡ state_after start history → harm_after 0 history ≡ 0 → AreUnreadWhere Unread (zip calls given)
      → GoesOn state old new start history calls given
  served given goes running unharmed unread =
      let moved : new.state ≡ state_after start (history ++ zip calls given) =
      goes.served.state ∙ ap (λ s. state_after s (zip calls given)) running ∙ sym (state_after-append start history (zip calls given)) in
      let none : AreHarmless (zip calls given) = served_harmless (zip calls given) goes.served.only in
      record {
        count = goes.served.count;
        legal = λ honest.
            subst (λ (y : ℕ × State (List ℕ)). LegalBy (λ reply. reply) y.0 y.1 (zip calls given)) (λ i. (sym unharmed i, running i)) (goes.served.exact honest);
        but_for_bytes = subst (λ (y : ℕ × State (List ℕ)). LegalBy without_bytes y.0 y.1 (zip calls given)) (λ i. (sym unharmed i, running i)) goes.served.legal;
        position_is = goes.position ∙ ap (λ (x : State (List ℕ)). x.seq) moved;
        running = λ _. moved;
        unharmed = λ _. harm_after-append 0 history (zip calls given) ∙ harmless_after (harm_after 0 history) (zip calls given) none unharmed;
        stays = λ broke. absurd (false≢true (sym goes.broken ∙ broke));
        truthful = harmless_truthful Failed (old.broken ≡ true) Unread (zip calls given) none unread;
      }

  pub goes_on : (given : List Answer) → IsRound state old new calls given → AreUnreadWhere Unread (zip calls given) → old.position ≡ (state_after start history).seq
      → (old.broken ≡ false → old.state ≡ state_after start history) → (old.broken ≡ false → harm_after 0 history ≡ 0)
      → GoesOn state old new start history calls given
  goes_on given (inl was) unread at running unharmed =
      subst (λ g. GoesOn state old new start history calls g) (sym was.1)
      (broken Broken old.position refl (most_after 0 history (omega arith)) at (ap (λ j. j.broken) was.2 ∙ was.0) (ap (λ j. j.position) was.2)
      (broken_truthful Failed (old.broken ≡ true) Unread old.position calls was.0))
  goes_on given (inr (inl stayed)) unread at running unharmed =
      let as_told : (refusal : Refusal) → is_failure (Refused refusal) ≡ true → harm (Refused refusal) ≡ 0 → given ≡ refusals refusal old.position calls → GoesOn state old new start history calls given =
      λ refusal fails harmless told. subst (λ g. GoesOn state old new start history calls g) (sym told)
      (shut refusal fails harmless stayed.1.0 at (running stayed.0) (unharmed stayed.0) (subst (λ g. AreUnreadWhere Unread (zip calls g)) told unread)) in
      ⊎_elim (as_told OutOfMemory refl refl) (as_told DeviceRead refl refl) stayed.1.1
  goes_on given (inr (inr (inl went))) unread at running unharmed = served given went.1 (running went.0) (unharmed went.0) unread
  goes_on given (inr (inr (inr broke))) unread at running unharmed =
      subst (λ g. GoesOn state old new start history calls g) (sym broke.1.unsure)
      (broken Unsure old.position refl (let none = unharmed broke.0 in omega (arith, none)) at broke.1.broken broke.1.position
      (unsure_truthful Failed (old.broken ≡ true) Unread old.position calls broke.2))
