-- The state of a flusher's journal after a crash, round by round.
use Rattle.std.proofs.Common.{ℕ, ◌≡◌, ◌≤◌, ◌⊎◌, inl, inr, ⊎_elim, ◌++◌, ◌∷◌, [], List, Bool, Option, None, length, true, false, refl, sym, ap, subst, ◌∙◌, arith, append_assoc, append-nil}
use Rattle.std.proofs.lemmas.Bool.{false≢true}
use Rattle.std.specs.List.{AllByRecursion, zip}
use Rattle.std.proofs.lemmas.List.{length-map}
use Rattle.rly_core.specs.Bounds.{IsIn}
use Rattle.rly_core.specs.declared.refusal.Refusal.{Refusal}
use Rattle.rly_core.specs.declared.refusal.Refusal.TheVariants.{Broken, Unsure}
use Rattle.rly_disk.specs.DiskModel.{Consistent, DiskState, LeavesOnly, Settled}
use Rattle.rly_disk.proofs.Composition.{at_exit, later_again, started, started_settled}
use Rattle.rly_machine.specs.declared.call.Answer.{Answer}
use Rattle.rly_machine.specs.declared.call.Call.{Call}
use Rattle.rly_machine.specs.declared.command.Command.{Command}
use Rattle.rly_machine.specs.declared.reply.Reply.TheVariants.{Refused}
use Rattle.rly_machine.specs.Fold.{fold}
use Rattle.rly_machine.specs.History.{Entry, accepted_of, LegalBy, LegalButForBytes, harm_after, state_after, without_bytes}
use Rattle.rly_machine.specs.State.{State, live_bytes, live_items}
use Rattle.rly_machine.proofs.Histories.{folds, legal_append}
use Rattle.rly_journal.specs.Journal.{IsRound, JournalState, StaysShut}
use Rattle.rly_journal.specs.Rounds.{AreServed, refusal_of, refusals}
use Rattle.rly_journal.specs.Recovery.{Stands}
use Rattle.rly_line.specs.Replies.{ReplyEndView}
use Rattle.rly_line.specs.Batches.{BatchView, calls_put}
use Rattle.rly_line.specs.ResponderView.{IsOneResponder, ResponderView, calls_in}
use Rattle.rly_line.specs.Submission.{LineId}
use Rattle.rly_line.proofs.ReplyHistories.{with_over}
use Rattle.rly_flush.specs.HelpersFlusher.{AreCollected, IsFlushing, IsRounded}
use Rattle.rly_flush.specs.FlusherHistory.{AreHarmless, AreLostOrShut, FlusherState, GrewInRound, IsBreaking, IsCrashSafe, IsLeftIn, IsDoubtful, IsOneHistory, IsOneRound, answered_state, entries_since, fold_of_history, over_now, state_reached}
use Rattle.rly_flush.specs.RoundWatch.{Begun, Ended, HasWatchedRound, Look, ShowsMore}
use Rattle.rly_flush.proofs.Joining.{GoesOn, goes_on}
use Rattle.rly_flush.proofs.Watching.{shows_both}
use Rattle.rly_flush.proofs.Refusing.{accepted_append, all_append, all_broken, all_harmless, all_unsure, broken_accepts_none, calls_in_append, calls_in_zip, unsure_accepts_none}

-- a flusher once these calls were received, those of a round were answered, and this batch was kept
abbrev pub next_of : {D : Type 0} → FlusherState D → JournalState D → Option BatchView → List ReplyEndView → List Call → List Call → List Answer → FlusherState D
next_of old journal left lines came calls given = record {
  first = old.first;
  journal = journal;
  kept = left;
  line = record { of = old.line.of; taken = old.line.taken ++ came; start = old.line.start; history = old.line.history ++ zip calls given; lines = lines; over = old.line.over };
}

-- there is a refusal for each call
as_many_calls : (p : ℕ) (calls : List Call) → 1 ≤ length calls → 1 ≤ length (zip calls (refusals Unsure p calls))
as_many_calls p [] some = absurd (omega (arith, some))
as_many_calls p (call ∷ calls) some = omega arith

-- refusals after refusals
pub refusals_append : (refusal : Refusal) (p : ℕ) (front back : List Call)
    → zip (front ++ back) (refusals refusal p (front ++ back)) ≡ zip front (refusals refusal p front) ++ zip back (refusals refusal p back)
refusals_append refusal p [] back = refl
refusals_append refusal p (call ∷ front) back = ap (λ l. (call, refusal_of refusal p call) ∷ l) (refusals_append refusal p front back)

-- the round that broke the journal is refused, and then each after it
refused_first : {given : List Answer} {p q : ℕ} (history : List Entry) (calls : List Call) → given ≡ refusals Unsure p calls → q ≡ p
    → history ++ zip calls given ≡ history ++ entries_since q calls []
refused_first history calls refused same = rw (refused, same, append-nil)

refused_again : {history : List Entry} {given : List Answer} {p q : ℕ} (before : List Entry) (broke behind calls : List Call) → history ≡ before ++ entries_since p broke behind
    → given ≡ refusals Broken p calls → q ≡ p → history ++ zip calls given ≡ before ++ entries_since q broke (behind ++ calls)
refused_again {history} {given} {p} before broke behind calls whole refused same = rw (whole, refused, same, refusals_append Broken p behind calls) (simp append_assoc)

-- served on a disk implies served on one that is honest only if that is
served_on : (a b : DiskState) (calls : List Call) (given : List Answer) (s t : State (List ℕ)) → (b.honest → a.honest) → AreServed a calls given s t → AreServed b calls given s t
served_on a b calls given s t right served = record {
  count = served.count;
  legal = served.legal;
  exact = λ honest. served.exact (right honest);
  only = served.only;
  state = served.state;
}

-- a journal that stayed shut isn't broken
pub still_whole : {D : Type 0} (old new : JournalState D) (calls : List Call) → old.broken ≡ false → StaysShut old new calls → {A : Type 0} → new.broken ≡ true → A
still_whole {D} old new calls whole shut broke = absurd (false≢true (sym (ap (λ (j : JournalState D). j.broken) shut.same ∙ whole) ∙ broke))

module _ {D : Type 0} (state : D → DiskState) (consistent : (disk : D) → (state disk).honest → Consistent (state disk)) where
  -- between rounds, if the journal goes on
  pub at_rest : (f : FlusherState D) → f.journal.state ≡ state_reached f → f.journal.broken ≡ false → Settled (state f.journal.disk) × Stands (state f.journal.disk).seen f.journal.state
      → IsCrashSafe state f f
  at_rest f same whole stands = record {
    calls = [];
    doubtful = inl (whole, [], sym (append-nil f.line.history), refl, λ broke. absurd (false≢true (sym whole ∙ broke)));
    given = [];
    target = state_reached f;
    served = record { count = refl; legal = tt; exact = λ _. tt; only = tt; state = refl };
    leaves = started_settled (state f.journal.disk) (λ image. Stands image (state_reached f) ⊎ Stands image (state_reached f)) stands.0
        (inl (subst (Stands (state f.journal.disk).seen) same stands.1));
    running = λ _. sym same;
  }

  -- while it is broken, from one moment to others
  broken_safe : {a b : FlusherState D} (old new : FlusherState D) (safe : IsCrashSafe state a b) → ((state old.journal.disk).honest → (state a.journal.disk).honest)
      → state_reached a ≡ state_reached old
      → LeavesOnly (state old.journal.disk) (state new.journal.disk) (λ image. Stands image (state_reached a) ⊎ Stands image safe.target) → new.journal.broken ≡ true
      → IsDoubtful old new safe.calls → IsCrashSafe state old new
  broken_safe {a} old new safe right same leaves broke doubtful = record {
    calls = safe.calls;
    doubtful = doubtful;
    given = safe.given;
    target = safe.target;
    served = subst (λ s. AreServed (state old.journal.disk) safe.calls safe.given s safe.target) same
        (served_on (state a.journal.disk) (state old.journal.disk) safe.calls safe.given (state_reached a) safe.target right safe.served);
    leaves = subst (λ s. LeavesOnly (state old.journal.disk) (state new.journal.disk) (λ image. Stands image s ⊎ Stands image safe.target)) same leaves;
    running = λ whole. absurd (false≢true (sym whole ∙ broke));
  }

  -- an image that represents the history, or that with the commands of a round, was left in that round
  module _ (old new : FlusherState D) (safe : IsCrashSafe state old new) (was : LegalButForBytes old.line.start old.line.history)
      (is : LegalButForBytes old.line.start new.line.history) (at : new.journal.broken ≡ false → new.journal.state ≡ fold_of_history old.line.start new.line.history)
      (earlier : List Entry) (holds : (more : List (Command (List ℕ))) × (accepted_of old.line.history ≡ accepted_of earlier ++ more)) (none : old.journal.broken ≡ false → AreHarmless old.line.history)
      (disk : DiskState) (right : disk.honest → (state old.journal.disk).honest) where
    abbrev start : State (List ℕ)
    start = old.line.start

    same : state_reached old ≡ fold_of_history start old.line.history
    same = (folds 0 start old.line.history was).0

    served : AreServed disk safe.calls safe.given (state_reached old) safe.target
    served = served_on (state old.journal.disk) disk safe.calls safe.given (state_reached old) safe.target right safe.served

    -- in the round that was made now
    left_now : (round : List Entry) → new.line.history ≡ old.line.history ++ round → calls_in round ≡ safe.calls
        → (answered : (safe.target ≡ fold_of_history start (old.line.history ++ round)) ⊎ IsBreaking old.line.history round [])
        → (image : List ℕ) → Stands image (state_reached old) ⊎ Stands image safe.target → IsLeftIn disk start earlier new.line.history image
    left_now round whole calls answered image stands = record {
      before = old.line.history;
      round = round;
      rest = [];
      whole = whole ∙ ap (λ l. old.line.history ++ l) (sym (append-nil round));
      holds = holds;
      stands = ⊎_elim (λ held. inl (subst (Stands image) same held)) (λ held. inr (
        safe.target,
        record {
          given = safe.given;
          served = subst (λ (y : List Call × State (List ℕ)). AreServed disk y.0 safe.given y.1 safe.target) (λ i. (sym calls i, same i)) served;
          answered = answered;
        },
        held,
      )) stands;
    }

    answered_now : (broken : Bool) → new.journal.broken ≡ broken → old.journal.broken ≡ false → (round : List Entry) → new.line.history ≡ old.line.history ++ round
        → (new.journal.broken ≡ true → (1 ≤ length safe.calls) × (round ≡ zip safe.calls (refusals Unsure old.journal.position safe.calls)))
        → (safe.target ≡ fold_of_history start (old.line.history ++ round)) ⊎ IsBreaking old.line.history round []
    answered_now true broke was_whole round whole unsure = inr (record {
      some = subst (λ l. 1 ≤ length l) (sym (unsure broke).1) (as_many_calls old.journal.position safe.calls (unsure broke).0);
      unsure = subst (AllByRecursion (λ entry. entry.1.reply ≡ Refused Unsure)) (sym (unsure broke).1) (all_unsure old.journal.position safe.calls);
      harmless = none was_whole;
      broken = tt;
    })
    answered_now false goes was_whole round whole unsure = inl (safe.running goes ∙ at goes ∙ ap (fold_of_history start) whole)

    -- or in an earlier one, which broke the journal
    module _ (rest : List Entry) (grown : new.line.history ≡ old.line.history ++ rest) (refused : AllByRecursion (λ entry. entry.1.reply ≡ Refused Broken) rest)
        (before : List Entry) (behind : List Call) (whole : old.line.history ≡ before ++ entries_since old.journal.position safe.calls behind) (some : 1 ≤ length safe.calls) (harmless : AreHarmless before) where
      abbrev broke : List Entry
      broke = zip safe.calls (refusals Unsure old.journal.position safe.calls)

      abbrev since : List Entry
      since = zip behind (refusals Broken old.journal.position behind)

      fewer : accepted_of old.line.history ≡ accepted_of before
      fewer =
          ap accepted_of whole ∙ accepted_append before (broke ++ since) ∙ ap (λ l. accepted_of before ++ l) (accepted_append broke since)
          ∙ (λ i. accepted_of before ++ (unsure_accepts_none old.journal.position safe.calls i ++ broken_accepts_none old.journal.position behind i)) ∙ append-nil (accepted_of before)

      at_before : fold_of_history start old.line.history ≡ fold_of_history start before
      at_before = ap (fold length start) fewer

      left_earlier : (image : List ℕ) → Stands image (state_reached old) ⊎ Stands image safe.target → IsLeftIn disk start earlier new.line.history image
      left_earlier image stands = record {
        before = before;
        round = broke;
        rest = since ++ rest;
        whole = grown ∙ ap (λ l. l ++ rest) whole ∙ append_assoc before (broke ++ since) rest ∙ ap (λ l. before ++ l) (append_assoc broke since rest);
        holds = (holds.0, sym fewer ∙ holds.1);
        stands = ⊎_elim (λ held. inl (subst (Stands image) (same ∙ at_before) held)) (λ held. inr (
          safe.target,
          record {
            given = safe.given;
            served = subst (λ (y : List Call × State (List ℕ)). AreServed disk y.0 safe.given y.1 safe.target)
                (λ i. (sym (calls_in_zip safe.calls (refusals Unsure old.journal.position safe.calls) (length-map safe.calls (refusal_of Unsure old.journal.position))) i, (same ∙ at_before) i)) served;
            answered = inr (record {
              some = as_many_calls old.journal.position safe.calls some;
              unsure = all_unsure old.journal.position safe.calls;
              harmless = harmless;
              broken = all_append (λ entry. entry.1.reply ≡ Refused Broken) since rest (all_broken old.journal.position behind) refused;
            });
          },
          held,
        )) stands;
      }

    pub left_in : (rest : List Entry) → new.line.history ≡ old.line.history ++ rest → (old.journal.broken ≡ true → AllByRecursion (λ entry. entry.1.reply ≡ Refused Broken) rest)
        → (image : List ℕ) → Stands image (state_reached old) ⊎ Stands image safe.target → IsLeftIn disk start earlier new.line.history image
    left_in rest grown refused image stands =
        ⊎_elim (λ now. left_now now.1 now.2 now.3 (answered_now new.journal.broken refl now.0 now.1 now.2 now.4) image stands)
        (λ broken. left_earlier rest grown (refused broken.0) broken.1 broken.2 broken.3 broken.4 broken.5 image stands) safe.doubtful

  -- the invariant at an exit
  pub one_history : (f : FlusherState D) → IsFlushing state f → IsOneHistory state f
  one_history f is =
      let bytes = is.legal_but_for_bytes in
      let all = folds 0 f.line.start f.line.history bytes in
      let none : f.journal.broken ≡ false → AreHarmless f.line.history = λ whole. all_harmless without_bytes 0 f.line.start f.line.history bytes (is.unharmed whole) in
      record {
        calls = is.answered;
        start = is.start;
        as_given = is.as_given;
        legal = is.legal;
        legal_but_for_bytes = bytes;
        position_is = is.position_is ∙ all.2;
        state_is = λ whole. is.running whole ∙ all.0;
        harmless = none;
        accepted = all.1;
        still = is.still;
        later = is.later;
        told = is.responding.told;
        kept = λ honest sound image left.
            let safe = is.safe honest sound in
            left_in f f safe bytes bytes (λ whole. is.running whole ∙ all.0) f.line.history ([], sym (append-nil (accepted_of f.line.history))) none (state f.journal.disk) (λ right. right) [] (sym (append-nil f.line.history)) (λ _. tt) image (at_exit (λ c. Stands c (state_reached f) ⊎ Stands c safe.target) safe.leaves (consistent f.journal.disk honest) image left);
      }

  module _ (old : FlusherState D) (kept : IsFlushing state old) where
    module _ (journal : JournalState D) (left : Option BatchView) (lines : List ReplyEndView) (came calls : List Call) (given : List Answer) (now : IsRounded state old.journal journal calls given) (some : 1 ≤ length calls) where
      abbrev next : FlusherState D
      next = next_of old journal left lines came calls given

      pub on : GoesOn state old.journal journal old.line.start old.line.history calls given
      on = goes_on state old.journal journal old.line.start old.line.history calls given now.round now.unread kept.position_is kept.running kept.unharmed

      -- the calls of the history are those before and these
      pub more : calls_in next.line.history ≡ calls_in old.line.history ++ calls
      more = calls_in_append old.line.history (zip calls given) ∙ ap (λ l. calls_in old.line.history ++ l) (calls_in_zip calls given on.count)

      -- the history grew, and each failure in the new part is true
      pub grew : GrewInRound state old next
      grew = record { added = zip calls given; history = refl; truthful = on.truthful }

      -- the state after a crash at any moment of the round: of a journal that was broken before, which is the same
      after_broken : journal ≡ old.journal → (state old.journal.disk).honest → old.first.broken ≡ false → old.journal.broken ≡ true → IsCrashSafe state old next
      after_broken same honest sound broke =
          let safe = kept.safe honest sound in
          broken_safe old next safe (λ right. right) refl
          (subst (λ (j : JournalState D). LeavesOnly (state old.journal.disk) (state j.disk) (λ image. Stands image (state_reached old) ⊎ Stands image safe.target)) (sym same) safe.leaves)
          (ap (λ (j : JournalState D). j.broken) same ∙ broke) (⊎_elim (λ was. absurd (false≢true (sym was.0 ∙ broke))) (λ was. inr was) safe.doubtful)

      -- and of one that was not
      unsure_by : IsRound state old.journal journal calls given → old.journal.broken ≡ false → journal.broken ≡ true → zip calls given ≡ zip calls (refusals Unsure old.journal.position calls)
      unsure_by (inl was) whole broke = absurd (false≢true (sym whole ∙ was.0))
      unsure_by (inr (inl shut)) whole broke = still_whole old.journal journal calls whole shut.1.0 broke
      unsure_by (inr (inr (inl went))) whole broke = absurd (false≢true (sym went.1.broken ∙ broke))
      unsure_by (inr (inr (inr breaks))) whole broke = ap (zip calls) breaks.1.unsure

      in_round : (state old.journal.disk).honest → old.journal.broken ≡ false → IsCrashSafe state old next
      in_round honest whole =
          let safe = now.any_moment honest whole in
          let same : old.journal.state ≡ state_reached old = kept.running whole in
          record {
            calls = calls;
            doubtful = inl (whole, zip calls given, refl, calls_in_zip calls given on.count, λ broke. (some, unsure_by now.round whole broke));
            given = safe.given;
            target = safe.target;
            served = subst (λ s. AreServed (state old.journal.disk) calls safe.given s safe.target) same safe.served;
            leaves = subst (λ s. LeavesOnly (state old.journal.disk) (state journal.disk) (λ image. Stands image s ⊎ Stands image safe.target)) same safe.leaves;
            running = safe.running;
          }

      round_safe_by : IsRound state old.journal journal calls given → (state old.journal.disk).honest → old.first.broken ≡ false → IsCrashSafe state old next
      round_safe_by (inl was) honest sound = after_broken was.2 honest sound was.0
      round_safe_by (inr (inl shut)) honest sound = in_round honest shut.0
      round_safe_by (inr (inr (inl went))) honest sound = in_round honest went.0
      round_safe_by (inr (inr (inr breaks))) honest sound = in_round honest breaks.0

      pub round_safe : (state old.journal.disk).honest → old.first.broken ≡ false → IsCrashSafe state old next
      round_safe honest sound = round_safe_by now.round honest sound

      -- and after it, if the journal is broken: by calls of that round or of an earlier one
      broken_rest : (safe : IsCrashSafe state old next) → (state journal.disk).honest → journal.broken ≡ true → IsDoubtful next next safe.calls → IsCrashSafe state next next
      broken_rest safe honest broke =
          let Left : List ℕ → Type 0 = λ image. Stands image (state_reached old) ⊎ Stands image safe.target in
          broken_safe next next safe now.later.honest.0 (sym (on.stays broke))
          (started (state journal.disk) Left (consistent journal.disk honest) (at_exit Left safe.leaves (consistent journal.disk honest))) broke

      rest_by : IsRound state old.journal journal calls given → (state journal.disk).honest → old.first.broken ≡ false → journal.broken ≡ true → IsCrashSafe state next next
      unfolding after_broken in_round broken_safe
      rest_by (inl was) honest sound broke =
          let first = now.later.honest.0 honest in
          let doubt = ⊎_elim {C = (before : List Entry) × (behind : List Call) × (old.line.history ≡ before ++ entries_since old.journal.position (kept.safe first sound).calls behind)
          × (1 ≤ length (kept.safe first sound).calls) × AreHarmless before}
          (λ w. absurd (false≢true (sym w.0 ∙ was.0))) (λ w. (w.1, w.2, w.3, w.4, w.5)) (kept.safe first sound).doubtful in
          broken_rest (after_broken was.2 first sound was.0) honest broke (inr (
            broke,
            doubt.0,
            doubt.1 ++ calls,
            refused_again doubt.0 (kept.safe first sound).calls doubt.1 calls doubt.2 was.1 (ap (λ (j : JournalState D). j.position) was.2),
            doubt.3,
            doubt.4,
          ))
      rest_by (inr (inl shut)) honest sound broke = still_whole old.journal journal calls shut.0 shut.1.0 broke
      rest_by (inr (inr (inl went))) honest sound broke = absurd (false≢true (sym went.1.broken ∙ broke))
      rest_by (inr (inr (inr breaks))) honest sound broke = broken_rest (in_round (now.later.honest.0 honest) breaks.0) honest broke (inr (
        broke,
        old.line.history,
        [],
        refused_first old.line.history calls breaks.1.unsure breaks.1.position,
        some,
        all_harmless without_bytes 0 old.line.start old.line.history kept.legal_but_for_bytes (kept.unharmed breaks.0),
      ))

      rest : (broken : Bool) → journal.broken ≡ broken → (state journal.disk).honest → old.first.broken ≡ false → IsCrashSafe state next next
      rest true broke honest sound = rest_by now.round honest sound broke
      rest false whole honest sound = at_rest next (on.running whole) whole (now.durable honest whole)

      same_by : IsRound state old.journal journal calls given → old.journal.broken ≡ true → journal ≡ old.journal
      same_by (inl was) broke = was.2
      same_by (inr (inl shut)) broke = absurd (false≢true (sym shut.0 ∙ broke))
      same_by (inr (inr (inl went))) broke = absurd (false≢true (sym went.0 ∙ broke))
      same_by (inr (inr (inr breaks))) broke = absurd (false≢true (sym breaks.0 ∙ broke))

      -- all of it goes on
      pub kept_next : calls_put old.kept ++ came ≡ calls ++ calls_put left → IsOneResponder next.line → IsFlushing state next
      kept_next in_turn responding = record {
        responding = responding;
        start = kept.start;
        as_given = kept.as_given;
        answered = ap (λ l. l ++ calls_put left) more ∙ append_assoc (calls_in old.line.history) calls (calls_put left) ∙ ap (λ l. calls_in old.line.history ++ l) (sym in_turn)
            ∙ sym (append_assoc (calls_in old.line.history) (calls_put old.kept) came) ∙ ap (λ l. l ++ came) kept.answered;
        legal = λ honest. legal_append (λ reply. reply) 0 old.line.start old.line.history (zip calls given) (kept.legal honest) (on.legal (kept.later.honest.1 honest));
        legal_but_for_bytes = legal_append without_bytes 0 old.line.start old.line.history (zip calls given) kept.legal_but_for_bytes on.but_for_bytes;
        position_is = on.position_is;
        running = on.running;
        unharmed = on.unharmed;
        still = λ was. let same = kept.still was in same_by now.round (ap (λ (j : JournalState D). j.broken) same ∙ was) ∙ same;
        later = later_again kept.later now.later;
        safe = λ honest sound. rest journal.broken refl honest sound;
      }

-- the effects of a call of `round` on a flusher
pub record HasGone {D : Type 0} (state : D → DiskState) (old new : FlusherState D) : Type 0 where
  pub flushing : IsFlushing state new
  pub history : IsOneHistory state new
  pub grew : GrewInRound state old new
  pub safe : (state old.journal.disk).honest → old.first.broken ≡ false → IsCrashSafe state old new

-- a flusher whose queue is over, or not
abbrev pub with_end : {D : Type 0} → Bool → FlusherState D → FlusherState D
with_end over f = record f { line = record f.line { over = over } }

-- that changes nothing else
with_end_safe : {D : Type 0} (state : D → DiskState) (p q : Bool) {a b : FlusherState D} → IsCrashSafe state a b → IsCrashSafe state (with_end p a) (with_end q b)
with_end_safe state p q safe = record {
  calls = safe.calls;
  doubtful = safe.doubtful;
  given = safe.given;
  target = safe.target;
  served = safe.served;
  leaves = safe.leaves;
  running = safe.running;
}

with_end_flushing : {D : Type 0} (state : D → DiskState) (p : Bool) {f : FlusherState D} → IsFlushing state f → IsFlushing state (with_end p f)
with_end_flushing state p {f} is = record {
  responding = with_over p f.line is.responding;
  start = is.start;
  as_given = is.as_given;
  answered = is.answered;
  legal = is.legal;
  legal_but_for_bytes = is.legal_but_for_bytes;
  position_is = is.position_is;
  running = is.running;
  unharmed = is.unharmed;
  still = is.still;
  later = is.later;
  safe = λ honest sound. with_end_safe state p p (is.safe honest sound);
}

module _ {D : Type 0} (state : D → DiskState) (consistent : (disk : D) → (state disk).honest → Consistent (state disk)) {old : FlusherState D} (kept : IsFlushing state old) where
  -- without a round
  pub stayed : {line : ResponderView} {left : Option BatchView} → old.kept ≡ None → left ≡ None → line ≡ record old.line { over = true } → HasGone state old (record old { kept = left; line = line })
  stayed {line} {left} none none_left same =
      subst (λ (y : Option BatchView × ResponderView). HasGone state old (record old { kept = y.0; line = y.1 })) (λ i. ((none ∙ sym none_left) i, sym same i)) (record {
        flushing = with_end_flushing state true kept;
        history = one_history state consistent (over_now old) (with_end_flushing state true kept);
        grew = record { added = []; history = sym (append-nil old.line.history); truthful = tt };
        safe = λ honest sound. with_end_safe state old.line.over true (kept.safe honest sound);
      })

  module _ {collected : ResponderView} {left : Option BatchView} {calls said : List Call} {given : List Answer} {journal : JournalState D} (taken : AreCollected old.line collected old.kept left calls) (same : said ≡ calls)
      (now : IsRounded state old.journal journal calls given) (some : 1 ≤ length calls) where
    -- and they may be answered
    pub may_tell : LegalBy without_bytes (harm_after 0 collected.history) (state_after collected.start collected.history) (zip said given)
    may_tell =
        subst (λ (y : ResponderView × List Call). LegalBy without_bytes (harm_after 0 y.0.history) (state_after y.0.start y.0.history) (zip y.1 given)) (λ i. (sym taken.line i, sym same i))
        (on state consistent old kept journal left old.line.lines taken.came calls given now some).but_for_bytes

    all_answered : length given ≡ length calls
    all_answered = (on state consistent old kept journal left old.line.lines taken.came calls given now some).count

    -- once all were answered
    pub went_on : {line : ResponderView} → line ≡ record collected { history = collected.history ++ zip said given; lines = line.lines } → IsOneResponder line
        → HasGone state old (record { first = old.first; journal = journal; kept = left; line = line })
    went_on {line} told responding =
        let next : FlusherState D = next_of old journal left line.lines taken.came calls given in
        let is : line ≡ next.line = told ∙ ap (λ (y : ResponderView × List Call). record y.0 { history = y.0.history ++ zip y.1 given; lines = line.lines }) (λ i. (taken.line i, same i)) in
        let flushing = kept_next state consistent old kept journal left line.lines taken.came calls given now some taken.in_turn (subst IsOneResponder is responding) in
        subst (λ (l : ResponderView). HasGone state old (record { first = old.first; journal = journal; kept = left; line = l })) (sym is) (record {
          flushing = flushing;
          history = one_history state consistent next flushing;
          grew = grew state consistent old kept journal left line.lines taken.came calls given now some;
          safe = round_safe state consistent old kept journal left line.lines taken.came calls given now some;
        })

    -- which was one round
    pub one_round : {line : ResponderView} → line ≡ record collected { history = collected.history ++ zip said given; lines = line.lines } → IsIn 1 64 (length calls)
        → AreLostOrShut old.journal journal calls given → IsOneRound state old (record { first = old.first; journal = journal; kept = left; line = line })
    one_round {line} told count lost = record {
      calls = calls;
      given = given;
      count = count;
      in_turn = record { came = taken.came; taken = ap (λ (l : ResponderView). l.taken) told ∙ ap (λ (l : ResponderView). l.taken) taken.line; in_turn = taken.in_turn; full = taken.full };
      history = ap (λ (l : ResponderView). l.history) told ∙ (λ i. (taken.line i).history ++ zip (same i) given);
      round = now.round;
      lost = lost;
    }

    -- and a watch was shown it
    pub watched_round : {line : ResponderView} → line ≡ record collected { history = collected.history ++ zip said given; lines = line.lines }
        → (before between after : Option (List Look)) (items bytes : ℕ) → items ≡ live_items journal.state → bytes ≡ live_bytes length journal.state
        → ShowsMore before between (Begun calls ∷ []) → ShowsMore between after (Ended given items bytes ∷ [])
        → HasWatchedRound before after old (record { first = old.first; journal = journal; kept = left; line = line })
    watched_round {line} told before between after items bytes as_many as_long begun ended = record {
      round = record { calls = calls; given = given; items = items; bytes = bytes };
      count = all_answered;
      history = ap (λ (l : ResponderView). l.history) told ∙ (λ i. (taken.line i).history ++ zip (same i) given);
      items = as_many;
      bytes = as_long;
      shown = shows_both before between after (Begun calls ∷ []) (Ended given items bytes ∷ []) begun ended;
    }

-- nothing was received yet
pub at_first : {D : Type 0} (state : D → DiskState) (consistent : (disk : D) → (state disk).honest → Consistent (state disk)) (journal : JournalState D) (of : LineId) (line : ResponderView) (lines : List ReplyEndView) (over : Bool)
    → line ≡ record { of = of; taken = []; start = answered_state journal; history = []; lines = lines; over = over } → IsOneResponder line
    → (journal.broken ≡ false → journal.position ≡ journal.state.seq)
    → ((state journal.disk).honest → journal.broken ≡ false → Settled (state journal.disk) × Stands (state journal.disk).seen journal.state)
    → IsFlushing state (record { first = journal; journal = journal; kept = None; line = line })
at_first {D} state consistent journal of line lines over is responding counted durable =
    let same : journal.broken ≡ false → answered_state journal ≡ journal.state = λ whole. ap (λ n. record journal.state { seq = n }) (counted whole) in
    let at : ResponderView = record { of = of; taken = []; start = answered_state journal; history = []; lines = lines; over = over } in
    subst (λ (l : ResponderView). IsFlushing state (record { first = journal; journal = journal; kept = None; line = l })) (sym is)
    (record {
      responding = subst IsOneResponder is responding;
      start = refl;
      as_given = same;
      answered = refl;
      legal = λ _. tt;
      legal_but_for_bytes = tt;
      position_is = refl;
      running = λ whole. sym (same whole);
      unharmed = λ _. refl;
      still = λ _. refl;
      later = record { size = refl; honest = (λ h. h, λ h. h); calls = omega arith; failures = omega arith; syncs = omega arith; failed_reads = omega arith };
      safe = λ honest whole. at_rest state consistent (record { first = journal; journal = journal; kept = None; line = at }) (sym (same whole)) whole (durable honest whole);
    })
