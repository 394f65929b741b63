-- Round follows round: a property of each holds for all of them.
use Rattle.std.proofs.Common.{ℕ, ◌≡◌, ◌⊎◌, inl, inr, ⊎_elim, ◌++◌, ◌∷◌, [], List, Bool, true, false, refl, sym, ap, subst, ◌∙◌, arith, append_assoc, append-nil}
use Rattle.std.proofs.lemmas.Bool.{false≢true}
use Rattle.std.specs.Prelude.{MatchBool}
use Rattle.std.specs.List.{AllByRecursion, zip}
use Rattle.std.proofs.lemmas.List.{append_cancel_left}
use Rattle.rly_core.specs.declared.refusal.Refusal.TheVariants as refusal
use Rattle.rly_disk.specs.DiskModel.{Consistent, DiskState, Later, LeavesOnly, HasFailed}
use Rattle.rly_disk.proofs.Composition.{joined, later_again, rose_earlier, rose_later, started, weaker}
use Rattle.rly_machine.specs.declared.call.Answer.{Answer}
use Rattle.rly_machine.specs.declared.call.Call.{Call}
use Rattle.rly_machine.specs.declared.reply.Reply.TheVariants.{Refused}
use Rattle.rly_machine.specs.History.{Entry, LegalButForBytes, accepted_of}
use Rattle.rly_machine.specs.State.{State}
use Rattle.rly_journal.specs.Journal.{HasFailedRead, IsRound, JournalState}
use Rattle.rly_journal.specs.Recovery.{Stands}
use Rattle.rly_line.specs.EndViews.{names_of}
use Rattle.rly_flush.specs.FlusherHistory.{AreHarmless, AreRounds, FlusherState, GrewInRound, IsBreaking, IsContinued, IsCrashSafe, IsKeptSince, IsMadeRound, IsOneHistory, IsOneRound, IsLeftIn, IsTruthful, IsWritten, MayFollow, MayGoOn, fold_of_history, over_now, state_reached}
use Rattle.rly_flush.proofs.Crashing.{left_in, still_whole, with_end}
use Rattle.rly_flush.proofs.Refusing.{accepted_append, all_append, all_broken, harmful, still_truthful}
use Rattle.rly_journal.proofs.Unread.{unread_earlier, unread_later}

all_mapped : {A : Type 0} (P Q : A → Type 0) → ((x : A) → P x → Q x) → (xs : List A) → AllByRecursion P xs → AllByRecursion Q xs
all_mapped P Q f [] all = tt
all_mapped P Q f (x ∷ xs) all = (f x all.0, all_mapped P Q f xs all.1)

all_and_last : {A : Type 0} (P : A → Type 0) (xs : List A) (x : A) → AllByRecursion P xs → P x → AllByRecursion P (xs ++ x ∷ [])
all_and_last P [] x all last = (last, tt)
all_and_last P (y ∷ xs) x all last = (all.0, all_and_last P xs x all.1 last)

-- a call was refused, since the journal was broken
abbrev AsBroken : Entry → Type 0
AsBroken entry = entry.1.reply ≡ Refused refusal.Broken

-- whatever rounds there were
pub may_follow : {D : Type 0} (f : FlusherState D) (rounds : List (FlusherState D)) → MayGoOn f → MayFollow f rounds
may_follow f [] may = tt
may_follow f (g ∷ rounds) may = may

module _ {D : Type 0} (state : D → DiskState) where
  -- a round depends on all of a flusher except whether it is over
  over_made : (a e : FlusherState D) (p : Bool) → IsMadeRound state (with_end p a) e → IsMadeRound state a e
  over_made a e p made = record {
    one = record {
      calls = made.one.calls;
      given = made.one.given;
      count = made.one.count;
      in_turn = record { came = made.one.in_turn.came; taken = made.one.in_turn.taken; in_turn = made.one.in_turn.in_turn; full = made.one.in_turn.full };
      history = made.one.history;
      round = made.one.round;
      lost = made.one.lost;
    };
    any_moment = λ honest sound.
        let safe = made.any_moment honest sound in
        record { calls = safe.calls; doubtful = safe.doubtful; given = safe.given; target = safe.target; served = safe.served; leaves = safe.leaves; running = safe.running };
  }

  -- the last of them may go on, and so may one before it
  last_may : (f b : FlusherState D) (rounds : List (FlusherState D)) (e : FlusherState D) → AreRounds state f rounds b → MayFollow f rounds → MayGoOn b → MayFollow f (rounds ++ e ∷ [])
  last_may f b [] e same may goes = λ broke none. goes (ap (λ (x : FlusherState D). x.journal.broken) same ∙ broke) (ap (λ (x : FlusherState D). x.kept) same ∙ none)
  last_may f b (g ∷ rounds) e turn may goes = may

  -- one round more
  one_more : (a b e : FlusherState D) (rounds : List (FlusherState D)) → AreRounds state a rounds b → IsMadeRound state b e → MayFollow b rounds → AreRounds state a (rounds ++ e ∷ []) e
  one_more a b e [] same made may = (over_made a e b.line.over (subst (λ f. IsMadeRound state f e) same made), tt, refl)
  one_more a b e (f ∷ rounds) turn made may =
      (turn.0, last_may f b rounds e turn.2 turn.1 may, one_more f b e rounds turn.2 made (may_follow b rounds may))

  -- or none, and it is over
  none_more : (a b e : FlusherState D) (rounds : List (FlusherState D)) → AreRounds state a rounds b → e ≡ over_now b → AreRounds state a rounds e
  none_more a b e [] same over =
      over ∙ ap (λ (f : FlusherState D). over_now f) same ∙ ap (λ (p : Bool). with_end p a) (sym (ap (λ (f : FlusherState D). f.line.over) over))
  none_more a b e (f ∷ rounds) turn over = (turn.0, turn.1, none_more f b e rounds turn.2 over)

module _ {D : Type 0} (state : D → DiskState) (consistent : (disk : D) → (state disk).honest → Consistent (state disk)) where
  -- no round was made
  pub continued_first : (f : FlusherState D) → IsOneHistory state f → IsContinued state f f
  continued_first f history = record {
    first = refl;
    of = refl;
    start = refl;
    names = refl;
    history = history;
    grew = record { added = []; history = sym (append-nil f.line.history); truthful = tt };
    broke = λ broke. inl broke;
    later = record { size = refl; honest = (λ h. h, λ h. h); calls = omega arith; failures = omega arith; syncs = omega arith; failed_reads = omega arith };
    rounds = [];
    in_turn = refl;
    any_moment = λ honest sound. (
      record {
        went_on = ([], sym (append-nil f.line.history));
        leaves = started (state f.journal.disk) (IsLeftIn (state f.journal.disk) f.line.start f.line.history f.line.history) (consistent f.journal.disk honest) (history.kept honest sound);
      },
      tt,
    );
  }

  pub first_may : (f : FlusherState D) (history : IsOneHistory state f) → MayFollow f (continued_first f history).rounds
  unfolding continued_first
  first_may f history = tt

  module _ (a b e : FlusherState D) (so_far : IsContinued state a b) (may : MayFollow b so_far.rounds) (made : Bool) (took : MatchBool made (IsOneRound state b e) (e ≡ over_now b)) (first : e.first ≡ b.first) (of : e.line.of ≡ b.line.of) (start : e.line.start ≡ b.line.start) (names : names_of e.line.lines ≡ names_of b.line.lines)
      (history : IsOneHistory state e) (grew : GrewInRound state b e) (later : Later (state b.journal.disk) (state e.journal.disk))
      (safe : (state b.journal.disk).honest → b.first.broken ≡ false → IsCrashSafe state b e) where
    abbrev Failed : Type 0
    Failed = HasFailed (state a.journal.disk) (state e.journal.disk)

    abbrev Broken : Type 0
    Broken = (a.journal.broken ≡ true) ⊎ Failed

    abbrev Unread : Type 0
    Unread = HasFailedRead (state a.journal.disk) (state e.journal.disk)

    -- a journal that was broken, was so at first or broke since
    since : b.journal.broken ≡ true → Broken
    since broke = ⊎_elim (λ was. inl was) (λ rose. inr (rose_later (state a.journal.disk) rose later)) (so_far.broke broke)

    broke_in : (calls : List Call) (given : List Answer) → IsRound state b.journal e.journal calls given → e.journal.broken ≡ true → Broken
    broke_in calls given (inl was) broke = since was.0
    broke_in calls given (inr (inl shut)) broke = still_whole b.journal e.journal calls shut.0 shut.1.0 broke
    broke_in calls given (inr (inr (inl went))) broke = absurd (false≢true (sym went.1.broken ∙ broke))
    broke_in calls given (inr (inr (inr breaks))) broke = inr (rose_earlier (state e.journal.disk) so_far.later breaks.2)

    broke_by : (made : Bool) → MatchBool made (IsOneRound state b e) (e ≡ over_now b) → e.journal.broken ≡ true → Broken
    broke_by true one broke = broke_in one.calls one.given one.round broke
    broke_by false same broke = since (sym (ap (λ (f : FlusherState D). f.journal.broken) same) ∙ broke)

    -- while a journal is broken, each call is refused so
    answered_broken : (calls : List Call) (given : List Answer) → IsRound state b.journal e.journal calls given → b.journal.broken ≡ true → AllByRecursion AsBroken (zip calls given)
    answered_broken calls given (inl was) broke = subst (λ g. AllByRecursion AsBroken (zip calls g)) (sym was.1) (all_broken b.journal.position calls)
    answered_broken calls given (inr (inl shut)) broke = absurd (false≢true (sym shut.0 ∙ broke))
    answered_broken calls given (inr (inr (inl went))) broke = absurd (false≢true (sym went.0 ∙ broke))
    answered_broken calls given (inr (inr (inr breaks))) broke = absurd (false≢true (sym breaks.0 ∙ broke))

    added_broken : (made : Bool) → MatchBool made (IsOneRound state b e) (e ≡ over_now b) → b.journal.broken ≡ true → AllByRecursion AsBroken grew.added
    added_broken true one broke = subst (AllByRecursion AsBroken) (append_cancel_left b.line.history (zip one.calls one.given) grew.added (sym one.history ∙ grew.history))
        (answered_broken one.calls one.given one.round broke)
    added_broken false same broke = subst (AllByRecursion AsBroken)
        (append_cancel_left b.line.history [] grew.added (append-nil b.line.history ∙ sym (ap (λ (f : FlusherState D). f.line.history) same) ∙ grew.history)) tt

    -- a command accepted up to a moment was accepted before this round
    held : (state b.journal.disk).honest → (f : FlusherState D) → IsKeptSince state a.line.start b f → (round : IsCrashSafe state b e) (image : List ℕ) → Stands image (state_reached b) ⊎ Stands image round.target
        → IsLeftIn (state f.journal.disk) a.line.start f.line.history e.line.history image
    held right f kept round image stands =
        let left = left_in state consistent b e round so_far.history.legal_but_for_bytes (subst (λ s. LegalButForBytes s e.line.history) start history.legal_but_for_bytes)
        (subst (λ s. e.journal.broken ≡ false → e.journal.state ≡ fold_of_history s e.line.history) start history.state_is) f.line.history
        (accepted_of kept.went_on.0, ap accepted_of kept.went_on.1 ∙ accepted_append f.line.history kept.went_on.0) so_far.history.harmless (state f.journal.disk) (λ _. right) grew.added grew.history (added_broken made took) image stands in
        subst (λ s. IsLeftIn (state f.journal.disk) s f.line.history e.line.history image) so_far.start left

    -- if a round before broke the journal, it is broken
    was_broken : (broken : Bool) → b.journal.broken ≡ broken → (before round rest : List Entry) → b.line.history ≡ before ++ (round ++ rest) → IsBreaking before round rest → b.journal.broken ≡ true
    was_broken true broke before round rest whole breaks = broke
    was_broken false goes before round rest whole breaks = harmful before round rest breaks.some breaks.unsure (subst AreHarmless whole (so_far.history.harmless goes))

    still_written : (disk : DiskState) (before round rest : List Entry) (s : State (List ℕ)) → b.line.history ≡ before ++ (round ++ rest) → IsWritten disk a.line.start before round rest s
        → IsWritten disk a.line.start before round (rest ++ grew.added) s
    still_written disk before round rest s whole written = record {
      given = written.given;
      served = written.served;
      answered = ⊎_elim (λ same. inl same) (λ breaks. inr (record {
        some = breaks.some;
        unsure = breaks.unsure;
        harmless = breaks.harmless;
        broken = all_append AsBroken rest grew.added breaks.broken (added_broken made took (was_broken b.journal.broken refl before round rest whole breaks));
      })) written.answered;
    }

    -- an earlier round is one of the longer history
    longer : (f : FlusherState D) (image : List ℕ) → IsLeftIn (state f.journal.disk) a.line.start f.line.history b.line.history image → IsLeftIn (state f.journal.disk) a.line.start f.line.history e.line.history image
    longer f image left = record {
      before = left.before;
      round = left.round;
      rest = left.rest ++ grew.added;
      whole = grew.history ∙ ap (λ h. h ++ grew.added) left.whole ∙ append_assoc left.before (left.round ++ left.rest) grew.added ∙ ap (λ h. left.before ++ h) (append_assoc left.round left.rest grew.added);
      holds = left.holds;
      stands = ⊎_elim (λ held. inl held) (λ held. inr (held.0, still_written (state f.journal.disk) left.before left.round left.rest held.0 left.whole held.1, held.2)) left.stands;
    }

    kept_on : (state b.journal.disk).honest → IsCrashSafe state b e → (f : FlusherState D) → IsKeptSince state a.line.start b f → IsKeptSince state a.line.start e f
    kept_on right round f kept = record {
      went_on = (kept.went_on.0 ++ grew.added, grew.history ∙ ap (λ h. h ++ grew.added) kept.went_on.1 ∙ append_assoc f.line.history kept.went_on.0 grew.added);
      leaves = weaker _ (IsLeftIn (state f.journal.disk) a.line.start f.line.history e.line.history) (λ image. ⊎_elim (longer f image) (held right f kept round image))
          (joined (IsLeftIn (state f.journal.disk) a.line.start f.line.history b.line.history) (λ image. Stands image (state_reached b) ⊎ Stands image round.target) kept.leaves round.leaves);
    }

    -- from its end on
    kept_now : (state e.journal.disk).honest → e.first.broken ≡ false → IsKeptSince state a.line.start e e
    kept_now honest sound = record {
      went_on = ([], sym (append-nil e.line.history));
      leaves = subst (λ s. LeavesOnly (state e.journal.disk) (state e.journal.disk) (IsLeftIn (state e.journal.disk) s e.line.history e.line.history)) (start ∙ so_far.start)
          (started (state e.journal.disk) (IsLeftIn (state e.journal.disk) e.line.start e.line.history e.line.history) (consistent e.journal.disk honest) (history.kept honest sound));
    }

    abbrev rounds_by : Bool → List (FlusherState D)
    rounds_by true = so_far.rounds ++ e ∷ []
    rounds_by false = so_far.rounds

    turn_by : (made : Bool) → MatchBool made (IsOneRound state b e) (e ≡ over_now b) → AreRounds state a (rounds_by made) e
    turn_by true one = one_more state a b e so_far.rounds so_far.in_turn (record { one = one; any_moment = safe }) may
    turn_by false same = none_more state a b e so_far.rounds so_far.in_turn same

    all_kept : (made : Bool) → AllByRecursion (IsKeptSince state a.line.start e) (a ∷ so_far.rounds) → IsKeptSince state a.line.start e e
        → AllByRecursion (IsKeptSince state a.line.start e) (a ∷ rounds_by made)
    all_kept true all now = (all.0, all_and_last (IsKeptSince state a.line.start e) so_far.rounds e all.1 now)
    all_kept false all now = all

    pub continued_next : IsContinued state a e
    continued_next = record {
      first = first ∙ so_far.first;
      of = of ∙ so_far.of;
      start = start ∙ so_far.start;
      names = names ∙ so_far.names;
      history = history;
      grew = record {
        added = so_far.grew.added ++ grew.added;
        history = grew.history ∙ ap (λ h. h ++ grew.added) so_far.grew.history ∙ append_assoc a.line.history so_far.grew.added grew.added;
        truthful = all_append (IsTruthful Failed Broken Unread) so_far.grew.added grew.added
            (still_truthful _ _ _ Failed Broken Unread (λ rose. rose_later (state a.journal.disk) rose later)
            (⊎_elim (λ was. inl was) (λ rose. inr (rose_later (state a.journal.disk) rose later))) (λ rose. unread_later (state a.journal.disk) rose later) so_far.grew.added so_far.grew.truthful)
            (still_truthful _ _ _ Failed Broken Unread (rose_earlier (state e.journal.disk) so_far.later) since (unread_earlier (state e.journal.disk) so_far.later) grew.added grew.truthful);
      };
      broke = broke_by made took;
      later = later_again so_far.later later;
      rounds = rounds_by made;
      in_turn = turn_by made took;
      any_moment = λ honest sound.
          let still = so_far.later.honest.1 honest in
          let whole = ap (λ (j : JournalState D). j.broken) so_far.first ∙ sound in
          all_kept made (all_mapped (IsKeptSince state a.line.start b) (IsKeptSince state a.line.start e) (kept_on still (safe still whole)) (a ∷ so_far.rounds) (so_far.any_moment honest sound))
          (kept_now (later.honest.1 still) (ap (λ (j : JournalState D). j.broken) first ∙ whole));
    }
