-- A reply reports a failed read only if one failed in its round.
use Rattle.rly_journal.proofs.Common.{[], Answer, ap, are_reads, AreFetches, AreFetching, AreLostWhereWanted, AreReadsOf, AreTried, AreUnreadWhere, arith, Bool}
use Rattle.rly_journal.proofs.Common.{Broken, Bytes, Call, count_joined, DeviceEvent, DeviceRead, DiskState, victim_reads_for, Entry, false, fetch_reply, HasBytes}
use Rattle.rly_journal.proofs.Common.{HasFailedRead, inl, inr, is_spent, IsRound, item_of, JournalState, Later, List, MakesRound, MakesShut, MayWantBytes}
use Rattle.rly_journal.proofs.Common.{nat_tests, next_state, reads_sound, refl, Refusal, refusals, Refused, Reply, round_tries, row_of, row_tried, State, Tries}
use Rattle.rly_journal.proofs.Common.{true, Try, Unsure, zip, ℕ, ◌++◌, ◌∙◌, ◌∷◌, ◌≡◌, ◌⊎◌}
use Rattle.rly_machine.specs.declared.command.Ask.{Ask}
use Rattle.rly_machine.specs.declared.command.Ask.TheVariants as ask
use Rattle.rly_machine.specs.declared.command.Query.TheVariants.{Fetch}
use Rattle.rly_journal.proofs.Counted.{IsUnread, drawing_reads, row_alone}
use Rattle.rly_journal.proofs.Reading.{row_read}

-- a rise is also one from an earlier state, and to a later one
pub unread_earlier : {a b : DiskState} (e : DiskState) → Later a b → HasFailedRead b e → HasFailedRead a e
unread_earlier e first rose = grind (arith, first.failed_reads)

pub unread_later : (a : DiskState) {b e : DiskState} → HasFailedRead a b → Later b e → HasFailedRead a e
unread_later a rose second = grind (arith, second.failed_reads, second.calls)

-- ---- lists of calls, one of which has only reads and was cut

abbrev HasCut : List Try → Type 0
HasCut [] = ⊥
HasCut (row ∷ rows) = ((row.whole ≡ false) × (are_reads row.calls ≡ true)) ⊎ HasCut rows

cut_behind : (first rest : List Try) → HasCut rest → HasCut (first ++ rest)
cut_behind [] rest cut = cut
cut_behind (row ∷ first) rest cut = inr (cut_behind first rest cut)

cut_unread : (spent : Bool) (rows : List Try) (events : List DeviceEvent) → AreTried spent rows events → HasCut rows → IsUnread spent events
cut_unread spent [] events tried cut = absurd cut
cut_unread spent (row ∷ rows) events tried (inl cut) =
    rw tried.2 (omega (arith, count_joined, (row_alone (row_of row.whole spent row.calls tried.0 tried.3) (reads_sound row.calls cut.1, λ _. cut.1)).1 cut.0))
cut_unread spent (row ∷ rows) events tried (inr cut) = rw tried.2 (omega (arith, count_joined, cut_unread spent rows tried.1 tried.4 cut))

-- ---- the reads of Fetches

fetch_cut : (reply : Reply) (rows rest : List Try) → HasBytes reply → AreFetching reply (Refused DeviceRead) rows → HasCut (rows ++ rest)
fetch_cut (Bytes payload limit) rows rest has fetching = rw fetching.2 (inl (refl, row_read fetching.0 (Refused DeviceRead)))
fetch_cut reply rows rest has fetching = absurd has

-- a request that may get the reply 13 is a Fetch
ask_cut : (s : State (List ℕ)) (a : Ask) (rows rest : List Try) → MayWantBytes s a → AreReadsOf s a (Refused DeviceRead) rows → HasCut (rows ++ rest)
ask_cut s (ask.Command command) rows rest may reads = absurd may
ask_cut s (ask.Query (Fetch hop number)) rows rest may reads = fetch_cut (fetch_reply (item_of s hop number)) rows rest may reads
ask_cut s (ask.Query query) rows rest may reads = absurd (grind arith)

entries_cut : (Holds : Type 0) (s : State (List ℕ)) (entries : List Entry) (rows : List Try) → AreLostWhereWanted s entries → AreFetches s entries rows
    → (HasCut rows → Holds) → AreUnreadWhere Holds entries
entries_cut Holds s [] rows wanted fetches why = tt
entries_cut Holds s (entry ∷ entries) rows wanted fetches why =
    let more = entries_cut Holds (next_state s entry) entries fetches.1 wanted.2 fetches.4 (λ cut. why (rw fetches.2 (cut_behind fetches.0 fetches.1 cut))) in
    ((λ told. why (rw fetches.2 (ask_cut s entry.0.ask fetches.0 fetches.1 (wanted.1 told) (rw told at fetches.3)))), more)

-- calls that were all refused
refused_where : (Holds : Type 0) (refusal : Refusal) (p : ℕ) (calls : List Call) → (Refused refusal ≡ Refused DeviceRead → Holds)
    → AreUnreadWhere Holds (zip calls (refusals refusal p calls))
refused_where Holds refusal p [] why = tt
refused_where Holds refusal p (call ∷ calls) why = (why, refused_where Holds refusal p calls why)

-- ---- on a disk

module _ {D : Type 0} (state : D → DiskState) (old new : JournalState D) (calls : List Call) where
  abbrev Unread : Type 0
  Unread = HasFailedRead (state old.disk) (state new.disk)

  tried_unread : (rows : List Try) → Tries state rows old.disk new.disk → HasCut rows → Unread
  tried_unread rows tries cut =
      let unread = cut_unread (is_spent (state new.disk)) rows tries.events tries.tried cut in
      let counted = tries.leads.failed_reads in grind (arith, nat_tests)

  -- calls that were served, or refused because no segment was opened
  abbrev Traced : List Answer → Type 0
  Traced given =
      MakesRound state old new calls [] given
      ⊎ ((new.state ≡ old.state) × (told : Refusal) × (given ≡ refusals told old.position calls) × MakesShut state old new calls told)

  traced : (given : List Answer) → new.broken ≡ false → Traced given → AreUnreadWhere Unread (zip calls given)
  traced given whole (inl made) =
      rw (made.told whole) (entries_cut Unread old.state (zip calls made.given) made.fetches made.wanted (made.read whole)
      (λ cut. tried_unread _ made.makes (cut_behind (round_tries old.tail made.opened _ _) made.fetches cut)))
  traced given whole (inr none) = rw none.2 (refused_where Unread none.1 old.position calls (λ same. elim none.3.makes [
    | inl memory ↦ cc memory.0
    | inr (inl read) ↦ tried_unread _ (row_tried state (victim_reads_for old.tail none.3.r) false read.2) (inl (refl, drawing_reads old.tail none.3.r))
    | inr (inr failed) ↦ cc
  ]))

  -- the calls of a round
  pub round_unread : (given : List Answer) → IsRound state old new calls given → (old.broken ≡ false → Traced given) → AreUnreadWhere Unread (zip calls given)
  round_unread given (inl was) trace = rw was.1 (refused_where Unread Broken old.position calls (λ same. cc))
  round_unread given (inr (inl shut)) trace = traced given (ap (λ (j : JournalState D). j.broken) shut.1.0.same ∙ shut.0) (trace shut.0)
  round_unread given (inr (inr (inl went))) trace = traced given went.1.broken (trace went.0)
  round_unread given (inr (inr (inr breaks))) trace = rw breaks.1.unsure (refused_where Unread Unsure old.position calls (λ same. cc))
