-- Rounds of lines, of which some are lost.
use Rattle.std.proofs.Common.{◌≡◌, ◌≤◌, ℕ, List, [], ◌∷◌, ◌++◌, length, refl, sym, ◌∙◌, ap, subst, arith, append_assoc, inl, inr, ⊎_elim}
use Rattle.std.specs.List.{AllByRecursion}
use Rattle.rly_core.specs.declared.refusal.Refusal.TheVariants.{Broken}
use Rattle.rly_disk.specs.DiskModel.{DiskState, HasFailed, Later}
use Rattle.rly_disk.proofs.Composition.{later_again}
use Rattle.rly_journal.specs.Journal.{HasFailedRead, OnlyReadsFailed}
use Rattle.rly_journal.proofs.Unread.{unread_earlier, unread_later}
use Rattle.rly_daemon_lines.specs.PlayedText.{AreLinesLostWhereWanted, AreLinesRefused, AreLossyRounds, AreUnreadOnlyWhere, ServedLine, lines_in, state_behind, state_behind_all}
use Rattle.rly_daemon_lines.specs.Text.{ByteState}
use Rattle.rly_daemon_lines.proofs.LineAnswers.{broken_not_starved, broken_not_unread, refused_split, states_append}

pub later_same : (a : DiskState) → Later a a
later_same a = record {
  size = refl;
  honest = (λ h. h, λ h. h);
  calls = omega arith;
  failures = omega arith;
  syncs = omega arith;
  failed_reads = omega arith;
}

-- ---- a read that failed

-- is a call that failed, if only reads did
pub failed_by_read : (a b : DiskState) → OnlyReadsFailed a b → HasFailedRead a b → HasFailed a b
failed_by_read a b only rose = ⊎_elim (λ more. inl (omega (arith, only, more))) (λ spent. inr spent) rose

-- ---- a list of rounds, and then another

pub lines_append : (xs ys : List (List ServedLine)) → lines_in (xs ++ ys) ≡ lines_in xs ++ lines_in ys
lines_append [] ys = refl
lines_append (x ∷ xs) ys = ap (λ l. x ++ l) (lines_append xs ys) ∙ sym (append_assoc x (lines_in xs) (lines_in ys))

pub few_append : (batch : ℕ) (xs ys : List (List ServedLine)) → AllByRecursion (λ round. length round ≤ batch) xs → AllByRecursion (λ round. length round ≤ batch) ys
    → AllByRecursion (λ round. length round ≤ batch) (xs ++ ys)
few_append batch [] ys h k = k
few_append batch (x ∷ xs) ys h k = (h.0, few_append batch xs ys h.1 k)

unread_append : (Holds : Type 0) (xs ys : List ServedLine) → AreUnreadOnlyWhere Holds xs → AreUnreadOnlyWhere Holds ys → AreUnreadOnlyWhere Holds (xs ++ ys)
unread_append Holds [] ys h k = k
unread_append Holds (x ∷ xs) ys h k = (h.0, unread_append Holds xs ys h.1 k)

unread_weaker : (Holds Also : Type 0) (told : List ServedLine) → (Holds → Also) → AreUnreadOnlyWhere Holds told → AreUnreadOnlyWhere Also told
unread_weaker Holds Also [] more h = tt
unread_weaker Holds Also (one ∷ told) more h = ((λ unread. more (h.0 unread)), unread_weaker Holds Also told more h.1)

-- lines that a broken journal refused are not lost
pub broken_wanted : (s : ByteState) (told : List ServedLine) → AreLinesRefused Broken told → AreLinesLostWhereWanted s told
broken_wanted s [] refused = tt
broken_wanted s (one ∷ told) refused = (
  (λ same. absurd (broken_not_starved one.0 one.1 refused.0 same)),
  (λ same. absurd (broken_not_unread one.0 one.1 refused.0 same)),
  broken_wanted (state_behind s one.0 one.1) told refused.1,
)

pub broken_unread : (Holds : Type 0) (told : List ServedLine) → AreLinesRefused Broken told → AreUnreadOnlyWhere Holds told
broken_unread Holds [] refused = tt
broken_unread Holds (one ∷ told) refused = ((λ same. absurd (broken_not_unread one.0 one.1 refused.0 same)), broken_unread Holds told refused.1)

module _ {D : Type 0} (state : D → DiskState) where
  pub rounds_append : (a b c : D) (s : ByteState) (xs ys : List (List ServedLine)) → AreLossyRounds state a b s xs
      → AreLossyRounds state b c (state_behind_all s (lines_in xs)) ys → AreLossyRounds state a c s (xs ++ ys)
  rounds_append a b c s [] ys h k = subst (λ d. AreLossyRounds state d c s ys) h k
  rounds_append a b c s (x ∷ xs) ys h k = (
    h.0,
    h.1,
    rounds_append h.0 b c (state_behind_all s x) xs ys h.2 (subst (λ r. AreLossyRounds state b c r ys) (states_append s x (lines_in xs)) k),
  )

  -- the refusals of a broken journal don't depend on the state
  pub rounds_broken : (a b : D) (s t : ByteState) (rounds : List (List ServedLine)) → AreLinesRefused Broken (lines_in rounds) → AreLossyRounds state a b s rounds
      → AreLossyRounds state a b t rounds
  rounds_broken a b s t [] refused h = h
  rounds_broken a b s t (round ∷ rounds) refused h =
      let parts = refused_split Broken round (lines_in rounds) refused in (
        h.0,
        record { wanted = inl (broken_wanted t round parts.0); unread = h.1.unread; later = h.1.later },
        rounds_broken h.0 b (state_behind_all s round) (state_behind_all t round) rounds parts.1 h.2,
      )

  rounds_later : (a b : D) (s : ByteState) (rounds : List (List ServedLine)) → AreLossyRounds state a b s rounds → Later (state a) (state b)
  rounds_later a b s [] h = subst (λ d. Later (state a) (state d)) (sym h) (later_same (state a))
  rounds_later a b s (round ∷ rounds) h = later_again h.1.later (rounds_later h.0 b (state_behind_all s round) rounds h.2)

  -- 13 is a reply in them only if a read failed
  pub rounds_unread : (a b : D) (s : ByteState) (rounds : List (List ServedLine)) → AreLossyRounds state a b s rounds
      → AreUnreadOnlyWhere (HasFailedRead (state a) (state b)) (lines_in rounds)
  rounds_unread a b s [] h = tt
  rounds_unread a b s (round ∷ rounds) h =
      let behind = rounds_later h.0 b (state_behind_all s round) rounds h.2 in
      unread_append (HasFailedRead (state a) (state b)) round (lines_in rounds)
      (unread_weaker (HasFailedRead (state a) (state h.0)) (HasFailedRead (state a) (state b)) round (λ rose. unread_later (state a) rose behind) h.1.unread)
      (unread_weaker (HasFailedRead (state h.0) (state b)) (HasFailedRead (state a) (state b)) (lines_in rounds) (λ rose. unread_earlier (state b) h.1.later rose)
      (rounds_unread h.0 b (state_behind_all s round) rounds h.2))

  pub none_unread : (a b : D) (s : ByteState) (rounds : List (List ServedLine)) → AreLossyRounds state a b s rounds → (HasFailedRead (state a) (state b) → ⊥)
      → AreUnreadOnlyWhere ⊥ (lines_in rounds)
  none_unread a b s rounds h calm = unread_weaker (HasFailedRead (state a) (state b)) ⊥ (lines_in rounds) calm (rounds_unread a b s rounds h)
