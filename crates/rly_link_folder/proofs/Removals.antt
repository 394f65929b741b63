-- Removals: one list of numbers after another, and cut off at a call that failed.
use Rattle.std.proofs.Common.{[], arith, Bool, false, true, List, refl, ℕ, ◌++◌, ◌+◌, ◌∷◌, ◌≡◌, ◌<◌, length, take, drop, get_or}
use Rattle.std.proofs.lemmas.List.{take-append-drop, take_more}
use Rattle.std.proofs.lemmas.Bool.Decides.{nat_tests}
use Rattle.std.specs.Prelude.{nat_lt}
use Rattle.rly_folder.specs.FolderCalls.{Did, Faulted, Makes, Remove, Sync}
use Rattle.rly_folder.specs.FolderModel.{FolderState}
use Rattle.rly_folder.specs.Names.{name_of}
use Rattle.rly_folder.specs.declared.name.Area.TheVariants.{Sent}
use Rattle.rly_link_folder.specs.InboxCalls.{AreRemovals, IsRemoval, Removes, RemovesTo}
use Rattle.rly_link_folder.specs.OutboxCalls.{if_linked}
use Rattle.rly_link_folder.specs.Script.{Step}
use Rattle.rly_link_folder.proofs.Made.{cut, fault, joined, last, more, nothing, sound_link}

more_removed : (below : Bool) (n : ℕ) (steps rest more : List Step) → IsRemoval below n steps rest → IsRemoval below n (steps ++ more) (rest ++ more)
more_removed true n steps rest more is = (is.0, rw is.1 refl)
more_removed false n steps rest more is = rw is refl

append : (custody : ℕ) (xs ys : List ℕ) (sx sy : List Step) → AreRemovals custody xs sx → AreRemovals custody ys sy → AreRemovals custody (xs ++ ys) (sx ++ sy)
append custody [] ys sx sy one two = rw one two
append custody (x ∷ xs) ys sx sy one two =
    (one.0 ++ sy, more_removed (nat_lt x custody) x sx one.0 sy one.1, append custody xs ys one.0 sy one.2 two)

some_removal : (below : Bool) (n : ℕ) (rest : List Step) → (steps : List Step) × IsRemoval below n steps rest
some_removal true n rest = ((Remove (name_of Sent n), if_linked true) ∷ rest, (true, refl))
some_removal false n rest = (rest, refl)

pub some_removals : (custody : ℕ) (xs : List ℕ) → (steps : List Step) × AreRemovals custody xs steps
some_removals custody [] = ([], refl)
some_removals custody (x ∷ xs) = let rest = some_removals custody xs in let one = some_removal (nat_lt x custody) x rest.0 in
    (one.0, (rest.0, one.1, rest.1))

module _ {D : Type 0} (state : D → FolderState) (custody : ℕ) where
  pub removes_joined : {a m b : D} {whole : Bool} (xs ys : List ℕ) → Removes state custody xs true a m → Removes state custody ys whole m b
      → Removes state custody (xs ++ ys) whole a b
  removes_joined xs ys one two = record {
    steps = one.steps ++ two.steps;
    removals = append custody xs ys one.steps two.steps one.removals two.removals;
    makes = joined state one.makes two.makes;
  }

  pub removes_cut : {a b : D} (xs ys : List ℕ) → Removes state custody xs false a b → Removes state custody (xs ++ ys) false a b
  removes_cut xs ys one = let rest = some_removals custody ys in record {
    steps = one.steps ++ rest.0;
    removals = append custody xs ys one.steps rest.0 one.removals rest.1;
    makes = cut state rest.0 one.makes;
  }

  pub removes_none : {a : D} → Removes state custody [] true a a
  removes_none {a} = record { steps = []; removals = refl; makes = nothing state }

  pub removes_next : {a m b : D} {whole : Bool} (xs : List ℕ) (i n : ℕ) → i < length xs → n ≡ get_or xs i 0
      → Removes state custody (take i xs) true a m → Removes state custody (n ∷ []) whole m b → Removes state custody (take (i + 1) xs) whole a b
  removes_next xs i n below at one two = rw (take_more xs i 0 below, ← at) (removes_joined (take i xs) (n ∷ []) one two)

  pub removes_stop : {a m b : D} (xs : List ℕ) (i n : ℕ) → i < length xs → n ≡ get_or xs i 0
      → Removes state custody (take i xs) true a m → Removes state custody (n ∷ []) false m b → Removes state custody xs false a b
  removes_stop xs i n below at one two =
      rw (take-append-drop (i + 1) xs) at (removes_cut (take (i + 1) xs) (drop (i + 1) xs) (removes_next xs i n below at one two))

  below : (n : ℕ) → n < custody → nat_lt n custody ≡ true
  below n lt = grind (arith, nat_tests)

  pub removes_fault : {a b : D} (n : ℕ) → n < custody → Makes state (Remove (name_of Sent n)) Faulted a b → Removes state custody (n ∷ []) false a b
  removes_fault n lt trace = record {
    steps = (Remove (name_of Sent n), Did) ∷ [];
    removals = ([], rw (below n lt) (true, refl), refl);
    makes = fault state (Remove (name_of Sent n)) Did [] trace;
  }

  pub removes_one : {a b : D} (n : ℕ) (there : Bool) → n < custody → Makes state (Remove (name_of Sent n)) (if_linked there) a b
      → Removes state custody (n ∷ []) true a b
  removes_one n there lt trace = record {
    steps = (Remove (name_of Sent n), if_linked there) ∷ [];
    removals = ([], rw (below n lt) (there, refl), refl);
    makes = last state (Remove (name_of Sent n)) (if_linked there) (sound_link there) trace;
  }

  module _ (xs : List ℕ) where
    pub up_to_cut : {a b : D} → Removes state custody xs false a b → RemovesTo state custody xs false a b
    up_to_cut one = record { steps = one.steps; removals = one.removals; there = true; makes = cut state _ one.makes }

    pub up_to_sync : {a m b : D} → Removes state custody xs true a m → Makes state Sync Faulted m b → RemovesTo state custody xs false a b
    up_to_sync one sync = record {
      steps = one.steps;
      removals = one.removals;
      there = true;
      makes = joined state one.makes (fault state Sync Did _ sync);
    }

    pub up_to_last : {a m n b : D} → Removes state custody xs true a m → Makes state Sync Did m n
        → Makes state (Remove (name_of Sent custody)) Faulted n b → RemovesTo state custody xs false a b
    up_to_last one sync trace = record {
      steps = one.steps;
      removals = one.removals;
      there = true;
      makes = joined state one.makes (more state Sync Did refl sync (fault state (Remove (name_of Sent custody)) (if_linked true) [] trace));
    }

    pub up_to_all : {a m n b : D} (there : Bool) → Removes state custody xs true a m → Makes state Sync Did m n
        → Makes state (Remove (name_of Sent custody)) (if_linked there) n b → RemovesTo state custody xs true a b
    up_to_all there one sync trace = record {
      steps = one.steps;
      removals = one.removals;
      there = there;
      makes = joined state one.makes (more state Sync Did refl sync (last state (Remove (name_of Sent custody)) (if_linked there) (sound_link there) trace));
    }
