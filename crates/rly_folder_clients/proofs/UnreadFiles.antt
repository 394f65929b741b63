-- Files that a reader opens to a number: the changes that leave them so.
use Rattle.std.proofs.Common.{[], ap, arith, Bool, false, true, if◌then◌else◌, inl, inr, IsSome, List, None, refl, Some, subst, sym, ⊎_elim, ℕ, Option, ◌∷◌, ◌<◌, ◌≤◌, ◌≡◌, ◌⊎◌, ◌∙◌}
use Rattle.std.proofs.lemmas.Bool.Decides.{nat_tests}
use Rattle.std.specs.Prelude.{◌&&◌, ◌==◌, ◌||◌, is_none, is_some}
use Rattle.rly_folder.specs.FolderModel.{Contents, File, file_with, Files, with_file}
use Rattle.rly_folder.specs.FolderCalls.{files_after, is_declined, Link, Remove, Rename}
use Rattle.rly_folder.specs.Names.{is_same_name, name_of}
use Rattle.rly_folder.specs.declared.name.Area.TheVariants.{Out, Printed}
use Rattle.rly_folder.specs.declared.name.Name.{Name}
use Rattle.rly_folder.proofs.Names.{same_name, same_self}
use Rattle.rly_folder_clients.specs.Reading.{Spares, Unread, UnreadFrom}
use Rattle.rly_folder_clients.proofs.Calls.{Keeps}

-- a name's file after a change of another name, or of its own
at_name : (other name : Name) (new old : Option File) (Q : Option File → Type 0) → (other ≡ name → Q new) → Q old
    → Q (if is_same_name other name then new else old)
at_name other name new old Q fresh rest = by_test (is_same_name other name) (same_name other name)
  where
    by_test : (b : Bool) → (b ≡ true → other ≡ name) → Q (if b then new else old)
    by_test true is = fresh (is refl)
    by_test false is = rest

apart : (one other : Name) → (one ≡ other → ⊥) → is_same_name one other ≡ false
apart one other differ = by_test (is_same_name one other) (same_name one other)
  where
    by_test : (b : Bool) → (b ≡ true → one ≡ other) → b ≡ false
    by_test true is = absurd (differ (is refl))
    by_test false is = refl

differs : (n m : ℕ) → m < n → is_same_name (name_of Printed n) (name_of Printed m) ≡ false
differs n m less = apart _ _ (λ (is : name_of Printed n ≡ name_of Printed m). absurd (omega (arith, less, number is)))
  where
    number : name_of Printed n ≡ name_of Printed m → n ≡ m
    number is = ap (λ name. name.number) is

out_differs : (n m : ℕ) → m < n → is_same_name (name_of Out n) (name_of Out m) ≡ false
out_differs n m less = apart _ _ (λ (is : name_of Out n ≡ name_of Out m). absurd (omega (arith, less, number is)))
  where
    number : name_of Out n ≡ name_of Out m → n ≡ m
    number is = ap (λ name. name.number) is

module _ (waits : ℕ → Option File) where
  -- a change by another program
  module _ (given : Name → Option File → Bool) (spares : Spares waits given) (name : Name) (file : Option File) (is_given : given name file ≡ true) where
    hidden_left : (c : Files) (n : ℕ) → with_file name file c (name_of Printed n) ≡ c (name_of Printed n)
    hidden_left c n = at_name (name_of Printed n) name file (c (name_of Printed n)) (λ f. f ≡ c (name_of Printed n))
        (λ is. absurd (cc (is_given, is, spares.hidden n file))) refl

    waiting_left : (c : Files) (n : ℕ) (payload : File) → waits n ≡ Some payload → c (name_of Out n) ≡ Some payload → with_file name file c (name_of Out n) ≡ Some payload
    waiting_left c n payload waiting here = at_name (name_of Out n) name file (c (name_of Out n)) (λ f. f ≡ Some payload)
        (λ is. spares.waiting n payload file waiting (rw (← is) at is_given)) here

    pub unread_left : (last : ℕ) → Keeps (Unread waits last) (with_file name file)
    unread_left last c p = record {
      kept = rw (hidden_left c last) p.kept;
      bound = λ n above. rw (hidden_left c n) (p.bound n above);
      there = λ n payload waiting above. waiting_left c n payload waiting (p.there n payload waiting above);
    }

  -- a file of no greater number is removed
  pub removal_keeps : (last number : ℕ) → number ≤ last → Keeps (Unread waits last) (with_file (name_of Out number) None)
  removal_keeps last number below c p = record {
    kept = p.kept;
    bound = p.bound;
    there = λ n payload waiting above. rw (out_differs n number (omega (arith, below, above))) (p.there n payload waiting above);
  }

  -- a hidden name gets the next number
  module _ (last number : ℕ) (above : last < number) where
    abbrev From : Files → Type 0
    From c = UnreadFrom waits last number c

    hidden_above : (c : Files) → From c → (n : ℕ) → number < n → c (name_of Printed n) ≡ None
    hidden_above c from n over = ⊎_elim (λ p. p.bound n (omega (arith, above, over))) (λ p. p.bound n over) from

    waiting_above : (c : Files) → From c → (n : ℕ) (payload : File) → waits n ≡ Some payload → number < n → c (name_of Out n) ≡ Some payload
    waiting_above c from n payload waiting over = ⊎_elim (λ p. p.there n payload waiting (omega (arith, above, over))) (λ p. p.there n payload waiting over) from

    there_so : (file : Option File) → is_none file ≡ false → IsSome file
    there_so None is = absurd (cc is)
    there_so (Some bytes) is = refl

    pub link_makes : (now : Contents) (c : Files) → is_declined (Link (name_of Printed number)) now ≡ false → From c
        → Unread waits number (files_after (Link (name_of Printed number)) now c)
    link_makes now c able from = record {
      kept = inr (rw (same_self (name_of Printed number)) (there_so now.hidden (first (is_none now.hidden) _ able)));
      bound = λ n over. rw (differs n number over) (hidden_above c from n over);
      there = λ n payload waiting over. waiting_above c from n payload waiting over;
    }
      where
        first : (a b : Bool) → (a || b) ≡ false → a ≡ false
        first false b is = refl
        first true b is = absurd (cc is)

    pub rename_makes : (now : Contents) (c : Files) → is_declined (Rename (name_of Printed last) (name_of Printed number)) now ≡ false → From c
        → Unread waits number (files_after (Rename (name_of Printed last) (name_of Printed number)) now c)
    rename_makes now c able from = record {
      kept = inr (rw (same_self (name_of Printed number)) (there_so (now.files (name_of Printed last)) able));
      bound = λ n over. rw (differs n number over, differs n last (omega (arith, above, over))) (hidden_above c from n over);
      there = λ n payload waiting over. waiting_above c from n payload waiting over;
    }

    -- or has it already
    pub link_was_made : (now : Contents) → is_declined (Link (name_of Printed number)) now ≡ true → now.hidden ≡ Some (file_with [] 0) → From now.files → Unread waits number now.files
    link_was_made now declined hidden from = ⊎_elim (λ p. absurd (taken now.hidden (now.files (name_of Printed number)) hidden (p.bound number above) declined)) (λ p. p) from
      where
        taken : (written file : Option File) → written ≡ Some (file_with [] 0) → file ≡ None → (is_none written || is_some file) ≡ true → ⊥
        taken None file some none is = absurd (cc some)
        taken (Some bytes) None some none is = absurd (cc is)
        taken (Some bytes) (Some other) some none is = absurd (cc none)
