-- The laws of an inbox: from the events of the calls to the folder.
use Rattle.std.proofs.Common.{[], ap, arith, Bool, false, true, inl, inr, List, refl, ⊎_elim, ℕ, None, Some, ◌++◌, ◌+◌, ◌≤◌, ◌∷◌, ◌≡◌, ◌⊎◌, ◌∙◌}
use Rattle.std.specs.Prelude.{nat_lt}
use Rattle.std.proofs.lemmas.Bool.Decides.{nat_tests}
use Rattle.rly_folder.specs.FolderCalls.{FolderEvent, is_declined, Leads, Remove}
use Rattle.rly_folder.specs.FolderModel.{Consistent, Contents, File, Files, FolderState, IsSpent, LeavesOnly, with_file}
use Rattle.rly_folder.specs.Names.{name_of}
use Rattle.rly_folder.specs.declared.name.Area.TheVariants.{New, Sent}
use Rattle.rly_folder.specs.declared.name.Name.{Name}
use Rattle.rly_link_folder.specs.InboxCalls.{AreRemovals, IsRemoval, RemovesTo, renaming}
use Rattle.rly_link_folder.specs.Incoming.{Frees, Keeps, Ledger, Moved, OnlyWriters, placed, Stores}
use Rattle.rly_link_folder.specs.Script.{MakesEach, Step}
use Rattle.rly_link_folder.proofs.Handed.{Over, Reaches}
use Rattle.rly_link_folder.proofs.Moves.{moves_over}
use Rattle.rly_link_folder.proofs.Placed.{fits_next, free_number, is_moved, other_place, put_keeps, released, removed, stay_apart}
use Rattle.rly_link_folder.proofs.Writers.{each_call, EachKeeps, PutKeeps}

-- what a crash at any moment of the events leaves
module _ (P : Files → Type 0) (a b : FolderState) (events : List FolderEvent) (honest : a.honest) (consistent : Consistent a) (leads : Leads events a b)
    (start : (c : Files) → a.images c → P c) (over : Over P events a.seen a.images) where
  pub crashes : LeavesOnly a b P
  crashes = let f = leads.follows honest in record {
    later = f.later;
    each = λ c was. ⊎_elim (λ earlier. start c (consistent.only_now c earlier)) (λ within. over.1 c within) (f.since a.moment c (omega arith) was);
    before = λ t c le was. ⊎_elim (λ earlier. inl earlier) (λ within. inr (over.1 c within)) (f.since t c le was);
  }

  pub then_seen : P b.seen.files
  then_seen = let f = leads.follows honest in rw f.seen over.0.0

  pub then_each : (c : Files) → b.images c → P c
  then_each c image = let f = leads.follows honest in over.0.1 c (f.images c image)

pub numbers : (ledger : Ledger) (puts : ℕ → Bool) (custody last i place : ℕ) (whole : Bool) {D : Type 0} (state : D → FolderState) {a b : D}
    → ((folder : D) → (state folder).honest → Consistent (state folder))
    → (calls : MakesEach state (renaming (name_of New place) (name_of Sent (last + 1))) whole a b)
    → OnlyWriters ledger puts calls.events → puts i ≡ false → ledger.place i ≡ Some (name_of New place)
    → Keeps custody last ledger (state a)
    → Moved custody (last + 1) ledger (placed i (name_of Sent (last + 1)) ledger) whole (state a) (state b)
numbers ledger puts custody last i place whole state {a} {b} consistent calls writers once at keeps = record {
  crashes = crashes (λ c. Stores custody ledger c ⊎ Stores custody next c) (state a) (state b) calls.events keeps.honest (consistent a keeps.honest) calls.leads start reaches.0;
  keeps = λ all. let end = reaches.1 all in let f = calls.leads.follows keeps.honest in record {
    honest = calls.leads.honest.1 keeps.honest;
    fits = fits_next custody ledger i (name_of New place) to keeps.fits.distinct at free last keeps.fits refl refl;
    seen = rw f.seen end.0;
    each = λ c image. end.1 c (f.images c image);
  };
  seen = then_seen (λ c. Stores custody ledger c ⊎ Stores custody next c) (state a) (state b) calls.events keeps.honest (consistent a keeps.honest) calls.leads start reaches.0;
  each = then_each (λ c. Stores custody ledger c ⊎ Stores custody next c) (state a) (state b) calls.events keeps.honest (consistent a keeps.honest) calls.leads start reaches.0;
}
  where
    to : Name
    to = name_of Sent (last + 1)

    next : Ledger
    next = placed i to ledger

    free : (j : ℕ) → ledger.place j ≡ Some to → ⊥
    free = free_number custody ledger last keeps.fits

    start : (c : Files) → (state a).images c → Stores custody ledger c ⊎ Stores custody next c
    start c image = inl (keeps.each c image)

    putting : PutKeeps ledger puts (Stores custody ledger)
    putting j n is put = put_keeps custody ledger keeps.fits.distinct j (name_of New n) is

    putting_too : PutKeeps ledger puts (Stores custody next)
    putting_too j n is put = put_keeps custody next (stay_apart custody ledger i (name_of New place) to keeps.fits.distinct at free) j (name_of New n)
        (other_place custody ledger i (name_of New place) to keeps.fits.distinct at free j (λ same. absurd (cc (rw same at put, once))) ∙ is)

    moves : (now : Files) (file : File) → Stores custody ledger now → now (name_of New place) ≡ Some file → (c : Files)
        → Stores custody ledger c ⊎ Stores custody next c → Stores custody next (with_file to (Some file) (with_file (name_of New place) None c))
    moves now file stores has c either =
        let is : file ≡ ledger.file i = ⊎_elim (λ there. cc (there, has)) (λ lacks. absurd (cc (lacks.0, has))) (stores.there i (name_of New place) at) in
        rw is (is_moved custody ledger i (name_of New place) to keeps.fits.distinct at free (λ same. absurd (cc (ap (λ (m : Name). m.area) same))) refl c either)

    reaches : Reaches (λ c. Stores custody ledger c ⊎ Stores custody next c) (Stores custody next) whole calls.events (state a).seen (state a).images
    reaches = moves_over ledger puts (Stores custody ledger) (Stores custody next) putting putting_too (name_of New place) to moves _ whole
        calls.events (state a).seen (state a).images calls.made writers (calls.leads.follows keeps.honest).possible (keeps.seen, keeps.each)

module _ (ledger : Ledger) (puts : ℕ → Bool) (custody : ℕ) (S : Type 0) where
  abbrev Freed : Files → Type 0
  Freed = Stores custody ledger

  -- the removal of a number up to the station's
  one_removal : (n : ℕ) → n ≤ custody → (now : Contents) → Freed now.files → is_declined (Remove (name_of Sent n)) now ≡ false → (c : Files) → Freed c
      → Freed (with_file (name_of Sent n) None c)
  one_removal n le now p able c stores = removed custody ledger n le c stores

  each_removal : (putting : PutKeeps ledger puts Freed) (numbers : List ℕ) (steps : List Step) → AreRemovals custody numbers steps → (more : List Step)
      → EachKeeps ledger puts Freed putting S more → EachKeeps ledger puts Freed putting S (steps ++ more)
  each_removal putting [] steps are more rest = rw are rest
  each_removal putting (n ∷ ns) steps are more rest = by_test (nat_lt n custody) (λ is. lower n is) steps are.1 (each_removal putting ns are.0 are.2 more rest)
    where
      lower : (n : ℕ) → nat_lt n custody ≡ true → n ≤ custody
      lower n is = grind (arith, nat_tests)

      by_test : (b : Bool) → (b ≡ true → n ≤ custody) → (steps : List Step) → IsRemoval b n steps are.0
          → EachKeeps ledger puts Freed putting S (are.0 ++ more) → EachKeeps ledger puts Freed putting S (steps ++ more)
      by_test true le steps is next = rw is.1 (one_removal n (le refl), next)
      by_test false le steps is next = rw is next

pub releases : (ledger : Ledger) (puts : ℕ → Bool) (before custody last : ℕ) (numbers : List ℕ) (whole : Bool) {D : Type 0} (state : D → FolderState) {a b : D}
    → ((folder : D) → (state folder).honest → Consistent (state folder))
    → (calls : RemovesTo state custody numbers whole a b) → OnlyWriters ledger puts calls.makes.events → before ≤ custody → custody ≤ last
    → Keeps before last ledger (state a) → Frees custody last ledger (state a) (state b)
releases ledger puts before custody last numbers whole state {a} {b} consistent calls writers le bound keeps = record {
  crashes = crashes (Stores custody ledger) (state a) (state b) calls.makes.events keeps.honest (consistent a keeps.honest) calls.makes.leads start over;
  keeps = record {
    honest = calls.makes.leads.honest.1 keeps.honest;
    fits = record {
      within = bound;
      distinct = keeps.fits.distinct;
      numbered = λ n above fits. keeps.fits.numbered n (omega (arith, le, above)) fits;
      bound = keeps.fits.bound;
    };
    seen = then_seen (Stores custody ledger) (state a) (state b) calls.makes.events keeps.honest (consistent a keeps.honest) calls.makes.leads start over;
    each = then_each (Stores custody ledger) (state a) (state b) calls.makes.events keeps.honest (consistent a keeps.honest) calls.makes.leads start over;
  };
}
  where
    start : (c : Files) → (state a).images c → Stores custody ledger c
    start c image = released before custody ledger le c (keeps.each c image)

    putting : PutKeeps ledger puts (Stores custody ledger)
    putting j n is put = put_keeps custody ledger keeps.fits.distinct j (name_of New n) is

    over : Over (Stores custody ledger) calls.makes.events (state a).seen (state a).images
    over = each_call ledger puts (Stores custody ledger) putting (IsSpent (state b)) _ whole calls.makes.events (state a).seen (state a).images
        (each_removal ledger puts custody (IsSpent (state b)) putting numbers calls.steps calls.removals _
        ((λ now p able c pc. pc), (one_removal ledger puts custody (IsSpent (state b)) custody (omega arith), tt)))
        calls.makes.made writers (calls.makes.leads.follows keeps.honest).possible
        (released before custody ledger le (state a).seen.files keeps.seen, start)
