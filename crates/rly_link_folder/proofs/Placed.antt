-- The files that came in, under their names, before a change and after it.
use Rattle.std.proofs.Common.{ap, arith, Bool, false, true, if◌then◌else◌, inl, inr, List, refl, subst, sym, ⊎_elim, ℕ, None, Some, Option, IsSome, ◌+◌, ◌≤◌, ◌≡◌, ◌⊎◌, ◌∙◌}
use Rattle.std.proofs.lemmas.Bool.{cases_eq, cases_lt}
use Rattle.std.proofs.lemmas.Bool.Decides.{nat_tests}
use Rattle.std.specs.Prelude.{◌==◌}
use Rattle.rly_folder.specs.FolderModel.{File, Files, with_file}
use Rattle.rly_folder.specs.Names.{is_same_name, name_of}
use Rattle.rly_folder.specs.declared.name.Area.TheVariants.{New, Sent}
use Rattle.rly_folder.specs.declared.name.Name.{Name}
use Rattle.rly_folder.proofs.Names.{same_name, same_self}
use Rattle.rly_link_folder.specs.Incoming.{Fits, is_incoming, Ledger, MayLack, placed, Stores}

-- a name's file after a change of its own, or of another one
pick : (Q : Option File → Type 0) (name changed : Name) (new old : Option File) → (name ≡ changed → Q new) → ((name ≡ changed → ⊥) → Q old)
    → Q (if is_same_name name changed then new else old)
pick Q name changed new old fresh rest = by_test (is_same_name name changed) refl
  where
    by_test : (b : Bool) → is_same_name name changed ≡ b → Q (if b then new else old)
    by_test true is = fresh (same_name name changed is)
    by_test false is = rest (λ same. absurd (cc (same_self changed, subst (λ n. is_same_name n changed ≡ false) same is)))

some_same : (one other : Name) → Some one ≡ Some other → one ≡ other
some_same one other is = cc is

own_file : (name : Name) (new old : Option File) → (if is_same_name name name then new else old) ≡ new
own_file name new old = rw (same_self name) refl

abbrev pub Apart : Ledger → Type 0
Apart ledger = (i j : ℕ) (name : Name) → ledger.place i ≡ Some name → ledger.place j ≡ Some name → i ≡ j

-- a put of one of the files keeps it
pub put_keeps : (custody : ℕ) (ledger : Ledger) → Apart ledger → (i : ℕ) (name : Name) → ledger.place i ≡ Some name → (c : Files) → Stores custody ledger c
    → Stores custody ledger (with_file name (Some (ledger.file i)) c)
put_keeps custody ledger apart i name is c stores = record {
  there = λ j other place. pick (λ o. (o ≡ Some (ledger.file j)) ⊎ ((o ≡ None) × MayLack custody (ledger.ended j) other)) other name _ _
      (λ same. let one : j ≡ i = apart j i name (rw same at place) is in inl (rw one refl)) (λ differs. stores.there j other place);
  whose = λ other incoming. pick (λ o. IsSome o → (j : ℕ) × (ledger.place j ≡ Some other)) other name _ _
      (λ same some. (i, rw same is)) (λ differs. stores.whose other incoming);
}

module _ (custody : ℕ) (ledger : Ledger) (i : ℕ) (from to : Name) (apart : Apart ledger) (at : ledger.place i ≡ Some from)
    (free : (j : ℕ) → ledger.place j ≡ Some to → ⊥) where
  abbrev pub next : Ledger
  next = placed i to ledger

  is_it : (i == i) ≡ true
  is_it = grind (arith, nat_tests)

  not_it : (j : ℕ) → (j ≡ i → ⊥) → (j == i) ≡ false
  not_it j differs = by_test (j == i) refl
    where
      same : (j == i) ≡ true → j ≡ i
      same is = grind (arith, nat_tests)

      by_test : (b : Bool) → (j == i) ≡ b → (j == i) ≡ false
      by_test true is = absurd (differs (same is))
      by_test false is = is

  pub its_place : next.place i ≡ Some to
  its_place = rw is_it refl

  pub other_place : (j : ℕ) → (j ≡ i → ⊥) → next.place j ≡ ledger.place j
  other_place j differs = rw (not_it j differs) refl

  other_ended : (j : ℕ) → (j ≡ i → ⊥) → next.ended j ≡ ledger.ended j
  other_ended j differs = rw (not_it j differs) refl

  -- a name of another file isn't one of its two
  is_neither : (j : ℕ) (name : Name) → (j ≡ i → ⊥) → ledger.place j ≡ Some name → (name ≡ to → ⊥) × (name ≡ from → ⊥)
  is_neither j name differs place = (λ same. free j (rw same at place), λ same. differs (apart j i from (rw same at place) at))

  -- no other file has its new name
  is_free : (j k : ℕ) (name : Name) → next.place j ≡ Some name → next.place k ≡ Some name → j ≡ i → (k ≡ i → ⊥) → ⊥
  is_free j k name one two is another =
      let same : to ≡ name = some_same to name (sym its_place ∙ (rw is at one)) in
      free k (rw (other_place k another, ← same) at two)

  pub stay_apart : Apart next
  stay_apart j k name one two = ⊎_elim
      (λ is. ⊎_elim (λ also. is ∙ sym also) (λ another. absurd (is_free j k name one two is another)) (cases_eq k i))
      (λ differs. ⊎_elim (λ also. absurd (is_free k j name two one also differs))
      (λ another. apart j k name (rw (other_place j differs) at one) (rw (other_place k another) at two)) (cases_eq k i))
      (cases_eq j i)

  -- the other files are where they were
  others_there : (c : Files) → Stores custody ledger c ⊎ Stores custody next c → (j : ℕ) (name : Name) → (j ≡ i → ⊥) → ledger.place j ≡ Some name
      → (c name ≡ Some (ledger.file j)) ⊎ ((c name ≡ None) × MayLack custody (ledger.ended j) name)
  others_there c either j name differs place = ⊎_elim (λ stores. stores.there j name place)
      (λ stores. rw (other_ended j differs) at (stores.there j name (other_place j differs ∙ place))) either

  others_whose : (c : Files) → Stores custody ledger c ⊎ Stores custody next c → (name : Name) → (name ≡ from → ⊥) → is_incoming name.area ≡ true → IsSome (c name)
      → (j : ℕ) × (next.place j ≡ Some name)
  others_whose c either name differs incoming some = ⊎_elim
      (λ stores. let w = stores.whose name incoming some in
      (w.0, other_place w.0 (λ is. differs (some_same name from (sym w.1 ∙ subst (λ k. ledger.place k ≡ Some from) (sym is) at))) ∙ w.1))
      (λ stores. stores.whose name incoming some) either

  -- the rename of its file
  pub is_moved : (from ≡ to → ⊥) → is_incoming to.area ≡ true → (c : Files) → Stores custody ledger c ⊎ Stores custody next c
      → Stores custody next (with_file to (Some (ledger.file i)) (with_file from None c))
  is_moved moves home c either = record {
    there = λ j name place. ⊎_elim
        (λ is. let same : name ≡ to = some_same name to (sym place ∙ (rw is its_place)) in
        inl (subst (λ n. with_file to (Some (ledger.file i)) (with_file from None c) n ≡ Some (ledger.file j)) (sym same) (own_file to _ _ ∙ (rw is refl))))
        (λ differs. let was = rw (other_place j differs) at place in let neither = is_neither j name differs was in
        pick (λ o. (o ≡ Some (ledger.file j)) ⊎ ((o ≡ None) × MayLack custody (next.ended j) name)) name to _ _ (λ same. absurd (neither.0 same))
        (λ another. pick (λ o. (o ≡ Some (ledger.file j)) ⊎ ((o ≡ None) × MayLack custody (next.ended j) name)) name from _ _ (λ same. absurd (neither.1 same))
        (λ also. rw (other_ended j differs) (others_there c either j name differs was))))
        (cases_eq j i);
    whose = λ name incoming. pick (λ o. IsSome o → (j : ℕ) × (next.place j ≡ Some name)) name to _ _
        (λ same some. (i, rw same its_place))
        (λ another. pick (λ o. IsSome o → (j : ℕ) × (next.place j ≡ Some name)) name from _ _
        (λ same some. absurd (cc some)) (λ differs. others_whose c either name differs incoming));
  }

  -- the numbers that the files have then
  module _ (last : ℕ) (fits : Fits custody last ledger) (new : from.area ≡ New) where
    still_numbered : (n : ℕ) → (j : ℕ) × (ledger.place j ≡ Some (name_of Sent n)) → (j : ℕ) × (next.place j ≡ Some (name_of Sent n))
    still_numbered n was = (was.0, other_place was.0 (λ is. not_new (some_same from (name_of Sent n) (sym at ∙ (rw is at was.1)))) ∙ was.1)
      where
        not_new : from ≡ name_of Sent n → ⊥
        not_new same = let area : Sent ≡ New = (rw same at new) in cc area

    -- it got the next number
    pub fits_next : to ≡ name_of Sent (last + 1) → Fits custody (last + 1) next
    fits_next is = record {
      within = omega (arith, fits.within);
      distinct = stay_apart;
      numbered = λ n above le. ⊎_elim (λ over. let same : n ≡ last + 1 = omega (arith, over, le) in (i, its_place ∙ (rw (is, same) refl)))
          (λ under. still_numbered n (fits.numbered n above under)) (cases_lt last n);
      bound = λ j n place. ⊎_elim
          (λ it. let same : to ≡ name_of Sent n = some_same to (name_of Sent n) (sym its_place ∙ (rw it at place)) in
          let number : last + 1 ≡ n = sym (ap (λ (m : Name). m.number) is) ∙ ap (λ (m : Name). m.number) same in omega (arith, number))
          (λ differs. let le = fits.bound j n (rw (other_place j differs) at place) in omega (arith, le)) (cases_eq j i);
    }

-- no file has a number above the last one
pub free_number : (custody : ℕ) (ledger : Ledger) (last : ℕ) → Fits custody last ledger → (j : ℕ) → ledger.place j ≡ Some (name_of Sent (last + 1)) → ⊥
free_number custody ledger last fits j place = let le = fits.bound j (last + 1) place in omega (arith, le)

-- a later number of the station allows more
pub released : (before custody : ℕ) (ledger : Ledger) → before ≤ custody → (c : Files) → Stores before ledger c → Stores custody ledger c
released before custody ledger le c stores = record {
  there = λ j name place. ⊎_elim (λ is. inl is)
      (λ lacks. inr (lacks.0, ⊎_elim (λ new. inl new) (λ sent. inr (sent.0, omega (arith, le, sent.1))) lacks.1)) (stores.there j name place);
  whose = stores.whose;
}

-- a removal of a number in the station's custody
pub removed : (custody : ℕ) (ledger : Ledger) (n : ℕ) → n ≤ custody → (c : Files) → Stores custody ledger c → Stores custody ledger (with_file (name_of Sent n) None c)
removed custody ledger n le c stores = record {
  there = λ j name place. pick (λ o. (o ≡ Some (ledger.file j)) ⊎ ((o ≡ None) × MayLack custody (ledger.ended j) name)) name (name_of Sent n) _ _
      (λ same. inr (refl, rw same (inr (refl, le)))) (λ differs. stores.there j name place);
  whose = λ name incoming. pick (λ o. IsSome o → (j : ℕ) × (ledger.place j ≡ Some name)) name (name_of Sent n) _ _
      (λ same some. absurd (cc some)) (λ differs. stores.whose name incoming);
}
