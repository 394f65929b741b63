-- Looks at a folder, one after another.
use Rattle.std.proofs.Common.{◌≡◌, ◌≤◌, ◌+◌, ◌-◌, ℕ, List, [], ◌∷◌, ◌++◌, Option, true, refl, sym, arith, subst}
use Rattle.std.proofs.lemmas.List.Sums.{sum_by-append, sum_by-cons}
use Rattle.std.specs.Prelude.{sum, Err, IfErr, IsErrAnd, Ok, Result}
use Rattle.rly_folder.specs.FolderModel.{FolderState}
use Rattle.rly_folder_clients.specs.Getting.{Gets, StopsGet}
use Rattle.rly_folder_clients.specs.declared.form.Form.{Form}
use Rattle.rly_folder_clients.specs.declared.getting.GetFault.{GetFault}
use Rattle.rly_daemon_folder.specs.Looks.{HasLooked, Looks, StopsLooking}

module _ {D : Type 0} (state : D → FolderState) (form : Form) where
  -- one more look, at what is left of a number
  looks_and : (most : ℕ) (counts : List ℕ) (count : ℕ) (w b x : Option (List ℕ)) (old m new : D) → Looks state form most counts w b old m
      → Gets state form (most - sum counts) count b x m new → Looks state form most (counts ++ count ∷ []) w x old new
  looks_and most [] count w b x old m new looks gets =
      let all : most - 0 ≡ most = omega arith in
      let same : Gets state form most count w x old new = rw (sym looks.0, sym looks.1) (subst (λ n. Gets state form n count b x m new) all gets) in
      (x, new, same, (refl, refl))
  looks_and most (c ∷ counts) count w b x old m new looks gets =
      let first : sum (c ∷ counts) ≡ c + sum counts = sum_by-cons (λ n. n) c counts in
      let left : most - sum (c ∷ counts) ≡ (most - c) - sum counts = omega (arith, first) in
      (looks.0, looks.1, looks.2, looks_and (most - c) counts count looks.0 b x looks.1 m new looks.3 (subst (λ n. Gets state form n count b x m new) left gets))

  sum_and : (counts : List ℕ) (count : ℕ) → sum (counts ++ count ∷ []) ≡ sum counts + count
  sum_and counts count =
      let both : sum (counts ++ count ∷ []) ≡ sum counts + sum (count ∷ []) = sum_by-append (λ n. n) counts (count ∷ []) in
      let one : sum (count ∷ []) ≡ count = (let alone : 0 + count ≡ count = omega arith in alone) in
      omega (arith, both, one)

  -- so many payloads were printed, and so many are left
  pub record HasFollowed (most left : ℕ) (w x : Option (List ℕ)) (old new : D) : Type 0 where
    pub counts : List ℕ
    pub looks : Looks state form most counts w x old new
    pub together : sum counts + left ≡ most

  pub no_look : (most : ℕ) (w : Option (List ℕ)) (old : D) → HasFollowed most most w w old old
  no_look most w old = let all : 0 + most ≡ most = omega arith in record { counts = []; looks = (refl, refl); together = all }

  pub one_look : (most left count next : ℕ) (w b x : Option (List ℕ)) (old m new : D) → HasFollowed most left w b old m → count ≤ left → next ≡ left - count
      → Gets state form left count b x m new → HasFollowed most next w x old new
  one_look most left count next w b x old m new so within is gets =
      let rest : left ≡ most - sum so.counts = omega (arith, so.together) in
      record {
        counts = so.counts ++ count ∷ [];
        looks = looks_and most so.counts count w b x old m new so.looks (rw rest at gets);
        together = omega (arith, sum_and so.counts count, so.together, within, is);
      }

  pub looks_end : (most left : ℕ) (w x : Option (List ℕ)) (old new : D) → HasFollowed most left w x old new → left ≡ 0 → HasLooked state form most true w x old new
  looks_end most left w x old new so none = (so.counts, so.looks, omega (arith, so.together, none))

  pub look_stops : {X : Type 0} (result : Result X GetFault) (why : GetFault) (most left : ℕ) (w b x : Option (List ℕ)) (old m new : D)
      → HasFollowed most left w b old m → IsErrAnd result (λ e. e ≡ why) → StopsGet state form why b x m new
      → IfErr result (λ e. StopsLooking state form most true e w x old new)
  look_stops (Ok y) why most left w b x old m new so same stops = tt
  look_stops (Err e) why most left w b x old m new so same stops = rw same (so.counts, b, m, so.looks, stops)
