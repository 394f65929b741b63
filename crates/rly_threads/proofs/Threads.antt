-- Threads that were started one by one for the items of a list, and joined one by one in the same order.
use Rattle.std.proofs.Common.{◌≡◌, ◌∙◌, List, [], ◌∷◌, ◌++◌, refl, sym, subst}
use Rattle.std.proofs.lemmas.List.{append-nil, append_assoc}
use Rattle.std.proofs.lemmas.Slice.Zip.{all_zipped_more}
use Rattle.std.specs.List.{AllZip}

-- the items before the remaining ones have something each, so far
pub record Each {P H : Type 0} (Has : P → H → Type 0) (all left : List P) (had : List H) : Type 0 where
  pub done : List P
  pub whole : all ≡ done ++ left
  pub each : AllZip Has done had

pub each_first : {P H : Type 0} (Has : P → H → Type 0) (all left : List P) (had : List H) → left ≡ all → had ≡ [] → Each Has all left had
each_first Has all left had same none = record { done = []; whole = sym same; each = subst (AllZip Has []) (sym none) tt }

pub each_next : {P H : Type 0} (Has : P → H → Type 0) (all before left : List P) (had after : List H) (p : P) (h : H)
    → Each Has all before had → before ≡ p ∷ left → Has p h → after ≡ had ++ h ∷ [] → Each Has all left after
each_next Has all before left had after p h e first has pushed = record {
  done = e.done ++ p ∷ [];
  whole = e.whole ∙ (λ i. e.done ++ first i) ∙ sym (append_assoc e.done (p ∷ []) left);
  each = subst (AllZip Has (e.done ++ p ∷ [])) (sym pushed) (all_zipped_more Has e.done had p h e.each has);
}

pub each_all : {P H : Type 0} (Has : P → H → Type 0) (all left : List P) (had : List H) → Each Has all left had → left ≡ [] → AllZip Has all had
each_all Has all left had e none =
    let whole : all ≡ e.done = e.whole ∙ (λ i. e.done ++ none i) ∙ append-nil e.done in
    subst (λ l. AllZip Has l had) (sym whole) e.each

-- a property of each item and its thread, and one of the thread and its result, give one of the item and that
-- result
pub through : {P H R : Type 0} (Has : P → H → Type 0) (Gives : H → R → Type 0) (Kept : P → R → Type 0)
    → ((p : P) (h : H) (r : R) → Has p h → Gives h r → Kept p r)
    → (all : List P) (threads : List H) (results : List R) → AllZip Has all threads → AllZip Gives threads results → AllZip Kept all results
through Has Gives Kept both [] [] [] has gives = tt
through Has Gives Kept both [] [] (r ∷ results) has gives = absurd gives
through Has Gives Kept both [] (h ∷ threads) results has gives = absurd has
through Has Gives Kept both (p ∷ all) [] results has gives = absurd has
through Has Gives Kept both (p ∷ all) (h ∷ threads) [] has gives = absurd gives
through Has Gives Kept both (p ∷ all) (h ∷ threads) (r ∷ results) has gives =
    (both p h r has.0 gives.0, through Has Gives Kept both all threads results has.1 gives.1)
