-- Files of which some are put, among others.
use Rattle.std.proofs.Common.{◌≡◌, ◌∙◌, Bool, false, true, List, [], ◌∷◌, ◌++◌, Err, Ok, OnErr, Option, Result, ap, append_assoc, refl, sym}
use Rattle.std.specs.Prelude.{◌||◌}
use Rattle.rly_network_folder.specs.ShelfCalls.{AllCalls, ShelfCall}
use Rattle.rly_network_folder.specs.Wanted.{AreAllPut, AreSomePut}
use Rattle.rly_network_folder.specs.declared.wanted.Wanted.{Wanted}

or_later : (first rest new : Bool) → ((first || rest) || new) ≡ (first || (rest || new))
or_later true rest new = refl
or_later false rest new = refl

all_then : (a b : List Wanted) (n m : Bool) (c d : List ShelfCall) → AreAllPut a n c → AreAllPut b m d → AreAllPut (a ++ b) (n || m) (c ++ d)
all_then [] b n m c d all more = rw (all.0, all.1) more
all_then (w ∷ a) b n m c d all more = (
  all.0,
  (all.1 || m),
  all.2,
  all.3 ++ d,
  all.4,
  all_then a b all.1 m all.3 d all.5 more,
  ap (λ x. x || m) all.6 ∙ or_later all.0 all.1 m,
  ap (λ l. l ++ d) all.7 ∙ append_assoc all.2 all.3 d,
)

pub some_front : (a b : List Wanted) (calls : List ShelfCall) → AreSomePut a calls → AreSomePut (a ++ b) calls
some_front a b calls s = record {
  done = s.done;
  left = s.left ++ b;
  new = s.new;
  own = s.own;
  looks = s.looks;
  split = ap (λ l. l ++ b) s.split ∙ append_assoc s.done s.left b;
  put = s.put;
  only = s.only;
  all = s.all;
}

pub some_back : (a b : List Wanted) (n : Bool) (c d : List ShelfCall) → AreAllPut a n c → AreSomePut b d → AreSomePut (a ++ b) (c ++ d)
some_back a b n c d all s = record {
  done = a ++ s.done;
  left = s.left;
  new = (n || s.new);
  own = c ++ s.own;
  looks = s.looks;
  split = ap (λ l. a ++ l) s.split ∙ sym (append_assoc a s.done s.left);
  put = all_then a s.done n s.new c s.own all s.put;
  only = s.only;
  all = ap (λ l. c ++ l) s.all ∙ sym (append_assoc c s.own s.looks);
}

pub on_err_map : {T E P Q : Type 0} (r : Result T E) → (P → Q) → OnErr r P → OnErr r Q
on_err_map (Ok it) f p = tt
on_err_map (Err fault) f p = f p

-- the same on an error: some are put of the first files, among others
pub front_on : {T E : Type 0} (r : Result T E) (a b : List Wanted) (old new : Option (List ShelfCall)) (calls : List ShelfCall) → AreSomePut a calls
    → AllCalls old new calls → OnErr r ((calls : List ShelfCall) × AreSomePut (a ++ b) calls × AllCalls old new calls)
front_on (Ok it) a b old new calls some called = tt
front_on (Err fault) a b old new calls some called = (calls, some_front a b calls some, called)
