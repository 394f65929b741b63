-- Calls after calls, and files after files.
use Rattle.std.proofs.Common.{Err, Ok, OnErr, Result, ◌≡◌, ◌∙◌, ℕ, ◌+◌, ◌<◌, Bool, false, true, List, [], ◌∷◌, ◌++◌, None, Option, Some, ap, append_assoc, append-nil, drop, get_or, length, map, refl, suc, sym, take}
use Rattle.std.specs.Prelude.{◌||◌, String}
use Rattle.std.proofs.Math.Seq.{split_at}
use Rattle.std.proofs.lemmas.Grind.{flat_map-append}
use Rattle.std.proofs.lemmas.List.{take-append-drop, take_more}
use Rattle.std.specs.List.{list_all}
use Rattle.std.specs.Global.{Global, Vec}
use Rattle.rly_network_folder.specs.ShelfCalls.{AllCalls, Calls, Looked, Made, OnlyLooked, Replaced, ShelfCall, is_look}
use Rattle.rly_network_folder.specs.Wanted.{AreAllPut, AreSomePut, AreStationsPut, IsPut, all_wanted, missing}
use Rattle.rly_network_folder.specs.declared.wanted.Wanted.{Wanted}

pub calls_then : (a b c : Option (List ShelfCall)) (first second : List ShelfCall) → AllCalls a b first → AllCalls b c second → AllCalls a c (first ++ second)
calls_then None b c first second one two = rw (two, one) refl
calls_then (Some before) b c first second one two = rw (two, one) (ap Some (append_assoc before first second))

pub no_calls : (a : Option (List ShelfCall)) → AllCalls a a []
no_calls None = refl
no_calls (Some before) = ap Some (sym (append-nil before))

or_later : (first rest new : Bool) → ((first || rest) || new) ≡ (first || (rest || new))
or_later true rest new = refl
or_later false rest new = refl

or_alone : (new : Bool) → (false || new) ≡ (new || false)
or_alone true = refl
or_alone false = refl

all_looks : (a b : List ShelfCall) → list_all is_look a ≡ true → list_all is_look b ≡ true → list_all is_look (a ++ b) ≡ true
all_looks [] b one two = two
all_looks (Looked path found ∷ a) b one two = all_looks a b one two
all_looks (Replaced path bytes ∷ a) b one two = cc
all_looks (Made path bytes ∷ a) b one two = cc

pub looked_none : (old new : Option (List ShelfCall)) → new ≡ old → OnlyLooked old new
looked_none old new same = ([], refl, rw same (no_calls old))

pub looked_once : (old new : Option (List ShelfCall)) (path : List ℕ) (found : Option (List ℕ)) → Calls old new (Looked path found) → OnlyLooked old new
looked_once old new path found called = (Looked path found ∷ [], refl, called)

pub looked_then : (a b c : Option (List ShelfCall)) → OnlyLooked a b → OnlyLooked b c → OnlyLooked a c
looked_then a b c one two = (one.0 ++ two.0, all_looks one.0 two.0 one.1 two.1, calls_then a b c one.0 two.0 one.2 two.2)

all_missing : (paths : List (String Global)) → list_all is_look (map missing paths) ≡ true
all_missing [] = refl
all_missing (path ∷ paths) = all_missing paths

pub looked_missing : (old new : Option (List ShelfCall)) (paths : List (String Global)) → AllCalls old new (map missing paths) → OnlyLooked old new
looked_missing old new paths called = (map missing paths, all_missing paths, called)

pub one_taken : {X : Type 0} (xs : List X) (i : ℕ) (x : X) → i < length xs → x ≡ get_or xs i x → take (i + 1) xs ≡ take i xs ++ x ∷ []
one_taken xs i x within found = take_more xs i x within ∙ ap (λ y. take i xs ++ y ∷ []) (sym found)

-- a list about one of its items
pub one_found : {X : Type 0} (xs : List X) (i : ℕ) (x : X) → i < length xs → x ≡ get_or xs i x → xs ≡ take i xs ++ x ∷ drop (suc i) xs
one_found xs i x within found = split_at xs i x within ∙ ap (λ y. take i xs ++ y ∷ drop (suc i) xs) (sym found)

-- one file more
pub one_more_put : (some : List Wanted) (before : Bool) (calls : List ShelfCall) (one : Wanted) (new : Bool) (own : List ShelfCall)
    → AreAllPut some before calls → IsPut one new own → AreAllPut (some ++ one ∷ []) (before || new) (calls ++ own)
one_more_put [] before calls one new own all put =
    (new, false, own, [], put, (refl, refl), ap (λ b. b || new) all.0 ∙ or_alone new, ap (λ l. l ++ own) all.1 ∙ sym (append-nil own))
one_more_put (w ∷ some) before calls one new own all put =
    let first = all.0 in
    let rest = all.1 in
    let mine = all.2 in
    let more = all.3 in (
      first,
      (rest || new),
      mine,
      more ++ own,
      all.4,
      one_more_put some rest more one new own all.5 put,
      ap (λ b. b || new) all.6 ∙ or_later first rest new,
      ap (λ l. l ++ own) all.7 ∙ append_assoc mine more own,
    )

-- and one station more
pub one_more_station : (some : List (Vec Wanted)) (news : List Bool) (calls : List ShelfCall) (one : Vec Wanted) (new : Bool) (own : List ShelfCall)
    → AreStationsPut some news calls → AreAllPut one.items new own → AreStationsPut (some ++ one ∷ []) (news ++ new ∷ []) (calls ++ own)
one_more_station [] [] calls one new own all put = (own, [], put, refl, ap (λ l. l ++ own) all ∙ sym (append-nil own))
one_more_station [] (n ∷ news) calls one new own all put = absurd all
one_more_station (w ∷ some) [] calls one new own all put = absurd all
one_more_station (w ∷ some) (n ∷ news) calls one new own all put =
    let first = all.0 in
    let more = all.1 in
    (first, more ++ own, all.2, one_more_station some news more one new own all.3 put, ap (λ l. l ++ own) all.4 ∙ append_assoc first more own)

-- files and then more files
all_put_then : (a b : List Wanted) (n m : Bool) (c d : List ShelfCall) → AreAllPut a n c → AreAllPut b m d → AreAllPut (a ++ b) (n || m) (c ++ d)
all_put_then [] b n m c d all more = rw (all.0, all.1) more
all_put_then (w ∷ a) b n m c d all more = (
  all.0,
  (all.1 || m),
  all.2,
  all.3 ++ d,
  all.4,
  all_put_then a b all.1 m all.3 d all.5 more,
  ap (λ x. x || m) all.6 ∙ or_later all.0 all.1 m,
  ap (λ l. l ++ d) all.7 ∙ append_assoc all.2 all.3 d,
)

-- the files of stations, one after another
stations_put : (some : List (Vec Wanted)) (news : List Bool) (calls : List ShelfCall) → AreStationsPut some news calls
    → (new : Bool) × AreAllPut (all_wanted some) new calls
stations_put [] [] calls put = (false, (refl, put))
stations_put [] (n ∷ news) calls put = absurd put
stations_put (w ∷ some) [] calls put = absurd put
stations_put (w ∷ some) (n ∷ news) calls put =
    let rest = stations_put some news put.1 put.3 in
    ((n || rest.0), (rw put.4 (all_put_then w.items (all_wanted some) n rest.0 put.0 put.1 put.2 rest.1)))

-- a file failed after these
pub some_put : (wanted : List Wanted) (i : ℕ) (new : Bool) (calls : List ShelfCall) (a b c : Option (List ShelfCall)) → AreAllPut (take i wanted) new calls
    → AllCalls a b calls → OnlyLooked b c → (all : List ShelfCall) × AreSomePut wanted all × AllCalls a c all
some_put wanted i new calls a b c put called looked = (
  calls ++ looked.0,
  record {
    done = take i wanted;
    left = drop i wanted;
    new = new;
    own = calls;
    looks = looked.0;
    split = sym (take-append-drop i wanted);
    put = put;
    only = looked.1;
    all = refl;
  },
  calls_then a b c calls looked.0 called looked.2,
)

-- a station failed after these
pub some_stations_put : (stations : List (Vec Wanted)) (i : ℕ) (one : Vec Wanted) (news : List Bool) (calls own : List ShelfCall) (a b c : Option (List ShelfCall))
    → i < length stations → one ≡ get_or stations i one → AreStationsPut (take i stations) news calls → AllCalls a b calls → AreSomePut one.items own → AllCalls b c own
    → (all : List ShelfCall) × AreSomePut (all_wanted stations) all × AllCalls a c all
some_stations_put stations i one news calls own a b c within found put called some more =
    let before = stations_put (take i stations) news calls put in
    let rest = all_wanted (drop (suc i) stations) in (
      calls ++ own,
      record {
        done = all_wanted (take i stations) ++ some.done;
        left = some.left ++ rest;
        new = (before.0 || some.new);
        own = calls ++ some.own;
        looks = some.looks;
        split =
            ap all_wanted (one_found stations i one within found) ∙ flat_map-append (λ (w : Vec Wanted). w.items) (take i stations) (one ∷ drop (suc i) stations)
            ∙ ap (λ l. all_wanted (take i stations) ++ (l ++ rest)) some.split ∙ ap (λ l. all_wanted (take i stations) ++ l) (append_assoc some.done some.left rest)
            ∙ sym (append_assoc (all_wanted (take i stations)) some.done (some.left ++ rest));
        put = all_put_then (all_wanted (take i stations)) some.done before.0 some.new calls some.own before.1 some.put;
        only = some.only;
        all = ap (λ l. calls ++ l) some.all ∙ sym (append_assoc calls some.own some.looks);
      },
      calls_then a b c calls own called more,
    )

pub all_are_some : (wanted : List Wanted) (new : Bool) (calls : List ShelfCall) → AreAllPut wanted new calls → AreSomePut wanted calls
all_are_some wanted new calls put =
    record { done = wanted; left = []; new = new; own = calls; looks = []; split = sym (append-nil wanted); put = put; only = refl; all = sym (append-nil calls) }

-- what holds after any error
pub on_err : {T E P : Type 0} (r : Result T E) → P → OnErr r P
on_err (Ok it) p = tt
on_err (Err fault) p = p
