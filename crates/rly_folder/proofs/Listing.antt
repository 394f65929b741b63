-- The numbers of an area's files are those of the events that put one there, as far as the files are there.
use Rattle.std.proofs.Common.{[], ap, subst, sym, ◌∙◌, arith, Bool, eqb, false, get_or, if◌then◌else◌, inl, inr, is_some, IsSome, length, List, None, Option, refl, Some, take, true, ℕ, ⊎_elim, ◌++◌, ◌+◌, ◌<◌, ◌∷◌, ◌≡◌, ◌⊎◌}
use Rattle.std.proofs.lemmas.List.Elements.{Contains-append_cases, Contains-append_right, filter_map-append}
use Rattle.std.proofs.lemmas.List.Kept.{Contains-dedup_nat, Contains-from_dedup}
use Rattle.std.proofs.lemmas.List.Sorted.{Contains-permutation, IsPermutation-sym}
use Rattle.std.proofs.lemmas.Map.Keys.{IsStrictlyIncreasing-dedup}
use Rattle.std.proofs.lemmas.List.{take_more}
use Rattle.std.specs.Prelude.{◌&&◌}
use Rattle.std.specs.List.Sorted.{IsPermutation, IsSorted}
use Rattle.std.specs.Ordering.{nat_cmp}
use Rattle.std.specs.List.{Contains, cons_option, dedup, filter_map}
use Rattle.rly_folder.specs.FolderModel.{Files, IsListing}
use Rattle.rly_folder.specs.Names.{is_same_name, name_of}
use Rattle.rly_folder.specs.Record.{files_from, files_of, files_with, listed_number, no_files, put_name}
use Rattle.rly_folder.specs.declared.name.Area.{Area}
use Rattle.rly_folder.specs.declared.name.Name.{Name}
use Rattle.rly_folder.specs.declared.record.Event.{Event}
use Rattle.rly_folder.specs.declared.record.Event.TheVariants.{Moved, Put, Synced, Taken, Undone}
use Rattle.rly_folder.proofs.Names.{same_name, same_self}

-- one of these events put a file under this name
abbrev HasPut : List Event → Name → Type 0
HasPut [] name = ⊥
HasPut (event ∷ events) name = (put_name event ≡ Some name) ⊎ HasPut events name

-- a file that is there was there, or was put
put_step : (event : Event) (files : Files) (name : Name) → IsSome (files_with event files name) → IsSome (files name) ⊎ (put_name event ≡ Some name)
put_step (Put to file) files name here = let same = same_name name to in grind (arith, same)
put_step (Taken from) files name here = grind arith
put_step (Moved from to file) files name here = let same = same_name name to in grind (arith, same)
put_step Synced files name here = inl here
put_step Undone files name here = inl here

found : (events : List Event) (files : Files) (name : Name) → IsSome (files_from events files name) → IsSome (files name) ⊎ HasPut events name
found [] files name here = inl here
found (event ∷ events) files name here = ⊎_elim
    (λ before. ⊎_elim (λ there. inl there) (λ put. inr (inl put)) (put_step event files name before))
    (λ later. inr (inr later)) (found events (files_with event files) name here)

only : (one : ℕ) (x : ℕ) → Contains (one ∷ []) x → x ≡ one
only one x has = let first : has.0 ≡ 0 = omega (arith, has.1) in sym (rw first at has.2)

one_more : (o : Option ℕ) (xs : List ℕ) (x : ℕ) → Contains (cons_option o xs) x → (o ≡ Some x) ⊎ Contains xs x
one_more None xs x has = inr has
one_more (Some y) xs x has = ⊎_elim (λ first. inl (ap Some (sym (only y x first)))) (λ later. inr later) (Contains-append_cases (y ∷ []) xs x has)

there : (o : Option ℕ) (xs : List ℕ) (x : ℕ) → (o ≡ Some x) ⊎ Contains xs x → Contains (cons_option o xs) x
there o xs x (inl is) = rw is (0, omega arith, refl)
there None xs x (inr has) = has
there (Some y) xs x (inr has) = Contains-append_right (y ∷ []) xs x has

tested : (b c : Bool) (m n : ℕ) → (if b && c then Some m else None) ≡ Some n → (b ≡ true) × (c ≡ true) × (m ≡ n)
tested true true m n is = (refl, refl, cc)
tested true false m n is = cc
tested false c m n is = cc

listed_name : (files : Files) (area : Area) (name : Name) (number : ℕ)
    → (if is_same_name name (name_of area name.number) && is_some (files name) then Some name.number else None) ≡ Some number → IsSome (files (name_of area number))
listed_name files area name number is =
    let parts = tested (is_same_name name (name_of area name.number)) (is_some (files name)) name.number number is in
    subst (λ n. IsSome (files n)) (same_name name (name_of area name.number) parts.0 ∙ ap (name_of area) parts.2) parts.1

-- a number that an event gives is that of a file which is there
listed_step : (files : Files) (area : Area) (event : Event) (number : ℕ) → listed_number files area event ≡ Some number → IsSome (files (name_of area number))
listed_step files area (Put name file) number is = listed_name files area name number is
listed_step files area (Moved from to file) number is = listed_name files area to number is
listed_step files area (Taken name) number is = cc
listed_step files area Synced number is = cc
listed_step files area Undone number is = cc

listed : (part : List Event) (files : Files) (area : Area) (number : ℕ) → Contains (filter_map (listed_number files area) part) number
    → IsSome (files (name_of area number))
listed [] files area number has = absurd (omega (arith, has.1))
listed (event ∷ part) files area number has = ⊎_elim (listed_step files area event number) (listed part files area number)
    (one_more (listed_number files area event) _ number has)

unlisted_step : (files : Files) (area : Area) (event : Event) (number : ℕ) → put_name event ≡ Some (name_of area number) → IsSome (files (name_of area number))
    → listed_number files area event ≡ Some number
unlisted_step files area event number put here = rw (put, same_self (name_of area number), here) refl

unlisted : (part : List Event) (files : Files) (area : Area) (number : ℕ) → HasPut part (name_of area number) → IsSome (files (name_of area number))
    → Contains (filter_map (listed_number files area) part) number
unlisted [] files area number has here = absurd has
unlisted (event ∷ part) files area number (inl put) here = there _ _ number (inl (unlisted_step files area event number put here))
unlisted (event ∷ part) files area number (inr later) here = there (listed_number files area event) _ number (inr (unlisted part files area number later here))

pub listing : (area : Area) (events : List Event) (sorted numbers : List ℕ) → IsPermutation (filter_map (listed_number (files_of events) area) events) sorted
    → IsSorted nat_cmp sorted → numbers ≡ dedup eqb sorted → IsListing area (files_of events) numbers
listing area events sorted numbers permuted order is =
    let F = files_of events in let all = filter_map (listed_number F area) events in
    record {
      increasing = rw is (IsStrictlyIncreasing-dedup sorted order);
      each = λ number. (
        λ has. listed events F area number (Contains-permutation sorted all number (IsPermutation-sym _ _ permuted) (Contains-from_dedup eqb sorted number (rw is at has))),
        λ here. rw is (Contains-dedup_nat sorted number (Contains-permutation all sorted number permuted
            (unlisted events F area number (⊎_elim (λ none. absurd (cc none)) (λ put. put) (found events no_files _ here)) here))),
      );
    }

pub filter_map_more : {X Y : Type 0} (h : X → Option Y) (xs : List X) (i : ℕ) (d : X) → i < length xs
    → filter_map h (take (i + 1) xs) ≡ filter_map h (take i xs) ++ cons_option (h (get_or xs i d)) []
filter_map_more h xs i d below = rw (take_more xs i d below) (filter_map-append h (take i xs) (get_or xs i d ∷ []))

-- one step of the loop over the events
pub numbers_step : (events : List Event) (area : Area) (i : ℕ) (event : Event) (old new : List ℕ) → i < length events → event ≡ get_or events i event
    → old ≡ filter_map (listed_number (files_of events) area) (take i events) → new ≡ old ++ cons_option (listed_number (files_of events) area event) []
    → new ≡ filter_map (listed_number (files_of events) area) (take (i + 1) events)
numbers_step events area i event old new below at is more = rw (filter_map_more _ events i event below, ← at, ← is) more
