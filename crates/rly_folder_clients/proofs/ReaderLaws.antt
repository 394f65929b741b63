-- A reader's opening, and each file that it handles: what a crash leaves.
use Rattle.std.proofs.Common.{[], arith, Bool, false, true, inl, inr, IsSome, List, None, refl, Some, subst, sym, ⊎_elim, ℕ, Option, get_or, length, slice_index, zero, suc, ◌++◌, ◌∷◌, ◌+◌, ◌-◌, ◌<◌, ◌≤◌, ◌≡◌, ◌⊎◌, ◌∙◌}
use Rattle.std.proofs.lemmas.Bool.{cases_lt}
use Rattle.std.proofs.lemmas.Grind.{get_or_default_zero}
use Rattle.std.specs.List.{Contains}
use Rattle.std.specs.List.Sorted.{IsStrictlyIncreasing}
use Rattle.rly_folder.specs.FolderCalls.{Did, Faulted, ListNames, Makes, Outcome, ReadFile, Sync}
use Rattle.rly_folder.specs.FolderModel.{Consistent, File, Files, FolderState, IsListing, LeavesOnly}
use Rattle.rly_folder.specs.Names.{name_of}
use Rattle.rly_folder.specs.declared.name.Area.TheVariants.{Out, Printed}
use Rattle.rly_folder.specs.declared.name.Name.{Name}
use Rattle.rly_folder_clients.specs.Getting.{AtFinish, AtOld, AtOutput, AtRead, FailsToRead, Handles, if_done, IsGone, IsNext, IsOld, last_after, Opens, StopsAt}
use Rattle.rly_folder_clients.specs.Holding.{Holds, Stays}
use Rattle.rly_folder_clients.specs.Reading.{Advances, OthersInFailedRead, OthersInHandle, OthersInOpens, OthersInStop, Spares, Unread, UnreadFrom}
use Rattle.rly_folder_clients.specs.Runs.{OthersGive}
use Rattle.rly_folder_clients.specs.declared.getting.GetFault.{GetFault}
use Rattle.rly_folder_clients.specs.declared.getting.GetFault.TheVariants as fault
use Rattle.rly_folder_clients.proofs.Calls.{call_stays, holds_more, stays_joined, stays_more}
use Rattle.rly_folder_clients.proofs.FolderLemmas.{settles}
use Rattle.rly_folder_clients.proofs.ReaderSteps.{gives, gives_from, Goes, printing, quiet, removes, seen_did}

-- ---- the greatest number of a listing

module _ (xs : List ℕ) (inc : IsStrictlyIncreasing xs) where
  grows : (j d : ℕ) → j + d < length xs → slice_index xs j + d ≤ slice_index xs (j + d)
  grows j zero lt = let e : j + 0 ≡ j = omega arith in rw e (omega arith)
  grows j (suc d) lt = let e : j + suc d ≡ (j + d) + 1 = omega arith in
      rw e (omega (arith, grows j d (omega (arith, lt)), inc (j + d) (omega (arith, lt))))

  pub at_most : (j k : ℕ) → j ≤ k → k < length xs → slice_index xs j + (k - j) ≤ slice_index xs k
  at_most j k le lt = let e : j + (k - j) ≡ k = omega (arith, le) in rw e at (grows j (k - j) (omega (arith, le, lt)))

  at_index : (n : ℕ) (has : Contains xs n) → slice_index xs has.0 ≡ n
  at_index n has = sym (get_or_default_zero xs has.0 n has.1) ∙ has.2

  below_last : (n : ℕ) → Contains xs n → n ≤ slice_index xs (length xs - 1)
  below_last n has = omega (arith, at_most has.0 (length xs - 1) (omega (arith, has.1)) (omega (arith, has.1)), at_index n has)

  last_in : 0 < length xs → Contains xs (slice_index xs (length xs - 1))
  last_in some = (length xs - 1, omega (arith, some), get_or_default_zero xs (length xs - 1) _ (omega (arith, some)))

some_or_none : (xs : List ℕ) → (xs ≡ []) ⊎ (0 < length xs)
some_or_none [] = inl refl
some_or_none (x ∷ xs) = inr (omega arith)

not_none : (file : Option File) → IsSome file → file ≡ None → ⊥
not_none None some none = absurd (cc some)
not_none (Some bytes) some none = absurd (cc none)

nothing_in : (xs : List ℕ) (n : ℕ) → xs ≡ [] → Contains xs n → ⊥
nothing_in xs n none has = let lt : has.0 < length xs = has.1 in let no : has.0 < length {A = ℕ} [] = rw none at lt in absurd (omega (arith, no))

pub last_is : (waits : ℕ → Option File) (files : Files) (last : ℕ) (kept : List ℕ) → IsListing Printed files kept → Unread waits last files
    → get_or kept (length kept - 1) 0 ≡ last
last_is waits files last kept listing unread = ⊎_elim none some (some_or_none kept)
  where
    none : kept ≡ [] → get_or kept (length kept - 1) 0 ≡ last
    none empty = ⊎_elim (λ first. nothing ∙ sym first) (λ there. absurd (nothing_in kept last empty ((listing.each last).1 there))) unread.kept
      where
        nothing : get_or kept (length kept - 1) 0 ≡ 0
        nothing = rw empty refl

    some : 0 < length kept → get_or kept (length kept - 1) 0 ≡ last
    some more =
        let there : IsSome (files (name_of Printed (slice_index kept (length kept - 1)))) = (listing.each (slice_index kept (length kept - 1))).0 (last_in kept listing.increasing more) in
        let up : last ≤ slice_index kept (length kept - 1) = ⊎_elim (λ first. omega (arith, first)) (λ has. below_last kept listing.increasing last ((listing.each last).1 has)) unread.kept in
        let down : slice_index kept (length kept - 1) ≤ last = ⊎_elim
        (λ less. absurd (not_none (files (name_of Printed (slice_index kept (length kept - 1)))) there (unread.bound (slice_index kept (length kept - 1)) less)))
        (λ le. le) (cases_lt last (slice_index kept (length kept - 1))) in
        let is : slice_index kept (length kept - 1) ≡ last = omega (arith, up, down) in
        get_or_default_zero kept (length kept - 1) 0 (omega (arith, more)) ∙ is

-- ---- the laws

module _ {D : Type 0} (state : D → FolderState) (consistent : (folder : D) → (state folder).honest → Consistent (state folder))
    (waits : ℕ → Option File) (given : Name → Option File → Bool) (spares : Spares waits given) where
  module _ (low high last : ℕ) {a b : D} (opens : Opens state last a b) (kept : OthersInOpens given opens) (holds : Holds (UnreadFrom waits low high) (state a)) where
    abbrev Either : Files → Type 0
    Either = UnreadFrom waits low high

    first_sync : Stays Either (state a) (state opens.synced)
    first_sync = call_stays Either given (gives_from state consistent waits given spares low high) state consistent Sync Did opens.syncs kept.0 (λ now h p may able c pc. pc) holds

    opens_to : (x : ℕ) → ((c : Files) → Unread waits x c → Either c) → Unread waits x (state opens.synced).seen.files → (last ≡ x) × Advances waits low high last (state a) (state b)
    opens_to x more here =
        let settled = settles state consistent opens.syncs holds.honest in
        let durable : Holds (Unread waits x) (state opens.synced) = record { honest = settled.honest; seen = here; each = λ c image. subst (Unread waits x) (sym (settled.only c image)) here } in
        let listed = quiet state consistent waits given spares x (ListNames Printed) Did (λ now c. refl) opens.lists kept.1 durable in
        let is : last ≡ x = opens.is_last ∙ last_is waits (state b).seen.files x opens.kept (opens.listing holds.honest) listed.holds.seen in
        (is, rw is (record { crashes = (stays_joined Either _ _ _ first_sync (stays_more (Unread waits x) Either _ _ more listed)).crashes; holds = listed.holds }))

    pub reader_opens : ((last ≡ low) ⊎ (last ≡ high)) × Advances waits low high last (state a) (state b)
    reader_opens = ⊎_elim
        (λ p. let so = opens_to low (λ c u. inl u) p in (inl so.0, so.1))
        (λ p. let so = opens_to high (λ c u. inr u) p in (inr so.0, so.1)) first_sync.holds.seen

  pub unchanged : (last : ℕ) (a b : FolderState) → Stays (Unread waits last) a b → Advances waits last last last a b
  unchanged last a b stays = record { crashes = (stays_more (Unread waits last) (UnreadFrom waits last last) a b (λ c p. inl p) stays).crashes; holds = stays.holds }

  old_number : (last number : ℕ) → number ≤ last → (number < last) ⊎ (number ≡ last)
  old_number last number below = ⊎_elim (λ less. inl less) (λ le. inr (omega (arith, le, below))) (cases_lt number last)

  pub file_printed : (last number : ℕ) (printed : Option File) {a b : D} (handles : Handles state last number printed a b) → OthersInHandle given handles
      → Holds (Unread waits last) (state a) → Advances waits last (last_after last number printed) (last_after last number printed) (state a) (state b)
  file_printed last number printed (IsNext above payload is prints) kept holds =
      let goes = printing state consistent waits given spares last number above payload true prints kept holds in
      rw is (record { crashes = goes.stays.crashes; holds = goes.holds refl })
  file_printed last number printed (IsGone above is reads) kept holds =
      rw is (unchanged last _ _ (quiet state consistent waits given spares last (ReadFile (name_of Out number)) Did (λ now c. refl) reads.makes kept holds))
  file_printed last number printed (IsOld below is there makes) kept holds =
      rw is (unchanged last _ _ (removes state consistent waits given spares last number (old_number last number below) (if_done there) makes kept holds))

  failed_read : (last number : ℕ) (why : GetFault) {a b : D} (fails : FailsToRead state number why a b) → OthersInFailedRead state given number why a b fails
      → Holds (Unread waits last) (state a) → Stays (Unread waits last) (state a) (state b)
  failed_read last number fault.Folder fails kept holds = quiet state consistent waits given spares last (ReadFile (name_of Out number)) Faulted (λ now c. refl) fails kept holds
  failed_read last number fault.TooLong fails kept holds = quiet state consistent waits given spares last (ReadFile (name_of Out number)) Did (λ now c. refl) fails.0 kept holds
  failed_read last number fault.Output fails kept holds = absurd fails

  pub file_stops : (last number : ℕ) (why : GetFault) (printed : Option File) {a b : D} (stops : StopsAt state last number why printed a b) → OthersInStop given stops
      → Holds (Unread waits last) (state a) → Stays (UnreadFrom waits last number) (state a) (state b)
  file_stops last number why printed (AtRead above is fails) kept holds =
      stays_more (Unread waits last) (UnreadFrom waits last number) _ _ (λ c p. inl p) (failed_read last number why fails kept holds)
  file_stops last number why printed (AtOutput above because payload is reads) kept holds = stays_more (Unread waits last) (UnreadFrom waits last number) _ _ (λ c p. inl p)
      (quiet state consistent waits given spares last (ReadFile (name_of Out number)) Did (λ now c. refl) reads.makes kept holds)
  file_stops last number why printed (AtFinish above because payload is prints) kept holds =
      (printing state consistent waits given spares last number above payload false prints kept holds).stays
  file_stops last number why printed (AtOld below because is makes) kept holds = stays_more (Unread waits last) (UnreadFrom waits last number) _ _ (λ c p. inl p)
      (removes state consistent waits given spares last number (old_number last number below) Faulted makes kept holds)
