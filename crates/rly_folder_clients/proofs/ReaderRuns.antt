-- The files of a listing, one after another: each that waits is printed, or still there.
use Rattle.std.proofs.Common.{[], arith, Bool, false, true, inl, inr, IsSome, List, None, refl, Some, subst, sym, ⊎_elim, ℕ, Option, drop, get_or, length, slice_index, suc, take, zero, ◌++◌, ◌∷◌, ◌+◌, ◌-◌, ◌<◌, ◌≤◌, ◌≡◌, ◌⊎◌, ◌∙◌}
use Rattle.std.proofs.lemmas.Bool.{cases_lt}
use Rattle.std.proofs.lemmas.Grind.{get_or_default_zero}
use Rattle.std.proofs.lemmas.List.{take-append-drop}
use Rattle.std.specs.List.{Contains}
use Rattle.std.specs.List.Sorted.{IsStrictlyIncreasing}
use Rattle.rly_folder.specs.FolderCalls.{Did, ListNames, ReadFile}
use Rattle.rly_folder.specs.FolderModel.{Consistent, File, Files, FolderState, LeavesOnly}
use Rattle.rly_folder.specs.Names.{name_of}
use Rattle.rly_folder.specs.declared.name.Area.TheVariants.{Out}
use Rattle.rly_folder.specs.declared.name.Name.{Name}
use Rattle.rly_folder_clients.specs.Forms.{if_any}
use Rattle.rly_folder_clients.specs.Getting.{Begins, Handles, HandlesEach, IsGone, IsNext, IsOld, last_after}
use Rattle.rly_folder_clients.specs.Holding.{Holds, Stays}
use Rattle.rly_folder_clients.specs.Reading.{Advances, IsPrintedUpTo, OpensToPrinted, OthersInBegins, OthersInEach, OthersInHandle, Spares, Unread, UnreadFrom}
use Rattle.rly_folder_clients.proofs.LawLemmas.{same_stays}
use Rattle.rly_folder_clients.proofs.ReaderLaws.{at_most, file_printed, reader_opens}
use Rattle.rly_folder_clients.proofs.ReaderSteps.{quiet}

-- ---- numbers in order

at_first : (x : ℕ) (zs : List ℕ) → slice_index (x ∷ zs) 0 ≡ x
at_first x zs = sym (get_or_default_zero (x ∷ zs) 0 0 (omega arith))

at_next : (x : ℕ) (zs : List ℕ) (k : ℕ) → k < length zs → slice_index (x ∷ zs) (suc k) ≡ slice_index zs k
at_next x zs k lt = sym (get_or_default_zero (x ∷ zs) (suc k) 0 (omega (arith, lt))) ∙ get_or_default_zero zs k 0 lt

rises : (x : ℕ) (zs : List ℕ) → IsStrictlyIncreasing (x ∷ zs) → (n : ℕ) → Contains zs n → x < n
rises x zs inc n has =
    let far = at_most (x ∷ zs) inc 0 (suc has.0) (omega arith) (omega (arith, has.1)) in
    let here : slice_index zs has.0 ≡ n = sym (get_or_default_zero zs has.0 n has.1) ∙ has.2 in
    omega (arith, far, at_first x zs, at_next x zs has.0 has.1, here)

rest_rises : (x : ℕ) (zs : List ℕ) → IsStrictlyIncreasing (x ∷ zs) → IsStrictlyIncreasing zs
rest_rises x zs inc i lt =
    let e : suc i + 1 ≡ suc (i + 1) = omega arith in
    let step : slice_index (x ∷ zs) (suc i) < slice_index (x ∷ zs) (suc (i + 1)) = rw e at (inc (suc i) (omega (arith, lt))) in
    omega (arith, step, at_next x zs i (omega (arith, lt)), at_next x zs (i + 1) lt)

head_or_rest : (x : ℕ) (zs : List ℕ) (n k : ℕ) → k < length (x ∷ zs) → get_or (x ∷ zs) k n ≡ n → (x ≡ n) ⊎ Contains zs n
head_or_rest x zs n zero lt is = inl is
head_or_rest x zs n (suc k) lt is = inr (k, omega (arith, lt), is)

head_in : (payload : File) (rest : List File) → Contains (payload ∷ rest) payload
head_in payload rest = (0, omega arith, refl)

later_in : (one : Option File) (rest : List File) (payload : File) → Contains rest payload → Contains (if_any one ++ rest) payload
later_in None rest payload has = has
later_in (Some first) rest payload has = (suc has.0, omega (arith, has.1), has.2)

-- ---- crashes of two parts

leaves_joined : (P : Files → Type 0) (a b e : FolderState) → LeavesOnly a b P → LeavesOnly b e P → LeavesOnly a e P
leaves_joined P a b e one two = record {
  later = omega (arith, one.later, two.later);
  each = λ c was. ⊎_elim (λ earlier. one.each c earlier) (λ p. p) (two.before a.moment c one.later was);
  before = λ t c le was. ⊎_elim (λ earlier. one.before t c le earlier) (λ p. inr p) (two.before t c (omega (arith, le, one.later)) was);
}

leaves_more : (P Q : Files → Type 0) (a b : FolderState) → ((c : Files) → P c → Q c) → LeavesOnly a b P → LeavesOnly a b Q
leaves_more P Q a b more leaves = record {
  later = leaves.later;
  each = λ c was. more c (leaves.each c was);
  before = λ t c le was. ⊎_elim (λ earlier. inl earlier) (λ p. inr (more c p)) (leaves.before t c le was);
}

module _ {D : Type 0} (state : D → FolderState) (consistent : (folder : D) → (state folder).honest → Consistent (state folder))
    (waits : ℕ → Option File) (given : Name → Option File → Bool) (spares : Spares waits given) where
  -- the files that wait above a number are among these
  abbrev Ahead : ℕ → List ℕ → Type 0
  Ahead last numbers = (n : ℕ) (payload : File) → waits n ≡ Some payload → last < n → Contains numbers n

  abbrev OpensSo : List File → ℕ → Files → Type 0
  OpensSo printed first files = (m : ℕ) × Unread waits m files × IsPrintedUpTo waits printed first m

  -- of one file
  record Step (first number : ℕ) (zs : List ℕ) (one : Option File) : Type 0 where
    rising : first ≤ last_after first number one
    own : (n : ℕ) (payload : File) → waits n ≡ Some payload → first < n → n ≤ last_after first number one → one ≡ Some payload
    ahead : Ahead (last_after first number one) zs

  is_number : (first number : ℕ) (zs : List ℕ) → IsStrictlyIncreasing (number ∷ zs) → Ahead first (number ∷ zs) → (n : ℕ) (payload : File) → waits n ≡ Some payload → first < n
      → n ≤ number → number ≡ n
  is_number first number zs inc ahead n payload waiting above below = let has = ahead n payload waiting above in
      ⊎_elim (λ is. is) (λ later. absurd (omega (arith, below, rises number zs inc n later))) (head_or_rest number zs n has.0 has.1 has.2)

  in_rest : (number : ℕ) (zs : List ℕ) (n : ℕ) → (number ≡ n → ⊥) → Contains (number ∷ zs) n → Contains zs n
  in_rest number zs n other has = ⊎_elim (λ is. absurd (other is)) (λ later. later) (head_or_rest number zs n has.0 has.1 has.2)

  one_step : (first number : ℕ) (zs : List ℕ) (one : Option File) {a b : D} → IsStrictlyIncreasing (number ∷ zs) → Ahead first (number ∷ zs)
      → (handles : Handles state first number one a b) → OthersInHandle given handles → Holds (Unread waits first) (state a) → Step first number zs one
  one_step first number zs one {a} {b} inc ahead (IsNext above payload is prints) kept holds =
      let read = quiet state consistent waits given spares first (ReadFile (name_of Out number)) Did (λ now c. refl) prints.reads.makes kept.0 holds in
      rw is (record {
        rising = omega (arith, above);
        own = λ n found waiting over below. let same = is_number first number zs inc ahead n found waiting over below in
            prints.reads.file holds.honest ∙ read.holds.seen.there number found (rw same waiting) above;
        ahead = λ n found waiting over. in_rest number zs n (λ same. omega (arith, same, over)) (ahead n found waiting (omega (arith, above, over)));
      })
  one_step first number zs one {a} {b} inc ahead (IsGone above is reads) kept holds =
      let read = quiet state consistent waits given spares first (ReadFile (name_of Out number)) Did (λ now c. refl) reads.makes kept holds in
      rw is (record {
        rising = omega arith;
        own = λ n found waiting over below. absurd (omega (arith, over, below));
        ahead = λ n found waiting over. in_rest number zs n
            (λ same. absurd (cc (reads.file holds.honest, read.holds.seen.there number found (rw same waiting) above))) (ahead n found waiting over);
      })
  one_step first number zs one {a} {b} inc ahead (IsOld below is there makes) kept holds = rw is (record {
    rising = omega arith;
    own = λ n found waiting over under. absurd (omega (arith, over, under));
    ahead = λ n found waiting over. in_rest number zs n (λ same. omega (arith, same, over, below)) (ahead n found waiting over);
  })

  pub record Run (first last : ℕ) (printed : List File) (a b : D) : Type 0 where
    pub holds : Holds (Unread waits last) (state b)
    pub up_to : IsPrintedUpTo waits printed first last
    pub crashes : LeavesOnly (state a) (state b) (OpensSo printed first)

  none : (first : ℕ) (printed : List File) → IsPrintedUpTo waits printed first first
  none first printed = record { within = omega arith; each = λ n payload waiting over below. absurd (omega (arith, over, below)) }

  still : (first : ℕ) (a : D) → Holds (Unread waits first) (state a) → Run first first [] a a
  still first a holds = record {
    holds = holds;
    up_to = none first [];
    crashes = leaves_more (Unread waits first) (OpensSo [] first) _ _ (λ c p. (first, p, none first [])) (same_stays (Unread waits first) (state a) (consistent a holds.honest) holds).crashes;
  }

  module _ (first number : ℕ) (zs : List ℕ) (one : Option File) (rest : List File) (step : Step first number zs one) where
    abbrev next : ℕ
    next = last_after first number one

    own_in : (n : ℕ) (payload : File) → one ≡ Some payload → Contains (if_any one ++ rest) payload
    own_in n payload is = rw is (head_in payload rest)

    up_to_next : IsPrintedUpTo waits (if_any one ++ rest) first next
    up_to_next = record { within = step.rising; each = λ n payload waiting over below. own_in n payload (step.own n payload waiting over below) }

    further : (m : ℕ) → IsPrintedUpTo waits rest next m → IsPrintedUpTo waits (if_any one ++ rest) first m
    further m up = record {
      within = omega (arith, step.rising, up.within);
      each = λ n payload waiting over below. ⊎_elim
          (λ later. later_in one rest payload (up.each n payload waiting later below))
          (λ le. own_in n payload (step.own n payload waiting over le)) (cases_lt next n);
    }

    more : (last : ℕ) {a m b : D} → Advances waits first next next (state a) (state m) → Run next last rest m b → Run first last (if_any one ++ rest) a b
    more last {a} {m} {b} here run = record {
      holds = run.holds;
      up_to = further last run.up_to;
      crashes = leaves_joined (OpensSo (if_any one ++ rest) first) _ _ _
          (leaves_more (UnreadFrom waits first next) (OpensSo (if_any one ++ rest) first) _ _
          (λ c p. ⊎_elim (λ u. (first, u, none first (if_any one ++ rest))) (λ u. (next, u, up_to_next)) p) here.crashes)
          (leaves_more (OpensSo rest next) (OpensSo (if_any one ++ rest) first) _ _ (λ c p. (p.0, p.1, further p.0 p.2)) run.crashes);
    }

  each_printed : (xs rest : List ℕ) (first last : ℕ) (printed : List File) (a b : D) → IsStrictlyIncreasing (xs ++ rest) → Ahead first (xs ++ rest)
      → (each : HandlesEach state first xs printed last a b) → OthersInEach state given first xs printed last a b each → Holds (Unread waits first) (state a) → Run first last printed a b
  each_printed [] rest first last printed a b inc ahead each kept holds = rw (each.0, each.1, each.2) (still first a holds)
  each_printed (x ∷ xs) rest first last printed a b inc ahead each kept holds =
      let step = one_step first x (xs ++ rest) each.0 inc ahead each.4 kept.0 holds in
      let here = file_printed state consistent waits given spares first x each.0 each.4 kept.0 holds in
      rw each.3 (more first x (xs ++ rest) each.0 each.1 step last here
      (each_printed xs rest (last_after first x each.0) last each.1 each.2 b (rest_rises x (xs ++ rest) inc) step.ahead each.5 kept.1 here.holds))

  pub files_printed : (low high first last done : ℕ) (numbers : List ℕ) (printed : List File) {a l b : D} (begins : Begins state first numbers a l) → OthersInBegins given begins
      → (each : HandlesEach state first (take done numbers) printed last l b) → OthersInEach state given first (take done numbers) printed last l b each
      → Holds (UnreadFrom waits low high) (state a)
      → Holds (Unread waits last) (state b) × IsPrintedUpTo waits printed first last × LeavesOnly (state a) (state b) (OpensToPrinted waits printed low high first)
  files_printed low high first last done numbers printed {a} {l} {b} begins others each kept holds =
      let opened = (reader_opens state consistent waits given spares low high first begins.opens others.0 holds).1 in
      let listed = quiet state consistent waits given spares first (ListNames Out) Did (λ now c. refl) begins.lists others.1 opened.holds in
      let listing = begins.listing holds.honest in
      let ahead : Ahead first numbers = λ n payload waiting over. (listing.each n).1 (some (listed.holds.seen.there n payload waiting over)) in
      let whole = take-append-drop done numbers in
      let run = each_printed (take done numbers) (drop done numbers) first last printed l b (rw whole listing.increasing) (rw whole ahead) each kept listed.holds in (
        run.holds,
        run.up_to,
        leaves_joined (OpensToPrinted waits printed low high first) _ _ _
            (leaves_more (UnreadFrom waits low high) (OpensToPrinted waits printed low high first) _ _ (λ c p. ⊎_elim (λ u. (low, u, inl refl)) (λ u. (high, u, inr (inl refl))) p) opened.crashes)
            (leaves_joined (OpensToPrinted waits printed low high first) _ _ _
            (leaves_more (Unread waits first) (OpensToPrinted waits printed low high first) _ _ (λ c u. (first, u, inr (inr (none first printed)))) listed.crashes)
            (leaves_more (OpensSo printed first) (OpensToPrinted waits printed low high first) _ _ (λ c p. (p.0, p.1, inr (inr p.2))) run.crashes)),
      )
    where
      some : {file : Option File} {payload : File} → file ≡ Some payload → IsSome file
      some is = rw is refl
