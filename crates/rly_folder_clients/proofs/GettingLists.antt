-- The calls of a reader as lists.
use Rattle.std.proofs.Common.{[], arith, Bool, false, true, inl, inr, is_ok, length, List, None, refl, Some, subst, suc, sym, take, ℕ, Option, get_or, ⊎_elim, ◌++◌, ◌+◌, ◌∷◌, ◌<◌, ◌≡◌, ◌≤◌, ◌⊎◌, ◌∙◌}
use Rattle.std.proofs.lemmas.Bool.Decides.{nat_tests}
use Rattle.std.proofs.lemmas.List.{append-nil, append_assoc, length-append, length-take, take_all, take_more}
use Rattle.std.proofs.KnownBytes.{Appends-nil, Appends-trans}
use Rattle.std.specs.Io.KnownBytes.{Appends, Keeps as KeepsBytes}
use Rattle.std.specs.Prelude.{Err, IfErr, IfOk, if◌then◌else◌, is_err, IsErrAnd, is_some, nat_lt, Ok, OnErr, option_map, Result}
use Rattle.rly_daemon_reply.proofs.Flows.{begins_broken, begins_kept, begins_more}
use Rattle.rly_daemon_reply.specs.Beginnings.{AppendsBeginning, BreaksOff}
use Rattle.rly_folder.specs.FolderCalls.{Did, Faulted, Makes, Remove}
use Rattle.rly_folder.specs.FolderModel.{File, FolderState, front_of}
use Rattle.rly_folder.specs.Names.{name_of}
use Rattle.rly_folder.specs.declared.name.Area.TheVariants.{Out}
use Rattle.rly_folder_clients.specs.Forms.{bytes_of, bytes_of_each, if_any}
use Rattle.rly_folder_clients.specs.Getting.{AtFile, AtFinish, AtOld, AtOutput, Finishes, Handles, HandlesEach, HandlesOne, HandlesSome, if_done, is_too_long, IsNext, IsOld, Keeps, last_after, Begins, Opens, Prints, Reads, StopsAmong, StopsAt, StopsGet, StopsOne}
use Rattle.rly_folder_clients.specs.declared.getting.GetFault.{GetFault}
use Rattle.rly_folder_clients.specs.declared.getting.GetFault.TheVariants as fault
use Rattle.rly_folder_clients.specs.Runs.{Runs, Step}
use Rattle.rly_folder_clients.specs.declared.form.Form.{Form}

-- ---- a file of which no more than the longest was asked

-- if it is no longer it was read whole
pub whole_file : (found file : Option File) → found ≡ option_map (front_of 65537) file → is_too_long found ≡ false → file ≡ found
whole_file found None is short = sym is
whole_file found (Some file) is short =
    let cut : nat_lt 65536 (length (take 65537 file.bytes)) ≡ false = rw is at short in
    rw is (rw (take_all 65537 file.bytes (fits file.bytes cut)) refl)
  where
    fits : (bytes : List ℕ) → nat_lt 65536 (length (take 65537 bytes)) ≡ false → length bytes ≤ 65537
    fits bytes cut = grind (arith, nat_tests, length-take 65537 bytes)

pub long_file : (found file : Option File) → found ≡ option_map (front_of 65537) file → is_too_long found ≡ true → is_too_long file ≡ true
long_file found None is long = rw is at long
long_file found (Some file) is long =
    let cut : nat_lt 65536 (length (take 65537 file.bytes)) ≡ true = rw is at long in beyond file.bytes cut
  where
    beyond : (bytes : List ℕ) → nat_lt 65536 (length (take 65537 bytes)) ≡ true → nat_lt 65536 (length bytes) ≡ true
    beyond bytes cut = grind (arith, nat_tests, length-take 65537 bytes)

pub not_ok : {X E : Type 0} (result : Result X E) → is_err result ≡ true → is_ok result ≡ false
not_ok (Ok x) err = absurd (cc err)
not_ok (Err e) err = refl

-- ---- lists of calls

module _ {D : Type 0} (state : D → FolderState) where
  pub runs_joined : (xs ys : List Step) (a m b : D) (whole : Bool) → Runs state xs true a m → Runs state ys whole m b → Runs state (xs ++ ys) whole a b
  runs_joined [] ys a m b whole one two = rw one.1 at two
  runs_joined (x ∷ xs) ys a m b whole one two = ⊎_elim (λ go. inl (go.0, go.1, runs_joined xs ys go.0 m b whole go.2 two)) (λ stop. absurd (cc stop.0)) one

  pub runs_cut : (xs ys : List Step) (a b : D) → Runs state xs false a b → Runs state (xs ++ ys) false a b
  runs_cut [] ys a b one = absurd (cc one.0)
  runs_cut (x ∷ xs) ys a b one = ⊎_elim (λ go. inl (go.0, go.1, runs_cut xs ys go.0 b go.2)) (λ stop. inr stop) one

  pub finish_cut : {a b : D} (last number : ℕ) → Keeps state last number false a b → Finishes state last number false a b
  finish_cut {a} {b} last number keeps = record { steps = keeps.steps; keeping = keeps.keeping; there = true; runs = runs_cut keeps.steps _ a b keeps.runs }

  pub finish_stops : {a m b : D} (last number : ℕ) → Keeps state last number true a m → Makes state (Remove (name_of Out number)) Faulted m b
      → Finishes state last number false a b
  finish_stops {a} {m} {b} last number keeps makes =
      record { steps = keeps.steps; keeping = keeps.keeping; there = true; runs = runs_joined keeps.steps _ a m b false keeps.runs (inr (refl, makes)) }

  pub finish_whole : {a m b : D} (last number : ℕ) (there : Bool) → Keeps state last number true a m → Makes state (Remove (name_of Out number)) (if_done there) m b
      → Finishes state last number true a b
  finish_whole {a} {m} {b} last number there keeps makes =
      record { steps = keeps.steps; keeping = keeps.keeping; there = there; runs = runs_joined keeps.steps _ a m b true keeps.runs (inl (b, makes, (refl, refl))) }

  -- one more file
  pub each_more : (xs : List ℕ) (a m b : D) (first number : ℕ) (printed : List File) (last : ℕ) (one : Option File) → HandlesEach state first xs printed last a m
      → Handles state last number one m b → HandlesEach state first (xs ++ number ∷ []) (printed ++ if_any one) (last_after last number one) a b
  each_more [] a m b first number printed last one each handles =
      (one, [], b, rw (each.0, append-nil (if_any one)) refl, (rw (each.2, each.1) at handles), (refl, rw each.1 refl, refl))
  each_more (x ∷ xs) a m b first number printed last one each handles = (
    each.0,
    each.1 ++ if_any one,
    each.2,
    rw (each.3, append_assoc (if_any each.0) each.1 (if_any one)) refl,
    each.4,
    each_more xs each.2 m b (last_after first x each.0) number each.1 last one each.5 handles,
  )

-- ---- the bytes

pub bytes_append : (form : Form) (xs ys : List File) → bytes_of_each form (xs ++ ys) ≡ bytes_of_each form xs ++ bytes_of_each form ys
bytes_append form [] ys = refl
bytes_append form (x ∷ xs) ys = rw (bytes_append form xs ys, append_assoc (bytes_of form x.bytes) (bytes_of_each form xs) (bytes_of_each form ys)) refl

pub wrote_more : (form : Form) (a b c : Option (List ℕ)) (xs ys : List File) → Appends a b (bytes_of_each form xs) → Appends b c (bytes_of_each form ys)
    → Appends a c (bytes_of_each form (xs ++ ys))
wrote_more form a b c xs ys one two = rw (bytes_append form xs ys) (Appends-trans a b c (bytes_of_each form xs) (bytes_of_each form ys) one two)

wrote_one : (form : Form) (a b : Option (List ℕ)) (payload : File) → Appends a b (bytes_of form payload.bytes) → Appends a b (bytes_of_each form (if_any (Some payload)))
wrote_one form a b payload one = rw (append-nil (bytes_of form payload.bytes)) one

-- ---- a payload whose output failed, at what stands behind its bytes, or at the flush

pub rest_broken : (a b c : Option (List ℕ)) (front rest : List ℕ) → Appends a b front → BreaksOff b c rest → AppendsBeginning a c (front ++ rest)
rest_broken a b c front rest wrote broken = begins_more a b c front rest wrote (begins_broken b c rest broken)

pub not_flushed : (a b c d : Option (List ℕ)) (front rest : List ℕ) → Appends a b front → Appends b c rest → KeepsBytes c d → AppendsBeginning a d (front ++ rest)
not_flushed a b c d front rest one two kept =
    subst (λ (bytes : List ℕ). AppendsBeginning a d bytes) (append-nil (front ++ rest)) (begins_more a c d (front ++ rest) [] (Appends-trans a b c front rest one two) (begins_kept c d [] kept))

pub always_err : {A E X : Type 0} (result : Result A E) → X → OnErr result X
always_err (Ok x) holds = tt
always_err (Err e) holds = holds

-- ---- one file

module _ {D : Type 0} (state : D → FolderState) (form : Form) (last number : ℕ) where
  module _ (a b : D) (written : Option (List ℕ)) (below : number ≤ last) where
    pub old_ok : (result : Result Bool GetFault) → IfOk result (λ is. (is ≡ false) × (there : Bool) × Makes state (Remove (name_of Out number)) (if_done there) a b)
        → IfOk result (λ is. HandlesOne state form last number is written written a b)
    old_ok (Ok is) removed = (None, removed.0, IsOld below refl removed.1 removed.2, Appends-nil written)
    old_ok (Err why) removed = tt

    pub old_err : (result : Result Bool GetFault) → IfErr result (λ why. (why ≡ fault.Folder) × Makes state (Remove (name_of Out number)) Faulted a b)
        → IfErr result (λ why. StopsOne state form last number why written written a b)
    old_err (Ok is) removed = tt
    old_err (Err why) removed = (None, AtOld below removed.0 refl removed.1, (rw removed.0 (Appends-nil written)))

  module _ (a m b : D) (written writes : Option (List ℕ)) (above : last < number) (payload : File) (reads : Reads state number (Some payload) a m) where
    prints : (whole : Bool) → Finishes state last number whole m b → Prints state last number payload whole a b
    prints whole finishes = record { read = m; reads = reads; finishes = finishes }

    pub printed_ok : Appends written writes (bytes_of form payload.bytes) → (result : Result Bool GetFault) → IfOk result (λ is. (is ≡ true) × Finishes state last number true m b)
        → IfOk result (λ is. HandlesOne state form last number is written writes a b)
    printed_ok wrote (Ok is) kept = (Some payload, kept.0, IsNext above payload refl (prints true kept.1), wrote_one form written writes payload wrote)
    printed_ok wrote (Err why) kept = tt

    pub printed_err : Appends written writes (bytes_of form payload.bytes) → (result : Result Bool GetFault) → IfErr result (λ why. (why ≡ fault.Folder) × Finishes state last number false m b)
        → IfErr result (λ why. StopsOne state form last number why written writes a b)
    printed_err wrote (Ok is) kept = tt
    printed_err wrote (Err why) kept = (Some payload, AtFinish above kept.0 payload refl (prints false kept.1), (rw kept.0 (wrote_one form written writes payload wrote)))

  pub output_err : {a b : D} (written writes : Option (List ℕ)) → last < number → (payload : File) → Reads state number (Some payload) a b
      → AppendsBeginning written writes (bytes_of form payload.bytes) → StopsOne state form last number fault.Output written writes a b
  output_err written writes above payload reads begun = (Some payload, AtOutput above refl payload refl reads, (rw (append-nil (bytes_of form payload.bytes)) begun))

-- ---- the files of a list

module _ {D : Type 0} (state : D → FolderState) (form : Form) (first : ℕ) (numbers : List ℕ) (most : ℕ) where
  -- so many were handled
  pub record Handled (done last count : ℕ) (written writes : Option (List ℕ)) (old new : D) : Type 0 where
    pub printed : List File
    pub each : HandlesEach state first (take done numbers) printed last old new
    pub count_is : count ≡ length printed
    pub within : count ≤ most
    pub wrote : Appends written writes (bytes_of_each form printed)

  pub none_handled : (written : Option (List ℕ)) (a : D) → Handled 0 first 0 written written a a
  none_handled written a = record { printed = []; each = (refl, refl, refl); count_is = refl; within = omega arith; wrote = Appends-nil written }

  counted : (one : Option File) (is_printed : Bool) → is_printed ≡ is_some one → (if is_printed then 1 else 0) ≡ length (if_any one)
  counted None is_printed is = rw is refl
  counted (Some file) is_printed is = rw is refl

  at_most_one : (is : Bool) (count : ℕ) → count < most → count + (if is then 1 else 0) ≤ most
  at_most_one true count less = omega (arith, less)
  at_most_one false count less = omega (arith, less)

  pub one_handled : (i last number next more count : ℕ) (is_printed : Bool) (written middle writes : Option (List ℕ)) {a m b : D} → i < length numbers → number ≡ get_or numbers i 0 → count < most
      → next ≡ (if is_printed then number else last) → more ≡ (if is_printed then 1 else 0)
      → Handled i last count written middle a m → HandlesOne state form last number is_printed middle writes m b → Handled (i + 1) next (count + more) written writes a b
  one_handled i last number next more count is_printed written middle writes {a} {m} {b} lt at less next_is more_is done one =
      let following : next ≡ last_after last number one.0 = rw (← one.1) next_is in record {
        printed = done.printed ++ if_any one.0;
        each = rw (take_more numbers i 0 lt, ← at, following) (each_more state (take i numbers) a m b first number done.printed last one.0 done.each one.2);
        count_is = rw (more_is, counted one.0 is_printed one.1, done.count_is) (sym (length-append done.printed (if_any one.0)));
        within = rw more_is (at_most_one is_printed count less);
        wrote = wrote_more form written middle writes done.printed (if_any one.0) done.wrote one.3;
      }

  pub all_handled : (i last count : ℕ) (written writes : Option (List ℕ)) {a b : D} → (length numbers ≤ i) ⊎ (most ≤ count) → Handled i last count written writes a b
      → HandlesSome state form first numbers most count written writes a b
  all_handled i last count written writes ends done = record {
    done = i;
    printed = done.printed;
    last = last;
    each = done.each;
    enough = ⊎_elim (λ all. inl all) (λ many. inr (omega (arith, many, done.within))) ends;
    count_is = done.count_is;
    within = done.within;
    wrote = done.wrote;
  }

  pub stops_among : (i last number count : ℕ) (why : GetFault) (written middle writes : Option (List ℕ)) {a m b : D} → i < length numbers → number ≡ get_or numbers i 0
      → Handled i last count written middle a m → StopsOne state form last number why middle writes m b → StopsAmong state form first numbers why written writes a b
  stops_among i last number count why written middle writes {a} {m} {b} lt at done one = record {
    done = i;
    printed = done.printed;
    last = last;
    stopped = m;
    each = done.each;
    among = lt;
    one = one.0;
    stops = rw (← at) one.1;
    between = middle;
    before = done.wrote;
    wrote = one.2;
  }

  pub stops_on_err : {X : Type 0} (result : Result X GetFault) (why : GetFault) (written writes : Option (List ℕ)) {a b : D} → IsErrAnd result (λ e. e ≡ why)
      → StopsAmong state form first numbers why written writes a b → IfErr result (λ e. StopsAmong state form first numbers e written writes a b)
  stops_on_err (Ok x) why written writes same stops = tt
  stops_on_err (Err e) why written writes same stops = rw same stops

-- ---- all of a call

pub opened_honest : {D : Type 0} (state : D → FolderState) {a b : D} (last : ℕ) → Opens state last a b → (state a).honest → (state b).honest
opened_honest state last opens honest = opens.lists.leads.honest.1 (opens.syncs.leads.honest.1 honest)

pub get_stops : {D : Type 0} (state : D → FolderState) (form : Form) (first : ℕ) (numbers : List ℕ) (written writes : Option (List ℕ)) (a l b : D) → Begins state first numbers a l
    → (result : Result ℕ GetFault) → IfErr result (λ why. StopsAmong state form first numbers why written writes l b) → IfErr result (λ why. StopsGet state form why written writes a b)
get_stops state form first numbers written writes a l b begins (Ok count) stops = tt
get_stops state form first numbers written writes a l b begins (Err why) stops = AtFile first numbers l begins stops
