-- Files that are put one after another, and the lines of an input that is read piece by piece.
use Rattle.std.proofs.Common.{◌≡◌, ◌≤◌, ◌<◌, ◌-◌, ◌+◌, ℕ, List, [], ◌∷◌, ◌++◌, length, take, IfSome, true, false, Option, Some, None, refl, sym, ◌∙◌, ap, arith, append_assoc, subst}
use Rattle.std.proofs.lemmas.List.{append-nil, length-append, length-take, take_all}
use Rattle.std.specs.Prelude.{map, option_map, Err, IfErr, IsErrAnd, OnOk, Ok, Result}
use Rattle.std.specs.Io.KnownBytes.{prepend_known}
use Rattle.rly_folder.specs.FolderModel.{FolderState}
use Rattle.rly_daemon_lines.specs.HelpersLineReader.{line_front, TakesLine}
use Rattle.rly_daemon_folder.specs.HelpersInput.{HasRead, PutsLine, StopsFile}
use Rattle.rly_daemon_folder.specs.Input.{Begin, each_line_of, front_of, longest_file, PutsEach, PutsFile, PutsInput, StopsAfter, StopsInput, whole_of}
use Rattle.rly_daemon_folder.specs.declared.put_stop.PutStop.{PutStop}
use Rattle.rly_daemon_folder.specs.declared.put_stop.PutStop.TheVariants as stop

-- ---- the lines read so far

pub read_none : (destination : Option ℕ) (left : Option (List ℕ)) → HasRead destination left left []
read_none destination None = tt
read_none destination (Some xs) = refl

pub read_more : (destination : Option ℕ) (a b c : Option (List ℕ)) (fs gs : List (List ℕ)) → HasRead destination a b fs → HasRead destination b c gs
    → HasRead destination a c (fs ++ gs)
read_more destination None b c fs gs one two = tt
read_more destination (Some xs) None c fs gs one two = absurd one
read_more destination (Some xs) (Some ys) None fs gs one two = absurd two
read_more destination (Some xs) (Some ys) (Some zs) fs gs one two =
    one ∙ ap (λ r. fs ++ r) two ∙ sym (append_assoc fs gs (each_line_of destination zs))

-- what is left begins with files that come after those that were read
pub begin_more : (destination : Option ℕ) (a b : Option (List ℕ)) (fs gs : List (List ℕ)) → HasRead destination a b fs
    → Begin (each_line_of destination) b gs → Begin (each_line_of destination) a (fs ++ gs)
begin_more destination None b fs gs one two = tt
begin_more destination (Some xs) None fs gs one two = absurd one
begin_more destination (Some xs) (Some ys) fs gs one two =
    (two.0, one ∙ ap (λ r. fs ++ r) two.1 ∙ sym (append_assoc fs gs two.0))

begin_last : (destination : Option ℕ) (a b : Option (List ℕ)) (fs gs : List (List ℕ)) (file : List ℕ) → HasRead destination a b fs
    → Begin (each_line_of destination) b (gs ++ file ∷ []) → Begin (each_line_of destination) a ((fs ++ gs) ++ file ∷ [])
begin_last destination a b fs gs file one two =
    rw (append_assoc fs gs (file ∷ [])) (begin_more destination a b fs (gs ++ file ∷ []) one two)

-- the next file is too long
abbrev pub LongNext : (List ℕ → List (List ℕ)) → Option (List ℕ) → List (List ℕ) → Type 0
LongNext files_in input files = IfSome input (λ bytes. (file : List ℕ) × (rest : List (List ℕ)) × (files_in bytes ≡ files ++ file ∷ rest)
    × (longest_file < length file))

long_more : (destination : Option ℕ) (a b : Option (List ℕ)) (fs gs : List (List ℕ)) → HasRead destination a b fs
    → LongNext (each_line_of destination) b gs → LongNext (each_line_of destination) a (fs ++ gs)
long_more destination None b fs gs one two = tt
long_more destination (Some xs) None fs gs one two = absurd one
long_more destination (Some xs) (Some ys) fs gs one two =
    (two.0, two.1, one ∙ ap (λ r. fs ++ r) two.2 ∙ sym (append_assoc fs gs (two.0 ∷ two.1)), two.3)

-- ---- files that were put

module _ {D : Type 0} (state : D → FolderState) (age : ℕ) where
  pub each_joined : (xs ys : List (List ℕ)) (a m b : D) → PutsEach state age xs a m → PutsEach state age ys m b → PutsEach state age (xs ++ ys) a b
  each_joined [] ys a m b one two = rw one at two
  each_joined (x ∷ xs) ys a m b one two = (one.0, one.1, each_joined xs ys one.0 m b one.2 two)

  -- files of the first lines were put, in order
  pub record HasPutLines (destination : Option ℕ) (before left : Option (List ℕ)) (old new : D) : Type 0 where
    pub files : List (List ℕ)
    pub each : PutsEach state age files old new
    pub has_read : HasRead destination before left files

  pub no_lines : (destination : Option ℕ) (before left : Option (List ℕ)) (a : D) → before ≡ left → HasPutLines destination before left a a
  no_lines destination before left a same =
      record { files = []; each = refl; has_read = subst (λ b. HasRead destination b left []) (sym same) (read_none destination left) }

  pub more_lines : (destination : Option ℕ) (before left rest : Option (List ℕ)) (a m b : D) → HasPutLines destination before left a m
      → PutsLine state age destination true left rest m b → HasPutLines destination before rest a b
  more_lines destination before left rest a m b one two = record {
    files = one.files ++ two.0 ∷ [];
    each = each_joined one.files (two.0 ∷ []) a m b one.each (b, two.1, refl);
    has_read = read_more destination before left rest one.files (two.0 ∷ []) one.has_read two.2;
  }

  pub all_lines : (destination : Option ℕ) (before left rest : Option (List ℕ)) (a m b : D) → HasPutLines destination before left a m
      → PutsLine state age destination false left rest m b → PutsInput state age (each_line_of destination) before a b
  all_lines destination before left rest a m b one two = record {
    files = one.files;
    each = rw two.0 one.each;
    all = whole before left one.has_read two.1;
  }
    where
      whole : (before left : Option (List ℕ)) → HasRead destination before left one.files → IfSome left (λ bytes. bytes ≡ [])
          → IfSome before (λ bytes. one.files ≡ each_line_of destination bytes)
      whole None left has none = tt
      whole (Some xs) None has none = absurd has
      whole (Some xs) (Some ys) has none =
          sym (has ∙ ap (λ l. one.files ++ each_line_of destination l) none ∙ append-nil one.files)

  stops_later : (destination : Option ℕ) (a b : Option (List ℕ)) (fs gs : List (List ℕ)) (why : PutStop) (m n : D) → HasRead destination a b fs
      → StopsAfter state age (each_line_of destination) b gs why m n → StopsAfter state age (each_line_of destination) a (fs ++ gs) why m n
  stops_later destination a b fs gs stop.Input m n has stops = (stops.0, begin_more destination a b fs gs has stops.1)
  stops_later destination a b fs gs stop.OutOfMemory m n has stops = (stops.0, begin_more destination a b fs gs has stops.1)
  stops_later destination a b fs gs stop.TooLong m n has stops = (stops.0, long_more destination a b fs gs has stops.1)
  stops_later destination a b fs gs (stop.Put fault) m n has stops =
      (stops.0, stops.1, stops.2, stops.3, begin_last destination a b fs gs stops.0 has stops.4)
  stops_later destination a b fs gs (stop.Wait fault) m n has stops = (stops.0, begin_more destination a b fs gs has stops.1)

  pub lines_stop : (destination : Option ℕ) (before left : Option (List ℕ)) (why : PutStop) (a m b : D) → HasPutLines destination before left a m
      → StopsInput state age (each_line_of destination) why left m b → StopsInput state age (each_line_of destination) why before a b
  lines_stop destination before left why a m b one two = record {
    files = one.files ++ two.files;
    stopped = two.stopped;
    each = each_joined one.files two.files a m two.stopped one.each two.each;
    stops = stops_later destination before left one.files two.files why two.stopped b one.has_read two.stops;
  }

  -- ---- the file of an input that was read, or of its next line

  -- nothing was put
  pub stops_first : (files_in : List ℕ → List (List ℕ)) (why : PutStop) (input : Option (List ℕ)) (a : D)
      → StopsAfter state age files_in input [] why a a → StopsInput state age files_in why input a a
  stops_first files_in why input a stops = record { files = []; stopped = a; each = refl; stops = stops }

  pub begin_none : (files_in : List ℕ → List (List ℕ)) (input : Option (List ℕ)) → Begin files_in input []
  begin_none files_in None = tt
  begin_none files_in (Some xs) = (files_in xs, refl)

  -- if a file that isn't too long is the next one of an input, its outcome is that of the input
  pub file_stops : (files_in : List ℕ → List (List ℕ)) (input : Option (List ℕ)) (file : List ℕ) (why : PutStop) (a b : D)
      → (length file ≤ longest_file → Begin files_in input (file ∷ [])) → (longest_file < length file → LongNext files_in input [])
      → StopsFile state age file why a b → StopsInput state age files_in why input a b
  file_stops files_in input file stop.Input a b next long stops = absurd stops
  file_stops files_in input file stop.OutOfMemory a b next long stops = absurd stops
  file_stops files_in input file stop.TooLong a b next long stops =
      record { files = []; stopped = a; each = refl; stops = (stops.0, long stops.1) }
  file_stops files_in input file (stop.Put fault) a b next long stops =
      record { files = []; stopped = a; each = refl; stops = (file, stops.0, stops.1, stops.2, next stops.1) }
  file_stops files_in input file (stop.Wait fault) a b next long stops =
      record { files = file ∷ []; stopped = b; each = (b, stops, refl); stops = (refl, next stops.short) }

-- ---- a line, of which at most so many bytes are kept

-- a file of a line that is kept in part is too long
kept_whole : (front line : List ℕ) → length (front ++ line_front line) ≤ longest_file → line_front line ≡ line
kept_whole front line short =
    take_all 20481 line (omega (arith, short, length-append front (take 20481 line), length-take 20481 line))

kept_long : (front line : List ℕ) → longest_file < length (front ++ line_front line) → longest_file < length (front ++ line)
kept_long front line long =
    omega (arith, long, length-append front (take 20481 line), length-append front line, length-take 20481 line)

module _ (destination : Option ℕ) where
  pub next_read : (before left : Option (List ℕ)) (kept : List ℕ) → TakesLine true before left kept
      → length (front_of destination ++ kept) ≤ longest_file → HasRead destination before left ((front_of destination ++ kept) ∷ [])
  next_read None left kept takes short = tt
  next_read (Some xs) None kept takes short = absurd takes
  next_read (Some xs) (Some ys) kept takes short =
      let whole : kept ≡ takes.0 = takes.2 ∙ kept_whole (front_of destination) takes.0 (rw takes.2 at short) in
      ap (map (λ line. front_of destination ++ line)) takes.1 ∙ ap (λ line. (front_of destination ++ line) ∷ each_line_of destination ys) (sym whole)

  pub next_begins : (before left : Option (List ℕ)) (kept : List ℕ) → TakesLine true before left kept
      → length (front_of destination ++ kept) ≤ longest_file → Begin (each_line_of destination) before ((front_of destination ++ kept) ∷ [])
  next_begins None left kept takes short = tt
  next_begins (Some xs) None kept takes short = absurd takes
  next_begins (Some xs) (Some ys) kept takes short = (each_line_of destination ys, next_read (Some xs) (Some ys) kept takes short)

  pub next_long : (before left : Option (List ℕ)) (kept : List ℕ) → TakesLine true before left kept
      → longest_file < length (front_of destination ++ kept) → LongNext (each_line_of destination) before []
  next_long None left kept takes long = tt
  next_long (Some xs) None kept takes long = absurd takes
  next_long (Some xs) (Some ys) kept takes long = (
    front_of destination ++ takes.0,
    each_line_of destination ys,
    ap (map (λ line. front_of destination ++ line)) takes.1,
    kept_long (front_of destination) takes.0 (rw takes.2 at long),
  )

module _ {D : Type 0} (state : D → FolderState) (age : ℕ) (destination : Option ℕ) where
  pub line_put : (before left : Option (List ℕ)) (kept given : List ℕ) (a b : D) → TakesLine true before left kept → given ≡ front_of destination ++ kept
      → PutsFile state age given a b → PutsLine state age destination true before left a b
  line_put before left kept given a b takes is puts = (given, puts, rw is (next_read destination before left kept takes (rw is at puts.short)))

  pub line_stops : (before left : Option (List ℕ)) (kept given : List ℕ) (why : PutStop) {X : Type 0} (result : Result X PutStop) (a b : D) → TakesLine true before left kept
      → given ≡ front_of destination ++ kept → IsErrAnd result (λ e. e ≡ why) → StopsFile state age given why a b
      → IfErr result (λ e. StopsInput state age (each_line_of destination) e before a b)
  line_stops before left kept given why (Ok x) a b takes is same stops = tt
  line_stops before left kept given why (Err e) a b takes is same stops =
      let own : StopsFile state age (front_of destination ++ kept) why a b = subst (λ file. StopsFile state age file why a b) is stops in
      rw same (file_stops state age (each_line_of destination) before (front_of destination ++ kept) why a b (next_begins destination before left kept takes)
      (next_long destination before left kept takes) own)

  -- nothing was read yet
  pub lines_start : (ahead : List ℕ) (left : Option (List ℕ)) (a : D) → ahead ≡ [] → HasPutLines state age destination left (prepend_known ahead left) a a
  lines_start ahead None a none = no_lines state age destination None None a refl
  lines_start ahead (Some xs) a none = rw none (no_lines state age destination (Some xs) (Some xs) a refl)

  -- some error of the lines is that of the input
  pub lines_err : (before left : Option (List ℕ)) (why : PutStop) {X : Type 0} (result : Result X PutStop) (a m b : D) → HasPutLines state age destination before left a m
      → IsErrAnd result (λ e. e ≡ why) → StopsInput state age (each_line_of destination) why left m b
      → IfErr result (λ e. StopsInput state age (each_line_of destination) e before a b)
  lines_err before left why (Ok x) a m b one same two = tt
  lines_err before left why (Err e) a m b one same two = rw same (lines_stop state age destination before left why a m b one two)

-- ---- an input that is read up to one byte more than the longest file

module _ (destination : Option ℕ) (limit : ℕ) (file : List ℕ) (fits : limit ≡ 8195 - length (front_of destination)) where
  all_read : (bytes : List ℕ) → file ≡ front_of destination ++ take limit bytes → length file ≤ longest_file → file ≡ front_of destination ++ bytes
  all_read bytes read short =
      let part : length (take limit bytes) + length (front_of destination) ≤ 8194 = omega (arith, rw read at short, length-append (front_of destination) (take limit bytes)) in
      read ∙ ap (λ xs. front_of destination ++ xs) (take_all limit bytes (grind (arith, fits, part, length-take limit bytes)))

  pub whole_read : (input : Option (List ℕ)) → IfSome (option_map (take limit) input) (λ xs. file ≡ front_of destination ++ xs) → length file ≤ longest_file
      → IfSome input (λ bytes. file ∷ [] ≡ whole_of destination bytes)
  whole_read None read short = tt
  whole_read (Some bytes) read short = ap (λ f. f ∷ []) (all_read bytes read short)

  pub whole_begins : (input : Option (List ℕ)) → IfSome (option_map (take limit) input) (λ xs. file ≡ front_of destination ++ xs) → length file ≤ longest_file
      → Begin (whole_of destination) input (file ∷ [])
  whole_begins None read short = tt
  whole_begins (Some bytes) read short = ([], sym (ap (λ f. f ∷ []) (all_read bytes read short)))

  pub whole_long : (input : Option (List ℕ)) → IfSome (option_map (take limit) input) (λ xs. file ≡ front_of destination ++ xs) → longest_file < length file
      → LongNext (whole_of destination) input []
  whole_long None read long = tt
  whole_long (Some bytes) read long = (front_of destination ++ bytes, [], refl, longer bytes read long)
    where
      longer : (bytes : List ℕ) → file ≡ front_of destination ++ take limit bytes → longest_file < length file → longest_file < length (front_of destination ++ bytes)
      longer bytes read long = grind (arith, rw read at long, length-append (front_of destination) (take limit bytes), length-append (front_of destination) bytes, length-take limit bytes)

module _ {D : Type 0} (state : D → FolderState) (age : ℕ) (destination : Option ℕ) (limit : ℕ) (file given : List ℕ) (fits : limit ≡ 8195 - length (front_of destination))
    (input : Option (List ℕ)) (read : IfSome (option_map (take limit) input) (λ xs. file ≡ front_of destination ++ xs)) (is : given ≡ file) where
  pub whole_puts : {X : Type 0} (result : Result X PutStop) (a b : D) → OnOk result (PutsFile state age given a b) → OnOk result (PutsInput state age (whole_of destination) input a b)
  whole_puts (Ok x) a b puts = let own : PutsFile state age file a b = subst (λ f. PutsFile state age f a b) is puts in record {
    files = file ∷ [];
    each = (b, own, refl);
    all = whole_read destination limit file fits input read own.short;
  }
  whole_puts (Err e) a b puts = tt

  pub whole_stops : {X : Type 0} (result : Result X PutStop) (a b : D) → IfErr result (λ why. StopsFile state age given why a b)
      → IfErr result (λ why. StopsInput state age (whole_of destination) why input a b)
  whole_stops (Ok x) a b stops = tt
  whole_stops (Err why) a b stops = file_stops state age (whole_of destination) input file why a b (whole_begins destination limit file fits input read)
      (whole_long destination limit file fits input read) (subst (λ f. StopsFile state age f why a b) is stops)
