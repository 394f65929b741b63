-- Reading inverts writing for bodies, in both directions; and the loops over a body's records.
use Rattle.std.proofs.Common.{◌≡◌, ℕ, zero, suc, ◌+◌, ◌-◌, ◌*◌, ◌^◌, ◌<◌, ◌≤◌, Bool, true, false, cond, ◌||◌, eqb, ltb, List, [], ◌∷◌, ◌++◌, length, get_or, drop, Option, Some, None, Result, Ok, Err, refl, sym, ap, subst, ◌∙◌, append_assoc, arith, drop-cons, inl, inr}
use Rattle.std.specs.Prelude.{All, IfOk, IsSome, MatchResult, sum_by}
use Rattle.std.specs.Global.{Vec}
use Rattle.std.specs.List.{AllByRecursion, flat_map}
use Rattle.std.proofs.lemmas.Bool.{cases_lt, eqb-true, ltb-false, le-ltb, ne_eqb, or_parts, or_from}
use Rattle.std.proofs.lemmas.List.{append-nil, drop_all, get_or_default, length-append, nil_from_length}
use Rattle.std.proofs.lemmas.List.Elements.{recursion_from_All}
use Rattle.std.proofs.lemmas.List.Concat.{flat_map-cons}
use Rattle.std.proofs.lemmas.List.Sums.{sum_by-cons}
use Rattle.std.proofs.Math.Nat.{mul-le-mul_left}
use Rattle.byteorder.specs.Endian.{big_bytes}
use Rattle.rly_machine.specs.declared.command.Command.{Command}
use Rattle.rly_machine.specs.declared.command.Command.TheVariants.{Take, Pick, Release}
use Rattle.rly_record.specs.declared.decode_fault.DecodeFault.{DecodeFault}
use Rattle.rly_record.specs.declared.decode_fault.DecodeFault.TheVariants.{OutOfMemory, Malformed}
use Rattle.rly_record.specs.Spelling.{IsRecordable, IsShort, record_of, record_length, body_of, body_length, longest_body, longest_record, HasRecord, HaveBody}
use Rattle.rly_record.specs.HelpersReader.{◌>>=◌, Fails, Gives, rest_after, in_front, many_at, field_at, command_at, body_at, whole_body}
use Rattle.rly_record.proofs.Fields.{IsBytes, bind_some, bind_is, some_is, Takes, Takes-then, wide_2, number_takes, number_again}
use Rattle.rly_record.proofs.Readers.{Reads, many_reads}
use Rattle.rly_record.proofs.Records.{command_takes, command_again, is_refused, length-record_of, one_reading}

-- the result of reading many records: the commands and the bytes after them
abbrev pub AllFound : Type 0
AllFound = List (Command (List ℕ)) × List ℕ

-- ---- both directions

command_reads : Reads command_at record_of HasRecord
command_reads = record { takes = λ bytes command rest fits e. command_takes bytes (command, rest) fits e; again = command_again }

-- a test after which a parse continues
guard_goes : {A : Type 0} (b : Bool) (read : Option A) (x : A) → cond b None read ≡ Some x → (b ≡ false) × (read ≡ Some x)
guard_goes true read x e = absurd cc
guard_goes false read x e = (refl, e)

-- a test at which a parse may end
guard_ends : {A : Type 0} (b : Bool) (x y : A) → cond b (Some x) None ≡ Some y → (b ≡ true) × (x ≡ y)
guard_ends true x y e = (refl, cc)
guard_ends false x y e = absurd cc

-- the value of a parse, if it has one
some_there : {A : Type 0} (read : Option A) → IsSome read → (x : A) × (read ≡ Some x)
some_there (Some x) is = (x, refl)
some_there None is = absurd cc

positive : (n : ℕ) → eqb n 0 ≡ false → 1 ≤ n
positive zero e = absurd cc
positive (suc n) e = omega arith

-- the test of a body's count, and the bytes after it
abbrev counted : ℕ × List ℕ → Option AllFound
counted count = cond (eqb count.0 0 || ltb 64 count.0) None (many_at command_at count.0 count.1)

-- the test that no bytes are left
abbrev ended : AllFound → Option (List (Command (List ℕ)))
ended body = cond (eqb (length body.1) 0) (Some body.0) None

body_takes : (bytes : List ℕ) (x : AllFound) → IsBytes bytes → body_at bytes ≡ Some x → Takes bytes (body_of x.0) x.1 × HaveBody x.0
unfolding body_at
body_takes bytes x fits e =
    let a = bind_some (field_at 2 bytes) counted x e in
    let count = a.0 in
    let g = guard_goes (eqb count.0 0 || ltb 64 count.0) (many_at command_at count.0 count.1) x a.2 in
    let tests = or_parts (eqb count.0 0) (ltb 64 count.0) g.0 in
    let low : 1 ≤ count.0 = positive count.0 tests.0 in
    let high : count.0 ≤ 64 = ltb-false _ _ tests.1 in
    let first = number_takes 2 wide_2 bytes count.0 count.1 fits a.1 in
    let second = (many_reads count.0 command_reads).takes count.1 x.0 x.1 first.0.rest_fits g.1 in
    let both = Takes-then bytes (big_bytes 2 count.0) count.1 (flat_map record_of x.0) x.1 first.0 second.0 in
    (subst (λ (n : ℕ). Takes bytes (big_bytes 2 n ++ flat_map record_of x.0) x.1) (sym second.1.count) both, ((omega (arith, second.1.count), omega (arith, second.1.count)), second.1.each))

pub body_again : (commands : List (Command (List ℕ))) (rest : List ℕ) → HaveBody commands → body_at (body_of commands ++ rest) ≡ Some (commands, rest)
unfolding body_at
body_again commands rest fits =
    let n : ℕ = length commands in
    let tail : List ℕ = flat_map record_of commands ++ rest in
    let z : Option AllFound = Some (commands, rest) in
    let tests : (eqb n 0 || ltb 64 n) ≡ false = or_from _ _ (ne_eqb n 0 (λ none. omega (arith, fits.0.0))) (le-ltb _ _ fits.0.1) in
    ap body_at (append_assoc (big_bytes 2 n) (flat_map record_of commands) rest)
    ∙ bind_is (field_at 2 (big_bytes 2 n ++ tail)) (n, tail) counted z (number_again 2 n tail (omega (arith, fits.0.1))) (rw tests ((many_reads n command_reads).again commands rest (record { count = refl; each = fits.1 })))

pub whole_takes : (bytes : List ℕ) (commands : List (Command (List ℕ))) → IsBytes bytes → whole_body bytes ≡ Some commands → HaveBody commands × (bytes ≡ body_of commands)
unfolding whole_body
whole_takes bytes commands fits e =
    let a = bind_some (body_at bytes) ended commands e in
    let g = guard_ends (eqb (length a.0.1) 0) a.0.0 commands a.2 in
    let t = body_takes bytes a.0 fits a.1 in
    let nothing : a.0.1 ≡ [] = nil_from_length a.0.1 (eqb-true _ _ g.0) in
    let whole : bytes ≡ body_of a.0.0 = t.0.parts ∙ ap (λ (rest : List ℕ). body_of a.0.0 ++ rest) nothing ∙ append-nil (body_of a.0.0) in
    subst (λ (v : List (Command (List ℕ))). HaveBody v × (bytes ≡ body_of v)) g.1 (t.1, whole)

pub whole_again : (commands : List (Command (List ℕ))) → HaveBody commands → whole_body (body_of commands) ≡ Some commands
unfolding whole_body
whole_again commands fits =
    let read : body_at (body_of commands) ≡ Some (commands, []) = ap body_at (sym (append-nil (body_of commands))) ∙ body_again commands [] fits in
    bind_is (body_at (body_of commands)) (commands, []) ended (Some commands) read refl

pub body_once : (a b : List (Command (List ℕ))) (x y : List ℕ) → HaveBody a → HaveBody b → body_of a ++ x ≡ body_of b ++ y → (a ≡ b) × (x ≡ y)
body_once a b x y fits_a fits_b same = one_reading body_at (body_of a ++ x) (body_of b ++ y) a b x y same (body_again a x fits_a) (body_again b y fits_b)

-- ---- the commands at the front

-- if the parse has no value, the front encodes none
pub front_fails : (fault : DecodeFault) (read : Option AllFound) → Fails fault read → Fails fault (in_front read)
front_fails OutOfMemory read fails = tt
front_fails Malformed read fails = ap in_front fails

-- ---- skipping records

behind_rest : (command : Command (List ℕ)) (read : Option AllFound) → rest_after (read >>= λ x. Some (command ∷ x.0, x.1)) ≡ rest_after read
behind_rest command (Some x) = refl
behind_rest command None = refl

pub passes_on : (count i : ℕ) (bytes : List ℕ) (command : Command (List ℕ)) (after : List ℕ) (total : Option (List ℕ)) → i < count → command_at bytes ≡ Some (command, after)
    → rest_after (many_at command_at (count - i) bytes) ≡ total → rest_after (many_at command_at (count - (i + 1)) after) ≡ total
unfolding many_at
passes_on count i bytes command after total lt found so_far =
    let k : count - i ≡ suc (count - (i + 1)) = omega arith in
    let one : rest_after (many_at command_at (count - i) bytes) ≡ rest_after (many_at command_at (count - (i + 1)) after) = rw (k, found) (behind_rest command (many_at command_at (count - (i + 1)) after)) in
    sym one ∙ so_far

pub passes_none : (fault : DecodeFault) (count i : ℕ) (bytes : List ℕ) (total : Option (List ℕ)) → i < count → Fails fault (command_at bytes)
    → rest_after (many_at command_at (count - i) bytes) ≡ total → Fails fault total
unfolding many_at
passes_none OutOfMemory count i bytes total lt fails so_far = tt
passes_none Malformed count i bytes total lt fails so_far =
    let k : count - i ≡ suc (count - (i + 1)) = omega arith in
    let one : rest_after (many_at command_at (count - i) bytes) ≡ None = rw (k, fails) refl in
    sym so_far ∙ one

pub passed : (count i : ℕ) (bytes : List ℕ) (total : Option (List ℕ)) → count ≤ i → rest_after (many_at command_at (count - i) bytes) ≡ total → total ≡ Some bytes
unfolding many_at
passed count i bytes total le so_far =
    let k : count - i ≡ 0 = omega arith in
    let one : rest_after (many_at command_at (count - i) bytes) ≡ Some bytes = rw k refl in
    sym so_far ∙ one

-- ---- the result of the public reader

pub body_has : (bytes : List ℕ) (r : Result (Vec (Command (List ℕ))) DecodeFault) → IsBytes bytes → Gives (λ v. v.items) r (whole_body bytes)
    → IfOk r (λ v. HaveBody v.items)
body_has bytes (Ok v) fits given = (whole_takes bytes v.items fits given).0
body_has bytes (Err e) fits given = tt

pub body_is : (bytes : List ℕ) (r : Result (Vec (Command (List ℕ))) DecodeFault) → IsBytes bytes → Gives (λ v. v.items) r (whole_body bytes)
    → IfOk r (λ v. bytes ≡ body_of v.items)
body_is bytes (Ok v) fits given = (whole_takes bytes v.items fits given).1
body_is bytes (Err e) fits given = tt

pub body_only : (bytes : List ℕ) (r : Result (Vec (Command (List ℕ))) DecodeFault) (commands : List (Command (List ℕ))) → HaveBody commands → bytes ≡ body_of commands
    → Gives (λ v. v.items) r (whole_body bytes) → MatchResult r (λ found. found.items ≡ commands) (λ fault. fault ≡ OutOfMemory)
body_only bytes (Ok v) commands fits same given = some_is v.items commands (sym given ∙ ap whole_body same ∙ whole_again commands fits)
body_only bytes (Err e) commands fits same given = is_refused e (whole_body bytes) commands given (ap whole_body same ∙ whole_again commands fits)

-- if a body is read, the bytes encode one
pub body_spelled : (bytes : List ℕ) → IsBytes bytes → IsSome (whole_body bytes) → (commands : List (Command (List ℕ))) × HaveBody commands × (bytes ≡ body_of commands)
body_spelled bytes fits there =
    let commands = some_there (whole_body bytes) there in
    let whole = whole_takes bytes commands.0 fits commands.1 in
    (commands.0, whole.0, whole.1)

-- ---- writing records in order

-- the lengths of the records from an index on
abbrev pub lengths_from : ℕ → List (Command (List ℕ)) → ℕ
lengths_from i commands = sum_by (record_length length) (drop i commands)

pub lengths_next : (commands : List (Command (List ℕ))) (i : ℕ) (command : Command (List ℕ)) → i < length commands → command ≡ get_or commands i command
    → lengths_from i commands ≡ record_length length command + lengths_from (i + 1) commands
lengths_next commands i command lt is =
    let index : suc i ≡ i + 1 = omega arith in
    let cut : drop i commands ≡ get_or commands i command ∷ drop (suc i) commands = drop-cons commands i command lt in
    let same : drop i commands ≡ command ∷ drop (i + 1) commands = cut ∙ ap (λ (x : Command (List ℕ)). x ∷ drop (suc i) commands) (sym is) ∙ ap (λ (n : ℕ). command ∷ drop n commands) index in
    ap (sum_by (record_length length)) same ∙ sum_by-cons (record_length length) command (drop (i + 1) commands)

pub lengths_end : (commands : List (Command (List ℕ))) (i : ℕ) → length commands ≤ i → lengths_from i commands ≡ 0
lengths_end commands i all = ap (sum_by (record_length length)) (drop_all i commands all)

-- the record of a command with a short payload
pub record_length-short : (most : ℕ) (command : Command (List ℕ)) → IsShort most command → record_length length command ≤ longest_record most
record_length-short most (Take peer number hop stamp limit payload) short = omega (arith, short)
record_length-short most (Pick hop now) short = omega arith
record_length-short most (Release hop number) short = omega arith

-- a command that can be recorded has a short payload
pub recordable_short : (most : ℕ) (command : Command (List ℕ)) → IsRecordable most command → IsShort most command
recordable_short most (Take peer number hop stamp limit payload) recordable = recordable.0
recordable_short most (Pick hop now) recordable = tt
recordable_short most (Release hop number) recordable = tt

-- one that can be recorded with a lower payload limit can be recorded
pub recordable_longest : (most : ℕ) (command : Command (List ℕ)) → most ≤ 8192 → IsRecordable most command → IsRecordable 8192 command
recordable_longest most (Take peer number hop stamp limit payload) within recordable = (omega (arith, within, recordable.0), recordable.1)
recordable_longest most (Pick hop now) within recordable = tt
recordable_longest most (Release hop number) within recordable = tt

-- the payload of a command with a record fits one
pub has_short : (command : Command (List ℕ)) → HasRecord command → IsShort 8192 command
has_short (Take peer number hop stamp limit payload) has = has.4
has_short (Pick hop now) has = tt
has_short (Release hop number) has = tt

pub have_short : (commands : List (Command (List ℕ))) → AllByRecursion HasRecord commands → AllByRecursion (IsShort 8192) commands
have_short [] has = tt
have_short (command ∷ commands) has = (has_short command has.0, have_short commands has.1)

-- a property of all holds for the one at an index
pub recordable_at : (commands : List (Command (List ℕ))) (i : ℕ) (command : Command (List ℕ)) → All (IsRecordable 8192) commands → i < length commands → command ≡ get_or commands i command
    → IsRecordable 8192 command
recordable_at commands i command recordable lt is = subst (IsRecordable 8192) (sym is) (recordable i command lt)

pub short_at : (commands : List (Command (List ℕ))) (i : ℕ) (command : Command (List ℕ)) → All (IsRecordable 8192) commands → i < length commands → command ≡ get_or commands i command → IsShort 8192 command
short_at commands i command recordable lt is = recordable_short 8192 command (recordable_at commands i command recordable lt is)

-- one more command with a record
pub has_next : (commands : List (Command (List ℕ))) (i : ℕ) (command : Command (List ℕ)) → i < length commands → command ≡ get_or commands i command → HasRecord command
    → ((k : ℕ) (d : Command (List ℕ)) → k < i → HasRecord (get_or commands k d))
    → (k : ℕ) (d : Command (List ℕ)) → k < i + 1 → HasRecord (get_or commands k d)
has_next commands i command lt is has before k d below =
    elim (cases_lt k i) [
      | inl earlier ↦ before k d earlier
      | inr le ↦
          let last : i ≡ k = omega arith in
          let same : command ≡ get_or commands i d = is ∙ get_or_default commands i command d lt in
          subst (λ (n : ℕ). HasRecord (get_or commands n d)) last (subst HasRecord same has)
    ]

pub have_all : (commands : List (Command (List ℕ))) (i : ℕ) → length commands ≤ i
    → ((k : ℕ) (d : Command (List ℕ)) → k < i → HasRecord (get_or commands k d)) → AllByRecursion HasRecord commands
have_all commands i all before = recursion_from_All HasRecord commands (λ k d lt. before k d (omega (arith, lt, all)))

-- ---- lengths

pub sum-lengths : (commands : List (Command (List ℕ))) → length (flat_map record_of commands) ≡ sum_by (record_length length) commands
sum-lengths [] = refl
sum-lengths (command ∷ commands) =
    let first = length-record_of command in
    let others = sum-lengths commands in
    let cut : length (flat_map record_of (command ∷ commands)) ≡ length (record_of command) + length (flat_map record_of commands) =
    ap (λ (t : List ℕ). length t) (flat_map-cons record_of command commands) ∙ length-append (record_of command) (flat_map record_of commands) in
    let whole : sum_by (record_length length) (command ∷ commands) ≡ record_length length command + sum_by (record_length length) commands = sum_by-cons (record_length length) command commands in
    cut ∙ ap (λ (n : ℕ). n + length (flat_map record_of commands)) first ∙ ap (λ (n : ℕ). record_length length command + n) others ∙ sym whole

pub length-body_of : (commands : List (Command (List ℕ))) → length (body_of commands) ≡ body_length length commands
length-body_of commands =
    let cut : length (body_of commands) ≡ 2 + length (flat_map record_of commands) = length-append (big_bytes 2 (length commands)) (flat_map record_of commands) in
    cut ∙ ap (λ (n : ℕ). 2 + n) (sum-lengths commands)

pub sum-lengths-within : (most : ℕ) (commands : List (Command (List ℕ))) → AllByRecursion (IsShort most) commands
    → sum_by (record_length length) commands ≤ longest_record most * length commands
sum-lengths-within most [] short = omega arith
sum-lengths-within most (command ∷ commands) short =
    let whole : sum_by (record_length length) (command ∷ commands) ≡ record_length length command + sum_by (record_length length) commands = sum_by-cons (record_length length) command commands in
    omega (arith, whole, record_length-short most command short.0, sum-lengths-within most commands short.1)

pub body_length-within : (most : ℕ) (commands : List (Command (List ℕ))) → AllByRecursion (IsShort most) commands → length commands ≤ 64
    → body_length length commands ≤ longest_body most
body_length-within most commands short few = omega (arith, sum-lengths-within most commands short, mul-le-mul_left (longest_record most) few)

-- so its length fits four bytes
pub body_small : (commands : List (Command (List ℕ))) → HaveBody commands → length (body_of commands) < 2 ^ 32
body_small commands has = omega (arith, length-body_of commands, body_length-within 8192 commands (have_short commands has.1) has.0.1)

sum-lengths-all : (most : ℕ) (commands : List (Command (List ℕ))) → AllByRecursion (λ command. record_length length command ≡ longest_record most) commands
    → sum_by (record_length length) commands ≡ longest_record most * length commands
sum-lengths-all most [] each = omega arith
sum-lengths-all most (command ∷ commands) each =
    let whole : sum_by (record_length length) (command ∷ commands) ≡ record_length length command + sum_by (record_length length) commands = sum_by-cons (record_length length) command commands in
    omega (arith, whole, each.0, sum-lengths-all most commands each.1)

pub body_length-all : (most : ℕ) (commands : List (Command (List ℕ))) → length commands ≡ 64 → All (λ command. record_length length command ≡ longest_record most) commands
    → body_length length commands ≡ longest_body most
body_length-all most commands count each =
    omega (
      arith,
      sum-lengths-all most commands (recursion_from_All (λ command. record_length length command ≡ longest_record most) commands each),
      ap (λ (n : ℕ). longest_record most * n) count,
    )
