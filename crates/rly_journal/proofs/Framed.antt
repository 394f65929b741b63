-- The group in its frame.
use Rattle.std.proofs.Common.{◌≡◌, ℕ, suc, ◌+◌, ◌*◌, ◌<◌, ◌≤◌, ◌∙◌, List, [], ◌++◌, length, take, drop, ap, sym, arith, length-append}
use Rattle.std.specs.Prelude.{Result, Ok, Err, IsOk, OnOk}
use Rattle.std.proofs.lemmas.Bool.{false≢true}
use Rattle.std.proofs.lemmas.List.{drop-append-le, drop_all, length-drop, length-take, take-append-drop, take_all}
use Rattle.std.proofs.Math.Nat.{mul-le-mul_left}
use Rattle.byteorder.specs.Endian.{big_bytes}
use Rattle.rly_gate.specs.Group as gate
use Rattle.rly_record.specs.Spelling.{longest_record}
use Rattle.rly_journal.specs.Groups.{GroupState, frame_room, group_body}

-- a group of these parts
abbrev pub group_of : List ℕ → ℕ → List ℕ → ℕ → GroupState
group_of records count staged most = record { records = records; count = count; staged = staged; most = most }

-- the group in a frame
abbrev pub in_frame : ℕ → ℕ → ℕ → List ℕ → GroupState
in_frame kept count most frame = group_of (drop 6 (take kept frame)) count (drop kept frame) most

-- if nothing is staged, all of the frame was kept
pub all_kept : (kept : ℕ) (frame : List ℕ) → kept ≤ length frame → drop kept frame ≡ [] → length frame ≡ kept
all_kept kept frame within none =
    let size : length (drop kept frame) ≡ 0 = ap length none in
    omega (arith, size, length-drop kept frame)

-- all of a frame is kept
pub keep_is : (kept count most size : ℕ) (frame : List ℕ) → 6 ≤ kept → kept ≤ length frame → size ≡ length frame
    → in_frame size (count + 1) most frame ≡ group_of (drop 6 (take kept frame) ++ drop kept frame) (count + 1) [] most
keep_is kept count most size frame front within is_size =
    let long : 6 ≤ length (take kept frame) = omega (arith, length-take kept frame, front, within) in
    let parts : drop 6 frame ≡ drop 6 (take kept frame) ++ drop kept frame =
    ap (drop 6) (sym (take-append-drop kept frame)) ∙ drop-append-le 6 (take kept frame) (drop kept frame) long in
    let whole : take size frame ≡ frame = take_all size frame (omega (arith, is_size)) in
    let none : drop size frame ≡ [] = drop_all size frame (omega (arith, is_size)) in
    ap (λ l. group_of (drop 6 l) (count + 1) (drop size frame) most) whole
    ∙ ap (λ l. group_of l (count + 1) (drop size frame) most) parts
    ∙ ap (λ l. group_of (drop 6 (take kept frame) ++ drop kept frame) (count + 1) l most) none

-- the body of a complete frame is the group's
pub body_is : (kept count most : ℕ) (frame new : List ℕ) → kept ≤ length frame → drop kept frame ≡ [] → gate.body_in new ≡ big_bytes 2 count ++ drop 6 frame
    → gate.body_in new ≡ group_body (in_frame kept count most frame)
body_is kept count most frame new within none completed =
    let whole : take kept frame ≡ frame = take_all kept frame (omega (arith, all_kept kept frame within none)) in
    completed ∙ ap (λ l. big_bytes 2 count ++ drop 6 l) (sym whole)

-- a property of a result that isn't an error
pub on_ok_holds : {T E : Type 0} (r : Result T E) (P : Type 0) → IsOk r → OnOk r P → P
on_ok_holds (Ok x) P ok holds = holds
on_ok_holds (Err e) P ok holds = absurd (false≢true ok)

-- there is room in a frame for one more record
pub stage_room : (most kept count len cap more : ℕ) (frame : List ℕ) → len ≡ length frame → length frame ≡ kept → kept ≤ 6 + longest_record most * count
    → count < 64 → frame_room most ≤ cap → more ≤ longest_record most → len + more ≤ cap
stage_room most kept count len cap more frame size full within few room short =
    let less : suc count ≤ 64 = omega (arith, few) in
    omega (arith, mul-le-mul_left (longest_record most) less)

-- the bytes of a group's records in a frame
pub records_length : (kept count most : ℕ) (frame : List ℕ) (group : GroupState) → in_frame kept count most frame ≡ group → 6 ≤ kept → kept ≤ length frame
    → length group.records + 6 ≡ kept
records_length kept count most frame group is_group front within =
    let size : length (drop 6 (take kept frame)) ≡ length group.records = ap (λ (g : GroupState). length g.records) is_group in
    omega (arith, size, length-drop 6 (take kept frame), length-take kept frame, front, within)

-- a list that was overwritten from its front on has the same length
pub length-over : (before written : List ℕ) (size : ℕ) → size ≡ length before → length written ≡ length before
    → length (take size (written ++ drop (length written) before)) ≡ length before
length-over before written size is_size same =
    omega (arith, length-take size (written ++ drop (length written) before), length-append written (drop (length written) before), length-drop (length written) before, is_size, same)
