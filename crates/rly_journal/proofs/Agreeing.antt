-- Images that have the same bytes in a range.
use Rattle.std.proofs.Common.{◌≡◌, ◌≢◌, ◌≤◌, ◌<◌, ◌+◌, ◌*◌, ◌^◌, [], ◌∙◌, ℕ, suc, List, length, take, drop, arith, sym, ap, inl, inr, length-take, length-drop}
use Rattle.std.proofs.Math.Nat.{mul-le-mul_right}
use Rattle.std.proofs.lemmas.Bool.{cases_lt}
use Rattle.std.proofs.lemmas.List.{ext_get_or, get_or-take, get_or-drop, append-nil}
use Rattle.byteorder.specs.Endian.{big_bytes, big_number}
use Rattle.byteorder.specs.Numbers.{big_number-reads_back}
use Rattle.rly_core.specs.declared.params.Geometry.{Geometry}
use Rattle.rly_disk.specs.DiskModel.{SameOutside}
use Rattle.rly_gate.specs.Group.{StandsAt}
use Rattle.rly_segment.specs.Device.{number_in}
use Rattle.rly_segment.specs.Heads.{segment_end, segment_place}
use Rattle.rly_journal.specs.UntouchedBytes.{SameBytes}

-- a part of the range
pub part_of : {old new : List ℕ} (from end place k : ℕ) → from ≤ place → place + k ≤ end → SameBytes from end old new → take k (drop place new) ≡ take k (drop place old)
part_of {old} {new} from end place k begins ends same =
    ext_get_or 0 _ _ (simp (length-take, length-drop) (omega (arith, same.same_length)))
    (λ i h.
    let low : i < k = omega (arith, h, length-take k (drop place new)) in
    get_or-take k (drop place new) i 0 low ∙ get_or-drop place new i 0 ∙ same.each (place + i) (omega (arith, begins)) (omega (arith, low, ends))
    ∙ sym (get_or-drop place old i 0) ∙ sym (get_or-take k (drop place old) i 0 low))

-- the bytes in the range are still there
pub stands_still : {old new : List ℕ} (from end place : ℕ) (bytes : List ℕ) → from ≤ place → place + length bytes ≤ end → SameBytes from end old new → StandsAt old place bytes → StandsAt new place bytes
stands_still from end place bytes begins ends same stands = part_of from end place (length bytes) begins ends same ∙ stands

-- a number in the range is the same
pub number_still : {old new : List ℕ} (from end place width : ℕ) → from ≤ place → place + width ≤ end → SameBytes from end old new → number_in new place width ≡ number_in old place width
number_still from end place width begins ends same = ap (big_number width) (part_of from end place width begins ends same)

-- outside a range the bytes are the same
pub same_before : {old new : List ℕ} (place n from end : ℕ) → end ≤ place → SameOutside place n old new → SameBytes from end old new
same_before place n from end ends same = record { same_length = same.same_length; each = λ i low high. same.each i (inl (omega (arith, ends, high))) }

pub same_behind : {old new : List ℕ} (place n from end : ℕ) → place + n ≤ from → SameOutside place n old new → SameBytes from end old new
same_behind place n from end begins same = record { same_length = same.same_length; each = λ i low high. same.each i (inr (omega (arith, begins, low))) }

-- the number at an offset
pub number_of_bytes : (image : List ℕ) (place width n : ℕ) → length (big_bytes width n) ≡ width → n < 256 ^ width → StandsAt image place (big_bytes width n) → number_in image place width ≡ n
number_of_bytes image place width n size fits stands =
    ap (λ k. big_number width (take k (drop place image))) (sym size) ∙ ap (big_number width) (stands ∙ sym (append-nil (big_bytes width n))) ∙ big_number-reads_back width n [] fits

-- one segment lies before another
pub apart : (s t size : ℕ) → s < t → s * size + size ≤ t * size
apart s t size below =
    let grown : suc s * size ≤ t * size = mul-le-mul_right size (omega arith) in
    omega (arith, grown)

-- the bytes of one segment lie outside another
pub other_bytes : {old new : List ℕ} (g : Geometry) (s t : ℕ) → t ≢ s → SameOutside (segment_place g t) g.length old new → SameBytes (segment_place g s) (segment_end g s) old new
other_bytes g s t other same =
    elim (cases_lt t s) [
      | inl before ↦ let low = apart t s g.length before in same_behind (segment_place g t) g.length (segment_place g s) (segment_end g s) (omega (arith, low)) same
      | inr after ↦
          let high = apart s t g.length (omega (arith, after, other)) in
          same_before (segment_place g t) g.length (segment_place g s) (segment_end g s) (omega (arith, high)) same
    ]
