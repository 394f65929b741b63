-- The group at a gate.
use Rattle.rly_gate.proofs.Common.{[], ap, arith, big_bytes, big_number, drop, drop_more, HoldsGroup, HoldsNone, IsOpen, length, length-drop, length-take, List}
use Rattle.rly_gate.proofs.Common.{open_gate, StandsAt, sym, take, ℕ, ◌++◌, ◌+◌, ◌<◌, ◌^◌, ◌∙◌, ◌∷◌, ◌≡◌, ◌≤◌}
use Rattle.byteorder.specs.Numbers.{big_number-reads_back}
use Rattle.rly_gate.proofs.Frames.{group_length, length-frame, stands_both}

-- two numbers with the same bytes are one
pub number_once : (width n m : ℕ) → n < 256 ^ width → m < 256 ^ width → big_bytes width n ≡ big_bytes width m → n ≡ m
number_once width n m n_fits m_fits same =
    sym (big_number-reads_back width n [] n_fits) ∙ ap (λ l. big_number width (l ++ [])) same ∙ big_number-reads_back width m [] m_fits

-- no group has a length that doesn't fit
pub too_long : (image : List ℕ) (at end n : ℕ) → n < 2 ^ 32 → take 4 (drop (at + 1) image) ≡ big_bytes 4 n → end < at + 6 + n → HoldsNone image at end
too_long image at end n fits field past body holds =
    let same = number_once 4 n (length body) fits holds.fits (sym field ∙ group_length image at (length body) body holds.bytes) in
    omega (arith, holds.room, length-frame body, same)

-- the bytes that were read piece by piece are a group
pub holds : {image : List ℕ} {at end : ℕ} (n : ℕ) {body : List ℕ} → IsOpen image at → StandsAt image (at + 1) (big_bytes 4 n) → n < 2 ^ 32
    → at + 6 + n ≤ end → end ≤ length image → body ≡ take n (drop (at + 5) image) → HoldsGroup image at end body
holds {image} {at} n {body} opened field fits room within is_body =
    let count : length body ≡ n = ap length is_body ∙ simp (length-take, length-drop) (omega arith) in
    let place : at + 5 ≡ at + 1 + 4 = omega arith in
    let behind : StandsAt image (at + 1 + 4) body = rw (count, ← place) (sym is_body) in
    let bytes : StandsAt image at (open_gate ∷ (big_bytes 4 (length body) ++ body)) =
    rw (drop_more image at 0 (omega arith), opened, stands_both image (at + 1) (big_bytes 4 (length body)) body (rw count field) behind) in
    search (arith, length-frame body)
