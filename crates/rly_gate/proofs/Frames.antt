-- A frame and a group as bytes.
use Rattle.rly_gate.proofs.Common.{[], ap, arith, big_bytes, body_in, cases_eq, drop, drop-drop, drop-take, drop_at, frame_of, get_or-set_same, length}
use Rattle.rly_gate.proofs.Common.{length-append, length-drop, length-set, length-take, List, open_gate, bytes_after_write, places, refl, same_lists, set, StandsAt}
use Rattle.rly_gate.proofs.Common.{take, take-add, take-take, take_at, ℕ, ◌++◌, ◌+◌, ◌-◌, ◌∷◌, ◌≡◌, ◌≤◌}

-- the body in a frame is 5 bytes shorter
pub length-body : (frame : List ℕ) → 5 ≤ length frame → length (body_in frame) ≡ length frame - 5
length-body frame long = omega (arith, length-take (length frame - 5) (drop 4 frame), length-drop 4 frame)

-- a frame whose last byte was written
pub filled : (field frame : List ℕ) (last : ℕ) → length field ≡ 4 → 5 ≤ length frame → last ≡ length frame - 1
    → set (field ++ drop 4 frame) last 0 ≡ (field ++ body_in frame) ++ 0 ∷ []
filled field frame last four long is_last =
    same_lists _ _ (simp (length-set, length-append, length-take, length-drop) (omega arith)) (λ i d h. grind (arith, places, get_or-set_same, cases_eq i last))

-- a write after a gate and then a write of the gate are one write of both
pub gate_and_frame : (at gate : ℕ) (frame old : List ℕ) → at + 1 ≤ length old
    → bytes_after_write at (gate ∷ []) (bytes_after_write (at + 1) frame old) ≡ bytes_after_write at (gate ∷ frame) old
gate_and_frame at gate frame old within = same_lists _ _ (simp (length-append, length-take, length-drop) (omega arith)) (λ i d h. grind (arith, places))

-- two byte strings in order
pub stands_both : (image : List ℕ) (at : ℕ) (a b : List ℕ) → StandsAt image at a → StandsAt image (at + length a) b → StandsAt image at (a ++ b)
stands_both image at a b first second = rw (length-append a b, take-add, first, drop-drop, second)

-- the first of two
pub stands_front : (image : List ℕ) (at : ℕ) (a b : List ℕ) → StandsAt image at (a ++ b) → StandsAt image at a
stands_front image at a b both =
    let front = ap (take (length a)) both in
    cc (take-take (length a) (length (a ++ b)) (drop at image) (omega (arith, length-append a b)), take_at a b (length a) refl)

-- the second of two
pub stands_back : (image : List ℕ) (at : ℕ) (a b : List ℕ) → StandsAt image at (a ++ b) → StandsAt image (at + length a) b
stands_back image at a b both =
    rw (← drop-drop (length a) at image, ← drop-take (length a) (length b) (drop at image), ← length-append a b, both) (drop_at a b (length a) refl)

-- the length in a group
pub group_length : (image : List ℕ) (at n : ℕ) (rest : List ℕ) → StandsAt image at (open_gate ∷ (big_bytes 4 n ++ rest))
    → StandsAt image (at + 1) (big_bytes 4 n)
group_length image at n rest stands = stands_front image (at + 1) (big_bytes 4 n) rest (stands_back image at (open_gate ∷ []) (big_bytes 4 n ++ rest) stands)

-- the length of a frame
pub length-frame : (body : List ℕ) → length (frame_of body) ≡ length body + 5
length-frame body = omega (arith, length-append (big_bytes 4 (length body) ++ body) (0 ∷ []), length-append (big_bytes 4 (length body)) body)
