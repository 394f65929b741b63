-- Copies that grow by one, and parts of a hop's items.
use Rattle.std.proofs.Common.{◌≡◌, ◌++◌, ◌∷◌, [], ◌+◌, ◌<◌, ◌≤◌, ℕ, List, length, drop, get_or, map, take, arith, sym, ap, ◌∙◌}
use Rattle.std.proofs.lemmas.List.{get_or-drop, get_or-take, length-drop, length-take-le, map-append, take_all, take_more}
use Rattle.std.proofs.Math.Seq.{drop-append_seam, take-append_seam}
use Rattle.rly_machine.specs.State.{HopState, live_line}
use Rattle.rly_machine.specs.declared.hop.Item.{Item}

-- a copy of one more, mapped by functions
pub seen_more : {X Y Z : Type 0} (F : X → Z) (G : Y → Z) (xs : List X) (ys : List Y) (n : ℕ) (x : X) (y : Y) → map F xs ≡ map G (take n ys) → F x ≡ G y
    → n < length ys → y ≡ get_or ys n y → map F (xs ++ x ∷ []) ≡ map G (take (n + 1) ys)
seen_more {X} {Y} {Z} F G xs ys n x y before one lt is =
    map-append F xs (x ∷ [])
    ∙ ap (λ (l : List Z). l ++ F x ∷ []) before
    ∙ ap (λ (z : Z). map G (take n ys) ++ z ∷ []) (one ∙ ap G is)
    ∙ sym (map-append G (take n ys) (get_or ys n y ∷ []))
    ∙ sym (ap (λ (l : List Y). map G l) (take_more ys n y lt))

-- and itself
pub copied_more : {X Y : Type 0} (G : Y → X) (xs : List X) (ys : List Y) (n : ℕ) (x : X) (y : Y) → xs ≡ map G (take n ys) → x ≡ G y
    → n < length ys → y ≡ get_or ys n y → xs ++ x ∷ [] ≡ map G (take (n + 1) ys)
copied_more {X} {Y} G xs ys n x y before one lt is =
    ap (λ (l : List X). l ++ x ∷ []) before
    ∙ ap (λ (z : X). map G (take n ys) ++ z ∷ []) (one ∙ ap G is)
    ∙ sym (map-append G (take n ys) (get_or ys n y ∷ []))
    ∙ sym (ap (λ (l : List Y). map G l) (take_more ys n y lt))

-- ---- a part of a hop's items

pub part_length : {P : Type 0} (line : List (Item P)) (from count : ℕ) → from + count ≤ length line → length (take count (drop from line)) ≡ count
part_length line from count within = length-take-le count (drop from line) (omega (arith, length-drop from line, within))

pub part_at : {P : Type 0} (line : List (Item P)) (from count i : ℕ) (item : Item P) → i < count → item ≡ get_or line (from + i) item
    → item ≡ get_or (take count (drop from line)) i item
part_at line from count i item lt is = is ∙ sym (get_or-drop from line i item) ∙ sym (get_or-take count (drop from line) i item lt)

module _ {P : Type 0} (h : HopState P) where
  pub first_part : take (length h.flight) (drop 0 (live_line h)) ≡ h.flight
  first_part = take-append_seam h.flight h.queue

  pub second_part : take (length h.queue) (drop (length h.flight) (live_line h)) ≡ h.queue
  second_part = ap (λ (l : List (Item P)). take (length h.queue) l) (drop-append_seam h.flight h.queue) ∙ take_all (length h.queue) h.queue (omega arith)
