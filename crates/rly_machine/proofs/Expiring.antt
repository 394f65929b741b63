-- The items that expire at a pick, and the payload bytes without them.
use Rattle.std.proofs.Common.{ℕ, ◌≡◌, ◌+◌, ◌<◌, ◌≤◌, true, false, List, [], ◌∷◌, length, get_or, take, drop, max, refl, ap, sym, arith, ◌∙◌}
use Rattle.std.specs.Prelude.{Bool}
use Rattle.std.specs.List.{prefix_len}
use Rattle.std.proofs.lemmas.List.{drop-drop}
use Rattle.std.proofs.lemmas.List.Sums.{prefix_len_is, sum_by-take-drop}
use Rattle.rly_core.specs.declared.params.Params.{Params}
use Rattle.rly_machine.specs.Expiry.{expired_count, is_expired, with_expired}
use Rattle.rly_machine.specs.Pick.{outcome_of, pick_outcome}
use Rattle.rly_machine.specs.State.{HopState, bytes_of}
use Rattle.rly_machine.specs.declared.hop.Item.{Item}

-- the longest prefix whose elements all pass a test is the list if all of them do
prefix_whole : {X : Type 0} (p : X → Bool) (xs : List X) → ((k : ℕ) (d : X) → k < length xs → p (get_or xs k d) ≡ true)
    → prefix_len p xs ≡ length xs
prefix_whole p [] all = refl
prefix_whole p (x ∷ xs) all =
    prefix_len_is p (x ∷ xs) (length (x ∷ xs)) x (omega arith) (λ k below. all k x below) (λ past. absurd (omega arith))

-- the number of expired items is the index of the first that isn't
pub expired_before : {P : Type 0} (h : HopState P) (now moment n : ℕ) (item : Item P)
    → moment ≡ max now h.moment → n < length h.queue → item ≡ get_or h.queue n item
    → ((k : ℕ) (d : Item P) → k < n → is_expired moment (get_or h.queue k d) ≡ true) → is_expired moment item ≡ false
    → n ≡ expired_count h now
expired_before h now moment n item is below read all ends =
    let front : prefix_len (is_expired moment) h.queue ≡ n =
    prefix_len_is (is_expired moment) h.queue n item (omega arith) (λ k before. all k item before)
    (λ here. ap (is_expired moment) (sym read) ∙ ends) in
    sym front ∙ ap (λ m. prefix_len (is_expired m) h.queue) is

-- or else the number of waiting items
pub expired_whole : {P : Type 0} (h : HopState P) (now moment : ℕ) → moment ≡ max now h.moment
    → ((k : ℕ) (d : Item P) → k < length h.queue → is_expired moment (get_or h.queue k d) ≡ true)
    → length h.queue ≡ expired_count h now
expired_whole h now moment is all =
    sym (prefix_whole (is_expired moment) h.queue all) ∙ ap (λ m. prefix_len (is_expired m) h.queue) is

-- the remaining items have at most as many payload bytes as all
pub left_bytes : {P : Type 0} (len : P → ℕ) (queue left : List (Item P)) (late : ℕ) → left ≡ drop late queue
    → bytes_of len left ≤ bytes_of len queue
left_bytes {P} len queue left late is =
    let size : Item P → ℕ = λ item. len item.payload in
    let same = ap (bytes_of len) is in
    omega (arith, same, sum_by-take-drop size queue late)

-- the payload bytes of the expired and of the dropped items
pub gone_bytes : {P : Type 0} (len : P → ℕ) (queue left : List (Item P)) (late drops first second : ℕ) → left ≡ drop late queue
    → first ≡ bytes_of len (take late queue) → second ≡ bytes_of len (take drops left)
    → (first + second ≡ bytes_of len (take (late + drops) queue)) × (first + second ≤ bytes_of len queue)
gone_bytes {P} len queue left late drops first second is is_first is_second =
    let size : Item P → ℕ = λ item. len item.payload in
    let same = ap (λ (rest : List (Item P)). bytes_of len (take drops rest)) is in
    let rest = ap (bytes_of len) (drop-drop drops late queue) in
    let one = sum_by-take-drop size queue late in
    let two = sum_by-take-drop size (drop late queue) drops in
    let both = sum_by-take-drop size queue (late + drops) in
    (omega (arith, is_first, is_second, same, rest, one, two, both), omega (arith, is_first, is_second, same, one, two))

-- and their sum at a pick
pub picked_bytes : {P : Type 0} (len : P → ℕ) (params : Params) (h : HopState P) (left : List (Item P)) (now late drops first second : ℕ)
    → late ≡ expired_count h now → drops ≡ (outcome_of len params (with_expired h late) now).dropped → left ≡ drop late h.queue
    → first ≡ bytes_of len (take late h.queue) → second ≡ bytes_of len (take drops left)
    → first + second ≡ bytes_of len (take (expired_count h now + (pick_outcome len params h now).dropped) h.queue)
picked_bytes len params h left now late drops first second is_late is_drops is is_first is_second =
    let same = ap (λ n. (outcome_of len params (with_expired h n) now).dropped) is_late in
    let count : late + drops ≡ expired_count h now + (pick_outcome len params h now).dropped = omega (arith, is_late, is_drops, same) in
    (gone_bytes len h.queue left late drops first second is is_first is_second).0 ∙ ap (λ n. bytes_of len (take n h.queue)) count
