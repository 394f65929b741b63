-- A Heard marks what it says, and what it marks came before or was refused.
use Rattle.std.proofs.Common.{◌≡◌, ℕ, zero, suc, ◌+◌, ◌^◌, ◌<◌, ◌≤◌, Bool, true, false, ◌||◌, ◌&&◌, ◌==◌, List, refl, sym, ap, subst, arith, length, cond, get_or}
use Rattle.std.proofs.Common.{inl, inr, ◌∙◌, true≢false}
use Rattle.std.specs.Prelude.{All, Option, Some, None, Contains, nat_lt, option_and_then, slice_get}
use Rattle.std.specs.Option.{option_map_or}
use Rattle.std.proofs.lemmas.Bool.{and_parts, cases_eq, cases_lt, eq-eqb, eqb-true, ne_eqb}
use Rattle.std.proofs.lemmas.List.Elements.{All-get_or}
use Rattle.std.proofs.lemmas.List.{get_or_past}
use Rattle.std.proofs.Math.Bool.{and-false, and-true, or-false}
use Rattle.rly_hop.specs.HeardBits.{marks, with_mark}
use Rattle.rly_hop.proofs.HeardBits.{marks-with_mark, marks-zero}
use Rattle.rly_link_reorder.specs.ReorderBuffer.{ReorderView, BufferedData, buffered_at, heard_bits, heard_from, is_heard, is_refused, is_stored, slot_of}
use Rattle.rly_link_reorder.specs.ReorderRuns.{ReorderEvent, Came, Refused, IsHeard}
use Rattle.rly_link_reorder.proofs.Came.{IsHistory, IsOldIf, IsTold, old_at}

-- ---- the bits of the first places

-- the bits with one more place
heard-suc : (e : ReorderView) (n : ℕ) → heard_from e (suc n) ≡ cond (is_heard e n) (with_mark (heard_from e n) n) (heard_from e n)
unfolding heard_from
heard-suc e n = refl

heard-more : (e : ReorderView) (n : ℕ) → heard_from e (n + 1) ≡ cond (is_heard e n) (with_mark (heard_from e n) n) (heard_from e n)
heard-more e n =
    let one : n + 1 ≡ suc n = omega arith in
    ap (heard_from e) one ∙ heard-suc e n

pub heard-step : (e : ReorderView) (n bits more : ℕ) → bits ≡ heard_from e n → more ≡ cond (is_heard e n) (with_mark bits n) bits → more ≡ heard_from e (n + 1)
heard-step e n bits more so_far is = is ∙ ap (λ (b : ℕ). cond (is_heard e n) (with_mark b n) b) so_far ∙ sym (heard-more e n)

pub heard-none : (e : ReorderView) → heard_from e 0 ≡ 0
unfolding heard_from
heard-none e = refl

-- whether one more place changes a place
more-marks : (heard : Bool) (bits n place : ℕ) → n < 64
    → marks (cond heard (with_mark bits n) bits) place ≡ (((place == n) && heard) || marks bits place)
more-marks true bits n place below = marks-with_mark bits n place below ∙ ap (λ (b : Bool). b || marks bits place) (sym (and-true (place == n)))
more-marks false bits n place below = ap (λ (b : Bool). b || marks bits place) (sym (and-false (place == n)))

-- from a place on, no bit is set yet
marks-above : (e : ReorderView) (n place : ℕ) → n ≤ 64 → n ≤ place → marks (heard_from e n) place ≡ false
unfolding heard_from
marks-above e zero place within above = marks-zero place
marks-above e (suc n) place within above =
    more-marks (is_heard e n) (heard_from e n) n place (omega arith)
    ∙ ap (λ (b : Bool). (b && is_heard e n) || marks (heard_from e n) place) (ne_eqb place n (λ same. omega arith))
    ∙ marks-above e n place (omega arith) (omega arith)

-- below it, each is that of its place
marks-below : (e : ReorderView) (n place : ℕ) → n ≤ 64 → place < n → marks (heard_from e n) place ≡ is_heard e place
unfolding heard_from
marks-below e zero place within below = absurd (omega arith)
marks-below e (suc n) place within below =
    more-marks (is_heard e n) (heard_from e n) n place (omega arith)
    ∙ elim (cases_eq place n) [
      | inl same ↦ ap (λ (b : Bool). (b && is_heard e n) || marks (heard_from e n) place) (eq-eqb place n same)
          ∙ ap (λ (b : Bool). is_heard e n || b) (marks-above e n place (omega arith) (omega arith))
          ∙ or-false (is_heard e n) ∙ ap (is_heard e) (sym same)
      | inr differ ↦ ap (λ (b : Bool). (b && is_heard e n) || marks (heard_from e n) place) (ne_eqb place n differ)
          ∙ marks-below e n place (omega arith) (omega arith)
    ]

pub marks-heard : (e : ReorderView) (place : ℕ) → place < 64 → marks (heard_bits e) place ≡ is_heard e place
marks-heard e place below = marks-below e 64 place (omega arith) below

-- ---- a marked number came, or a refusal of it was sent

some-number : (past : List ReorderEvent) (o : Option BufferedData) (n : ℕ) → IsOldIf past o → option_map_or (λ k. k.number == n) o false ≡ true
    → (packet : List ℕ) × Contains past (Came n packet)
some-number past None n old is = absurd (true≢false (sym is))
some-number past (Some k) n old is = (k.packet, subst (λ (i : ℕ). Contains past (Came i k.packet)) (eqb-true k.number n is) old.came)

content-of : (past : List ReorderEvent) (at : Option (Option BufferedData)) → ((o : Option BufferedData) → at ≡ Some o → IsOldIf past o)
    → IsOldIf past (option_and_then (λ (o : Option BufferedData). o) at)
content-of past None there = tt
content-of past (Some o) there = there o refl

slot-content : (past : List ReorderEvent) (places : List (Option BufferedData)) (i : ℕ) → All (IsOldIf past) places → IsOldIf past (buffered_at places i)
slot-content past places i all = content-of past (slice_get places i) (λ o there. old_at past places i o all there)

stored-came : (past : List ReorderEvent) (e : ReorderView) (n : ℕ) → IsHistory past e → is_stored e n ≡ true → (packet : List ℕ) × Contains past (Came n packet)
stored-came past e n h is = some-number past (buffered_at e.places (slot_of n)) n (slot-content past e.places (slot_of n) h.places) is

not-none : (past : List ReorderEvent) (n told : ℕ) → 0 < n → told ≡ n → IsTold past told → Contains past (Refused n)
not-none past n told some same (inl none) = absurd (omega arith)
not-none past n told some same (inr sent) = subst (λ (i : ℕ). Contains past (Refused i)) same sent

refused-sent : (past : List ReorderEvent) (e : ReorderView) (n : ℕ) → IsHistory past e → 0 < n → is_refused e n ≡ true → Contains past (Refused n)
refused-sent past e n h some is =
    let same : get_or e.refused (slot_of n) 0 ≡ n = eqb-true (get_or e.refused (slot_of n) 0) n is in
    elim (cases_lt (slot_of n) (length e.refused)) [
      | inl within ↦ not-none past n (get_or e.refused (slot_of n) 0) some same (All-get_or (IsTold past) e.refused (slot_of n) 0 within h.refused)
      | inr past_end ↦ absurd (omega (arith, get_or_past e.refused (slot_of n) 0 past_end, same, some))
    ]

either-heard : (past : List ReorderEvent) (e : ReorderView) (n : ℕ) (stored : Bool) → IsHistory past e → 0 < n → is_stored e n ≡ stored
    → (stored || is_refused e n) ≡ true → IsHeard past n
either-heard past e n true h some at is = inl (stored-came past e n h at)
either-heard past e n false h some at is = inr (refused-sent past e n h some is)

pub heard-came : (past : List ReorderEvent) (e : ReorderView) (place : ℕ) → IsHistory past e → is_heard e place ≡ true → IsHeard past (e.covered + place + 1)
heard-came past e place h is =
    let n : ℕ = e.covered + place + 1 in
    either-heard past e n (is_stored e n) h (omega arith) refl (and_parts (nat_lt n (2 ^ 64)) (is_stored e n || is_refused e n) is).1
