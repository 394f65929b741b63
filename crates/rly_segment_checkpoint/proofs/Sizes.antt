-- The length of a checkpoint.
use Rattle.std.proofs.Common.{◌≡◌, ℕ, ◌+◌, ◌*◌, ◌≤◌, List, [], ◌∷◌, ◌++◌, length, refl, ap, subst, ◌∙◌, length-append, arith, sum_by}
use Rattle.std.specs.List.{flat_map}
use Rattle.std.proofs.lemmas.List.Concat.{flat_map-cons}
use Rattle.std.proofs.lemmas.List.Sums.{sum_by-cons}
use Rattle.byteorder.specs.Endian.{big_bytes}
use Rattle.byteorder.specs.Numbers.{length-bytes_high_first}
use Rattle.rly_codel.specs.declared.state.CodelState.{CodelState}
use Rattle.rly_machine.specs.declared.hop.Item.{Item}
use Rattle.rly_machine.specs.Sound.{IsSound}
use Rattle.rly_machine.specs.State.{State, HopState, bytes_of, live_bytes, live_items, live_line}
use Rattle.rly_segment_checkpoint.specs.Checkpoint.{Spelled, checkpoint_of, codel_of, entry_spelled, hop_spelled, inline_form, state_spelled}
use Rattle.rly_record.specs.HelpersReader.{Reader}
use Rattle.rly_segment_checkpoint.specs.Forms.{AreForms}
use Rattle.rly_segment_checkpoint.specs.Widths.{moment_width, count_width, expired_width, place_width, entry_width, hop_width}
use Rattle.rly_segment_checkpoint.specs.declared.head_form.HeadForm.{HeadForm}
use Rattle.rly_segment_checkpoint.specs.declared.head_form.HeadForm.TheVariants.{First, Second}
use Rattle.rly_segment_checkpoint.proofs.Parts.{length-entry}

-- the bytes of one value and of those after it
length-cons : {A : Type 0} (spell : A → List ℕ) (x : A) (xs : List A)
    → length (flat_map spell (x ∷ xs)) ≡ length (spell x) + length (flat_map spell xs)
length-cons spell x xs = ap (λ (t : List ℕ). length t) (flat_map-cons spell x xs) ∙ length-append (spell x) (flat_map spell xs)

split : (k a b : ℕ) → k * (a + b) ≡ k * a + k * b
split k a b = omega arith

-- a product with a sum
times_parts : (k a b c : ℕ) → c ≡ a + b → k * c ≡ k * a + k * b
times_parts k a b c e = ap (λ (n : ℕ). k * n) e ∙ split k a b

pub length-numbers : (numbers : List ℕ) → length (flat_map (big_bytes 8) numbers) ≡ 8 * length numbers
length-numbers [] = refl
length-numbers (number ∷ numbers) = omega (arith, length-cons (big_bytes 8) number numbers, length-numbers numbers)

-- the bytes of the forms of items' content
abbrev pub form_bytes : {P : Type 0} → (P → List ℕ) → List (Item P) → ℕ
form_bytes form items = sum_by (λ item. length (form item.payload)) items

pub entries_length : {P : Type 0} (len : P → ℕ) (form : Spelled P) (items : List (Item P))
    → length (flat_map (entry_spelled len form) items) + length items ≡ entry_width form.which * length items + form_bytes form.form items
entries_length len form [] = omega arith
entries_length {P} len form (item ∷ items) =
    let bytes : form_bytes form.form (item ∷ items) ≡ length (form.form item.payload) + form_bytes form.form items = sum_by-cons (λ (x : Item P). length (form.form x.payload)) item items in
    omega (arith, length-cons (entry_spelled len form) item items, length-entry len form item, entries_length len form items, bytes)

pub length-codel_of : (which : HeadForm) (codel : CodelState)
    → length (codel_of which codel) ≡ 2 * moment_width which + 2 * count_width which + 1
unfolding codel_of
length-codel_of First codel = refl
length-codel_of Second codel = refl

-- a hop without its entries, and its entries
pub length-hop : {P : Type 0} (len : P → ℕ) (form : Spelled P) (h : HopState P)
    → length (hop_spelled len form h) ≡ hop_width form.which + length (flat_map (entry_spelled len form) (live_line h))
unfolding hop_spelled
length-hop len form h =
    let counts : ℕ → List ℕ = big_bytes (count_width form.which) in
    let a : List ℕ = big_bytes (moment_width form.which) h.moment in
    let b : List ℕ = codel_of form.which h.codel in
    let c : List ℕ = counts h.taken in
    let d : List ℕ = counts h.dropped in
    let e : List ℕ = counts h.released in
    let f : List ℕ = big_bytes (expired_width form.which) h.expired in
    let g : List ℕ = big_bytes 2 (length h.flight) in
    let i : List ℕ = big_bytes 4 (length h.queue) in
    omega (
      arith,
      length-append (a ++ b ++ c ++ d ++ e ++ f ++ g ++ i) (flat_map (entry_spelled len form) (live_line h)),
      length-append (a ++ b ++ c ++ d ++ e ++ f ++ g) i,
      length-append (a ++ b ++ c ++ d ++ e ++ f) g,
      length-append (a ++ b ++ c ++ d ++ e) f,
      length-append (a ++ b ++ c ++ d) e,
      length-append (a ++ b ++ c) d,
      length-append (a ++ b) c,
      length-append a b,
      length-codel_of form.which h.codel,
      length-bytes_high_first (moment_width form.which) h.moment,
      length-bytes_high_first (count_width form.which) h.taken,
      length-bytes_high_first (count_width form.which) h.dropped,
      length-bytes_high_first (count_width form.which) h.released,
      length-bytes_high_first (expired_width form.which) h.expired,
      length-bytes_high_first 2 (length h.flight),
      length-bytes_high_first 4 (length h.queue),
    )

pub hops_length : {P : Type 0} (len : P → ℕ) (form : Spelled P) (hops : List (HopState P))
    → length (flat_map (hop_spelled len form) hops) + sum_by (λ h. length (live_line h)) hops
    ≡ hop_width form.which * length hops + entry_width form.which * sum_by (λ h. length (live_line h)) hops + sum_by (λ h. form_bytes form.form (live_line h)) hops
hops_length len form [] = omega arith
hops_length {P} len form (h ∷ hops) =
    let items : sum_by (λ x. length (live_line x)) (h ∷ hops) ≡ length (live_line h) + sum_by (λ x. length (live_line x)) hops = sum_by-cons (λ (x : HopState P). length (live_line x)) h hops in
    let bytes : sum_by (λ x. form_bytes form.form (live_line x)) (h ∷ hops) ≡ form_bytes form.form (live_line h) + sum_by (λ x. form_bytes form.form (live_line x)) hops = sum_by-cons (λ (x : HopState P). form_bytes form.form (live_line x)) h hops in
    omega (
      arith,
      length-cons (hop_spelled len form) h hops,
      length-hop len form h,
      entries_length len form (live_line h),
      hops_length len form hops,
      items,
      bytes,
      times_parts (entry_width form.which) (length (live_line h)) (sum_by (λ x. length (live_line x)) hops) (sum_by (λ x. length (live_line x)) (h ∷ hops)) items,
    )

-- a hop has at least 71 or 64 bytes
pub length-hops : {P : Type 0} (len : P → ℕ) (form : Spelled P) (hops : List (HopState P))
    → hop_width form.which * length hops ≤ length (flat_map (hop_spelled len form) hops)
length-hops len form [] = omega arith
length-hops len form (h ∷ hops) = omega (arith, length-cons (hop_spelled len form) h hops, length-hop len form h, length-hops len form hops)

-- the bytes of a whole state, part by part
pub length-parts : {P : Type 0} (len : P → ℕ) (form : Spelled P) (s : State P)
    → length (state_spelled len form s) ≡ 8 + length (flat_map (big_bytes 8) s.lasts) + length (flat_map (hop_spelled len form) s.hops)
unfolding state_spelled
length-parts len form s = omega (arith, length-append (big_bytes 8 s.seq ++ flat_map (big_bytes 8) s.lasts) (flat_map (hop_spelled len form) s.hops), length-append (big_bytes 8 s.seq) (flat_map (big_bytes 8) s.lasts))

pub spelled_length : {P : Type 0} (len : P → ℕ) (form : Spelled P) (s : State P) → IsSound len s
    → length (state_spelled len form s) + live_items s
    ≡ 8 + 8 * s.params.peers + hop_width form.which * s.params.hops + entry_width form.which * live_items s + sum_by (λ h. form_bytes form.form (live_line h)) s.hops
spelled_length len form s sound =
    let all : length (state_spelled len form s) + live_items s ≡ 8 + 8 * length s.lasts + hop_width form.which * length s.hops + entry_width form.which * live_items s + sum_by (λ h. form_bytes form.form (live_line h)) s.hops =
    omega (arith, length-parts len form s, length-numbers s.lasts, hops_length len form s.hops) in
    subst (λ (n : ℕ). length (state_spelled len form s) + live_items s ≡ 8 + 8 * s.params.peers + hop_width form.which * n + entry_width form.which * live_items s + sum_by (λ h. form_bytes form.form (live_line h)) s.hops) sound.hop_count
    (subst (λ (n : ℕ). length (state_spelled len form s) + live_items s ≡ 8 + 8 * n + hop_width form.which * length s.hops + entry_width form.which * live_items s + sum_by (λ h. form_bytes form.form (live_line h)) s.hops) sound.peer_count all)

-- if all payloads are inline, a form has one byte more than its payload
inline_bytes : (items : List (Item (List ℕ))) → form_bytes inline_form.form items ≡ length items + bytes_of length items
inline_bytes [] = refl
inline_bytes (item ∷ items) =
    omega (arith, sum_by-cons (λ (x : Item (List ℕ)). length (inline_form.form x.payload)) item items, sum_by-cons (λ (x : Item (List ℕ)). length x.payload) item items, inline_bytes items)

inline_hops : (hops : List (HopState (List ℕ)))
    → sum_by (λ h. form_bytes inline_form.form (live_line h)) hops ≡ sum_by (λ h. length (live_line h)) hops + sum_by (λ h. bytes_of length (live_line h)) hops
inline_hops [] = refl
inline_hops (h ∷ hops) =
    omega (
      arith,
      sum_by-cons (λ (x : HopState (List ℕ)). form_bytes inline_form.form (live_line x)) h hops,
      sum_by-cons (λ (x : HopState (List ℕ)). length (live_line x)) h hops,
      sum_by-cons (λ (x : HopState (List ℕ)). bytes_of length (live_line x)) h hops,
      inline_bytes (live_line h),
      inline_hops hops,
    )

pub checkpoint_length : (s : State (List ℕ)) → IsSound length s
    → length (checkpoint_of s) ≡ 8 + 8 * s.params.peers + 64 * s.params.hops + 21 * live_items s + live_bytes length s
checkpoint_length s sound = omega (arith, spelled_length length inline_form s sound, inline_hops s.hops)

-- the forms are at most as long as inline payloads plus a device address for each
few_bytes : {P : Type 0} {len : P → ℕ} {form : Spelled P} {HasForm : P → Type 0} {form_at : ℕ → Reader P} (forms : AreForms len form HasForm form_at) (items : List (Item P))
    → form_bytes form.form items ≤ length items + place_width form.which * length items + bytes_of len items
few_bytes forms [] = omega arith
few_bytes {P} {len} {form} forms (item ∷ items) =
    omega (arith, sum_by-cons (λ (x : Item P). length (form.form x.payload)) item items, sum_by-cons (λ (x : Item P). len x.payload) item items, forms.few item.payload, few_bytes forms items)

few_hops : {P : Type 0} {len : P → ℕ} {form : Spelled P} {HasForm : P → Type 0} {form_at : ℕ → Reader P} (forms : AreForms len form HasForm form_at) (hops : List (HopState P))
    → sum_by (λ h. form_bytes form.form (live_line h)) hops ≤ sum_by (λ h. length (live_line h)) hops + place_width form.which * sum_by (λ h. length (live_line h)) hops + sum_by (λ h. bytes_of len (live_line h)) hops
few_hops forms [] = omega arith
few_hops {P} {len} {form} forms (h ∷ hops) =
    let count : HopState P → ℕ = λ x. length (live_line x) in
    omega (
      arith,
      sum_by-cons (λ (x : HopState P). form_bytes form.form (live_line x)) h hops,
      sum_by-cons (λ (x : HopState P). length (live_line x)) h hops,
      sum_by-cons (λ (x : HopState P). bytes_of len (live_line x)) h hops,
      times_parts (place_width form.which) (count h) (sum_by count hops) (sum_by count (h ∷ hops)) (sum_by-cons count h hops),
      few_bytes forms (live_line h),
      few_hops forms hops,
    )

-- an encoding is at most as long as with inline payloads plus a device address for each
pub most_length : {P : Type 0} {len : P → ℕ} {form : Spelled P} {HasForm : P → Type 0} {form_at : ℕ → Reader P} (forms : AreForms len form HasForm form_at) (s : State P) → IsSound len s
    → length (state_spelled len form s) ≤ 8 + 8 * s.params.peers + hop_width form.which * s.params.hops + entry_width form.which * live_items s + place_width form.which * live_items s + live_bytes len s
most_length {P} {len} {form} forms s sound = omega (arith, spelled_length len form s sound, few_hops forms s.hops)
