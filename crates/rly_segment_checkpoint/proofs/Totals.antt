-- The totals of hops, and their bounds.
use Rattle.std.proofs.Common.{◌≡◌, ℕ, ◌+◌, ◌*◌, ◌^◌, ◌<◌, ◌≤◌, ◌↔◌, Bool, true, List, [], ◌∷◌, length, get_or, take, map, leb, sym, ap, subst, ◌∙◌, arith, sum, sum_by}
use Rattle.std.specs.Prelude.{All}
use Rattle.std.proofs.lemmas.Bool.{le-leb, leb-true}
use Rattle.std.proofs.lemmas.List.{length-map}
use Rattle.std.proofs.lemmas.List.Elements.{All-head, All-more, All-tail}
use Rattle.std.proofs.lemmas.List.Sums.{sum_by-cons}
use Rattle.rly_core.specs.Limits.{IsWithinLimits}
use Rattle.rly_core.specs.declared.params.Params.{Params}
use Rattle.rly_machine.specs.Accepted.{max_seq}
use Rattle.rly_machine.specs.declared.hop.Hop.{Hop}
use Rattle.rly_machine.specs.declared.hop.Item.{Item}
use Rattle.rly_machine.specs.Kept.{hop_state}
use Rattle.rly_machine.specs.Sound.{IsLive, IsSound, IsSoundHop}
use Rattle.rly_machine.specs.State.{HopState, bytes_of, live_line, new_hop}
use Rattle.rly_machine.proofs.Keeping.{read_hop}
use Rattle.rly_machine.proofs.Restoring.{counted_le}
use Rattle.rly_segment_checkpoint.specs.HelpersRows.{IsRow}
use Rattle.rly_segment_checkpoint.proofs.Rows.{row_from, row_live, row_order}

-- if each term is at most a bound, the sum is at most their number times that bound
pub sum_below : {A : Type 0} (f : A → ℕ) (most : ℕ) (xs : List A) → All (λ x. f x ≤ most) xs → sum_by f xs ≤ most * length xs
sum_below f most [] all = omega arith
sum_below f most (x ∷ xs) all =
    let first : f x ≤ most = All-head (λ y. f y ≤ most) x xs all in
    let others : sum_by f xs ≤ most * length xs = sum_below f most xs (All-tail (λ y. f y ≤ most) x xs all) in
    omega (arith, sum_by-cons f x xs, first, others)

-- the payload bytes of live items
pub bytes_below : {P : Type 0} (len : P → ℕ) (params : Params) (moment seq : ℕ) (items : List (Item P)) → params.payload ≤ 8192
    → All (IsLive len params moment seq) items → bytes_of len items ≤ 8192 * length items
bytes_below {P} len params moment seq items most live = sum_below (λ (item : Item P). len item.payload) 8192 items (λ k d lt. omega (arith, (live k d lt).length, most))

-- a hop is sound if its numbers are, and its items are in order
pub hop_is : {P : Type 0} (len : P → ℕ) (params : Params) (seq : ℕ) (h : HopState P) (row : Bool)
    → h.taken ≡ length h.queue + length h.flight + h.dropped + h.expired + h.released → h.taken ≤ seq → h.moment < 2 ^ 52 → length h.flight ≤ params.window
    → (h.codel.first_above_time ≤ h.moment + params.interval) × (h.codel.drop_next ≤ h.moment + params.interval) × (h.codel.lastcount ≤ h.codel.count) × (h.codel.count ≤ h.dropped)
    → ((row ≡ true) ↔ IsRow len params h.moment seq 0 0 (live_line h)) → (row ≡ true) ↔ IsSoundHop len params seq h
hop_is len params seq h row balance taken moment window codel test = (
  λ yes. record {
    balance = balance;
    taken = taken;
    moment = moment;
    window = window;
    items = row_live len params h.moment seq (live_line h) (test.0 yes);
    order = row_order len params h.moment seq (live_line h) (test.0 yes);
    first_above_time = codel.0;
    drop_next = codel.1;
    lastcount = codel.2;
    count = codel.3;
  },
  λ sound. test.1 (row_from len params h.moment seq (live_line h) sound.items sound.order),
)

-- ---- the hops in order

-- an index of a hop
pub map_place : {P : Type 0} (hops : List (Hop P)) (i : ℕ) → i < length hops → i < length (map hop_state hops)
map_place {P} hops i lt =
    let view : Hop P → HopState P = hop_state in
    omega (arith, lt, length-map hops view)

-- a property of all hops holds for the one that was read
pub hop_among : {C : Type 0} (P : HopState C → Type 0) (hops : List (Hop C)) (i : ℕ) (old : Hop C) → i < length hops → old ≡ get_or hops i old → All P (map hop_state hops) → P (hop_state old)
hop_among P hops i old lt is all =
    subst P (sym (read_hop hops i old lt is)) (all i new_hop (map_place hops i lt))

-- one more hop with the property
pub hop_more : {C : Type 0} (P : HopState C → Type 0) (hops : List (Hop C)) (i : ℕ) (old : Hop C) → i < length hops → old ≡ get_or hops i old → All P (take i (map hop_state hops)) → P (hop_state old) → All P (take (i + 1) (map hop_state hops))
hop_more {C} P hops i old lt is before here =
    let view : Hop C → HopState C = hop_state in
    All-more P (map view hops) i new_hop (map_place hops i lt) before (subst P (read_hop hops i old lt is) here)

-- no hop has more than all
pub too_many : {P : Type 0} (hops : List (Hop P)) (i : ℕ) (old : Hop P) (most : ℕ) → i < length hops → old ≡ get_or hops i old → most < length (live_line (hop_state old)) → sum_by (λ h. length (live_line h)) (map hop_state hops) ≤ most → ⊥
too_many {P} hops i old most lt is many few = omega (arith, counted_le (λ (h : HopState P). length (live_line h)) hops i old lt is, many, few)

-- the payload bytes of a sound hop
pub hop_bytes_below : {P : Type 0} (len : P → ℕ) (params : Params) (seq : ℕ) (h : HopState P) → IsWithinLimits params → IsSoundHop len params seq h → length (live_line h) ≤ params.items → bytes_of len (live_line h) ≤ 134217728
hop_bytes_below len params seq h within sound few = omega (arith, bytes_below len params h.moment seq (live_line h) within.payload.1 sound.items, few, within.items.1)

-- ---- whole states

-- numbers up to the maximum number of commands; there are few
pub sum_fits : (seq : ℕ) (numbers : List ℕ) → seq ≤ max_seq → length numbers ≤ 64 → All (λ number. number ≤ seq) numbers → sum numbers < 2 ^ 64
sum_fits seq numbers top few all =
    let below : All (λ number. number ≤ max_seq) numbers = λ k d lt. omega (arith, all k d lt, top) in
    omega (arith, sum_below (λ (number : ℕ). number) max_seq numbers below, few)

-- hops that fail the check are those of no sound state
pub not_sound : {P : Type 0} (len : P → ℕ) (params : Params) (hops read : List (Hop P)) (lasts : List ℕ) (seq : ℕ) → read ≡ hops
    → (All (IsSoundHop len params seq) (map hop_state read) × (sum_by (λ h. length (live_line h)) (map hop_state read) ≤ params.items) → ⊥)
    → IsSound len (record { params = params; hops = map hop_state hops; lasts = lasts; seq = seq }) → ⊥
not_sound {P} len params hops read lasts seq same wanting sound =
    let view : Hop P → HopState P = hop_state in
    let e : map view hops ≡ map view read = sym (ap (map view) same) in
    wanting (subst (All (IsSoundHop len params seq)) e sound.hops, subst (λ (l : List (HopState P)). sum_by (λ h. length (live_line h)) l ≤ params.items) e sound.items)

-- a state is sound if its parts are, and it has at most its limit of bytes
pub state_is : {P : Type 0} (len : P → ℕ) (params : Params) (hops read : List (Hop P)) (lasts numbers : List ℕ) (seq taken items bytes : ℕ) → read ≡ hops → numbers ≡ lasts
    → IsWithinLimits params → length hops ≡ params.hops → length lasts ≡ params.peers
    → All (IsSoundHop len params seq) (map hop_state read) → All (λ number. number ≤ seq) numbers
    → sum numbers ≡ taken → taken ≡ sum_by (λ h. h.taken) (map hop_state read)
    → items ≡ sum_by (λ h. length (live_line h)) (map hop_state read) → items ≤ params.items
    → bytes ≡ sum_by (λ h. bytes_of len (live_line h)) (map hop_state read) → seq ≤ max_seq
    → (leb bytes params.bytes ≡ true) ↔ IsSound len (record { params = params; hops = map hop_state hops; lasts = lasts; seq = seq })
state_is {P} len params hops read lasts numbers seq taken items bytes same same_lasts within hop_count peer_count sound_hops sound_lasts is_sum is_taken is_items few is_bytes top =
    let view : Hop P → HopState P = hop_state in
    let e : map view read ≡ map view hops = ap (map view) same in
    let count : HopState P → ℕ = λ h. length (live_line h) in
    let weight : HopState P → ℕ = λ h. bytes_of len (live_line h) in
    let took : HopState P → ℕ = λ h. h.taken in
    let b : bytes ≡ sum_by weight (map view hops) = is_bytes ∙ ap (sum_by weight) e in (
      λ light. record {
        params = within;
        hop_count = length-map hops view ∙ hop_count;
        peer_count = peer_count;
        hops = subst (All (IsSoundHop len params seq)) e sound_hops;
        lasts = subst (All (λ number. number ≤ seq)) same_lasts sound_lasts;
        numbers = sym (ap sum same_lasts) ∙ is_sum ∙ is_taken ∙ ap (sum_by took) e;
        items = subst (λ (n : ℕ). n ≤ params.items) (is_items ∙ ap (sum_by count) e) few;
        bytes = subst (λ (n : ℕ). n ≤ params.bytes) b (leb-true _ _ light);
        seq = top;
      },
      λ sound. le-leb _ _ (subst (λ (n : ℕ). n ≤ params.bytes) (sym b) sound.bytes),
    )
