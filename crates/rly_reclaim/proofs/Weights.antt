-- Sums over the payloads of a state, with a weight function.
use Rattle.std.proofs.Common.{ℕ, ◌≡◌, ◌+◌, ◌*◌, ◌≤◌, List, [], ◌∷◌, length, map, arith, refl, ap, ◌∙◌, sum_by}
use Rattle.std.proofs.lemmas.List.Sums.{sum_by-cons}
use Rattle.rly_machine.specs.declared.hop.Item.{Item}
use Rattle.rly_machine.specs.Map.{map_item, map_hop, map_state}
use Rattle.rly_machine.specs.State.{State, HopState, bytes_of, live_bytes, live_items, live_line}

-- ---- sums of any list

-- the sum of two weights
sum_both : {X : Type 0} (v w : X → ℕ) (xs : List X) → sum_by (λ x. v x + w x) xs ≡ sum_by v xs + sum_by w xs
sum_both v w [] = refl
sum_both {X} v w (x ∷ xs) =
    omega (arith, sum_by-cons (λ (y : X). v y + w y) x xs, sum_by-cons v x xs, sum_by-cons w x xs, sum_both v w xs)

sum_none : {X : Type 0} (w : X → ℕ) → ((x : X) → w x ≡ 0) → (xs : List X) → sum_by w xs ≡ 0
sum_none w none [] = refl
sum_none w none (x ∷ xs) = omega (arith, sum_by-cons w x xs, none x, sum_none w none xs)

sum_same : {X : Type 0} (v w : X → ℕ) → ((x : X) → v x ≡ w x) → (xs : List X) → sum_by v xs ≡ sum_by w xs
sum_same v w same [] = refl
sum_same v w same (x ∷ xs) = omega (arith, sum_by-cons v x xs, sum_by-cons w x xs, same x, sum_same v w same xs)

sum_less : {X : Type 0} (v w : X → ℕ) → ((x : X) → v x ≤ w x) → (xs : List X) → sum_by v xs ≤ sum_by w xs
sum_less v w less [] = omega arith
sum_less v w less (x ∷ xs) = omega (arith, sum_by-cons v x xs, sum_by-cons w x xs, less x, sum_less v w less xs)

-- six of each
sum_six : {X : Type 0} (xs : List X) → sum_by (λ x. 6) xs ≡ 6 * length xs
sum_six [] = refl
sum_six {X} (x ∷ xs) = omega (arith, sum_by-cons (λ (y : X). 6) x xs, sum_six xs)

-- ---- sums over payloads

pub bytes_both : {P : Type 0} (v w : P → ℕ) (s : State P) → live_bytes (λ p. v p + w p) s ≡ live_bytes v s + live_bytes w s
bytes_both {P} v w s =
    sum_same (λ (h : HopState P). bytes_of (λ p. v p + w p) (live_line h)) (λ h. bytes_of v (live_line h) + bytes_of w (live_line h))
    (λ h. sum_both (λ (item : Item P). v item.payload) (λ item. w item.payload) (live_line h)) s.hops
    ∙ sum_both (λ (h : HopState P). bytes_of v (live_line h)) (λ h. bytes_of w (live_line h)) s.hops

pub bytes_none : {P : Type 0} (w : P → ℕ) → ((p : P) → w p ≡ 0) → (s : State P) → live_bytes w s ≡ 0
bytes_none {P} w none s = sum_none (λ (h : HopState P). bytes_of w (live_line h)) (λ h. sum_none (λ (item : Item P). w item.payload) (λ item. none item.payload) (live_line h)) s.hops

pub bytes_same : {P : Type 0} (v w : P → ℕ) → ((p : P) → v p ≡ w p) → (s : State P) → live_bytes v s ≡ live_bytes w s
bytes_same {P} v w same s = sum_same (λ (h : HopState P). bytes_of v (live_line h)) (λ h. bytes_of w (live_line h))
    (λ h. sum_same (λ (item : Item P). v item.payload) (λ item. w item.payload) (λ item. same item.payload) (live_line h)) s.hops

pub bytes_less : {P : Type 0} (v w : P → ℕ) → ((p : P) → v p ≤ w p) → (s : State P) → live_bytes v s ≤ live_bytes w s
bytes_less {P} v w less s = sum_less (λ (h : HopState P). bytes_of v (live_line h)) (λ h. bytes_of w (live_line h))
    (λ h. sum_less (λ (item : Item P). v item.payload) (λ item. w item.payload) (λ item. less item.payload) (live_line h)) s.hops

-- six of each payload
six_hops : {P : Type 0} (hops : List (HopState P))
    → sum_by (λ h. bytes_of (λ p. 6) (live_line h)) hops ≡ 6 * sum_by (λ h. length (live_line h)) hops
six_hops [] = refl
six_hops {P} (h ∷ hops) =
    let first : bytes_of (λ p. 6) (live_line h) ≡ 6 * length (live_line h) = sum_six (live_line h) in
    omega (
      arith,
      first,
      sum_by-cons (λ (x : HopState P). bytes_of (λ p. 6) (live_line x)) h hops,
      sum_by-cons (λ (x : HopState P). length (live_line x)) h hops,
      six_hops hops,
    )

pub bytes_six : {P : Type 0} (s : State P) → live_bytes (λ p. 6) s ≡ 6 * live_items s
bytes_six s = six_hops s.hops

-- ---- two equal maps

items_same : {P Q : Type 0} (f g : P → Q) → ((p : P) → f p ≡ g p) → (items : List (Item P)) → map (map_item f) items ≡ map (map_item g) items
items_same f g same [] = refl
items_same {P} {Q} f g same (item ∷ items) =
    ap (λ (q : Q). let x : Item Q = record { id = item.id; stamp = item.stamp; limit = item.limit; payload = q } in x ∷ map (map_item f) items) (same item.payload)
    ∙ ap (λ (rest : List (Item Q)). map_item g item ∷ rest) (items_same f g same items)

hop_same : {P Q : Type 0} (f g : P → Q) → ((p : P) → f p ≡ g p) → (h : HopState P) → map_hop f h ≡ map_hop g h
hop_same {P} {Q} f g same h =
    let with_lines : List (Item Q) → List (Item Q) → HopState Q = λ queue flight. record (map_hop f h) { queue = queue; flight = flight } in
    ap (λ (q : List (Item Q)). with_lines q (map (map_item f) h.flight)) (items_same f g same h.queue)
    ∙ ap (with_lines (map (map_item g) h.queue)) (items_same f g same h.flight)

hops_same : {P Q : Type 0} (f g : P → Q) → ((p : P) → f p ≡ g p) → (hops : List (HopState P)) → map (map_hop f) hops ≡ map (map_hop g) hops
hops_same f g same [] = refl
hops_same {P} {Q} f g same (h ∷ hops) =
    ap (λ (x : HopState Q). x ∷ map (map_hop f) hops) (hop_same f g same h)
    ∙ ap (λ (rest : List (HopState Q)). map_hop g h ∷ rest) (hops_same f g same hops)

pub maps_same : {P Q : Type 0} (f g : P → Q) → ((p : P) → f p ≡ g p) → (s : State P) → map_state f s ≡ map_state g s
maps_same {P} {Q} f g same s = ap (λ (hops : List (HopState Q)). let t : State Q = record { params = s.params; hops = hops; lasts = s.lasts; seq = s.seq } in t) (hops_same f g same s.hops)
