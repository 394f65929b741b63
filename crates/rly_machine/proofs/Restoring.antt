-- The parts of a machine count the live items and bytes.
use Rattle.std.proofs.Common.{ℕ, ◌≡◌, ◌+◌, ◌<◌, ◌≤◌, List, length, get_or, take, map, arith, sym, ◌∙◌, ap, sum_by}
use Rattle.std.proofs.lemmas.List.{length-map}
use Rattle.std.proofs.lemmas.List.Sums.{sum_by_more, sum_by_more_le}
use Rattle.rly_machine.specs.declared.hop.Hop.{Hop}
use Rattle.rly_machine.specs.declared.hop.Item.{Item}
use Rattle.rly_machine.specs.State.{HopState, bytes_of, new_hop}
use Rattle.rly_machine.specs.Kept.{hop_state}
use Rattle.rly_machine.proofs.Keeping.{read_hop}

-- the next hop is added to those before it
pub counted_more : {P : Type 0} (f : HopState P → ℕ) (hops : List (Hop P)) (i : ℕ) (old : Hop P) → i < length hops → old ≡ get_or hops i old
    → sum_by f (take (i + 1) (map hop_state hops)) ≡ sum_by f (take i (map hop_state hops)) + f (hop_state old)
counted_more {P} f hops i old below read =
    let view : Hop P → HopState P = hop_state in
    let place : i < length (map view hops) = omega (arith, length-map hops view) in
    sum_by_more f (map view hops) i new_hop place ∙ ap (λ h. sum_by f (take i (map view hops)) + f h) (sym (read_hop hops i old below read))

-- and is at most all of them
pub counted_le : {P : Type 0} (f : HopState P → ℕ) (hops : List (Hop P)) (i : ℕ) (old : Hop P) → i < length hops → old ≡ get_or hops i old
    → sum_by f (take i (map hop_state hops)) + f (hop_state old) ≤ sum_by f (map hop_state hops)
counted_le {P} f hops i old below read =
    let view : Hop P → HopState P = hop_state in
    let place : i < length (map view hops) = omega (arith, length-map hops view) in
    let all = sum_by_more_le f (map view hops) i new_hop place in
    let same : f (get_or (map view hops) i new_hop) ≡ f (hop_state old) = ap f (sym (read_hop hops i old below read)) in
    omega (arith, all, same)

-- the payload bytes of the next item, added to those before it
pub weighed_more : {P : Type 0} (len : P → ℕ) (items : List (Item P)) (i : ℕ) (item : Item P) → i < length items → item ≡ get_or items i item
    → bytes_of len (take (i + 1) items) ≡ bytes_of len (take i items) + len item.payload
weighed_more {P} len items i item below read =
    let length_of : Item P → ℕ = λ item. len item.payload in
    sum_by_more length_of items i item below ∙ ap (λ x. sum_by length_of (take i items) + length_of x) (sym read)

pub weighed_le : {P : Type 0} (len : P → ℕ) (items : List (Item P)) (i : ℕ) (item : Item P) → i < length items → item ≡ get_or items i item
    → bytes_of len (take i items) + len item.payload ≤ bytes_of len items
weighed_le {P} len items i item below read =
    let length_of : Item P → ℕ = λ item. len item.payload in
    let all = sum_by_more_le length_of items i item below in
    let same : length_of (get_or items i item) ≡ len item.payload = ap length_of (sym read) in
    omega (arith, all, same)
