-- A head as bytes.
use Rattle.rly_segment.proofs.Common.{[], ◌*◌, ◌++◌, ◌+◌, ◌∷◌, ◌≡◌, ◌≤◌, arith, checkpoint_of, codel_of, flat_map, Geometry, head_spelled, hop_spelled}
use Rattle.rly_segment.proofs.Common.{inline_form, IsHeadOf, IsLayout, length, length-append, length-numbers, length-parts, length-replicate, new_head, new_hop}
use Rattle.rly_segment.proofs.Common.{new_state, Params, refl, replicate, Spelled, State, state_spelled, suc, zero, ℕ}

-- the length of a head
pub length-head : {P : Type 0} (len : P → ℕ) (form : Spelled P) (generation : ℕ) (s : State P)
    → length (head_spelled len form generation s ++ 0 ∷ []) ≡ 13 + length (state_spelled len form s)
unfolding head_spelled
length-head len form generation s = simp length-append (omega arith)

length-hops : (n : ℕ) → length (flat_map (hop_spelled length inline_form) (replicate n new_hop)) ≡ 64 * n
unfolding hop_spelled codel_of
length-hops zero = refl
length-hops (suc n) = omega (arith, length-hops n)

-- the length of the empty state's checkpoint
pub length-new : (p : Params) → length (checkpoint_of (new_state p)) ≡ 8 + 8 * p.peers + 64 * p.hops
length-new p =
    omega (arith, length-parts length inline_form (new_state p), length-numbers (replicate p.peers 0), length-replicate {A = ℕ} p.peers 0, length-hops p.hops)

-- a head with the gates around it is at most as long as its segment
pub head_room : {P : Type 0} {len : P → ℕ} {form : Spelled P} {g : Geometry} {segment generation : ℕ} {s : State P} → IsHeadOf len form g segment generation s
    → 1 + length (head_spelled len form generation s ++ 0 ∷ []) ≤ g.length
head_room {len = len} {form} {generation = generation} {s} head = omega (arith, head.room, length-head len form generation s)

-- nor is the first one
pub new_head_room : {g : Geometry} {size : ℕ} → IsLayout g size → 1 + length (new_head g) ≤ g.length
new_head_room {g} geometry = omega (arith, geometry.fits, length-head length inline_form 1 (new_state g.params), length-new g.params)
