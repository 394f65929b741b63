-- The RFC's calls at an index of a list: the candidate at that index, with those before it gone.
use Rattle.std.proofs.Common.{◌≡◌, ℕ, suc, ◌+◌, ◌<◌, ◌≤◌, Bool, true, false, ◌&&◌, nat_eq, nat_le, if◌then◌else◌, List, [], ◌∷◌, drop, length, get_or, refl, ap, arith, add-one, add-zero, ◌∙◌}
use Rattle.std.proofs.Math.Seq.{drop-cons}
use Rattle.std.proofs.lemmas.List.Elements.{All-get_or}
use Rattle.std.proofs.lemmas.Bool.{and_from, le-leb, eq-eqb, ne_eqb}
use Rattle.std.specs.Prelude.{All, HoldsAt}
use Rattle.rly_core.specs.declared.params.Params.{Params}
use Rattle.rly_codel.specs.LaneItems.{LaneItem}
use Rattle.rly_codel.specs.Cases.{DequeueOutcome}
use Rattle.rly_codel.specs.Loop.{dodequeue, dequeue_by_loop, drop_turn, drop_loop, enter_dropping, is_below}
use Rattle.rly_codel.specs.declared.state.CodelState.{CodelState}

-- some item
nothing : LaneItem
nothing = record { stamp = 0; bytes = 0 }

-- the list from an index on is the item there, and then the rest
from_index : (ws : List LaneItem) (i : ℕ) → i < length ws → drop i ws ≡ get_or ws i nothing ∷ drop (i + 1) ws
from_index ws i h = rw add-one (drop-cons ws i nothing h)

-- the candidate at an index
pub dodequeue-at : (p : Params) (now : ℕ) (ws : List LaneItem) (i : ℕ) (s : CodelState) (below : Bool) → i < length ws →
    HoldsAt (λ item. below ≡ is_below p now item (drop (i + 1) ws)) ws i →
    dodequeue p now (drop i ws) s
    ≡ (if below
    then (record { ok_to_drop = false; state = record s { first_above_time = 0 } })
    else (if nat_eq s.first_above_time 0
    then (record { ok_to_drop = false; state = record s { first_above_time = now + p.interval } })
    else (record { ok_to_drop = nat_le s.first_above_time now; state = s })))
dodequeue-at p now ws i s below h tells = rw (from_index ws i h, tells nothing) refl

-- a turn of the loop at an index
pub drop_loop-turn : (p : Params) (now : ℕ) (ws : List LaneItem) (i : ℕ) (s : CodelState) → i < length ws →
    (nat_le s.drop_next now && s.dropping) ≡ true →
    drop_loop p now (drop i ws) s
    ≡ (let rest : DequeueOutcome = drop_loop p now (drop (i + 1) ws) (drop_turn p now (drop (i + 1) ws) s) in
    record { dropped = suc rest.dropped; state = rest.state })
drop_loop-turn p now ws i s h due = rw (from_index ws i h, due) refl

-- the loop's end
pub drop_loop-stops : (p : Params) (now : ℕ) (q : List LaneItem) (s : CodelState) →
    (nat_le s.drop_next now && s.dropping) ≡ false → drop_loop p now q s ≡ record { dropped = 0; state = s }
drop_loop-stops p now [] s stays = refl
drop_loop-stops p now (item ∷ behind) s stays = rw stays refl

-- a stamp of the lane is not above now
pub stamp-le : (ws : List LaneItem) (i now stamp : ℕ) → i < length ws → All (λ item. item.stamp ≤ now) ws →
    HoldsAt (λ item. item.stamp ≡ stamp) ws i → stamp ≤ now
stamp-le ws i now stamp h stamps tells =
    let bound : (get_or ws i nothing).stamp ≤ now = All-get_or (λ item. item.stamp ≤ now) ws i nothing h stamps in
    let same : (get_or ws i nothing).stamp ≡ stamp = tells nothing in
    omega arith

-- the candidate at an index, below target
pub dodequeue-below : (p : Params) (now : ℕ) (ws : List LaneItem) (i : ℕ) (s : CodelState) → i < length ws →
    HoldsAt (λ item. true ≡ is_below p now item (drop (i + 1) ws)) ws i →
    dodequeue p now (drop i ws) s ≡ record { ok_to_drop = false; state = record s { first_above_time = 0 } }
dodequeue-below p now ws i s h tells = dodequeue-at p now ws i s true h tells

-- the candidate at an index, just gone above target
pub dodequeue-rises : (p : Params) (now : ℕ) (ws : List LaneItem) (i : ℕ) (s : CodelState) → i < length ws →
    HoldsAt (λ item. false ≡ is_below p now item (drop (i + 1) ws)) ws i → s.first_above_time ≡ 0 →
    dodequeue p now (drop i ws) s
    ≡ record { ok_to_drop = false; state = record s { first_above_time = now + p.interval } }
dodequeue-rises p now ws i s h tells none =
    dodequeue-at p now ws i s false h tells ∙ (rw (eq-eqb s.first_above_time 0 none) refl)

-- the candidate at an index, above target for some time
pub dodequeue-decides : (p : Params) (now : ℕ) (ws : List LaneItem) (i : ℕ) (s : CodelState) → i < length ws →
    HoldsAt (λ item. false ≡ is_below p now item (drop (i + 1) ws)) ws i → (s.first_above_time ≡ 0 → ⊥) →
    dodequeue p now (drop i ws) s ≡ record { ok_to_drop = nat_le s.first_above_time now; state = s }
dodequeue-decides p now ws i s h tells some =
    dodequeue-at p now ws i s false h tells ∙ (rw (ne_eqb s.first_above_time 0 some) refl)

-- the loop's whole result, from one turn on
pub drop_loop-more : (p : Params) (now : ℕ) (ws : List LaneItem) (i : ℕ) (s t : CodelState) (whole : DequeueOutcome) →
    i < length ws → s.drop_next ≤ now → s.dropping ≡ true → t ≡ drop_turn p now (drop (i + 1) ws) s →
    whole ≡ record {
      dropped = i + (drop_loop p now (drop i ws) s).dropped;
      state = (drop_loop p now (drop i ws) s).state;
    } →
    whole ≡ record {
      dropped = i + 1 + (drop_loop p now (drop (i + 1) ws) t).dropped;
      state = (drop_loop p now (drop (i + 1) ws) t).state;
    }
drop_loop-more p now ws i s t whole h due on turn before =
    let turns : (nat_le s.drop_next now && s.dropping) ≡ true = and_from _ _ (le-leb _ _ due) on in
    let rest : DequeueOutcome = drop_loop p now (drop (i + 1) ws) (drop_turn p now (drop (i + 1) ws) s) in
    let counts : i + suc rest.dropped ≡ i + 1 + rest.dropped = omega arith in
    rw (before, drop_loop-turn p now ws i s h turns, turn)
    (ap (λ n. record { dropped = n; state = rest.state }) counts)

-- the loop's whole result, if it stops
pub drop_loop-rests : (p : Params) (now : ℕ) (q : List LaneItem) (i : ℕ) (s : CodelState) (whole : DequeueOutcome) →
    (nat_le s.drop_next now && s.dropping) ≡ false →
    whole ≡ record { dropped = i + (drop_loop p now q s).dropped; state = (drop_loop p now q s).state } →
    whole ≡ record { dropped = i; state = s }
drop_loop-rests p now q i s whole stays before = rw (before, drop_loop-stops p now q s stays, add-zero i) refl

-- the RFC's dequeue in a phase
pub dequeue_by_loop-phase : (p : Params) (now : ℕ) (q : List LaneItem) (s t : CodelState) (ok : Bool) → s.dropping ≡ true →
    ok ≡ (dodequeue p now q s).ok_to_drop → t ≡ (dodequeue p now q s).state → t.dropping ≡ s.dropping →
    dequeue_by_loop p now q s ≡ drop_loop p now q (record t { dropping = ok })
unfolding dequeue_by_loop
dequeue_by_loop-phase p now q s t true on permitted looked kept =
    rw (← permitted, ← looked, on) (ap (λ b. drop_loop p now q (record t { dropping = b })) (kept ∙ on))
dequeue_by_loop-phase p now q s t false on permitted looked kept = rw (← permitted, ← looked, on) refl

-- the RFC's dequeue at the start of a phase
pub dequeue_by_loop-enters : (p : Params) (now : ℕ) (q : List LaneItem) (s t : CodelState) → s.dropping ≡ false →
    true ≡ (dodequeue p now q s).ok_to_drop → t ≡ (dodequeue p now q s).state →
    dequeue_by_loop p now q s ≡ record { dropped = 1; state = enter_dropping p now (drop 1 q) t }
unfolding dequeue_by_loop
dequeue_by_loop-enters p now q s t off permitted looked = rw (← permitted, ← looked, off) refl

-- the RFC's dequeue without a drop
pub dequeue_by_loop-delivers : (p : Params) (now : ℕ) (q : List LaneItem) (s t : CodelState) → s.dropping ≡ false →
    false ≡ (dodequeue p now q s).ok_to_drop → t ≡ (dodequeue p now q s).state →
    dequeue_by_loop p now q s ≡ record { dropped = 0; state = t }
unfolding dequeue_by_loop
dequeue_by_loop-delivers p now q s t off permitted looked = rw (← permitted, ← looked, off) refl
