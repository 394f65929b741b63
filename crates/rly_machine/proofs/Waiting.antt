-- CoDel's view of a queue, item by item.
use Rattle.std.proofs.Common.{ℕ, ◌≡◌, ◌+◌, ◌<◌, ◌≤◌, List, ◌++◌, length, get_or, drop, arith}
use Rattle.std.proofs.lemmas.List.{get_or-append-add, length-append, length-map}
use Rattle.std.proofs.lemmas.List.Elements.{All-get_or, All-map}
use Rattle.std.proofs.lemmas.List.Sums.{sum_by-take-drop}
use Rattle.std.specs.List.{All}
use Rattle.rly_codel.specs.LaneItems.{LaneItem, lane_bytes}
use Rattle.rly_core.specs.declared.params.Params.{Params}
use Rattle.rly_machine.specs.declared.hop.Item.{Item}
use Rattle.rly_machine.specs.Pick.{waiting_of}
use Rattle.rly_machine.specs.Sound.{IsLive, IsSoundHop}
use Rattle.rly_machine.specs.State.{HopState}

-- the number of waiting items is the number of items
pub waiting_length : {P : Type 0} (len : P → ℕ) (items : List (Item P)) → length (waiting_of len items) ≡ length items
waiting_length {P} len items = length-map items (λ (item : Item P). let w : LaneItem = record { stamp = item.stamp; bytes = len item.payload } in w)

-- those after an index have at most all bytes
pub behind_le : (xs : List LaneItem) (n : ℕ) → lane_bytes (drop n xs) ≤ lane_bytes xs
behind_le xs n = let size : LaneItem → ℕ = λ w. w.bytes in omega (arith, sum_by-take-drop size xs n)

-- no item came after the hop's time
pub items_came : {P : Type 0} (len : P → ℕ) (params : Params) (seq : ℕ) (h : HopState P) → IsSoundHop len params seq h
    → All (λ item. item.stamp ≤ h.moment) h.queue
items_came {P} len params seq h sound = λ k d below.
    let line : length h.flight + k < length (h.flight ++ h.queue) = omega (arith, length-append h.flight h.queue) in
    let live = sound.items (length h.flight + k) d line in
    let came : (get_or (h.flight ++ h.queue) (length h.flight + k) d).stamp ≤ h.moment = live.stamp in
    rw (← get_or-append-add h.flight h.queue k d) came

-- no stamp is above the hop's time
pub stamps_le : {P : Type 0} (len : P → ℕ) (params : Params) (moment later seq : ℕ) (items : List (Item P)) → moment ≤ later → All (IsLive len params moment seq) items
    → All (λ w. w.stamp ≤ later) (waiting_of len items)
stamps_le {P} len params moment later seq items m live =
    let seen : Item P → LaneItem = λ item. record { stamp = item.stamp; bytes = len item.payload } in
    All-map (λ (w : LaneItem). w.stamp ≤ later) seen items (λ k d below. let at = All-get_or (IsLive len params moment seq) items k d below live in omega (arith, at.stamp))
