-- The totals of a queue.
use Rattle.std.proofs.Common.{◌≡◌, ℕ, zero, suc, ◌+◌, ◌-◌, ◌%◌, ◌^◌, ◌<◌, List, [], ◌∷◌, ◌++◌, length, get_or, drop, refl, ap, sym, arith, ◌∙◌}
use Rattle.std.proofs.Math.Nat.{add-mod_right, mod-add-mod, mod-eq_of_lt, mod-mod}
use Rattle.std.proofs.lemmas.List.{drop-map}
use Rattle.std.proofs.lemmas.List.Sums.{sum_by-cons}
use Rattle.rly_codel.specs.LaneItems.{LaneItem, lane_bytes}
use Rattle.rly_machine.specs.declared.hop.Item.{Item}
use Rattle.rly_machine.specs.declared.queue.Queued.{Queued}
use Rattle.rly_machine.specs.HelpersQueue.{AddUp, items_of}
use Rattle.rly_machine.specs.Pick.{waiting_of}
use Rattle.rly_machine.specs.State.{bytes_of}
use Rattle.rly_machine.proofs.Waiting.{behind_le}

-- the payload bytes of items and one more after them
bytes_more : {P : Type 0} (len : P → ℕ) (queued : List (Queued P)) (last : Queued P)
    → bytes_of len (items_of (queued ++ last ∷ [])) ≡ bytes_of len (items_of queued) + len last.item.payload
bytes_more {P} len [] last =
    let size : Item P → ℕ = λ item. len item.payload in
    let one : bytes_of len (items_of (last ∷ [])) ≡ len last.item.payload + 0 = sum_by-cons size last.item [] in
    omega (arith, one)
bytes_more {P} len (q ∷ queued) last =
    let size : Item P → ℕ = λ item. len item.payload in
    let longer : bytes_of len (items_of (q ∷ (queued ++ last ∷ []))) ≡ len q.item.payload + bytes_of len (items_of (queued ++ last ∷ [])) =
    sum_by-cons size q.item (items_of (queued ++ last ∷ [])) in
    let shorter : bytes_of len (items_of (q ∷ queued)) ≡ len q.item.payload + bytes_of len (items_of queued) =
    sum_by-cons size q.item (items_of queued) in
    omega (arith, longer, shorter, bytes_more len queued last)

-- one more at the back, with the next total
pub AddUp-push : {P : Type 0} (len : P → ℕ) (total next : ℕ) (queued : List (Queued P)) (last : Queued P)
    → next ≡ (total + len last.item.payload) % 2 ^ 64 → last.total ≡ next → AddUp len total queued
    → AddUp len next (queued ++ last ∷ [])
AddUp-push len total next [] last is_next is_last all =
    let alone : last.total + 0 ≡ (total + len last.item.payload) % 2 ^ 64 = omega (arith, is_next, is_last) in
    (rw (alone, is_next) (mod-mod (total + len last.item.payload) (2 ^ 64)), tt)
AddUp-push len total next (q ∷ behind) last is_next is_last all =
    let b : ℕ = bytes_of len (items_of behind) in
    let l : ℕ = len last.item.payload in
    let bytes : q.total + bytes_of len (items_of (behind ++ last ∷ [])) ≡ q.total + b + l = omega (arith, bytes_more len behind last) in
    let goes_on : (q.total + b + l) % 2 ^ 64 ≡ next = sym (mod-add-mod (q.total + b) (2 ^ 64) l) ∙ (rw (all.0) (sym is_next)) in
    (rw bytes goes_on, AddUp-push len total next behind last is_next is_last all.1)

-- the total at an index, and the payload bytes after it
pub AddUp-at : {P : Type 0} (len : P → ℕ) (total : ℕ) (queued : List (Queued P)) (i : ℕ) (q : Queued P) → i < length queued
    → q ≡ get_or queued i q → AddUp len total queued
    → (q.total + bytes_of len (drop (i + 1) (items_of queued))) % 2 ^ 64 ≡ total
AddUp-at len total [] i q below is all = absurd (omega arith)
AddUp-at len total (x ∷ behind) zero q below is all = rw is (all.0)
AddUp-at len total (x ∷ behind) (suc i) q below is all =
    let next : suc i + 1 ≡ suc (i + 1) = omega arith in
    rw next (AddUp-at len total behind i q (omega arith) is all.1)

-- so the difference of two totals is the bytes added between them
pub between : (total at behind : ℕ) → at < 2 ^ 64 → (at + behind) % 2 ^ 64 ≡ total
    → (total + (2 ^ 64 - at)) % 2 ^ 64 ≡ behind % 2 ^ 64
between total at behind fits is =
    let whole : at + behind + (2 ^ 64 - at) ≡ behind + 2 ^ 64 = omega arith in
    rw (← is) (mod-add-mod (at + behind) (2 ^ 64) (2 ^ 64 - at) ∙ (rw whole (add-mod_right behind (2 ^ 64))))

-- the items as CoDel sees them have the items' payload bytes
pub waiting_bytes-of : {P : Type 0} (len : P → ℕ) (items : List (Item P)) → lane_bytes (waiting_of len items) ≡ bytes_of len items
waiting_bytes-of len [] = refl
waiting_bytes-of {P} len (item ∷ items) =
    let size : Item P → ℕ = λ item. len item.payload in
    let seen : LaneItem → ℕ = λ w. w.bytes in
    let here : LaneItem = record { stamp = item.stamp; bytes = len item.payload } in
    sum_by-cons seen here (waiting_of len items) ∙ ap (λ n. len item.payload + n) (waiting_bytes-of len items) ∙ sym (sum_by-cons size item items)

-- if the waiting items have fewer than 2 ^ 64 payload bytes, those after an index are the difference modulo 2 ^ 64
pub behind_whole : {P : Type 0} (len : P → ℕ) (items : List (Item P)) (n : ℕ) → lane_bytes (waiting_of len items) < 2 ^ 64
    → bytes_of len (drop n items) % 2 ^ 64 ≡ lane_bytes (drop n (waiting_of len items))
behind_whole {P} len items n fits =
    let seen : Item P → LaneItem = λ item. record { stamp = item.stamp; bytes = len item.payload } in
    let same : lane_bytes (drop n (waiting_of len items)) ≡ bytes_of len (drop n items) =
    ap lane_bytes (drop-map seen n items) ∙ waiting_bytes-of len (drop n items) in
    let below : bytes_of len (drop n items) < 2 ^ 64 = omega (arith, same, behind_le (waiting_of len items) n) in
    mod-eq_of_lt below ∙ sym same
