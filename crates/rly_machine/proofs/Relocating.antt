-- Content of the same length replaces other content.
use Rattle.std.proofs.Common.{ℕ, zero, suc, ◌≡◌, ◌+◌, ◌-◌, ◌<◌, ◌≤◌, ◌%◌, ◌^◌, Bool, true, false, cond, ltb, List, [], ◌∷◌, ◌++◌, length, get_or, set, map, Option, Some, Vec, arith, refl, sym, ap, subst, ◌∙◌}
use Rattle.std.specs.Vec.{with_item}
use Rattle.std.proofs.lemmas.Bool.{ltb-true, ltb-false, lt-ltb, le-ltb}
use Rattle.std.proofs.lemmas.List.{map-set, set-get_or}
use Rattle.std.proofs.lemmas.List.Sums.{sum_by-cons}
use Rattle.rly_core.specs.declared.ids.HopId.{HopId}
use Rattle.rly_core.specs.declared.params.Params.{Params}
use Rattle.rly_machine.specs.declared.hop.Hop.{Hop}
use Rattle.rly_machine.specs.declared.hop.Item.{Item}
use Rattle.rly_machine.specs.declared.queue.Queued.{Queued}
use Rattle.rly_machine.specs.HelpersMachine.{KeepsCounts}
use Rattle.rly_machine.specs.HelpersQueue.{AddUp, items_of}
use Rattle.rly_machine.specs.Kept.{hop_state, state_of}
use Rattle.rly_machine.specs.Map.{map_item, map_hop, map_state}
use Rattle.rly_machine.specs.Relocate.{carried_at, state_with_relocated, with_payload, with_relocated}
use Rattle.rly_machine.specs.State.{State, HopState, bytes_of, has_hop, hop_at, live_line, new_hop}
use Rattle.rly_machine.proofs.Alike.{sound_alike, items_alike, bytes_alike}
use Rattle.rly_machine.proofs.Keeping.{place_of, read_hop, written_hop}

-- ---- items

-- one item of a list was written back with another payload
pub put_payload : {P : Type 0} (items : List (Item P)) (i : ℕ) (old new : Item P) (payload : P)
    → old ≡ get_or items i old → new ≡ record old { payload = payload } → set items i new ≡ with_payload items i payload
put_payload [] i old new payload read is = refl
put_payload {P} (item ∷ items) zero old new payload read is = ap (λ (x : Item P). x ∷ items) (is ∙ ap (λ (x : Item P). record x { payload = payload }) read)
put_payload {P} (item ∷ items) (suc i) old new payload read is = ap (λ (rest : List (Item P)). item ∷ rest) (put_payload items i old new payload read is)

-- the value of a map is unchanged
sizes_stay : {P Q : Type 0} (f : P → Q) (items : List (Item P)) (i : ℕ) (payload : P)
    → carried_at f items i ≡ Some (f payload) → map (map_item f) (with_payload items i payload) ≡ map (map_item f) items
sizes_stay f [] i payload same = refl
sizes_stay {P} {Q} f (item ∷ items) zero payload same =
    let e : f payload ≡ f item.payload = cc in
    ap (λ (q : Q). let x : Item Q = record { id = item.id; stamp = item.stamp; limit = item.limit; payload = q } in x ∷ map (map_item f) items) e
sizes_stay {P} {Q} f (item ∷ items) (suc i) payload same = ap (λ (rest : List (Item Q)). map_item f item ∷ rest) (sizes_stay f items i payload same)

-- the first of two lists, and the second
pub carried_at_first : {P Q : Type 0} (f : P → Q) (xs ys : List (Item P)) (i : ℕ) → i < length xs
    → carried_at f (xs ++ ys) i ≡ carried_at f xs i
carried_at_first f [] ys i below = absurd (omega arith)
carried_at_first f (x ∷ xs) ys zero below = refl
carried_at_first f (x ∷ xs) ys (suc i) below = carried_at_first f xs ys i (omega arith)

pub carried_at_second : {P Q : Type 0} (f : P → Q) (xs ys : List (Item P)) (i : ℕ) → length xs ≤ i
    → carried_at f (xs ++ ys) i ≡ carried_at f ys (i - length xs)
carried_at_second f [] ys i past = let e : i ≡ i - 0 = omega arith in ap (carried_at f ys) e
carried_at_second f (x ∷ xs) ys zero past = absurd (omega arith)
carried_at_second f (x ∷ xs) ys (suc i) past =
    let e : i - length xs ≡ suc i - suc (length xs) = omega arith in
    carried_at_second f xs ys i (omega arith) ∙ ap (carried_at f ys) e

-- ---- queues

-- the queued items, one of them with other content
pub put_queued : {P : Type 0} (queued : List (Queued P)) (i : ℕ) (old new : Queued P) (payload : P)
    → old ≡ get_or queued i old → new.item ≡ record old.item { payload = payload }
    → items_of (set queued i new) ≡ with_payload (items_of queued) i payload
put_queued [] i old new payload read is = refl
put_queued {P} (q ∷ queued) zero old new payload read is = ap (λ (x : Item P). x ∷ items_of queued) (is ∙ ap (λ (x : Queued P). record x.item { payload = payload }) read)
put_queued {P} (q ∷ queued) (suc i) old new payload read is = ap (λ (rest : List (Item P)). q.item ∷ rest) (put_queued queued i old new payload read is)

-- the content of the item that was read
pub queued_carries : {P Q : Type 0} (f : P → Q) (queued : List (Queued P)) (i : ℕ) (q : Q) (old : Queued P)
    → carried_at f (items_of queued) i ≡ Some q → old ≡ get_or queued i old → f old.item.payload ≡ q
queued_carries f [] i q old found read = absurd cc
queued_carries {P} f (x ∷ queued) zero q old found read = ap (λ (y : Queued P). f y.item.payload) read ∙ cc
queued_carries f (x ∷ queued) (suc i) q old found read = queued_carries f queued i q old found read

-- the bytes of items, one of them with other content of the same length
put_bytes : {P : Type 0} (len : P → ℕ) (queued : List (Queued P)) (i : ℕ) (old new : Queued P)
    → old ≡ get_or queued i old → len new.item.payload ≡ len old.item.payload
    → bytes_of len (items_of (set queued i new)) ≡ bytes_of len (items_of queued)
put_bytes len [] i old new read same = refl
put_bytes {P} len (q ∷ queued) zero old new read same =
    let size : Item P → ℕ = λ item. len item.payload in
    let e : len new.item.payload ≡ len q.item.payload = same ∙ ap (λ (x : Queued P). len x.item.payload) read in
    omega (arith, e, sum_by-cons size new.item (items_of queued), sum_by-cons size q.item (items_of queued))
put_bytes {P} len (q ∷ queued) (suc i) old new read same =
    let size : Item P → ℕ = λ item. len item.payload in
    omega (arith, put_bytes len queued i old new read same, sum_by-cons size q.item (items_of (set queued i new)), sum_by-cons size q.item (items_of queued))

-- the totals are unchanged
pub AddUp-put : {P : Type 0} (len : P → ℕ) (total : ℕ) (queued : List (Queued P)) (i : ℕ) (old new : Queued P)
    → old ≡ get_or queued i old → new.total ≡ old.total → len new.item.payload ≡ len old.item.payload
    → AddUp len total queued → AddUp len total (set queued i new)
AddUp-put len total [] i old new read same_total same all = tt
AddUp-put {P} len total (q ∷ queued) zero old new read same_total same all =
    let e : new.total ≡ q.total = same_total ∙ ap (λ (x : Queued P). x.total) read in
    (subst (λ (n : ℕ). (n + bytes_of len (items_of queued)) % 2 ^ 64 ≡ total) (sym e) all.0, all.1)
AddUp-put len total (q ∷ queued) (suc i) old new read same_total same all = (
  subst (λ (n : ℕ). (q.total + n) % 2 ^ 64 ≡ total) (sym (put_bytes len queued i old new read same)) all.0,
  AddUp-put len total queued i old new read same_total same all.1,
)

-- ---- hops

in_flight : {P : Type 0} (h : HopState P) (index : ℕ) (payload : P) → index < length h.flight
    → with_relocated h index payload ≡ record h { flight = with_payload h.flight index payload }
in_flight {P} h index payload below =
    ap (λ (b : Bool). cond b (let g : HopState P = record h { flight = with_payload h.flight index payload } in g) (record h { queue = with_payload h.queue (index - length h.flight) payload })) (lt-ltb index (length h.flight) below)

in_queue : {P : Type 0} (h : HopState P) (index : ℕ) (payload : P) → length h.flight ≤ index
    → with_relocated h index payload ≡ record h { queue = with_payload h.queue (index - length h.flight) payload }
in_queue {P} h index payload past =
    ap (λ (b : Bool). cond b (let g : HopState P = record h { flight = with_payload h.flight index payload } in g) (record h { queue = with_payload h.queue (index - length h.flight) payload })) (le-ltb index (length h.flight) past)

-- a hop, one item of whose flight was written back
pub flight_relocated : {P : Type 0} (h : HopState P) (index : ℕ) (payload : P) (flight : List (Item P))
    → index < length h.flight → flight ≡ with_payload h.flight index payload
    → record h { flight = flight } ≡ with_relocated h index payload
flight_relocated {P} h index payload flight below is = ap (λ (items : List (Item P)). let g : HopState P = record h { flight = items } in g) is ∙ sym (in_flight h index payload below)

-- the value of a map at a hop's payloads is unchanged
hop_stays : {P Q : Type 0} (f : P → Q) (h : HopState P) (index : ℕ) (payload : P)
    → carried_at f (live_line h) index ≡ Some (f payload) → map_hop f (with_relocated h index payload) ≡ map_hop f h
hop_stays {P} {Q} f h index payload found = by_cases (ltb index (length h.flight)) refl
  where
    by_cases : (b : Bool) → ltb index (length h.flight) ≡ b → map_hop f (with_relocated h index payload) ≡ map_hop f h
    by_cases true e =
        let below = ltb-true _ _ e in
        ap (map_hop f) (in_flight h index payload below)
        ∙ ap (λ (items : List (Item Q)). let g : HopState Q = record (map_hop f h) { flight = items } in g) (sizes_stay f h.flight index payload (sym (carried_at_first f h.flight h.queue index below) ∙ found))
    by_cases false e =
        let past = ltb-false _ _ e in
        ap (map_hop f) (in_queue h index payload past)
        ∙ ap (λ (items : List (Item Q)). let g : HopState Q = record (map_hop f h) { queue = items } in g) (sizes_stay f h.queue (index - length h.flight) payload (sym (carried_at_second f h.flight h.queue index past) ∙ found))

-- ---- states

-- and that at a state's
pub state_stays : {P Q : Type 0} (f : P → Q) (s : State P) (hop : HopId) (index : ℕ) (payload : P)
    → carried_at f (live_line (hop_at s hop)) index ≡ Some (f payload)
    → map_state f (state_with_relocated s hop index payload) ≡ map_state f s
state_stays {P} {Q} f s hop index payload found =
    let m : HopState P → HopState Q = map_hop f in
    let i : ℕ = hop.0 - 1 in
    ap (λ (hops : List (HopState Q)). let t : State Q = record { params = s.params; hops = hops; lasts = s.lasts; seq = s.seq } in t)
    (map-set m s.hops i (with_relocated (hop_at s hop) index payload)
    ∙ ap (set (map m s.hops) i) (hop_stays f (hop_at s hop) index payload found)
    ∙ sym (map-set m s.hops i (hop_at s hop))
    ∙ ap (map m) (set-get_or s.hops i new_hop))

-- the hop that is read from a machine's fields has the item
pub relocate_read : {P A B : Type 0} (len : P → ℕ) (params : Params) (hops : Vec (Hop P) A) (lasts : Vec ℕ B) (seq : ℕ) (s : State P) (hop : HopId) (index : ℕ) (payload : P) (old : Hop P)
    → state_of params hops lasts seq ≡ s → has_hop s hop ≡ true → old ≡ get_or hops.items (hop.0 - 1) old
    → carried_at len (live_line (hop_at s hop)) index ≡ Some (len payload)
    → carried_at len (live_line (hop_state old)) index ≡ Some (len payload)
relocate_read {P} len params hops lasts seq s hop index payload old same there read found =
    let place = place_of params hops lasts seq s hop same there in
    let seen : State P → Option ℕ = λ t. carried_at len (live_line (hop_at t hop)) index in
    ap (λ (h : HopState P). carried_at len (live_line h) index) (read_hop hops.items (hop.0 - 1) old place read)
    ∙ ap seen same ∙ found

-- and the fields after its relocation
pub kept_relocate : {P A B : Type 0} (len : P → ℕ) (params : Params) (hops : Vec (Hop P) A) (lasts : Vec ℕ B) (seq items bytes : ℕ) (s : State P) (hop : HopId) (index : ℕ) (payload : P) (old new : Hop P)
    → state_of params hops lasts seq ≡ s → has_hop s hop ≡ true → old ≡ get_or hops.items (hop.0 - 1) old
    → carried_at len (live_line (hop_at s hop)) index ≡ Some (len payload)
    → KeepsCounts len (state_of params hops lasts seq) items bytes → hop_state new ≡ with_relocated (hop_state old) index payload
    → (state_of params (with_item hops (hop.0 - 1) new) lasts seq ≡ state_with_relocated s hop index payload)
    × KeepsCounts len (state_of params (with_item hops (hop.0 - 1) new) lasts seq) items bytes
kept_relocate {P} len params hops lasts seq items bytes s hop index payload old new same there read found kept changed =
    let t : State P = state_with_relocated s hop index payload in
    let place = place_of params hops lasts seq s hop same there in
    let with_hops : List (HopState P) → State P = λ hs. record { params = params; hops = hs; lasts = lasts.items; seq = seq } in
    let is : state_of params (with_item hops (hop.0 - 1) new) lasts seq ≡ t =
    ap with_hops (written_hop hops.items (hop.0 - 1) old new (λ h. with_relocated h index payload) place read changed)
    ∙ ap (λ (u : State P). state_with_relocated u hop index payload) same in
    let counts : State P → Type 0 = λ u. KeepsCounts len u items bytes in
    let before : counts s = subst counts same kept in
    let alike = sym (state_stays len s hop index payload found) in (
      is,
      subst counts (sym is) (record {
        sound = sound_alike len len s t alike before.sound;
        items = before.items ∙ items_alike len len s t alike;
        bytes = before.bytes ∙ bytes_alike len len s t alike;
      }),
    )
