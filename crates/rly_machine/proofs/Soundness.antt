-- Each accepted command keeps a state sound.
use Rattle.std.proofs.Common.{ℕ, ◌≡◌, ◌+◌, ◌-◌, ◌^◌, ◌<◌, ◌≤◌, max, List, [], ◌∷◌, ◌++◌, length, set, take, drop, refl, arith, ◌∙◌, sum, inl, inr}
use Rattle.std.proofs.lemmas.Bool.{cases_lt}
use Rattle.std.specs.List.{All, AllPairs}
use Rattle.std.proofs.lemmas.List.{length-set, length-append, append_assoc, length_push, get_or-drop, length-drop, get_or_append_left, get_or_push, drop-append-le}
use Rattle.std.proofs.lemmas.List.Elements.{All-set, All-weaker, All-get_or, All-push, All-drop}
use Rattle.std.proofs.lemmas.List.Sums.{sum_by-set, sum_by_push, sum_by-append, sum_by-take-drop}
use Rattle.rly_core.specs.declared.ids.HopId.{HopId}
use Rattle.rly_core.specs.declared.ids.PeerId.{PeerId}
use Rattle.rly_core.specs.declared.params.Params.{Params}
use Rattle.rly_machine.specs.declared.hop.Item.{Item}
use Rattle.rly_machine.specs.State.{State, HopState, hop_at, last_at, live_line, live_items, live_bytes, bytes_of, new_hop}
use Rattle.rly_machine.specs.Accepted.{accept, max_seq}
use Rattle.rly_machine.specs.Release.{covered_count, with_released}
use Rattle.rly_machine.specs.Take.{with_taken}
use Rattle.rly_machine.specs.Sound.{IsSound, IsSoundHop, IsLive, ComesBefore}
use Rattle.rly_machine.proofs.Refusals.{MayTake, MayRelease}

-- a property of an item, or a hop, still holds after more accepted commands and at a later time
pub live_later : {P : Type 0} (len : P → ℕ) (params : Params) (moment later seq more : ℕ) (item : Item P) → moment ≤ later → seq ≤ more → IsLive len params moment seq item → IsLive len params later more item
live_later len params moment later seq more item m n live = record { first = live.first; last = omega (arith, live.last); stamp = omega (arith, live.stamp); limit = live.limit; length = live.length }

pub sound_later : {P : Type 0} (len : P → ℕ) (params : Params) (seq more : ℕ) (h : HopState P) → seq ≤ more → IsSoundHop len params seq h → IsSoundHop len params more h
sound_later {P} len params seq more h n sound = record {
  balance = sound.balance;
  taken = omega (arith, sound.taken);
  moment = sound.moment;
  window = sound.window;
  items = All-weaker (IsLive len params h.moment seq) (IsLive len params h.moment more) (λ item live. live_later len params h.moment h.moment seq more item (omega arith) n live) _ sound.items;
  order = sound.order;
  first_above_time = sound.first_above_time;
  drop_next = sound.drop_next;
  lastcount = sound.lastcount;
  count = sound.count;
}

-- one more item at the back of a list in order
pub ordered_push : {X : Type 0} (R : X → X → Type 0) (xs : List X) (y : X) → AllPairs R xs → All (λ x. R x y) xs → AllPairs R (xs ++ y ∷ [])
ordered_push R xs y order below i j d i<j j<n =
    let in_all : j < length xs + 1 = rw (← length_push xs y) j<n in
    let in_front : i < length xs = omega arith in
    rw (get_or_append_left xs (y ∷ []) d i in_front) (elim (cases_lt j (length xs)) [
      | inl in_xs ↦ rw (get_or_append_left xs (y ∷ []) d j in_xs) (order i j d i<j in_xs)
      | inr past ↦ (let at_end : length xs ≡ j = omega arith in rw (get_or_push xs y d j at_end) (below i d in_front))
    ])

-- the back of a list in order
pub ordered_drop : {X : Type 0} (R : X → X → Type 0) (n : ℕ) (xs : List X) → AllPairs R xs → AllPairs R (drop n xs)
ordered_drop R n xs order i j d i<j j<n =
    let in_all : j < length xs - n = rw (← length-drop n xs) j<n in
    rw (get_or-drop n xs i d) (rw (get_or-drop n xs j d) (order (n + i) (n + j) d (omega arith) (omega arith)))

-- a hop that took an item
pub sound_taken : {P : Type 0} (len : P → ℕ) (params : Params) (seq stamp limit : ℕ) (payload : P) (h : HopState P)
    → stamp < 2 ^ 52 → limit < 2 ^ 40 → len payload ≤ params.payload → IsSoundHop len params seq h → IsSoundHop len params (seq + 1) (with_taken h (seq + 1) stamp limit payload)
sound_taken {P} len params seq stamp limit payload h early limited short sound =
    let moment : ℕ = max stamp h.moment in
    let item : Item P = record { id = seq + 1; stamp = moment; limit = limit; payload = payload } in
    let known = sound.items in
    record {
      balance = omega (arith, length_push h.queue item, sound.balance);
      taken = omega (arith, sound.taken);
      moment = omega (arith, sound.moment);
      window = sound.window;
      items = rw (← append_assoc h.flight h.queue (item ∷ [])) (All-push (IsLive len params moment (seq + 1)) (h.flight ++ h.queue) item
          (All-weaker (IsLive len params h.moment seq) (IsLive len params moment (seq + 1)) (λ old live. live_later len params h.moment moment seq (seq + 1) old (omega arith) (omega arith) live) _ known)
          (record { first = omega arith; last = omega arith; stamp = omega arith; limit = limited; length = short }));
      order = rw (← append_assoc h.flight h.queue (item ∷ [])) (ordered_push ComesBefore (h.flight ++ h.queue) item sound.order
          (All-weaker (IsLive len params h.moment seq) (λ old. ComesBefore old item) (λ old live. record { id = omega (arith, live.last); stamp = omega (arith, live.stamp) }) _ known));
      first_above_time = omega (arith, sound.first_above_time);
      drop_next = omega (arith, sound.drop_next);
      lastcount = sound.lastcount;
      count = sound.count;
    }

-- a hop whose first items in flight were released
pub sound_released : {P : Type 0} (len : P → ℕ) (params : Params) (seq count : ℕ) (h : HopState P)
    → count ≤ length h.flight → IsSoundHop len params seq h → IsSoundHop len params (seq + 1) (with_released h count)
sound_released {P} len params seq count h within sound =
    let later = sound_later len params seq (seq + 1) h (omega arith) sound in
    let line : drop count (h.flight ++ h.queue) ≡ drop count h.flight ++ h.queue = drop-append-le count h.flight h.queue within in
    record {
      balance = omega (arith, length-drop count h.flight, sound.balance);
      taken = later.taken;
      moment = later.moment;
      window = omega (arith, length-drop count h.flight, sound.window);
      items = rw (← line) (All-drop (IsLive len params h.moment (seq + 1)) count (h.flight ++ h.queue) later.items);
      order = rw (← line) (ordered_drop ComesBefore count (h.flight ++ h.queue) later.order);
      first_above_time = later.first_above_time;
      drop_next = later.drop_next;
      lastcount = later.lastcount;
      count = later.count;
    }

-- a spool that accepted a command at a hop
pub sound_accept : {P : Type 0} (len : P → ℕ) (s : State P) (hop : HopId) (h : HopState P) (lasts : List ℕ)
    → IsSound len s → 0 < hop.0 → hop.0 ≤ length s.hops → s.seq < max_seq
    → IsSoundHop len s.params (s.seq + 1) h
    → length lasts ≡ length s.lasts → All (λ last. last ≤ s.seq + 1) lasts
    → sum lasts + (hop_at s hop).taken ≡ sum s.lasts + h.taken
    → live_items (accept s hop h) ≤ s.params.items
    → live_bytes len (accept s hop h) ≤ s.params.bytes
    → IsSound len (record (accept s hop h) { lasts = lasts })
sound_accept {P} len s hop h lasts sound from to below sound_h same_length in_range counted items bytes =
    let place : hop.0 - 1 < length s.hops = omega arith in
    let sums = sum_by-set (λ h. h.taken) s.hops (hop.0 - 1) h new_hop place in
    record {
      params = sound.params;
      hop_count = length-set s.hops (hop.0 - 1) h ∙ sound.hop_count;
      peer_count = same_length ∙ sound.peer_count;
      hops = All-set (IsSoundHop len s.params (s.seq + 1)) s.hops (hop.0 - 1) h sound_h
          (All-weaker (IsSoundHop len s.params s.seq) (IsSoundHop len s.params (s.seq + 1)) (λ other was. sound_later len s.params s.seq (s.seq + 1) other (omega arith) was) _ sound.hops);
      lasts = in_range;
      numbers = omega (arith, sums, sound.numbers, counted);
      items = items;
      bytes = bytes;
      seq = omega arith;
    }

-- the live items and bytes after a command at a hop
pub items_after : {P : Type 0} (s : State P) (hop : HopId) (h : HopState P) → 0 < hop.0 → hop.0 ≤ length s.hops
    → live_items (accept s hop h) + length (live_line (hop_at s hop)) ≡ live_items s + length (live_line h)
items_after {P} s hop h from to = sum_by-set (λ h. length (live_line h)) s.hops (hop.0 - 1) h new_hop (omega arith)

pub bytes_after : {P : Type 0} (len : P → ℕ) (s : State P) (hop : HopId) (h : HopState P) → 0 < hop.0 → hop.0 ≤ length s.hops
    → live_bytes len (accept s hop h) + bytes_of len (live_line (hop_at s hop)) ≡ live_bytes len s + bytes_of len (live_line h)
bytes_after {P} len s hop h from to = sum_by-set (λ h. bytes_of len (live_line h)) s.hops (hop.0 - 1) h new_hop (omega arith)

-- the live items and bytes that a Take adds
pub items_taken : {P : Type 0} (s : State P) (hop : HopId) (stamp limit : ℕ) (payload : P) → 0 < hop.0 → hop.0 ≤ length s.hops
    → live_items (accept s hop (with_taken (hop_at s hop) (s.seq + 1) stamp limit payload)) ≡ live_items s + 1
items_taken {P} s hop stamp limit payload from to =
    let h = hop_at s hop in
    let after = items_after s hop (with_taken h (s.seq + 1) stamp limit payload) from to in
    let pushed = length_push h.queue (record { id = s.seq + 1; stamp = max stamp h.moment; limit = limit; payload = payload }) in
    omega (arith, after, pushed, length-append {A = Item P})

pub bytes_taken : {P : Type 0} (len : P → ℕ) (s : State P) (hop : HopId) (stamp limit : ℕ) (payload : P) → 0 < hop.0 → hop.0 ≤ length s.hops
    → live_bytes len (accept s hop (with_taken (hop_at s hop) (s.seq + 1) stamp limit payload)) ≡ live_bytes len s + len payload
bytes_taken {P} len s hop stamp limit payload from to =
    let h = hop_at s hop in
    let item : Item P = record { id = s.seq + 1; stamp = max stamp h.moment; limit = limit; payload = payload } in
    let after = bytes_after len s hop (with_taken h (s.seq + 1) stamp limit payload) from to in
    let length_of : Item P → ℕ = λ item. len item.payload in
    let pushed = sum_by_push length_of h.queue item in
    let old = sum_by-append length_of h.flight h.queue in
    let new = sum_by-append length_of h.flight (h.queue ++ item ∷ []) in
    omega (arith, after, pushed, old, new)

-- an accepted Take keeps a spool sound
pub sound_take : {P : Type 0} (len : P → ℕ) (s : State P) (peer : PeerId) (number : ℕ) (hop : HopId) (stamp limit : ℕ) (payload : P)
    → IsSound len s → MayTake len s peer number hop stamp limit (len payload)
    → IsSound len (record (accept s hop (with_taken (hop_at s hop) (s.seq + 1) stamp limit payload)) { lasts = set s.lasts (peer.0 - 1) number })
sound_take {P} len s peer number hop stamp limit payload sound may =
    let place : hop.0 - 1 < length s.hops = omega (arith, may.hop_from, may.hop_to) in
    let peer_place : peer.0 - 1 < length s.lasts = omega (arith, may.peer_from, may.peer_to) in
    let old = All-get_or (IsSoundHop len s.params s.seq) s.hops (hop.0 - 1) new_hop place sound.hops in
    let last : last_at s peer ≤ s.seq = All-get_or (λ last. last ≤ s.seq) s.lasts (peer.0 - 1) 0 peer_place sound.lasts in
    let sums = sum_by-set (λ n. n) s.lasts (peer.0 - 1) number 0 peer_place in
    let next = may.next in
    sound_accept len s hop _ _ sound may.hop_from may.hop_to may.seq
    (sound_taken len s.params s.seq stamp limit payload (hop_at s hop) may.moment may.limit may.short old)
    (length-set s.lasts (peer.0 - 1) number)
    (All-set (λ n. n ≤ s.seq + 1) s.lasts (peer.0 - 1) number (omega arith) (All-weaker (λ n. n ≤ s.seq) (λ n. n ≤ s.seq + 1) (λ n was. omega arith) s.lasts sound.lasts))
    (omega (arith, sums, next))
    (omega (arith, items_taken s hop stamp limit payload may.hop_from may.hop_to, may.items))
    (omega (arith, bytes_taken len s hop stamp limit payload may.hop_from may.hop_to, may.room))

-- the live items and bytes that a Release removes
pub items_released : {P : Type 0} (s : State P) (hop : HopId) (count : ℕ) → 0 < hop.0 → hop.0 ≤ length s.hops → count ≤ length (hop_at s hop).flight
    → live_items (accept s hop (with_released (hop_at s hop) count)) + count ≡ live_items s
items_released {P} s hop count from to within =
    let h = hop_at s hop in
    let after = items_after s hop (with_released h count) from to in
    omega (arith, after, length-drop count h.flight, length-append {A = Item P})

pub bytes_released : {P : Type 0} (len : P → ℕ) (s : State P) (hop : HopId) (count : ℕ) → 0 < hop.0 → hop.0 ≤ length s.hops
    → live_bytes len (accept s hop (with_released (hop_at s hop) count)) + bytes_of len (take count (hop_at s hop).flight) ≡ live_bytes len s
bytes_released {P} len s hop count from to =
    let h = hop_at s hop in
    let length_of : Item P → ℕ = λ item. len item.payload in
    let after = bytes_after len s hop (with_released h count) from to in
    let parts = sum_by-take-drop length_of h.flight count in
    let old = sum_by-append length_of h.flight h.queue in
    let new = sum_by-append length_of (drop count h.flight) h.queue in
    omega (arith, after, parts, old, new)

-- an accepted Release keeps a spool sound
pub sound_release : {P : Type 0} (len : P → ℕ) (s : State P) (hop : HopId) (number : ℕ)
    → IsSound len s → MayRelease s hop number
    → IsSound len (accept s hop (with_released (hop_at s hop) (covered_count (hop_at s hop) number)))
sound_release {P} len s hop number sound may =
    let place : hop.0 - 1 < length s.hops = omega (arith, may.hop_from, may.hop_to) in
    let old = All-get_or (IsSoundHop len s.params s.seq) s.hops (hop.0 - 1) new_hop place sound.hops in
    let count : ℕ = covered_count (hop_at s hop) number in
    let within : covered_count (hop_at s hop) number ≤ length (hop_at s hop).flight = omega (arith, may.given) in
    sound_accept len s hop _ s.lasts sound may.hop_from may.hop_to may.seq
    (sound_released len s.params s.seq (covered_count (hop_at s hop) number) (hop_at s hop) within old)
    refl
    (All-weaker (λ n. n ≤ s.seq) (λ n. n ≤ s.seq + 1) (λ n was. omega arith) s.lasts sound.lasts)
    refl
    (omega (arith, items_released s hop (covered_count (hop_at s hop) number) may.hop_from may.hop_to within, sound.items))
    (omega (arith, bytes_released len s hop (covered_count (hop_at s hop) number) may.hop_from may.hop_to, sound.bytes))
