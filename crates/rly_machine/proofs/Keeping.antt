-- The state of a machine's fields after a step.
use Rattle.std.proofs.Common.{ℕ, ◌*◌, true, lit<, ◌≡◌, ◌+◌, ◌-◌, ◌<◌, ◌≤◌, List, [], ◌∷◌, ◌++◌, length, get_or, set, take, drop, map, refl, arith, sym, ◌∙◌, ap, subst, None, Vec, sum, sum_by, replicate, Ok, Err, Result}
use Rattle.std.specs.Result.{OnErr, OnOk}
use Rattle.std.specs.Vec.{with_item}
use Rattle.std.proofs.lemmas.List.{get_or-set_same, length-map, length-set, map-id, map-set, set-get_or, get_or-map, length-replicate, map-append, replicate_more}
use Rattle.std.proofs.lemmas.List.Elements.{All-get_or, All-nil, All-replicate}
use Rattle.std.proofs.lemmas.List.Sums.{sum-map, sum_by-take-drop}
use Rattle.std.proofs.lemmas.List.Folds.{sum_by-replicate}
use Rattle.rly_core.specs.Limits.{IsWithinLimits}
use Rattle.rly_core.specs.declared.ids.HopId.{HopId}
use Rattle.rly_core.specs.declared.ids.PeerId.{PeerId}
use Rattle.rly_core.specs.declared.params.Params.{Params}
use Rattle.rly_machine.specs.declared.hop.Hop.{Hop}
use Rattle.rly_machine.specs.declared.hop.Item.{Item}
use Rattle.rly_machine.specs.declared.reply.Reply.{Reply}
use Rattle.rly_machine.specs.declared.reply.Reply.TheVariants.{Taken, Released}
use Rattle.rly_machine.specs.State.{State, HopState, has_hop, hop_at, live_line, bytes_of, new_hop, new_state}
use Rattle.rly_machine.specs.Accepted.{accept, unless}
use Rattle.rly_machine.specs.Expiry.{expired_count}
use Rattle.rly_machine.specs.Pick.{after_pick, pick_outcome, pick_refusal, pick_reply, pick_step}
use Rattle.rly_machine.specs.Release.{covered_count, release_refusal, release_step, with_released}
use Rattle.rly_machine.specs.Take.{take_refusal, take_step, with_taken}
use Rattle.rly_machine.specs.Sound.{IsLive, IsSound, IsSoundHop}
use Rattle.rly_machine.specs.HelpersMachine.{IsHopAt, KeepsCounts}
use Rattle.rly_machine.specs.Kept.{hop_state, state_of}
use Rattle.rly_machine.proofs.Refusals.{among, may_pick, may_take, may_release}
use Rattle.rly_machine.proofs.Picking.{bytes_picked, gone_within, items_picked, sound_pick}
use Rattle.rly_machine.proofs.Soundness.{sound_take, sound_release, items_taken, bytes_taken, items_released, bytes_released}

-- a hop written back with another capacity is the same hop
pub same_hops : {P : Type 0} (hops : List (Hop P)) (i : ℕ) (old new : Hop P) → old ≡ get_or hops i old → hop_state new ≡ hop_state old
    → map hop_state (set hops i new) ≡ map hop_state hops
same_hops {P} hops i old new read same =
    let f : Hop P → HopState P = hop_state in
    map-set f hops i new
    ∙ ap (set (map f hops) i) same
    ∙ sym (map-set f hops i old)
    ∙ ap (λ h. map f (set hops i h)) read
    ∙ ap (map f) (set-get_or hops i old)

-- so the state is unchanged
pub same_state : {P A B : Type 0} (params : Params) (hops : Vec (Hop P) A) (lasts : Vec ℕ B) (seq i : ℕ) (old new : Hop P) → old ≡ get_or hops.items i old → hop_state new ≡ hop_state old
    → state_of params (with_item hops i new) lasts seq ≡ state_of params hops lasts seq
same_state {P} params hops lasts seq i old new read same =
    ap (λ hs. let r : State P = record { params = params; hops = hs; lasts = lasts.items; seq = seq } in r) (same_hops hops.items i old new read same)

-- a property of a success, or of a failure, implies another
pub on_ok : {T E : Type 0} (r : Result T E) (A B : Type 0) → (A → B) → OnOk r A → OnOk r B
on_ok (Ok x) A B f a = f a
on_ok (Err e) A B f a = a

pub on_err : {T E : Type 0} (r : Result T E) (A B : Type 0) → (A → B) → OnErr r A → OnErr r B
on_err (Ok x) A B f a = a
on_err (Err e) A B f a = f a

-- a property of each hop is one of the hop that was written back
pub told_of_written : {P : Type 0} (f : Hop P → ℕ) (hops : List (Hop P)) (i : ℕ) (new : Hop P) → i < length hops
    → get_or (map f (set hops i new)) i 0 ≡ f new
told_of_written {P} f hops i new below =
    let place : i < length (set hops i new) = omega (arith, length-set hops i new) in
    get_or-map f (set hops i new) i new 0 place ∙ ap f (get_or-set_same hops i new new below)

-- and of the one that is read
pub told_of_read : {P : Type 0} (f : Hop P → ℕ) (hops : List (Hop P)) (i : ℕ) (old : Hop P) → i < length hops → old ≡ get_or hops i old
    → get_or (map f hops) i 0 ≡ f old
told_of_read {P} f hops i old below read = get_or-map f hops i old 0 below ∙ ap f (sym read)

-- a hop read from the fields is that of the state
pub read_hop : {P : Type 0} (hops : List (Hop P)) (i : ℕ) (old : Hop P) → i < length hops → old ≡ get_or hops i old → hop_state old ≡ get_or (map hop_state hops) i new_hop
read_hop {P} hops i old below read =
    let f : Hop P → HopState P = hop_state in
    ap f read ∙ sym (get_or-map f hops i old new_hop below)

-- a hop written to the fields is written to the state
pub written_hop : {P : Type 0} (hops : List (Hop P)) (i : ℕ) (old new : Hop P) (change : HopState P → HopState P)
    → i < length hops → old ≡ get_or hops i old → hop_state new ≡ change (hop_state old)
    → map hop_state (set hops i new) ≡ set (map hop_state hops) i (change (get_or (map hop_state hops) i new_hop))
written_hop {P} hops i old new change below read changed =
    let f : Hop P → HopState P = hop_state in
    map-set f hops i new ∙ ap (set (map f hops) i) (changed ∙ ap change (read_hop hops i old below read))

-- a hop read from the fields is sound
pub sound_read : {P A B : Type 0} (len : P → ℕ) (params : Params) (hops : Vec (Hop P) A) (lasts : Vec ℕ B) (seq items bytes i : ℕ) (old : Hop P)
    → KeepsCounts len (state_of params hops lasts seq) items bytes → i < length hops.items → old ≡ get_or hops.items i old → IsSoundHop len params seq (hop_state old)
sound_read {P} len params hops lasts seq items bytes i old kept below read =
    let f : Hop P → HopState P = hop_state in
    let place : i < length (map f hops.items) = omega (arith, length-map hops.items f) in
    subst (IsSoundHop len params seq) (sym (read_hop hops.items i old below read))
    (All-get_or (IsSoundHop len params seq) (map f hops.items) i new_hop place kept.sound.hops)

-- the index of an existing hop
pub place_of : {P A B : Type 0} (params : Params) (hops : Vec (Hop P) A) (lasts : Vec ℕ B) (seq : ℕ) (s : State P) (hop : HopId)
    → state_of params hops lasts seq ≡ s → has_hop s hop ≡ true → hop.0 - 1 < length hops.items
place_of {P} params hops lasts seq s hop same there =
    let found = among (length s.hops) hop.0 there in
    let f : Hop P → HopState P = hop_state in
    let count : length (map f hops.items) ≡ length s.hops = ap (λ (s : State P). length s.hops) same in
    omega (arith, found.0, found.1, count, length-map hops.items f)

-- a hop that is read from the fields
pub hop_is_read : {P A B : Type 0} (len : P → ℕ) (params : Params) (hops : Vec (Hop P) A) (lasts : Vec ℕ B) (seq items bytes : ℕ) (s : State P) (hop : HopId) (index : ℕ) (found : Hop P)
    → KeepsCounts len (state_of params hops lasts seq) items bytes → state_of params hops lasts seq ≡ s → has_hop s hop ≡ true → index ≡ hop.0 - 1
    → found ≡ get_or hops.items index found → IsHopAt len s hop found
hop_is_read {P} len params hops lasts seq items bytes s hop index found kept same there is_index read =
    let below : hop.0 - 1 < length hops.items = place_of params hops lasts seq s hop same there in
    let below' : index < length hops.items = omega arith in
    let at : found ≡ get_or hops.items (hop.0 - 1) found = read ∙ ap (λ i. get_or hops.items i found) is_index in
    subst (λ (t : State P). IsHopAt len t hop found) same (record {
      there = subst (λ (t : State P). has_hop t hop ≡ true) (sym same) there;
      same = read_hop hops.items (hop.0 - 1) found below at;
      sound = sound_read len params hops lasts seq items bytes index found kept below' read;
      seq = kept.sound.seq;
    })

-- the machine's fields after a Take that passes all checks
pub kept_take : {P A B : Type 0} (len : P → ℕ) (params : Params) (hops : Vec (Hop P) A) (lasts : Vec ℕ B) (seq items bytes : ℕ)
    (peer : PeerId) (number : ℕ) (hop : HopId) (stamp limit : ℕ) (payload : P) (old new : Hop P)
    → KeepsCounts len (state_of params hops lasts seq) items bytes
    → take_refusal len (state_of params hops lasts seq) peer number hop stamp limit (len payload) ≡ None
    → old ≡ get_or hops.items (hop.0 - 1) old
    → hop_state new ≡ with_taken (hop_state old) (seq + 1) stamp limit payload
    → (state_of params (with_item hops (hop.0 - 1) new) (with_item lasts (peer.0 - 1) number) (seq + 1)
    ≡ (take_step len (state_of params hops lasts seq) peer number hop stamp limit payload).0)
    × KeepsCounts len (state_of params (with_item hops (hop.0 - 1) new) (with_item lasts (peer.0 - 1) number) (seq + 1)) (items + 1) (bytes + len payload)
kept_take {P} len params hops lasts seq items bytes peer number hop stamp limit payload old new kept may read changed =
    let s : State P = state_of params hops lasts seq in
    let facts = may_take len s peer number hop stamp limit (len payload) may in
    let place : hop.0 - 1 < length hops.items = omega (arith, facts.hop_from, facts.hop_to, length-map hops.items (let f : Hop P → HopState P = hop_state in f)) in
    let after : State P = record (accept s hop (with_taken (hop_at s hop) (seq + 1) stamp limit payload)) { lasts = set lasts.items (peer.0 - 1) number } in
    let written = written_hop hops.items (hop.0 - 1) old new (λ h. with_taken h (seq + 1) stamp limit payload) place read changed in
    let is_after : state_of params (with_item hops (hop.0 - 1) new) (with_item lasts (peer.0 - 1) number) (seq + 1) ≡ after =
    ap (λ hs. let r : State P = record { params = params; hops = hs; lasts = set lasts.items (peer.0 - 1) number; seq = seq + 1 } in r) written in
    let accepted : State P × Reply = (after, Taken (seq + 1)) in (
      is_after ∙ sym (ap (λ r. (unless r s accepted).0) may),
      subst (λ (t : State P). KeepsCounts len t (items + 1) (bytes + len payload)) (sym is_after) (record {
        sound = sound_take len s peer number hop stamp limit payload kept.sound facts;
        items = ap (λ n. n + 1) kept.items ∙ sym (items_taken s hop stamp limit payload facts.hop_from facts.hop_to);
        bytes = ap (λ n. n + len payload) kept.bytes ∙ sym (bytes_taken len s hop stamp limit payload facts.hop_from facts.hop_to);
      }),
    )

-- the machine's fields after a Release that passes all checks
pub kept_release : {P A B : Type 0} (len : P → ℕ) (params : Params) (hops : Vec (Hop P) A) (lasts : Vec ℕ B) (seq items bytes : ℕ)
    (hop : HopId) (number gone : ℕ) (old new : Hop P)
    → KeepsCounts len (state_of params hops lasts seq) items bytes
    → release_refusal (state_of params hops lasts seq) hop number ≡ None
    → old ≡ get_or hops.items (hop.0 - 1) old
    → hop_state new ≡ with_released (hop_state old) (number - old.released)
    → gone + bytes_of len new.flight.items ≡ bytes_of len old.flight.items
    → (state_of params (with_item hops (hop.0 - 1) new) lasts (seq + 1) ≡ (release_step (state_of params hops lasts seq) hop number).0)
    × KeepsCounts len (state_of params (with_item hops (hop.0 - 1) new) lasts (seq + 1)) (items - (number - old.released)) (bytes - gone)
kept_release {P} len params hops lasts seq items bytes hop number gone old new kept may read changed weighed =
    let s : State P = state_of params hops lasts seq in
    let facts = may_release s hop number may in
    let place : hop.0 - 1 < length hops.items = omega (arith, facts.hop_from, facts.hop_to, length-map hops.items (let f : Hop P → HopState P = hop_state in f)) in
    let count : ℕ = covered_count (hop_at s hop) number in
    let after : State P = accept s hop (with_released (hop_at s hop) (covered_count (hop_at s hop) number)) in
    let is_read = read_hop hops.items (hop.0 - 1) old place read in
    let written = written_hop hops.items (hop.0 - 1) old new (λ h. with_released h (covered_count h number)) place read changed in
    let is_after : state_of params (with_item hops (hop.0 - 1) new) lasts (seq + 1) ≡ after =
    ap (λ hs. let r : State P = record { params = params; hops = hs; lasts = lasts.items; seq = seq + 1 } in r) written in
    let accepted : State P × Reply = (after, Released (covered_count (hop_at s hop) number)) in
    let within : covered_count (hop_at s hop) number ≤ length (hop_at s hop).flight = omega (arith, facts.given) in
    let fewer = items_released s hop (covered_count (hop_at s hop) number) facts.hop_from facts.hop_to within in
    let lighter = bytes_released len s hop (covered_count (hop_at s hop) number) facts.hop_from facts.hop_to in
    let same_count : number - old.released ≡ covered_count (hop_at s hop) number = ap (λ (h : HopState P). number - h.released) is_read in
    let left : drop (number - old.released) old.flight.items ≡ new.flight.items = sym (ap (λ (h : HopState P). h.flight) changed) in
    let length_of : Item P → ℕ = λ item. len item.payload in
    let parts = sum_by-take-drop length_of old.flight.items (number - old.released) in
    let left_bytes : sum_by length_of (drop (number - old.released) old.flight.items) ≡ bytes_of len new.flight.items = ap (sum_by length_of) left in
    let same_gone : gone ≡ bytes_of len (take (covered_count (hop_at s hop) number) (hop_at s hop).flight) =
    (let e : gone ≡ sum_by length_of (take (number - old.released) old.flight.items) = omega (arith, parts, left_bytes, weighed) in
    e ∙ ap (λ (h : HopState P). bytes_of len (take (number - h.released) h.flight)) is_read) in (
      is_after ∙ sym (ap (λ r. (unless r s accepted).0) may),
      subst (λ (t : State P). KeepsCounts len t (items - (number - old.released)) (bytes - gone)) (sym is_after) (record {
        sound = sound_release len s hop number kept.sound facts;
        items = omega (arith, fewer, same_count, kept.items);
        bytes = omega (arith, lighter, same_gone, kept.bytes);
      }),
    )

-- the machine's fields after a Pick that passes all checks
pub kept_pick : {P A B : Type 0} (len : P → ℕ) (params : Params) (hops : Vec (Hop P) A) (lasts : Vec ℕ B) (seq items bytes : ℕ)
    (hop : HopId) (now count gone : ℕ) (old new : Hop P)
    → KeepsCounts len (state_of params hops lasts seq) items bytes
    → pick_refusal (state_of params hops lasts seq) hop now ≡ None
    → old ≡ get_or hops.items (hop.0 - 1) old
    → hop_state new ≡ after_pick len params (hop_state old) now
    → count ≡ expired_count (hop_state old) now + (pick_outcome len params (hop_state old) now).dropped
    → gone ≡ bytes_of len (take (expired_count (hop_state old) now + (pick_outcome len params (hop_state old) now).dropped) old.queue.items)
    → (state_of params (with_item hops (hop.0 - 1) new) lasts (seq + 1) ≡ (pick_step len (state_of params hops lasts seq) hop now).0)
    × KeepsCounts len (state_of params (with_item hops (hop.0 - 1) new) lasts (seq + 1)) (items - count) (bytes - gone)
    × (count ≤ items) × (gone ≤ bytes)
kept_pick {P} len params hops lasts seq items bytes hop now count gone old new kept may read changed counted weighed =
    let s : State P = state_of params hops lasts seq in
    let facts = may_pick s hop now may in
    let place : hop.0 - 1 < length hops.items = omega (arith, facts.hop_from, facts.hop_to, length-map hops.items (let f : Hop P → HopState P = hop_state in f)) in
    let after : State P = accept s hop (after_pick len params (hop_at s hop) now) in
    let is_read = read_hop hops.items (hop.0 - 1) old place read in
    let written = written_hop hops.items (hop.0 - 1) old new (λ h. after_pick len params h now) place read changed in
    let is_after : state_of params (with_item hops (hop.0 - 1) new) lasts (seq + 1) ≡ after =
    ap (λ hs. let r : State P = record { params = params; hops = hs; lasts = lasts.items; seq = seq + 1 } in r) written in
    let accepted : State P × Reply = (after, pick_reply (hop_at s hop) (expired_count (hop_at s hop) now) (pick_outcome len params (hop_at s hop) now).dropped) in
    let sound_old = sound_read len params hops lasts seq items bytes (hop.0 - 1) old kept place read in
    let within = gone_within len params seq now (hop_at s hop) kept.sound.params (subst (IsSoundHop len params seq) is_read sound_old) in
    let fewer = items_picked s hop now (expired_count (hop_at s hop) now) (pick_outcome len params (hop_at s hop) now) facts.hop_from facts.hop_to within in
    let lighter = bytes_picked len s hop now (expired_count (hop_at s hop) now) (pick_outcome len params (hop_at s hop) now) facts.hop_from facts.hop_to in
    let same_count : count ≡ expired_count (hop_at s hop) now + (pick_outcome len params (hop_at s hop) now).dropped =
    counted ∙ ap (λ (h : HopState P). expired_count h now + (pick_outcome len params h now).dropped) is_read in
    let same_gone : gone ≡ bytes_of len (take (expired_count (hop_at s hop) now + (pick_outcome len params (hop_at s hop) now).dropped) (hop_at s hop).queue) =
    weighed ∙ ap (λ (h : HopState P). bytes_of len (take (expired_count h now + (pick_outcome len params h now).dropped) h.queue)) is_read in (
      is_after ∙ sym (ap (λ r. (unless r s accepted).0) may),
      subst (λ (t : State P). KeepsCounts len t (items - count) (bytes - gone)) (sym is_after) (record {
        sound = sound_pick len s hop now kept.sound facts;
        items = omega (arith, fewer, same_count, kept.items);
        bytes = omega (arith, lighter, same_gone, kept.bytes);
      }),
      omega (arith, fewer, same_count, kept.items),
      omega (arith, lighter, same_gone, kept.bytes),
    )

-- a sum of zeros
sum_of_none : {X : Type 0} (f : X → ℕ) (n : ℕ) (x : X) → f x ≡ 0 → sum_by f (replicate n x) ≡ 0
sum_of_none f n x none =
    let product : sum_by f (replicate n x) ≡ n * 0 = sum_by-replicate f n x ∙ ap (λ m. n * m) none in
    omega (arith, product)

-- a new spool is sound
pub sound_new : {P : Type 0} (len : P → ℕ) (params : Params) → IsWithinLimits params → IsSound len (new_state params)
sound_new {P} len params within =
    let zeros : List ℕ = replicate params.peers 0 in
    let sum_zeros : sum zeros ≡ 0 = sym (ap sum (map-id zeros)) ∙ sum-map (λ n. n) zeros ∙ sum_of_none (λ n. n) params.peers 0 refl in
    record {
      params = within;
      hop_count = length-replicate params.hops new_hop;
      peer_count = length-replicate params.peers 0;
      hops = All-replicate (IsSoundHop len params 0) params.hops new_hop (record {
        balance = refl;
        taken = omega arith;
        moment = lit< tt;
        window = omega arith;
        items = All-nil (IsLive len params 0 0);
        order = λ i j d i<j j<n. absurd (omega arith);
        first_above_time = omega arith;
        drop_next = omega arith;
        lastcount = omega arith;
        count = omega arith;
      });
      lasts = All-replicate (λ n. n ≤ 0) params.peers 0 (omega arith);
      numbers = sum_zeros ∙ sym (sum_of_none (λ (h : HopState P). h.taken) params.hops new_hop refl);
      items = omega (arith, sum_of_none (λ (h : HopState P). length (live_line h)) params.hops new_hop refl, within.items);
      bytes = omega (arith, sum_of_none (λ (h : HopState P). bytes_of len (live_line h)) params.hops new_hop refl, within.bytes);
      seq = omega arith;
    }

-- a new machine keeps its counts
pub kept_new : {P : Type 0} (len : P → ℕ) (params found : Params) (hops : List (HopState P)) (lasts : List ℕ) → IsWithinLimits params → found ≡ params
    → hops ≡ replicate params.hops new_hop → lasts ≡ replicate params.peers 0 → KeepsCounts len (record { params = found; hops = hops; lasts = lasts; seq = 0 }) 0 0
kept_new {P} len params found hops lasts within is made zeros =
    let same : (let s : State P = record { params = found; hops = hops; lasts = lasts; seq = 0 } in s) ≡ new_state params =
    λ i. record { params = is i; hops = made i; lasts = zeros i; seq = 0 } in
    subst (λ (s : State P). KeepsCounts len s 0 0) (sym same) (record {
      sound = sound_new len params within;
      items = sym (sum_of_none (λ (h : HopState P). length (live_line h)) params.hops new_hop refl);
      bytes = sym (sum_of_none (λ (h : HopState P). bytes_of len (live_line h)) params.hops new_hop refl);
    })

-- one more new hop
pub one_more : {P : Type 0} (hops now : List (Hop P)) (hop : Hop P) (n : ℕ) → now ≡ hops ++ hop ∷ [] → hop_state hop ≡ new_hop → map hop_state hops ≡ replicate n new_hop
    → map hop_state now ≡ replicate (n + 1) new_hop
one_more hops now hop n more is made =
    ap (map hop_state) more ∙ map-append hop_state hops (hop ∷ []) ∙ (λ i. made i ++ is i ∷ []) ∙ replicate_more n new_hop

pub many_made : {P : Type 0} (hops : List (Hop P)) (n : ℕ) → map hop_state hops ≡ replicate n new_hop → length hops ≡ n
many_made hops n made = sym (length-map hops hop_state) ∙ ap length made ∙ length-replicate n new_hop

pub all_made : {P : Type 0} (hops : List (Hop P)) (n m : ℕ) → n ≤ m → m ≤ n → map hop_state hops ≡ replicate n new_hop → map hop_state hops ≡ replicate m new_hop
all_made hops n m low high made =
    let same : n ≡ m = omega arith in
    made ∙ ap (λ (k : ℕ). replicate k new_hop) same
