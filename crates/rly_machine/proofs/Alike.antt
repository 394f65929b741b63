-- Of two states with the same payload lengths, one is sound if and only if the other is.
use Rattle.std.proofs.Common.{ℕ, suc, ◌≡◌, List, [], ◌∷◌, get_or, map, arith, refl, sym, ap, subst, ◌∙◌}
use Rattle.std.specs.Prelude.{All, AllPairs}
use Rattle.std.proofs.lemmas.List.{length-map, map-append}
use Rattle.std.proofs.lemmas.List.Elements.{All-map}
use Rattle.std.proofs.lemmas.List.Kept.{AllPairs-cons}
use Rattle.rly_core.specs.declared.params.Params.{Params}
use Rattle.rly_machine.specs.declared.hop.Item.{Item}
use Rattle.rly_machine.specs.Map.{map_item, map_hop, map_state}
use Rattle.rly_machine.specs.Sound.{ComesBefore, IsLive, IsSound, IsSoundHop}
use Rattle.rly_machine.specs.State.{State, HopState, live_line, live_items, live_bytes}
use Rattle.rly_machine.proofs.Mapping.{get_mapped, sum_mapped, mapped_items, mapped_bytes}

-- a property of a mapped list, and the same of the list
all_back : {X Y : Type 0} (P : Y → Type 0) (f : X → Y) (xs : List X) → All P (map f xs) → All (λ x. P (f x)) xs
all_back P f xs all k d lt = subst P (get_mapped f xs k d) (all k (f d) (omega (arith, lt, length-map xs f)))

pairs_back : {X Y : Type 0} (R : Y → Y → Type 0) (f : X → Y) (xs : List X) → AllPairs R (map f xs)
    → AllPairs (λ a b. R (f a) (f b)) xs
pairs_back {X} {Y} R f xs all i j d less short =
    let e = all i j (f d) less (omega (arith, short, length-map xs f)) in
    subst (λ (b : Y). R (f (get_or xs i d)) b) (get_mapped f xs j d) (subst (λ (a : Y). R a (get_or (map f xs) j (f d))) (get_mapped f xs i d) e)

pairs_there : {X Y : Type 0} (R : Y → Y → Type 0) (f : X → Y) (xs : List X) → AllPairs (λ a b. R (f a) (f b)) xs
    → AllPairs R (map f xs)
pairs_there R f [] all = λ i j d less short. absurd (omega arith)
pairs_there R f (x ∷ xs) all = AllPairs-cons R (f x) (map f xs)
    (All-map (R (f x)) f xs (λ k d lt. all 0 (suc k) d (omega arith) (omega (arith, lt))))
    (pairs_there R f xs (λ i j d less short. all (suc i) (suc j) d (omega (arith, less)) (omega (arith, short))))

-- the length of a length
abbrev pub itself : ℕ → ℕ
itself n = n

-- a hop, and the same hop with lengths in place of payloads
sizes_sound_hop : {P : Type 0} (len : P → ℕ) (params : Params) (seq : ℕ) (h : HopState P) → IsSoundHop len params seq h
    → IsSoundHop itself params seq (map_hop len h)
sizes_sound_hop {P} len params seq h sound =
    let f : Item P → Item ℕ = map_item len in
    let queue = length-map h.queue f in
    let flight = length-map h.flight f in
    let whole = map-append f h.flight h.queue in
    record {
      balance = omega (arith, queue, flight, sound.balance);
      taken = sound.taken;
      moment = sound.moment;
      window = omega (arith, flight, sound.window);
      items = subst (All (IsLive itself params h.moment seq)) whole (All-map (IsLive itself params h.moment seq) f (live_line h)
          (λ k d lt. let l = sound.items k d lt in record { first = l.first; last = l.last; stamp = l.stamp; limit = l.limit; length = l.length }));
      order = subst (AllPairs ComesBefore) whole (pairs_there ComesBefore f (live_line h)
          (λ i j d less short. let o = sound.order i j d less short in record { id = o.id; stamp = o.stamp }));
      first_above_time = sound.first_above_time;
      drop_next = sound.drop_next;
      lastcount = sound.lastcount;
      count = sound.count;
    }

sound_from_sizes_hop : {P : Type 0} (len : P → ℕ) (params : Params) (seq : ℕ) (h : HopState P)
    → IsSoundHop itself params seq (map_hop len h) → IsSoundHop len params seq h
sound_from_sizes_hop {P} len params seq h sound =
    let f : Item P → Item ℕ = map_item len in
    let queue = length-map h.queue f in
    let flight = length-map h.flight f in
    let whole = sym (map-append f h.flight h.queue) in
    let live = all_back (IsLive itself params h.moment seq) f (live_line h) (subst (All (IsLive itself params h.moment seq)) whole sound.items) in
    let rows = pairs_back ComesBefore f (live_line h) (subst (AllPairs ComesBefore) whole sound.order) in
    record {
      balance = omega (arith, queue, flight, sound.balance);
      taken = sound.taken;
      moment = sound.moment;
      window = omega (arith, flight, sound.window);
      items = λ k d lt. let l = live k d lt in record { first = l.first; last = l.last; stamp = l.stamp; limit = l.limit; length = l.length };
      order = λ i j d less short. let o = rows i j d less short in record { id = o.id; stamp = o.stamp };
      first_above_time = sound.first_above_time;
      drop_next = sound.drop_next;
      lastcount = sound.lastcount;
      count = sound.count;
    }

-- a state, and the same state with lengths in place of payloads
pub sizes_sound : {P : Type 0} (len : P → ℕ) (s : State P) → IsSound len s → IsSound itself (map_state len s)
sizes_sound {P} len s sound =
    let f : HopState P → HopState ℕ = map_hop len in
    let took : HopState P → ℕ = λ h. h.taken in
    let took' : HopState ℕ → ℕ = λ h. h.taken in
    record {
      params = sound.params;
      hop_count = length-map s.hops f ∙ sound.hop_count;
      peer_count = sound.peer_count;
      hops = All-map (IsSoundHop itself s.params s.seq) f s.hops (λ k d lt. sizes_sound_hop len s.params s.seq _ (sound.hops k d lt));
      lasts = sound.lasts;
      numbers = sound.numbers ∙ sym (sum_mapped took took' f (λ h. refl) s.hops);
      items = omega (arith, sound.items, mapped_items len s);
      bytes = omega (arith, sound.bytes, mapped_bytes len itself len (λ p. refl) s);
      seq = sound.seq;
    }

sound_from_sizes : {P : Type 0} (len : P → ℕ) (s : State P) → IsSound itself (map_state len s) → IsSound len s
sound_from_sizes {P} len s sound =
    let f : HopState P → HopState ℕ = map_hop len in
    let took : HopState P → ℕ = λ h. h.taken in
    let took' : HopState ℕ → ℕ = λ h. h.taken in
    let hops = all_back (IsSoundHop itself s.params s.seq) f s.hops sound.hops in
    record {
      params = sound.params;
      hop_count = sym (length-map s.hops f) ∙ sound.hop_count;
      peer_count = sound.peer_count;
      hops = λ k d lt. sound_from_sizes_hop len s.params s.seq _ (hops k d lt);
      lasts = sound.lasts;
      numbers = sound.numbers ∙ sum_mapped took took' f (λ h. refl) s.hops;
      items = omega (arith, sound.items, mapped_items len s);
      bytes = omega (arith, sound.bytes, mapped_bytes len itself len (λ p. refl) s);
      seq = sound.seq;
    }

pub sound_alike : {P Q : Type 0} (len : P → ℕ) (len' : Q → ℕ) (s : State P) (t : State Q)
    → map_state len s ≡ map_state len' t → IsSound len s → IsSound len' t
sound_alike len len' s t same sound = sound_from_sizes len' t (subst (IsSound itself) same (sizes_sound len s sound))

-- both have the same number of live items and bytes
pub items_alike : {P Q : Type 0} (len : P → ℕ) (len' : Q → ℕ) (s : State P) (t : State Q)
    → map_state len s ≡ map_state len' t → live_items s ≡ live_items t
items_alike len len' s t same = sym (mapped_items len s) ∙ ap (λ (u : State ℕ). live_items u) same ∙ mapped_items len' t

pub bytes_alike : {P Q : Type 0} (len : P → ℕ) (len' : Q → ℕ) (s : State P) (t : State Q)
    → map_state len s ≡ map_state len' t → live_bytes len s ≡ live_bytes len' t
bytes_alike len len' s t same =
    sym (mapped_bytes len itself len (λ p. refl) s) ∙ ap (λ (u : State ℕ). live_bytes itself u) same
    ∙ mapped_bytes len' itself len' (λ p. refl) t
