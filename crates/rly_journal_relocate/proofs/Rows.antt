-- Reads of payloads in order.
use Rattle.std.proofs.Common.{◌≡◌, ◌++◌, ◌∷◌, [], ◌+◌, ◌<◌, Bool, true, false, cond, eqb, ℕ, List, length, drop, get_or, take, refl, sym, ap, subst, ◌∙◌, append_assoc}
use Rattle.std.specs.List.{flat_map}
use Rattle.std.specs.Prelude.{Result, Ok, Err}
use Rattle.std.proofs.lemmas.List.{append-nil, map-append, take-append-drop, take_more}
use Rattle.std.proofs.lemmas.List.Concat.{flat_map-cons}
use Rattle.std.proofs.lemmas.Grind.{flat_map-append}
use Rattle.rly_core.specs.declared.params.Geometry.{Geometry}
use Rattle.rly_disk.specs.DiskModel.{Consistent, DiskState}
use Rattle.rly_disk.specs.Trace.{DeviceEvent, Makes, Read, are_reads}
use Rattle.rly_disk.proofs.Making.{reads_joined, reads_new, reads_of}
use Rattle.rly_disk.proofs.Traces.{makes_front, makes_joined}
use Rattle.rly_machine.specs.State.{HopState, live_line}
use Rattle.rly_machine.specs.declared.hop.Item.{Item}
use Rattle.rly_segment_checkpoint.specs.declared.stored.Stored.{Stored}
use Rattle.rly_segment_checkpoint.specs.declared.stored.Stored.TheVariants.{Inline, Placed}
use Rattle.rly_reclaim.specs.Places.{segment_of}
use Rattle.rly_journal_relocate.specs.declared.fault.CollectionFault.{CollectionFault}
use Rattle.rly_journal_relocate.specs.declared.fault.CollectionFault.TheVariants.{Device, OutOfMemory}
use Rattle.rly_journal_relocate.specs.Collection.{IsCollection, victim_payload_reads}
use Rattle.rly_journal_relocate.specs.HelpersCollection.{hops_reads, items_reads, names}

-- ---- lists of reads

module _ {D : Type 0} (state : D → DiskState) where
  -- a failure within the first of two lists
  pub broken_in : (A B : Type 0) (a b : D) (calls more : List DeviceEvent) (fault : CollectionFault) → IsCollection {D = D} {A = A} state calls (Err fault) a b
      → IsCollection {D = D} {A = B} state (calls ++ more) (Err fault) a b
  broken_in A B a b calls more OutOfMemory made = record {
    front = made.front;
    rest = made.rest ++ more;
    calls_are = ap (λ (l : List DeviceEvent). l ++ more) made.calls_are ∙ append_assoc made.front made.rest more;
    makes = made.makes;
  }
  broken_in A B a b calls more Device made = makes_front state calls more made

  -- the first list was made, and a part of the second
  pub made_then : (A : Type 0) (a b e : D) (calls more : List DeviceEvent) (r : Result A CollectionFault) → Makes state calls true a b
      → IsCollection state more r b e → IsCollection state (calls ++ more) r a e
  made_then A a b e calls more (Ok copy) one two = makes_joined state calls more true one two
  made_then A a b e calls more (Err OutOfMemory) one two = record {
    front = calls ++ two.front;
    rest = two.rest;
    calls_are = ap (λ (l : List DeviceEvent). calls ++ l) two.calls_are ∙ sym (append_assoc calls two.front two.rest);
    makes = makes_joined state calls two.front true one two.makes;
  }
  made_then A a b e calls more (Err Device) one two = makes_joined state calls more false one two

  -- the first list was made, and then an allocation failed
  pub made_alone : (A : Type 0) (a b : D) (calls more : List DeviceEvent) → Makes state calls true a b → IsCollection {D = D} {A = A} state (calls ++ more) (Err OutOfMemory) a b
  made_alone A a b calls more made = record { front = calls; rest = more; calls_are = refl; makes = made }

  -- after reads an honest disk is honest, and reads as before
  pub still : {a b : D} (calls : List DeviceEvent) → are_reads calls ≡ true → Makes state calls true a b → (state a).honest → Consistent (state a)
      → (state b).honest × ((state b).seen ≡ (state a).seen)
  still calls reads made honest consistent =
      let new = reads_new state (reads_of state calls reads made) honest consistent in
      (new.honest, new.seen)

-- ---- the reads of payloads

module _ (g : Geometry) (victim : ℕ) where
  one_is_read : (p : Stored) → are_reads (victim_payload_reads g victim p) ≡ true
  one_is_read (Inline payload) = refl
  one_is_read (Placed place) = by_cases (eqb (segment_of g place.start) victim)
    where
      by_cases : (b : Bool) → are_reads (cond b (Read place.start place.length ∷ []) []) ≡ true
      by_cases true = refl
      by_cases false = refl

  pub all_are_reads : (ps : List Stored) → are_reads (flat_map (victim_payload_reads g victim) ps) ≡ true
  all_are_reads [] = refl
  all_are_reads (p ∷ ps) =
      subst (λ (l : List DeviceEvent). are_reads l ≡ true) (sym (flat_map-cons (victim_payload_reads g victim) p ps))
      (reads_joined (victim_payload_reads g victim p) (flat_map (victim_payload_reads g victim) ps) (one_is_read p) (all_are_reads ps))

  pub items_both : (xs ys : List (Item Stored)) → items_reads g victim (xs ++ ys) ≡ items_reads g victim xs ++ items_reads g victim ys
  items_both xs ys =
      let name : Item Stored → Stored = λ item. item.payload in
      ap (λ (l : List Stored). flat_map (victim_payload_reads g victim) l) (map-append name xs ys) ∙ flat_map-append (victim_payload_reads g victim) (names xs) (names ys)

  pub items_one : (x : Item Stored) → items_reads g victim (x ∷ []) ≡ victim_payload_reads g victim x.payload
  items_one x = flat_map-cons (victim_payload_reads g victim) x.payload [] ∙ append-nil (victim_payload_reads g victim x.payload)

  -- the reads of one more item
  pub items_more : (xs : List (Item Stored)) (n : ℕ) (x : Item Stored) → n < length xs → x ≡ get_or xs n x
      → items_reads g victim (take (n + 1) xs) ≡ items_reads g victim (take n xs) ++ victim_payload_reads g victim x.payload
  items_more xs n x lt is =
      ap (λ (l : List (Item Stored)). items_reads g victim l) (take_more xs n x lt)
      ∙ items_both (take n xs) (get_or xs n x ∷ [])
      ∙ ap (λ (y : Item Stored). items_reads g victim (take n xs) ++ items_reads g victim (y ∷ [])) (sym is)
      ∙ ap (λ (l : List DeviceEvent). items_reads g victim (take n xs) ++ l) (items_one x)

  pub items_whole : (xs : List (Item Stored)) (n : ℕ) → items_reads g victim (take n xs) ++ items_reads g victim (drop n xs) ≡ items_reads g victim xs
  items_whole xs n = sym (items_both (take n xs) (drop n xs)) ∙ ap (λ (l : List (Item Stored)). items_reads g victim l) (take-append-drop n xs)

  -- and of hops
  abbrev line_names : HopState Stored → List Stored
  line_names h = names (live_line h)

  hops_both : (xs ys : List (HopState Stored)) → hops_reads g victim (xs ++ ys) ≡ hops_reads g victim xs ++ hops_reads g victim ys
  hops_both xs ys =
      ap (λ (l : List Stored). flat_map (victim_payload_reads g victim) l) (flat_map-append line_names xs ys)
      ∙ flat_map-append (victim_payload_reads g victim) (flat_map line_names xs) (flat_map line_names ys)

  hops_one : (h : HopState Stored) → hops_reads g victim (h ∷ []) ≡ items_reads g victim (live_line h)
  hops_one h = ap (λ (l : List Stored). flat_map (victim_payload_reads g victim) l) (flat_map-cons line_names h [] ∙ append-nil (line_names h))

  pub hops_more : (hops : List (HopState Stored)) (n : ℕ) (h : HopState Stored) → n < length hops → h ≡ get_or hops n h
      → hops_reads g victim (take (n + 1) hops) ≡ hops_reads g victim (take n hops) ++ items_reads g victim (live_line h)
  hops_more hops n h lt is =
      ap (λ (l : List (HopState Stored)). hops_reads g victim l) (take_more hops n h lt)
      ∙ hops_both (take n hops) (get_or hops n h ∷ [])
      ∙ ap (λ (k : HopState Stored). hops_reads g victim (take n hops) ++ hops_reads g victim (k ∷ [])) (sym is)
      ∙ ap (λ (l : List DeviceEvent). hops_reads g victim (take n hops) ++ l) (hops_one h)

  pub hops_whole : (hops : List (HopState Stored)) (n : ℕ) → hops_reads g victim (take n hops) ++ hops_reads g victim (drop n hops) ≡ hops_reads g victim hops
  hops_whole hops n = sym (hops_both (take n hops) (drop n hops)) ∙ ap (λ (l : List (HopState Stored)). hops_reads g victim l) (take-append-drop n hops)

-- ---- the result

module _ {D : Type 0} (state : D → DiskState) (g : Geometry) (victim : ℕ) where
  -- the next payload was read
  pub items_next : {a b e : D} (xs : List (Item Stored)) (n : ℕ) (x : Item Stored) → n < length xs → x ≡ get_or xs n x
      → Makes state (items_reads g victim (take n xs)) true a b → Makes state (victim_payload_reads g victim x.payload) true b e → Makes state (items_reads g victim (take (n + 1) xs)) true a e
  items_next {a} {b} {e} xs n x lt is before made =
      subst (λ (calls : List DeviceEvent). Makes state calls true a e) (sym (items_more g victim xs n x lt is))
      (makes_joined state (items_reads g victim (take n xs)) (victim_payload_reads g victim x.payload) true before made)

  -- or its read failed
  pub items_broken : (A B : Type 0) (a b e : D) (xs : List (Item Stored)) (n : ℕ) (x : Item Stored) (fault : CollectionFault) → n < length xs → x ≡ get_or xs n x
      → Makes state (items_reads g victim (take n xs)) true a b → IsCollection {D = D} {A = A} state (victim_payload_reads g victim x.payload) (Err fault) b e
      → IsCollection {D = D} {A = B} state (items_reads g victim xs) (Err fault) a e
  items_broken A B a b e xs n x fault lt is before broken =
      let first : List DeviceEvent = items_reads g victim (take n xs) in
      let both = made_then state A a b e first (victim_payload_reads g victim x.payload) (Err fault) before broken in
      let front = subst (λ (calls : List DeviceEvent). IsCollection {D = D} {A = A} state calls (Err fault) a e) (sym (items_more g victim xs n x lt is)) both in
      subst (λ (calls : List DeviceEvent). IsCollection {D = D} {A = B} state calls (Err fault) a e) (items_whole g victim xs (n + 1))
      (broken_in state A B a e (items_reads g victim (take (n + 1) xs)) (items_reads g victim (drop (n + 1) xs)) fault front)

  pub hops_next : {a b e : D} (hops : List (HopState Stored)) (n : ℕ) (h : HopState Stored) → n < length hops → h ≡ get_or hops n h
      → Makes state (hops_reads g victim (take n hops)) true a b → Makes state (items_reads g victim (live_line h)) true b e → Makes state (hops_reads g victim (take (n + 1) hops)) true a e
  hops_next {a} {b} {e} hops n h lt is before made =
      subst (λ (calls : List DeviceEvent). Makes state calls true a e) (sym (hops_more g victim hops n h lt is))
      (makes_joined state (hops_reads g victim (take n hops)) (items_reads g victim (live_line h)) true before made)

  pub hops_broken : (A B : Type 0) (a b e : D) (hops : List (HopState Stored)) (n : ℕ) (h : HopState Stored) (fault : CollectionFault) → n < length hops → h ≡ get_or hops n h
      → Makes state (hops_reads g victim (take n hops)) true a b → IsCollection {D = D} {A = A} state (items_reads g victim (live_line h)) (Err fault) b e
      → IsCollection {D = D} {A = B} state (hops_reads g victim hops) (Err fault) a e
  hops_broken A B a b e hops n h fault lt is before broken =
      let first : List DeviceEvent = hops_reads g victim (take n hops) in
      let both = made_then state A a b e first (items_reads g victim (live_line h)) (Err fault) before broken in
      let front = subst (λ (calls : List DeviceEvent). IsCollection {D = D} {A = A} state calls (Err fault) a e) (sym (hops_more g victim hops n h lt is)) both in
      subst (λ (calls : List DeviceEvent). IsCollection {D = D} {A = B} state calls (Err fault) a e) (hops_whole g victim hops (n + 1))
      (broken_in state A B a e (hops_reads g victim (take (n + 1) hops)) (hops_reads g victim (drop (n + 1) hops)) fault front)

  -- the two lists of a hop
  lines_are : (h : HopState Stored) (flight queue : List (Item Stored)) → flight ≡ h.flight → queue ≡ h.queue
      → items_reads g victim flight ++ items_reads g victim queue ≡ items_reads g victim (live_line h)
  lines_are h flight queue first second =
      ap (λ (l : List (Item Stored)). items_reads g victim l ++ items_reads g victim queue) first
      ∙ ap (λ (l : List (Item Stored)). items_reads g victim h.flight ++ items_reads g victim l) second
      ∙ sym (items_both g victim h.flight h.queue)

  pub hop_made : {a b e : D} (h : HopState Stored) (flight queue : List (Item Stored)) → flight ≡ h.flight → queue ≡ h.queue
      → Makes state (items_reads g victim flight) true a b → Makes state (items_reads g victim queue) true b e → Makes state (items_reads g victim (live_line h)) true a e
  hop_made {a} {b} {e} h flight queue first second one two =
      subst (λ (calls : List DeviceEvent). Makes state calls true a e) (lines_are h flight queue first second)
      (makes_joined state (items_reads g victim flight) (items_reads g victim queue) true one two)

  pub flight_broken : (A B : Type 0) (a b : D) (h : HopState Stored) (flight : List (Item Stored)) (fault : CollectionFault) → flight ≡ h.flight
      → IsCollection {D = D} {A = A} state (items_reads g victim flight) (Err fault) a b → IsCollection {D = D} {A = B} state (items_reads g victim (live_line h)) (Err fault) a b
  flight_broken A B a b h flight fault first broken =
      subst (λ (calls : List DeviceEvent). IsCollection {D = D} {A = B} state calls (Err fault) a b) (lines_are h flight h.queue first refl)
      (broken_in state A B a b (items_reads g victim flight) (items_reads g victim h.queue) fault broken)

  pub queue_broken : (A B : Type 0) (a b e : D) (h : HopState Stored) (flight queue : List (Item Stored)) (fault : CollectionFault) → flight ≡ h.flight → queue ≡ h.queue
      → Makes state (items_reads g victim flight) true a b → IsCollection {D = D} {A = A} state (items_reads g victim queue) (Err fault) b e
      → IsCollection {D = D} {A = B} state (items_reads g victim (live_line h)) (Err fault) a e
  queue_broken A B a b e h flight queue fault first second one broken =
      let whole = made_then state A a b e (items_reads g victim flight) (items_reads g victim queue) (Err fault) one broken in
      let there = subst (λ (calls : List DeviceEvent). IsCollection {D = D} {A = A} state calls (Err fault) a e) (lines_are h flight queue first second) whole in
      subst (λ (calls : List DeviceEvent). IsCollection {D = D} {A = B} state calls (Err fault) a e) (append-nil (items_reads g victim (live_line h)))
      (broken_in state A B a e (items_reads g victim (live_line h)) [] fault there)
