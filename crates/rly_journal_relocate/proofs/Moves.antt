-- The device addresses after the victim's payloads moved, and the live bytes of each segment then.
use Rattle.std.proofs.Common.{ℕ, ◌≡◌, ◌≢◌, ◌+◌, ◌*◌, ◌-◌, ◌<◌, ◌≤◌, Bool, true, false, cond, eqb, List, [], ◌∷◌, ◌++◌, length, map, arith, refl, sym, ap, subst, ◌∙◌, length-append, sum_by}
use Rattle.std.specs.Prelude.{All}
use Rattle.std.specs.List.{flat_map}
use Rattle.std.proofs.lemmas.Bool.{eq-eqb, ne_eqb}
use Rattle.std.proofs.lemmas.List.{length-replicate, map-append}
use Rattle.std.proofs.Math.Seq.{drop-append_seam, take-append_seam}
use Rattle.std.proofs.lemmas.List.Concat.{flat_map-cons}
use Rattle.std.proofs.lemmas.List.Elements.{All-append, All-cons, All-drop, All-head, All-nil, All-tail, All-take}
use Rattle.std.proofs.lemmas.List.Sums.{sum_by-append, sum_by-cons}
use Rattle.std.proofs.lemmas.Grind.{flat_map-append}
use Rattle.rly_core.specs.declared.params.Geometry.{Geometry}
use Rattle.rly_machine.specs.Map.{map_hop, map_item, payloads_of}
use Rattle.rly_machine.specs.Sound.{IsSound}
use Rattle.rly_machine.specs.State.{HopState, State, bytes_of, live_bytes, live_line}
use Rattle.rly_machine.specs.declared.hop.Item.{Item}
use Rattle.rly_segment_checkpoint.specs.Checkpoint.{entry_spelled, hop_spelled, state_spelled}
use Rattle.rly_segment_checkpoint.specs.Stored.{stored_form_of, stored_length, stored_spelled}
use Rattle.rly_segment_checkpoint.specs.Widths.{entry_width, hop_width}
use Rattle.rly_segment_checkpoint.specs.declared.head_form.HeadForm.{HeadForm}
use Rattle.rly_segment_checkpoint.specs.declared.head_form.HeadForm.TheVariants.{First, Second}
use Rattle.rly_segment_checkpoint.specs.declared.stored.DeviceAddress.{DeviceAddress}
use Rattle.rly_segment_checkpoint.specs.declared.stored.Stored.{Stored}
use Rattle.rly_segment_checkpoint.specs.declared.stored.Stored.TheVariants.{Inline, Placed}
use Rattle.rly_segment_checkpoint.proofs.Parts.{length-entry}
use Rattle.rly_segment_checkpoint.proofs.Sizes.{length-hop, length-numbers, length-parts}
use Rattle.rly_core.specs.Bounds.{IsIn}
use Rattle.rly_reclaim.specs.SegmentChoice.{IsFree, IsVictim, MayOpen}
use Rattle.rly_reclaim.specs.Room.{Fits}
use Rattle.rly_reclaim.specs.Places.{bytes_in, live_by_segment, live_in, segment_of}
use Rattle.rly_reclaim.specs.LiveRoom.{collected_payload, collected_state, inline_bytes, inline_length}
use Rattle.rly_reclaim.proofs.Collection.{drawn_empty, drawn_inline, drawn_other, drawn_sound}
use Rattle.rly_reclaim.proofs.Emptying.{in_segment, may_open}
use Rattle.rly_reclaim.proofs.Placing.{of_items, of_payloads}
use Rattle.rly_reclaim.proofs.LiveRooms.{has_room_for, live_at, live_length}
use Rattle.rly_reclaim.proofs.Weights.{bytes_both, bytes_none, bytes_same}
use Rattle.rly_segment.proofs.HeadAddresses.{settled_inline, settled_sound}
use Rattle.rly_segment.specs.Heads.{segment_place}
use Rattle.rly_segment.specs.HeadAddresses.{stored_in_head, hop_in_head, hops_in_head, items_in_head, state_in_head}
use Rattle.rly_journal_relocate.specs.Relocation.{LiesThere, MayMove, relocated_state, zeros_at}

-- ---- a head of a form

module _ (which : HeadForm) where
  -- an entry has at least one byte before its payload, which it contains if it is inline
  form_least : (p : Stored) → 1 + inline_length p ≤ length (stored_form_of which p)
  form_least (Inline payload) = omega arith
  form_least (Placed place) = by_form which
    where
      by_form : (w : HeadForm) → 1 ≤ length (stored_form_of w (Placed place))
      by_form First = let e : length (stored_form_of First (Placed place)) ≡ 9 = refl in omega (arith, e)
      by_form Second = let e : length (stored_form_of Second (Placed place)) ≡ 6 = refl in omega (arith, e)

  abbrev entries : List (Item Stored) → List ℕ
  entries = flat_map (entry_spelled stored_length (stored_spelled which))

  abbrev spelled_hop : HopState Stored → List ℕ
  spelled_hop = hop_spelled stored_length (stored_spelled which)

  entries_cons : (item : Item Stored) (items : List (Item Stored))
      → length (entries (item ∷ items)) ≡ length (entry_spelled stored_length (stored_spelled which) item) + length (entries items)
  entries_cons item items =
      let one : Item Stored → List ℕ = entry_spelled stored_length (stored_spelled which) in
      ap (λ (l : List ℕ). length l) (flat_map-cons one item items) ∙ length-append (one item) (flat_map one items)

  entries_both : (xs ys : List (Item Stored)) → length (entries (xs ++ ys)) ≡ length (entries xs) + length (entries ys)
  entries_both xs ys =
      let one : Item Stored → List ℕ = entry_spelled stored_length (stored_spelled which) in
      ap (λ (l : List ℕ). length l) (flat_map-append one xs ys) ∙ length-append (flat_map one xs) (flat_map one ys)

  hops_cons : (h : HopState Stored) (hops : List (HopState Stored))
      → length (flat_map spelled_hop (h ∷ hops)) ≡ length (spelled_hop h) + length (flat_map spelled_hop hops)
  hops_cons h hops = ap (λ (l : List ℕ). length l) (flat_map-cons spelled_hop h hops) ∙ length-append (spelled_hop h) (flat_map spelled_hop hops)

  -- addresses that are set in a range of offsets
  module _ (from to : ℕ) where
    -- ---- a sum over payloads

    module _ (v w : Stored → ℕ) (each : (at : ℕ) (p : Stored) → from ≤ at → at + inline_length p ≤ to → v (stored_in_head at p) ≡ w p) where
      items_sum : (at : ℕ) (items : List (Item Stored)) → from ≤ at → at + length (entries items) ≤ to → bytes_of v (items_in_head which at items) ≡ bytes_of w items
      items_sum at [] above within = refl
      items_sum at (item ∷ items) above within =
          let next : ℕ = at + length (entry_spelled stored_length (stored_spelled which) item) in
          let size : length (entry_spelled stored_length (stored_spelled which) item) + 1 ≡ entry_width which + length (stored_form_of which item.payload) = length-entry stored_length (stored_spelled which) item in
          omega (
            arith,
            sum_by-cons (λ (x : Item Stored). v x.payload) (map_item (stored_in_head (at + entry_width which)) item) (items_in_head which next items),
            sum_by-cons (λ (x : Item Stored). w x.payload) item items,
            each (at + entry_width which) item.payload (omega (arith, above)) (omega (arith, within, entries_cons item items, size, form_least item.payload)),
            items_sum next items (omega (arith, above)) (omega (arith, within, entries_cons item items)),
          )

      hop_sum : (at : ℕ) (h : HopState Stored) → from ≤ at → at + length (spelled_hop h) ≤ to → bytes_of v (live_line (hop_in_head which at h)) ≡ bytes_of w (live_line h)
      hop_sum at h above within =
          let behind : ℕ = at + hop_width which + length (entries h.flight) in
          let size : length (spelled_hop h) ≡ hop_width which + length (entries (live_line h)) = length-hop stored_length (stored_spelled which) h in
          omega (
            arith,
            sum_by-append (λ (x : Item Stored). v x.payload) (items_in_head which (at + hop_width which) h.flight) (items_in_head which behind h.queue),
            sum_by-append (λ (x : Item Stored). w x.payload) h.flight h.queue,
            items_sum (at + hop_width which) h.flight (omega (arith, above)) (omega (arith, within, size, entries_both h.flight h.queue)),
            items_sum behind h.queue (omega (arith, above)) (omega (arith, within, size, entries_both h.flight h.queue)),
          )

      hops_sum : (at : ℕ) (hops : List (HopState Stored)) → from ≤ at → at + length (flat_map spelled_hop hops) ≤ to
          → sum_by (λ h. bytes_of v (live_line h)) (hops_in_head which at hops) ≡ sum_by (λ h. bytes_of w (live_line h)) hops
      hops_sum at [] above within = refl
      hops_sum at (h ∷ hops) above within =
          let next : ℕ = at + length (spelled_hop h) in
          omega (
            arith,
            sum_by-cons (λ (x : HopState Stored). bytes_of v (live_line x)) (hop_in_head which at h) (hops_in_head which next hops),
            sum_by-cons (λ (x : HopState Stored). bytes_of w (live_line x)) h hops,
            hop_sum at h above (omega (arith, within, hops_cons h hops)),
            hops_sum next hops (omega (arith, above)) (omega (arith, within, hops_cons h hops)),
          )

    -- ---- a property of each payload

    module _ (S T : Stored → Type 0) (each : (at : ℕ) (p : Stored) → from ≤ at → at + inline_length p ≤ to → S p → T (stored_in_head at p)) where
      items_all : (at : ℕ) (items : List (Item Stored)) → from ≤ at → at + length (entries items) ≤ to
          → All (λ item. S item.payload) items → All (λ item. T item.payload) (items_in_head which at items)
      items_all at [] above within all = All-nil (λ (item : Item Stored). T item.payload)
      items_all at (item ∷ items) above within all =
          let next : ℕ = at + length (entry_spelled stored_length (stored_spelled which) item) in
          let size : length (entry_spelled stored_length (stored_spelled which) item) + 1 ≡ entry_width which + length (stored_form_of which item.payload) = length-entry stored_length (stored_spelled which) item in
          All-cons (λ (x : Item Stored). T x.payload) (map_item (stored_in_head (at + entry_width which)) item) (items_in_head which next items)
          (each (at + entry_width which) item.payload (omega (arith, above)) (omega (arith, within, entries_cons item items, size, form_least item.payload)) (All-head (λ (x : Item Stored). S x.payload) item items all))
          (items_all next items (omega (arith, above)) (omega (arith, within, entries_cons item items)) (All-tail (λ (x : Item Stored). S x.payload) item items all))

      abbrev live_all : (Stored → Type 0) → HopState Stored → Type 0
      live_all U h = All (λ (item : Item Stored). U item.payload) (live_line h)

      hops_all : (at : ℕ) (hops : List (HopState Stored)) → from ≤ at → at + length (flat_map spelled_hop hops) ≤ to
          → All (live_all S) hops → All (live_all T) (hops_in_head which at hops)
      hops_all at [] above within all = All-nil (live_all T)
      hops_all at (h ∷ hops) above within all =
          let next : ℕ = at + length (spelled_hop h) in
          let behind : ℕ = at + hop_width which + length (entries h.flight) in
          let size : length (spelled_hop h) ≡ hop_width which + length (entries (live_line h)) = length-hop stored_length (stored_spelled which) h in
          let here : live_all S h = All-head (live_all S) h hops all in
          let P : Item Stored → Type 0 = λ x. S x.payload in
          let Q : Item Stored → Type 0 = λ x. T x.payload in
          let flight : All P h.flight = subst (All P) (take-append_seam h.flight h.queue) (All-take P (length h.flight) (live_line h) here) in
          let queue : All P h.queue = subst (All P) (drop-append_seam h.flight h.queue) (All-drop P (length h.flight) (live_line h) here) in
          All-cons (live_all T) (hop_in_head which at h) (hops_in_head which next hops)
          (All-append Q (items_in_head which (at + hop_width which) h.flight) (items_in_head which behind h.queue)
          (items_all (at + hop_width which) h.flight (omega (arith, above)) (omega (arith, within, hops_cons h hops, size, entries_both h.flight h.queue)) flight)
          (items_all behind h.queue (omega (arith, above)) (omega (arith, within, hops_cons h hops, size, entries_both h.flight h.queue)) queue))
          (hops_all next hops (omega (arith, above)) (omega (arith, within, hops_cons h hops)) (All-tail (live_all S) h hops all))

  -- ---- a state whose head has room in a segment

  module _ (g : Geometry) (target : ℕ) where
    abbrev from : ℕ
    from = segment_place g target

    abbrev to : ℕ
    to = segment_place g target + g.length

    lies_here : (at : ℕ) → from ≤ at → at < to → segment_of g at ≡ target
    lies_here at above below = in_segment g target (at - 64) (omega (arith, above)) (omega (arith, above, below))

    -- the bytes that an inline payload adds to a segment
    abbrev brought : ℕ → Stored → ℕ
    brought segment p = cond (eqb target segment) (inline_length p) 0

    none_brought : (b : Bool) → ◌≡◌ {A = ℕ} (cond b 0 0) 0
    none_brought true = refl
    none_brought false = refl

    one_weight : (segment at : ℕ) (p : Stored) → from ≤ at → at + inline_length p ≤ to → bytes_in g segment (stored_in_head at p) ≡ bytes_in g segment p + brought segment p
    one_weight segment at (Inline []) above within = omega (arith, none_brought (eqb target segment))
    one_weight segment at (Inline (byte ∷ bytes)) above within =
        let same : ◌≡◌ {A = ℕ} (cond (eqb (segment_of g at) segment) (length (byte ∷ bytes)) 0) (cond (eqb target segment) (length (byte ∷ bytes)) 0) =
        ap (λ (t : ℕ). cond (eqb t segment) (length (byte ∷ bytes)) 0) (lies_here at above (omega (arith, within))) in
        omega (arith, same)
    one_weight segment at (Placed place) above within = omega (arith, none_brought (eqb target segment))

    one_there : target < g.segments → (at : ℕ) (p : Stored) → from ≤ at → at + inline_length p ≤ to → LiesThere g p → LiesThere g (stored_in_head at p)
    one_there there at (Inline []) above within lies = tt
    one_there there at (Inline (byte ∷ bytes)) above within lies =
        let some : 1 ≤ length (byte ∷ bytes) = omega arith in
        (some, (target, record { there = there; from = omega (arith, above); to = omega (arith, within) }))
    one_there there at (Placed place) above within lies = lies

    module _ (t : State Stored) (room : 13 + length (state_spelled stored_length (stored_spelled which) t) ≤ g.length) where
      room_for_hops : segment_place g target + 21 + 8 * length t.lasts + length (flat_map spelled_hop t.hops) ≤ to
      room_for_hops = omega (arith, room, length-parts stored_length (stored_spelled which) t, length-numbers t.lasts)

      pub settled_live : (segment : ℕ) → live_in g segment (state_in_head which g target t) ≡ live_in g segment t + live_bytes (brought segment) t
      settled_live segment =
          hops_sum from to (bytes_in g segment) (λ p. bytes_in g segment p + brought segment p) (one_weight segment)
          (segment_place g target + 21 + 8 * length t.lasts) t.hops (omega arith) room_for_hops
          ∙ bytes_both (bytes_in g segment) (brought segment) t

      pub settled_here : live_bytes (brought target) t ≡ inline_bytes t
      settled_here = bytes_same (brought target) inline_length (λ p. ap (λ (b : Bool). cond b (inline_length p) 0) (eq-eqb target target refl)) t

      pub settled_elsewhere : (segment : ℕ) → segment ≢ target → live_bytes (brought segment) t ≡ 0
      settled_elsewhere segment other = bytes_none (brought segment) (λ p. ap (λ (b : Bool). cond b (inline_length p) 0) (ne_eqb target segment (λ same. other (sym same)))) t

      pub settled_there : target < g.segments → All (LiesThere g) (payloads_of t) → All (LiesThere g) (payloads_of (state_in_head which g target t))
      settled_there there lies =
          let start : ℕ = segment_place g target + 21 + 8 * length t.lasts in
          of_payloads (LiesThere g) (hops_in_head which start t.hops)
          (hops_all from to (LiesThere g) (LiesThere g) (one_there there) start t.hops (omega arith) room_for_hops (of_items (LiesThere g) t.hops lies))

-- ---- the relocation

-- a map that keeps a property of a payload
items_mapped : (S : Stored → Type 0) (f : Stored → Stored) → ((p : Stored) → S p → S (f p)) → (items : List (Item Stored))
    → All (λ item. S item.payload) items → All (λ item. S item.payload) (map (map_item f) items)
items_mapped S f keeps [] all = All-nil (λ (item : Item Stored). S item.payload)
items_mapped S f keeps (item ∷ items) all =
    let P : Item Stored → Type 0 = λ x. S x.payload in
    All-cons P (map_item f item) (map (map_item f) items) (keeps item.payload (All-head P item items all)) (items_mapped S f keeps items (All-tail P item items all))

pub hops_mapped : (S : Stored → Type 0) (f : Stored → Stored) → ((p : Stored) → S p → S (f p)) → (hops : List (HopState Stored))
    → All (λ h. All (λ item. S item.payload) (live_line h)) hops → All (λ h. All (λ item. S item.payload) (live_line h)) (map (map_hop f) hops)
hops_mapped S f keeps [] all = All-nil (λ (h : HopState Stored). All (λ (item : Item Stored). S item.payload) (live_line h))
hops_mapped S f keeps (h ∷ hops) all =
    let P : Item Stored → Type 0 = λ x. S x.payload in
    let L : HopState Stored → Type 0 = λ x. All P (live_line x) in
    All-cons L (map_hop f h) (map (map_hop f) hops)
    (subst (All P) (map-append (map_item f) h.flight h.queue) (items_mapped S f keeps (live_line h) (All-head L h hops all)))
    (hops_mapped S f keeps hops (All-tail L h hops all))

drawn_there : (g : Geometry) (victim : ℕ) (p : Stored) → LiesThere g p → LiesThere g (collected_payload g victim zeros_at p)
drawn_there g victim (Inline payload) lies = tt
drawn_there g victim (Placed place) lies = by_cases (eqb (segment_of g place.start) victim)
  where
    by_cases : (b : Bool) → LiesThere g (cond b (Inline (zeros_at place)) (Placed place))
    by_cases true = tt
    by_cases false = lies

unread_long : (place : DeviceAddress) → length (zeros_at place) ≡ place.length
unread_long place = length-replicate place.length 0

module _ (g : Geometry) (target victim : ℕ) (s : State Stored) where
  abbrev head : State Stored
  head = collected_state g victim zeros_at s

  pub moved_sound : IsSound stored_length s → IsSound stored_length (relocated_state g target victim s)
  moved_sound sound = settled_sound Second g target head (drawn_sound g victim zeros_at s unread_long sound)

  pub moved_inline : inline_bytes (relocated_state g target victim s) ≡ 0
  moved_inline = settled_inline Second g target head

  module _ (may : MayMove g target victim s) where
    pub moved_target : live_in g target (relocated_state g target victim s) ≡ live_in g victim s
    moved_target =
        omega (
          arith,
          settled_live Second g target head may.room target,
          settled_here Second g target head may.room,
          drawn_inline g victim zeros_at s unread_long,
          may.inline,
          drawn_other g victim zeros_at s target (λ same. may.other (sym same)),
          may.empty,
        )

    pub moved_victim : live_in g victim (relocated_state g target victim s) ≡ 0
    moved_victim = omega (arith, settled_live Second g target head may.room victim, settled_elsewhere Second g target head may.room victim may.other, drawn_empty g victim zeros_at s)

    pub moved_others : (t : ℕ) → t ≢ target → t ≢ victim → live_in g t (relocated_state g target victim s) ≡ live_in g t s
    moved_others t other apart = omega (arith, settled_live Second g target head may.room t, settled_elsewhere Second g target head may.room t other, drawn_other g victim zeros_at s t apart)

    pub moved_there : All (LiesThere g) (payloads_of (relocated_state g target victim s))
    moved_there = settled_there Second g target head may.room may.there
        (of_payloads (LiesThere g) head.hops (hops_mapped (LiesThere g) (collected_payload g victim zeros_at) (drawn_there g victim) s.hops (of_items (LiesThere g) s.hops may.lies)))

    pub moved_free : victim < g.segments → MayOpen (live_by_segment g (relocated_state g target victim s)) target victim
    moved_free below = may_open g target victim (relocated_state g target victim s) below may.other moved_victim

-- if segments are long enough they may move
pub may_move : (g : Geometry) (current target victim : ℕ) (s : State Stored) → IsIn 2 256 g.segments → Fits g → IsSound stored_length s → s.params ≡ g.params
    → IsFree (live_by_segment g s) current target → IsVictim (live_by_segment g s) target victim → inline_bytes s ≡ 0 → All (LiesThere g) (payloads_of s)
    → MayMove g target victim s
may_move g current target victim s within fits sound params free_is victim_is inline lies =
    let has = has_room_for g s current target victim within fits sound params free_is victim_is in
    let below : target < g.segments = omega (arith, free_is.may_open.there, live_length g s) in
    let t : State Stored = collected_state g victim zeros_at s in
    record {
      some = omega (arith, fits);
      there = below;
      other = victim_is.other;
      empty = sym (live_at g s target below) ∙ free_is.may_open.empty;
      inline = inline;
      room = omega (arith, has.head t (drawn_sound g victim zeros_at s unread_long sound) params (omega (arith, drawn_inline g victim zeros_at s unread_long, inline)));
      lies = lies;
    }
