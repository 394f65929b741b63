-- Each payload of the collected copy has a form in the next head, whatever was read: one by device address lies on the
-- device.
use Rattle.std.proofs.Common.{◌∷◌, ◌++◌, [], ℕ, ◌≤◌, Bool, true, false, cond, eqb, List, get_or, map, sym, subst}
use Rattle.std.specs.Prelude.{All}
use Rattle.std.proofs.lemmas.List.{map-append}
use Rattle.std.proofs.lemmas.List.Elements.{All-cons, All-head, All-nil, All-tail}
use Rattle.rly_core.specs.declared.params.Geometry.{Geometry}
use Rattle.rly_machine.specs.declared.hop.Item.{Item}
use Rattle.rly_machine.specs.Map.{map_hop, map_item, payloads_of}
use Rattle.rly_machine.specs.State.{HopState, State, live_line}
use Rattle.rly_segment_checkpoint.specs.Forms.{HaveForms}
use Rattle.rly_segment_checkpoint.specs.Stored.{IsStorable}
use Rattle.rly_segment_checkpoint.specs.declared.head_form.HeadForm.{HeadForm}
use Rattle.rly_segment_checkpoint.specs.declared.stored.Stored.{Stored}
use Rattle.rly_segment_checkpoint.specs.declared.stored.Stored.TheVariants.{Inline, Placed}
use Rattle.rly_reclaim.specs.Places.{segment_of}
use Rattle.rly_reclaim.specs.LiveRoom.{collected_payload, collected_state}
use Rattle.rly_reclaim.proofs.Placing.{of_items}
use Rattle.rly_segment.specs.Device.{IsLayout}
use Rattle.rly_segment.proofs.PlacedHeads.{lies_storable, place_storable}
use Rattle.rly_journal_relocate.specs.Relocation.{LiesThere, zeros_at}
use Rattle.rly_journal_relocate.proofs.Moves.{hops_mapped}
use Rattle.rly_journal_relocate.specs.Collection.{IsSameButForBytes, blank_payload}

module _ (which : HeadForm) where
  -- the bytes of a payload don't matter
  to_blank : (p : Stored) → IsStorable which p → IsStorable which (blank_payload p)
  to_blank (Inline payload) storable = tt
  to_blank (Placed place) storable = storable

  from_blank : (p : Stored) → IsStorable which (blank_payload p) → IsStorable which p
  from_blank (Inline payload) storable = tt
  from_blank (Placed place) storable = storable

  abbrev Has : Item Stored → Type 0
  Has item = IsStorable which item.payload

  abbrev HopHas : HopState Stored → Type 0
  HopHas h = HaveForms (IsStorable which) h

  items_from : (items : List (Item Stored)) → All Has (map (map_item blank_payload) items) → All Has items
  items_from [] all = All-nil Has
  items_from (item ∷ items) all =
      All-cons Has item items (from_blank item.payload (All-head Has (map_item blank_payload item) (map (map_item blank_payload) items) all))
      (items_from items (All-tail Has (map_item blank_payload item) (map (map_item blank_payload) items) all))

  hops_from : (hops : List (HopState Stored)) → All HopHas (map (map_hop blank_payload) hops) → All HopHas hops
  hops_from [] all = All-nil HopHas
  hops_from (h ∷ hops) all =
      All-cons HopHas h hops
      (items_from (live_line h)
      (subst (All Has) (sym (map-append (map_item blank_payload) h.flight h.queue)) (All-head HopHas (map_hop blank_payload h) (map (map_hop blank_payload) hops) all)))
      (hops_from hops (All-tail HopHas (map_hop blank_payload h) (map (map_hop blank_payload) hops) all))

  -- spools that are the same except for inline bytes
  pub same_storable : (s t : State Stored) → IsSameButForBytes s t → All HopHas s.hops → All HopHas t.hops
  same_storable s t same all =
      hops_from t.hops (subst (λ (u : State Stored). All HopHas u.hops) same (hops_mapped (IsStorable which) blank_payload to_blank s.hops all))

  -- a payload in a segment, and its collected copy
  lies_there : (g : Geometry) (size : ℕ) (p : Stored) → IsLayout g size → LiesThere g p → IsStorable which p
  lies_there g size (Inline payload) layout lies = tt
  lies_there g size (Placed place) layout lies = place_storable which place (lies_storable g size lies.1.0 place layout lies.1.1) lies.0

  one_drawn : (g : Geometry) (victim : ℕ) (p : Stored) → IsStorable which p → IsStorable which (collected_payload g victim zeros_at p)
  one_drawn g victim (Inline payload) storable = tt
  one_drawn g victim (Placed place) storable = by_cases (eqb (segment_of g place.start) victim)
    where
      by_cases : (b : Bool) → IsStorable which (cond b (Inline (zeros_at place)) (Placed place))
      by_cases true = tt
      by_cases false = storable

  pub drawn_storable : (g : Geometry) (size victim : ℕ) (s : State Stored) → IsLayout g size → All (LiesThere g) (payloads_of s)
      → All HopHas (collected_state g victim zeros_at s).hops
  drawn_storable g size victim s layout lies =
      hops_mapped (IsStorable which) (collected_payload g victim zeros_at) (one_drawn g victim) s.hops
      (of_items (IsStorable which) s.hops (λ k d below. lies_there g size (get_or (payloads_of s) k d) layout (lies k d below)))
