-- A spool of device addresses after a head was read or written.
use Rattle.std.proofs.Common.{ℕ, ◌≡◌, ◌+◌, ◌<◌, ◌≤◌, Bool, true, false, cond, eqb, List, length, arith, refl, sym, ap, ◌∙◌}
use Rattle.std.proofs.lemmas.List.{length-replicate}
use Rattle.std.specs.Prelude.{All}
use Rattle.std.proofs.lemmas.List.Elements.{All-weaker}
use Rattle.rly_core.specs.declared.params.Geometry.{Geometry}
use Rattle.rly_disk.specs.DiskModel.{SameOutside}
use Rattle.rly_machine.specs.Map.{map_state, payloads_of}
use Rattle.rly_machine.specs.State.{State}
use Rattle.rly_machine.proofs.Lifting.{state_twice}
use Rattle.rly_segment_checkpoint.specs.Checkpoint.{state_spelled}
use Rattle.rly_segment_checkpoint.specs.Stored.{payload_in, state_in, stored_form, stored_length, stored_spelled}
use Rattle.rly_segment_checkpoint.specs.declared.head_form.HeadForm.{HeadForm}
use Rattle.rly_segment_checkpoint.specs.declared.head_form.HeadForm.TheVariants.{Second}
use Rattle.rly_segment_checkpoint.specs.declared.stored.DeviceAddress.{DeviceAddress}
use Rattle.rly_segment_checkpoint.specs.declared.stored.Stored.{Stored}
use Rattle.rly_segment_checkpoint.specs.declared.stored.Stored.TheVariants.{Inline, Placed}
use Rattle.rly_reclaim.specs.Placed.{IsPlaced, LiesElsewhere}
use Rattle.rly_reclaim.specs.Places.{bytes_in, live_by_segment, live_in, segment_of}
use Rattle.rly_reclaim.specs.LiveRoom.{collected_payload, collected_state}
use Rattle.rly_reclaim.proofs.Collection.{drawn_stands}
use Rattle.rly_reclaim.proofs.Emptying.{may_open, none_each, payloads_sum}
use Rattle.rly_reclaim.proofs.Placing.{none_may_open, of_items, of_payloads}
use Rattle.rly_reclaim.proofs.LiveRooms.{live_at}
use Rattle.rly_reclaim.proofs.Weights.{maps_same}
use Rattle.rly_reclaim.specs.SegmentChoice.{MayOpen}
use Rattle.rly_segment.specs.Heads.{HoldsHeadOf, IsHeadOf, gate_after, segment_end, segment_place}
use Rattle.rly_segment.specs.HeadAddresses.{state_in_head}
use Rattle.rly_segment.proofs.HeadAddresses.{head_lengths, settled_inline, settled_stands}
use Rattle.rly_journal_relocate.specs.Relocation.{LiesThere, MayMove, relocated_state, zeros_at}
use Rattle.rly_journal_relocate.proofs.Moves.{moved_free, moved_inline, moved_there, settled_elsewhere, settled_live, settled_there}
use Rattle.rly_journal_index.specs.IndexRelation.{IsAlike, IsIndex}
use Rattle.rly_journal_index.proofs.Lying.{LiesApart, drawn_apart, elsewhere_apart, lies_apart}
use Rattle.rly_journal_index.proofs.Each.{hops_mapped}
use Rattle.rly_journal_index.proofs.Images.{maps_held, still}
use Rattle.rly_journal_index.proofs.Settled.{head_clear}

-- ---- a head that was read

pub begun : (which : HeadForm) (g : Geometry) (segment generation : ℕ) (s : State Stored) → segment < g.segments → IsHeadOf stored_length (stored_spelled which) g segment generation s
    → IsPlaced g segment s → IsIndex g segment (gate_after stored_length (stored_spelled which) g segment s) (state_in_head which g segment s)
begun which g segment generation s below head placed =
    let room : 13 + length (state_spelled stored_length (stored_spelled which) s) ≤ g.length = omega (arith, head.room) in
    let lies : All (LiesApart g segment) (payloads_of s) =
    All-weaker (LiesElsewhere g segment) (LiesApart g segment) (elsewhere_apart g segment) (payloads_of s) placed.elsewhere in
    let there : All (LiesThere g) (payloads_of s) = All-weaker (LiesApart g segment) (LiesThere g) (λ p both. both.0) (payloads_of s) lies in
    let t : ℕ = placed.left.0 in
    let may : MayOpen (live_by_segment g s) segment t = none_may_open g segment t s placed.elsewhere placed.left.1 in
    let within : t < g.segments = placed.left.1.there in
    let none : live_in g t s ≡ 0 = sym (live_at g s t within) ∙ may.empty in
    let still_none : live_in g t (state_in_head which g segment s) ≡ 0 = omega (arith, settled_live which g segment s room t, settled_elsewhere which g segment s room t may.other, none) in
    record {
      there = settled_there which g segment s room below there;
      clear = head_clear which g segment s lies;
      inline = settled_inline which g segment s;
      free = (t, may_open g segment t (state_in_head which g segment s) within may.other still_none);
    }

pub begun_alike : (which : HeadForm) (g : Geometry) (segment : ℕ) (s : State Stored) (t : State (List ℕ)) → IsAlike s t → IsAlike (state_in_head which g segment s) t
begun_alike which g segment s t alike = head_lengths which g segment s ∙ alike

-- ---- the next segment

drawn_length : (g : Geometry) (victim : ℕ) (p : Stored) → stored_length (collected_payload g victim zeros_at p) ≡ stored_length p
drawn_length g victim (Inline payload) = refl
drawn_length g victim (Placed place) = by_cases (eqb (segment_of g place.start) victim)
  where
    by_cases : (b : Bool) → stored_length (cond b (Inline (zeros_at place)) (Placed place)) ≡ place.length
    by_cases true = length-replicate place.length 0
    by_cases false = refl

-- all payloads lie there, and none in a target without live bytes
module _ (g : Geometry) (target victim : ℕ) (s : State Stored) (may : MayMove g target victim s) where
  all_apart : All (LiesApart g target) (payloads_of s)
  all_apart = λ k d below. (may.lies k d below, none_each (bytes_in g target) (payloads_of s) (payloads_sum (bytes_in g target) s ∙ may.empty) k d below)

  pub drawn_all_apart : (read : DeviceAddress → List ℕ) → All (LiesApart g target) (payloads_of (collected_state g victim read s))
  drawn_all_apart read =
      of_payloads (LiesApart g target) (collected_state g victim read s).hops
      (hops_mapped (LiesApart g target) (collected_payload g victim read) (drawn_apart g victim target read) s.hops (of_items (LiesApart g target) s.hops all_apart))

  pub opened : victim < g.segments → IsIndex g target (gate_after stored_length stored_form g target (collected_state g victim zeros_at s)) (relocated_state g target victim s)
  opened below = record {
    there = moved_there g target victim s may;
    clear = head_clear Second g target (collected_state g victim zeros_at s) (drawn_all_apart zeros_at);
    inline = moved_inline g target victim s;
    free = (victim, moved_free g target victim s may below);
  }

  -- the lengths are unchanged
  pub moved_lengths : map_state stored_length (relocated_state g target victim s) ≡ map_state stored_length s
  moved_lengths =
      head_lengths Second g target (collected_state g victim zeros_at s)
      ∙ state_twice stored_length (collected_payload g victim zeros_at) s
      ∙ maps_same (λ p. stored_length (collected_payload g victim zeros_at p)) stored_length (drawn_length g victim) s

  -- over the image of the new head the collected copy recovers to the same state
  pub opened_stands : (old new : List ℕ) (generation : ℕ) (copy : State Stored) → copy ≡ collected_state g victim (λ place. payload_in old (Placed place)) s
      → state_in_head Second g target copy ≡ relocated_state g target victim s → HoldsHeadOf stored_length stored_form new g target generation copy
      → SameOutside (segment_place g target) g.length old new → state_in new (relocated_state g target victim s) ≡ state_in old s
  opened_stands old new generation copy copied same holds outside =
      let read : DeviceAddress → List ℕ = λ place. payload_in old (Placed place) in
      let d : State Stored = collected_state g victim read s in
      let Same : Stored → Type 0 = λ p. payload_in new p ≡ payload_in old p in
      let unchanged : All Same (payloads_of d) =
      All-weaker (LiesApart g target) Same
      (λ p lies. still (segment_place g target) g.length (segment_end g target) outside (omega arith) p (lies_apart g target p lies))
      (payloads_of d) (drawn_all_apart read) in
      ap (λ (u : State Stored). state_in new u) (sym same)
      ∙ settled_stands Second new g target generation copy holds
      ∙ ap (λ (u : State Stored). state_in new u) copied
      ∙ maps_held (payload_in new) (payload_in old) d unchanged
      ∙ drawn_stands g victim old s
