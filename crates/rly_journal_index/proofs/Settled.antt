-- All payloads of a head, after they got their addresses in it.
use Rattle.std.proofs.Common.{ℕ, ◌+◌, ◌*◌, length, arith}
use Rattle.std.specs.Prelude.{All}
use Rattle.rly_core.specs.declared.params.Geometry.{Geometry}
use Rattle.rly_machine.specs.Map.{payloads_of}
use Rattle.rly_machine.specs.State.{State}
use Rattle.rly_segment_checkpoint.specs.Stored.{stored_length, stored_spelled}
use Rattle.rly_segment_checkpoint.specs.declared.head_form.HeadForm.{HeadForm}
use Rattle.rly_segment_checkpoint.specs.declared.stored.Stored.{Stored}
use Rattle.rly_segment_checkpoint.proofs.Sizes.{length-numbers, length-parts}
use Rattle.rly_reclaim.proofs.Placing.{of_items, of_payloads}
use Rattle.rly_segment.specs.Heads.{gate_after, segment_end, segment_place}
use Rattle.rly_segment.specs.HeadAddresses.{hops_in_head, state_in_head}
use Rattle.rly_journal_index.proofs.Each.{hops_all}
use Rattle.rly_journal_index.specs.IndexRelation.{LiesClear}
use Rattle.rly_journal_index.proofs.Lying.{LiesApart, settled_clear}

module _ (which : HeadForm) where
  -- none of them lies after the gate
  pub head_clear : (g : Geometry) (segment : ℕ) (s : State Stored) → All (LiesApart g segment) (payloads_of s)
      → All (LiesClear (gate_after stored_length (stored_spelled which) g segment s) (segment_end g segment)) (payloads_of (state_in_head which g segment s))
  head_clear g segment s lies =
      let gate : ℕ = gate_after stored_length (stored_spelled which) g segment s in
      let start : ℕ = segment_place g segment + 21 + 8 * length s.lasts in
      let Clear : Stored → Type 0 = LiesClear gate (segment_end g segment) in
      of_payloads Clear (hops_in_head which start s.hops)
      (hops_all which (segment_place g segment) gate (LiesApart g segment) Clear (settled_clear g segment gate (omega arith))
      start s.hops (omega arith) (omega (arith, length-parts stored_length (stored_spelled which) s, length-numbers s.lasts))
      (of_items (LiesApart g segment) s.hops lies))
