use Rattle.std.proofs.Common.{◌+◌, ◌*◌, ◌<◌, ◌≤◌, ℕ, List, arith, get_or, length, refl, sym, ap, subst, ◌∙◌}
use Rattle.std.specs.Prelude.{All}
use Rattle.std.proofs.lemmas.List.{length-map}
use Rattle.rly_machine.specs.Map.{payloads_of}
use Rattle.rly_machine.specs.Kept.{hop_state}
use Rattle.rly_machine.specs.State.{HopState, State, live_line, new_hop}
use Rattle.rly_machine.specs.declared.hop.Hop.{Hop}
use Rattle.rly_machine.specs.declared.hop.Item.{Item}
use Rattle.rly_segment_checkpoint.specs.Stored.{stored_length, stored_spelled}
use Rattle.rly_segment_checkpoint.specs.declared.stored.Stored.{Stored}
use Rattle.rly_segment_checkpoint.proofs.Sizes.{length-parts}
use Rattle.rly_reclaim.proofs.Placing.{of_items}
use Rattle.rly_reclaim.specs.LiveRoom.{collected_state}
use Rattle.rly_segment.specs.Heads.{segment_place}
use Rattle.rly_journal_relocate.specs.HelpersRelocation.{HasBytes, collected_blank}
use Rattle.rly_journal_relocate.specs.Relocation.{zeros_at}
use Rattle.rly_journal_relocate.proofs.MovedPayloads.{have_bytes, is_there, place_below}
use Rattle.rly_journal_relocate.proofs.Relocations.{hop_is, hop_settled, hop_size, hops_all, hops_length, hops_past_next, hops_so_far, hops_within}
use Rattle.rly_journal_relocate.proofs.relocated_payloads.relocate_all.Goals as goal

pub relocate_hop-at-requires-clause-there : goal.relocate_hop-at-requires-clause-there
relocate_hop-at-requires-clause-there c =
    let s = c.args.machine.now.state in
    let D : Stored → Stored = collected_blank c.args.geometry.now c.args.victim in
    let view : Hop Stored → HopState Stored = hop_state in
    let at : ℕ = segment_place c.args.geometry.now c.args.target + 21 + 8 * length s.lasts in
    is_there (length c.loop-index.machine.state.hops) (c.loop-index.index + 1) (omega arith)
    (omega (
      arith,
      ap (λ (t : State Stored). length t.hops) c.loop-index.invariant.state,
      hops_length c.args.form D c.loop-index.index at s.hops,
      c.loop-index-test.true,
      ap (λ (l : List (HopState Stored)). length l) c.hops.ensures,
      length-map c.hops.result.now view,
    ))

pub relocate_hop-at-requires-clause-bytes : goal.relocate_hop-at-requires-clause-bytes
relocate_hop-at-requires-clause-bytes c =
    let s = c.args.machine.now.state in
    let D : Stored → Stored = collected_blank c.args.geometry.now c.args.victim in
    let view : Hop Stored → HopState Stored = hop_state in
    let at : ℕ = segment_place c.args.geometry.now c.args.target + 21 + 8 * length s.lasts in
    let lt : c.loop-index.index < length s.hops = omega (arith, c.loop-index-test.true, ap (λ (l : List (HopState Stored)). length l) c.hops.ensures, length-map c.hops.result.now view) in
    subst (λ (h : HopState Stored). All (λ (item : Item Stored). HasBytes item.payload) (live_line h)) (sym (hop_is c.args.form D s c.loop-index.index at c.loop-index.machine.state c.loop-index.invariant.state))
    (of_items HasBytes s.hops (λ k d below. have_bytes c.args.geometry.now (get_or (payloads_of s) k d) (c.requires.lies k d below)) c.loop-index.index new_hop lt)

pub relocate_hop-at-requires-clause-fits : goal.relocate_hop-at-requires-clause-fits
relocate_hop-at-requires-clause-fits c =
    let s = c.args.machine.now.state in
    let g = c.args.geometry.now in
    let D : Stored → Stored = collected_blank g c.args.victim in
    let view : Hop Stored → HopState Stored = hop_state in
    let at : ℕ = segment_place g c.args.target + 21 + 8 * length s.lasts in
    let lt : c.loop-index.index < length s.hops = omega (arith, c.loop-index-test.true, ap (λ (l : List (HopState Stored)). length l) c.hops.ensures, length-map c.hops.result.now view) in
    omega (
      arith,
      ap (λ (h : HopState Stored). hop_size c.args.form D h) (hop_is c.args.form D s c.loop-index.index at c.loop-index.machine.state c.loop-index.invariant.state),
      c.loop-index.invariant.next,
      hops_within c.args.form D c.loop-index.index at s.hops new_hop lt,
      length-parts stored_length (stored_spelled c.args.form) (collected_state g c.args.victim zeros_at s),
      c.requires.room,
      c.requires.length,
      place_below g c.args.target c.requires.target c.requires.length,
      c.law_sound.ensures.peer_count,
      c.law_sound.ensures.params.peers,
    )

pub loop-index-init : goal.loop-index-init
loop-index-init c = record { state = refl; next = omega (arith, c.segment_place.ensures, ap (λ (l : List ℕ). length l) c.lasts.ensures) }

pub loop-index-preserved : goal.loop-index-preserved
loop-index-preserved c =
    let s = c.args.machine.now.state in
    let D : Stored → Stored = collected_blank c.args.geometry.now c.args.victim in
    let view : Hop Stored → HopState Stored = hop_state in
    let at : ℕ = segment_place c.args.geometry.now c.args.target + 21 + 8 * length s.lasts in
    let lt : c.loop-index.index < length s.hops = omega (arith, c.loop-index-test.true, ap (λ (l : List (HopState Stored)). length l) c.hops.ensures, length-map c.hops.result.now view) in
    record {
      state = c.relocate_hop-at.ensures.state ∙ hop_settled c.args.form D s c.loop-index.index at c.loop-index.machine.state c.loop-index.invariant.state c.loop-index.at c.loop-index.invariant.next lt;
      next = omega (
        arith,
        c.relocate_hop-at.ensures.next,
        ap (λ (h : HopState Stored). hop_size c.args.form D h) (hop_is c.args.form D s c.loop-index.index at c.loop-index.machine.state c.loop-index.invariant.state),
        c.loop-index.invariant.next,
        hops_past_next c.args.form D c.loop-index.index at s.hops new_hop lt,
      );
    }

pub returns : goal.returns
returns c =
    let s = c.args.machine.now.state in
    let D : Stored → Stored = collected_blank c.args.geometry.now c.args.victim in
    let view : Hop Stored → HopState Stored = hop_state in
    let at : ℕ = segment_place c.args.geometry.now c.args.target + 21 + 8 * length s.lasts in
    let all : length s.hops ≤ c.loop-index.index = omega (arith, c.loop-index-test.false, ap (λ (l : List (HopState Stored)). length l) c.hops.ensures, length-map c.hops.result.now view) in
    c.loop-index.invariant.state ∙ ap (hops_so_far c.args.form D s c.loop-index.index at s) (hops_all c.args.form D c.loop-index.index at s.hops all)
