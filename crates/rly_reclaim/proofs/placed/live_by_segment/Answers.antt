use Rattle.std.proofs.Common.{ℕ, ◌≡◌, ◌<◌, ◌≤◌, ◌∙◌, List, ap, arith, length, map, refl, sum_by, sym, take}
use Rattle.std.proofs.lemmas.List.{ext_get_or, get_or-replicate, get_or-take, length-map, length-take-le, take_all}
use Rattle.rly_machine.proofs.Restoring.{counted_le, counted_more}
use Rattle.rly_machine.specs.declared.hop.Hop.{Hop}
use Rattle.rly_machine.specs.Kept.{hop_state}
use Rattle.rly_machine.specs.State.{HopState, bytes_of, live_line}
use Rattle.rly_segment_checkpoint.specs.declared.stored.Stored.{Stored}
use Rattle.rly_reclaim.specs.Places.{bytes_in, live_by_segment}
use Rattle.rly_reclaim.proofs.Placing.{few_live, hop_is_short}
use Rattle.rly_reclaim.proofs.LiveRooms.{live_at, live_length}
use Rattle.rly_reclaim.proofs.placed.live_by_segment.Goals as goal

pub add_hop-requires-clause-count : goal.add_hop-requires-clause-count
add_hop-requires-clause-count c =
    hop_is_short c.args.machine.now.state c.law_sound.ensures c.hops-hops.result.now c.loop-hop.hop-index c.hop-item.result c.hops-hops.ensures c.loop-hop-test.true c.hop-item.is

pub add_hop-requires-clause-fits : goal.add_hop-requires-clause-fits
add_hop-requires-clause-fits c t lt =
    let w : HopState Stored → ℕ = λ h. bytes_of (bytes_in c.args.geometry.now t) (live_line h) in
    omega (
      arith,
      c.loop-hop.invariant.added t (omega (arith, lt, c.loop-hop.invariant.size)),
      counted_le w c.hops-hops.result.now c.loop-hop.hop-index c.hop-item.result c.loop-hop-test.true c.hop-item.is,
      ap (sum_by w) c.hops-hops.ensures,
      few_live c.args.geometry.now t c.args.machine.now.state c.law_sound.ensures,
    )

pub loop-hop-init : goal.loop-hop-init
loop-hop-init c = record { size = refl; added = λ t lt. get_or-replicate 256 t 0 0 lt }

pub loop-hop-preserved : goal.loop-hop-preserved
loop-hop-preserved c = record {
  size = omega (arith, c.add_hop.auto.live, c.loop-hop.invariant.size);
  added = λ t lt.
      let w : HopState Stored → ℕ = λ h. bytes_of (bytes_in c.args.geometry.now t) (live_line h) in
      omega (
        arith,
        c.loop-hop.invariant.added t lt,
        c.add_hop.ensures t (omega (arith, lt, c.loop-hop.invariant.size)),
        counted_more w c.hops-hops.result.now c.loop-hop.hop-index c.hop-item.result c.loop-hop-test.true c.hop-item.is,
      );
}

pub returns : goal.returns
returns c =
    let g = c.args.geometry.now in
    let s = c.args.machine.now.state in
    let live : List ℕ = c.loop-hop.live in
    let view : Hop Stored → HopState Stored = hop_state in
    let hops = c.hops-hops.result.now in
    let size : length (take g.segments live) ≡ g.segments = length-take-le g.segments live (omega (arith, c.requires.segments.1, c.loop-hop.invariant.size)) in
    let end : length (map view hops) ≤ c.loop-hop.hop-index = omega (arith, length-map hops view, c.loop-hop-test.false) in
    let whole : take c.loop-hop.hop-index (map view hops) ≡ s.hops = take_all c.loop-hop.hop-index (map view hops) end ∙ c.hops-hops.ensures in
    ext_get_or 0 (take g.segments live) (live_by_segment g s) (size ∙ sym (live_length g s))
    (λ t lt.
    let below : t < g.segments = omega (arith, lt, size) in
    let w : HopState Stored → ℕ = λ h. bytes_of (bytes_in g t) (live_line h) in
    get_or-take g.segments live t 0 below ∙ c.loop-hop.invariant.added t (omega (arith, below, c.requires.segments.1)) ∙ ap (sum_by w) whole ∙ sym (live_at g s t below))
