use Rattle.std.proofs.Common.{◌<◌, ◌^◌, ◌∷◌, [], ℕ, List, length, map, take, arith, sym, ap, ◌∙◌}
use Rattle.std.specs.Prelude.{All}
use Rattle.std.proofs.lemmas.List.{length-map, map-append}
use Rattle.std.proofs.lemmas.Result.{err_from_is_err_and}
use Rattle.std.specs.List.{flat_map}
use Rattle.rly_segment_checkpoint.proofs.Totals.{hop_among}
use Rattle.rly_machine.specs.Kept.{hop_state}
use Rattle.rly_machine.specs.Map.{map_hop}
use Rattle.rly_machine.specs.State.{HopState, live_line}
use Rattle.rly_machine.specs.declared.hop.Hop.{Hop}
use Rattle.rly_machine.specs.declared.hop.Item.{Item}
use Rattle.rly_machine.proofs.Mapping.{get_mapped}
use Rattle.rly_segment_checkpoint.specs.declared.stored.Stored.{Stored}
use Rattle.rly_journal_relocate.specs.Relocation.{LiesThere}
use Rattle.rly_journal_relocate.specs.Collection.{blank_payload}
use Rattle.rly_journal_relocate.specs.HelpersCollection.{collected_blank, collected_in, hops_reads, names}
use Rattle.rly_journal_relocate.proofs.Copies.{seen_more}
use Rattle.rly_journal_relocate.proofs.Rows.{all_are_reads, hops_broken, hops_next, still}
use Rattle.rly_journal_relocate.proofs.collection.collect_hops.Goals as goal

pub collect_hop-requires-clause-lies : goal.collect_hop-requires-clause-lies
collect_hop-requires-clause-lies g c =
    let Each : HopState Stored → Type 0 = λ h. All (λ (item : Item Stored). LiesThere c.args.geometry.now item.payload) (live_line h) in
    hop_among Each c.args.hops.now c.loop-hop.hop-index c.hop-item.result c.loop-hop-test.true c.hop-item.is c.requires.lies

pub collect_hop-requires-clause-count : goal.collect_hop-requires-clause-count
collect_hop-requires-clause-count g c =
    hop_among (λ (h : HopState Stored). length (live_line h) < 2 ^ 63) c.args.hops.now c.loop-hop.hop-index c.hop-item.result c.loop-hop-test.true c.hop-item.is c.requires.counts

pub returns-in_err-drawn-clause-trace : goal.returns-in_err-drawn-clause-trace
returns-in_err-drawn-clause-trace g c =
    let view : Hop Stored → HopState Stored = hop_state in
    let hops : List (HopState Stored) = map view c.args.hops.now in
    let n = c.loop-hop.hop-index in
    let lt : n < length hops = omega (arith, length-map c.args.hops.now view, c.loop-hop-test.true) in
    let is = ap view c.hop-item.is ∙ sym (get_mapped view c.args.hops.now n c.hop-item.result) in
    let told = err_from_is_err_and c.from_residual-in_err-drawn.result c.from_residual-in_err-drawn.ensures.1 in
    rw (told.1, told.2)
    (hops_broken g.D.Disk.state c.args.geometry.now c.args.victim ℕ ℕ c.args.disk.now c.loop-hop.disk c.collect_hop.new.disk hops n (view c.hop-item.result) c.in_err-drawn.field-0.0 lt is
    c.loop-hop.invariant.made c.in_err-drawn.ensures.trace)

pub loop-hop-preserved : goal.loop-hop-preserved
loop-hop-preserved g c =
    let G = c.args.geometry.now in
    let v = c.args.victim in
    let view : Hop Stored → HopState Stored = hop_state in
    let hops : List (HopState Stored) = map view c.args.hops.now in
    let n = c.loop-hop.hop-index in
    let seen = (g.D.Disk.state c.args.disk.now).seen in
    let lt : n < length hops = omega (arith, length-map c.args.hops.now view, c.loop-hop-test.true) in
    let is = ap view c.hop-item.is ∙ sym (get_mapped view c.args.hops.now n c.hop-item.result) in
    let before : List (Hop Stored) = c.loop-hop.copy.items in
    record {
      drawn = λ honest.
          let ps : List Stored = flat_map (λ h. names (live_line h)) (take n hops) in
          let same = still g.D.Disk.state (hops_reads G v (take n hops)) (all_are_reads G v ps) c.loop-hop.invariant.made honest (g.met.D.Disk.consistent c.args.disk.now honest) in
          ap (λ (l : List (Hop Stored)). map view l) c.push_reserved.ensures.items
          ∙ seen_more view (map_hop (collected_in seen G v)) before hops n c.in_ok-drawn.drawn (view c.hop-item.result) (c.loop-hop.invariant.drawn honest)
          (c.in_ok-drawn.ensures.drawn seen same.0 (sym same.1)) lt is;
      lengths = ap (λ (l : List (Hop Stored)). map (map_hop blank_payload) (map view l)) c.push_reserved.ensures.items
          ∙ ap (λ (l : List (HopState Stored)). map (map_hop blank_payload) l) (map-append view before (c.in_ok-drawn.drawn ∷ []))
          ∙ seen_more (map_hop blank_payload) (map_hop (collected_blank G v)) (map view before) hops n (view c.in_ok-drawn.drawn) (view c.hop-item.result) c.loop-hop.invariant.lengths
          c.in_ok-drawn.ensures.lengths lt is;
      made = hops_next g.D.Disk.state G v hops n (view c.hop-item.result) lt is c.loop-hop.invariant.made c.in_ok-drawn.ensures.trace;
      room = omega (arith, c.push_reserved.ensures.len, c.push_reserved.ensures.capacity, c.loop-hop.invariant.room, c.loop-hop-test.true);
    }
