use Rattle.std.proofs.Common.{◌<◌, ℕ, List, length, take, arith, sym, ap, ◌∙◌}
use Rattle.std.proofs.lemmas.Result.{err_from_is_err_and}
use Rattle.rly_machine.specs.Kept.{hop_state}
use Rattle.rly_machine.specs.Map.{map_item}
use Rattle.rly_machine.specs.State.{live_line}
use Rattle.rly_machine.specs.declared.hop.Item.{Item}
use Rattle.rly_segment_checkpoint.specs.declared.stored.Stored.{Stored}
use Rattle.rly_journal_relocate.specs.Collection.{blank_payload}
use Rattle.rly_journal_relocate.specs.HelpersCollection.{blank_items, collected_blank, collected_in, items_reads, names, part_of}
use Rattle.rly_journal_relocate.proofs.Copies.{copied_more, part_at, part_length, seen_more}
use Rattle.rly_journal_relocate.proofs.Rows.{all_are_reads, items_broken, items_next, still}
use Rattle.rly_journal_relocate.proofs.lines.collect_items.Goals as goal

pub returns-in_err-payload-clause-trace : goal.returns-in_err-payload-clause-trace
returns-in_err-payload-clause-trace g c =
    let h = hop_state c.args.hop.now in
    let part : List (Item Stored) = part_of h c.args.from c.args.count in
    let n = c.loop-index.index in
    let item = c.live_at-item.result.now in
    let lt : n < length part = omega (arith, part_length (live_line h) c.args.from c.args.count c.requires.within, c.loop-index-test.true) in
    let is = part_at (live_line h) c.args.from c.args.count n item c.loop-index-test.true c.live_at-item.ensures in
    let told = err_from_is_err_and c.from_residual-in_err-payload.result c.from_residual-in_err-payload.ensures.1 in
    rw (told.1, told.2)
    (items_broken g.D.Disk.state c.args.geometry.now c.args.victim ℕ ℕ c.args.disk.now c.loop-index.disk c.collect_payload.new.disk part n item c.in_err-payload.field-0.0 lt is
    c.loop-index.invariant.made c.in_err-payload.ensures.trace)

pub loop-index-preserved : goal.loop-index-preserved
loop-index-preserved g c =
    let G = c.args.geometry.now in
    let v = c.args.victim in
    let h = hop_state c.args.hop.now in
    let part : List (Item Stored) = part_of h c.args.from c.args.count in
    let n = c.loop-index.index in
    let item = c.live_at-item.result.now in
    let seen = (g.D.Disk.state c.args.disk.now).seen in
    let carrying : Stored → Item Stored = λ p. record { id = item.id; stamp = item.stamp; limit = item.limit; payload = p } in
    let lt : n < length part = omega (arith, part_length (live_line h) c.args.from c.args.count c.requires.within, c.loop-index-test.true) in
    let is = part_at (live_line h) c.args.from c.args.count n item c.loop-index-test.true c.live_at-item.ensures in
    record {
      drawn = λ honest.
          let same = still g.D.Disk.state (items_reads G v (take n part)) (all_are_reads G v (names (take n part))) c.loop-index.invariant.made honest (g.met.D.Disk.consistent c.args.disk.now honest) in
          c.push_reserved.ensures.items
          ∙ copied_more (map_item (collected_in seen G v)) c.loop-index.items.items part n (carrying c.in_ok-payload.payload) item (c.loop-index.invariant.drawn honest)
          (ap carrying (c.in_ok-payload.ensures.drawn seen same.0 (sym same.1))) lt is;
      lengths = ap blank_items c.push_reserved.ensures.items
          ∙ seen_more (map_item blank_payload) (map_item (collected_blank G v)) c.loop-index.items.items part n (carrying c.in_ok-payload.payload) item c.loop-index.invariant.lengths
          (ap carrying c.in_ok-payload.ensures.lengths) lt is;
      made = items_next g.D.Disk.state G v part n item lt is c.loop-index.invariant.made c.in_ok-payload.ensures.trace;
      room = omega (arith, c.push_reserved.ensures.len, c.push_reserved.ensures.capacity, c.loop-index.invariant.room, c.loop-index-test.true);
    }
