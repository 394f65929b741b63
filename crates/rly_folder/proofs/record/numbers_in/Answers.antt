use Rattle.std.proofs.Common.{append-nil, sym, take_all}
use Rattle.std.proofs.lemmas.List.Filters.{dedup_is}
use Rattle.rly_folder.proofs.Listing.{listing, numbers_step}
use Rattle.rly_folder.proofs.record.numbers_in.Goals as goal
use Rattle.rly_folder.proofs.record.numbers_in.Goals.{in-Some+in_ok-push, in_default}

pub loop-event-preserved : goal.loop-event-preserved
loop-event-preserved c =
    numbers_step c.args.events.now c.args.area c.loop-event.event-index c.event-item.result c.loop-event.numbers.items _ c.loop-event-test.true
    c.event-item.is c.loop-event.invariant (elim c.match-listed_number.branch [
      | in-Some+in_ok-push w ↦ rw (w.numbers-is, ← c.listed_number.ensures, w.in-Some.is) w.in_ok-push.ensures.items
      | in_default w ↦ rw (w.numbers-is, ← c.listed_number.ensures, w.in_default.is) (sym (append-nil c.loop-event.numbers.items))
    ])

pub returns : goal.returns
returns c = listing c.args.area c.args.events.now c.sort.new.self.items _
    (rw (take_all _ _ c.loop-event-test.false) at (rw c.loop-event.invariant at c.in_ok-sort.ensures.permutation))
    c.in_ok-sort.ensures.sorted (dedup_is _ _ _ c.dedup.ensures.filtered)
