use Rattle.std.proofs.Common.{◌≡◌, None}
use Rattle.rly_line.specs.ResponderView.{IsOneResponder}
use Rattle.rly_flush.specs.HelpersFlusher.{IsGathering, StaysCollected}
use Rattle.rly_flush.proofs.round_calls.take_more.Given as goal

-- the batches so far are those of the round, and none is kept yet
abbrev pub invariant-loop-more : goal.invariant-loop-more
invariant-loop-more g l = record {
  collected : StaysCollected l.fn.line l.line None l.fn.lists.calls.items l.lists.calls.items;
  kept : l.kept ≡ None;
  gathering : IsGathering l.lists;
  holds : IsOneResponder l.line;
}
