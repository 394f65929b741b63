use Rattle.std.proofs.Common.{◌≡◌, ◌≤◌, ◌+◌, IfSome, length, vec_capacity}
use Rattle.std.specs.List.{AllByRecursion}
use Rattle.std.specs.Vec.Iter.{into_iter_items, into_iter_len}
use Rattle.rly_line.specs.EndViews.{names_of}
use Rattle.rly_threads.specs.HelpersCut.{AreSeatsOf, GivesBack, IsJoined}
use Rattle.rly_threads.proofs.Threads.{Each}
use Rattle.rly_threads.proofs.relay.join_all.Given as goal

-- there is room for the remaining results, each remaining thread read the same flag and has a seat of the queues,
-- which stay, and each so far returned the promised result
abbrev pub invariant-loop-thread : goal.invariant-loop-thread
invariant-loop-thread g l =
    (into_iter_len l.thread-iterator ≡ length (into_iter_items l.thread-iterator))
    × (length l.ended.items + length (into_iter_items l.thread-iterator) ≤ vec_capacity l.ended)
    × AllByRecursion (λ thread. IfSome thread (λ t. t.promise.stop_flag.value.id ≡ l.fn.said.of)) (into_iter_items l.thread-iterator)
    × AreSeatsOf l.fn.lines.of (names_of l.fn.lines.lines) (into_iter_items l.thread-iterator)
    × (l.lines ≡ l.fn.lines)
    × Each (GivesBack (IsJoined g.L.Link.heard g.L.Link.sent g.T.Turn.told g.T.Turn.endless g.W.Waker.woken l.fn.said.value l.fn.lines)) l.fn.threads.items (into_iter_items l.thread-iterator) l.ended.items
