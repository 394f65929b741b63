use Rattle.std.proofs.Common.{◌≡◌, ◌≤◌, ◌+◌, length, vec_capacity}
use Rattle.std.specs.Iterator.Adapters.{zip_first, zip_second}
use Rattle.std.specs.List.{zip}
use Rattle.std.specs.Vec.Iter.{into_iter_items, into_iter_len}
use Rattle.rly_threads.specs.HelpersCut.{IsFor}
use Rattle.rly_threads.proofs.Threads.{Each}
use Rattle.rly_threads.proofs.relay.start_all.Given as goal

-- as many seats as posts remain, there is room for a thread for each, and each post so far has one at its seat,
-- unless it was refused
abbrev pub invariant-loop-seat : goal.invariant-loop-seat
invariant-loop-seat g l =
    (into_iter_len (zip_first l.seat-iterator) ≡ length (into_iter_items (zip_second l.seat-iterator)))
    × (into_iter_len (zip_second l.seat-iterator) ≡ length (into_iter_items (zip_second l.seat-iterator)))
    × (length l.threads.items + length (into_iter_items (zip_second l.seat-iterator)) ≤ vec_capacity l.threads)
    × Each (IsFor l.fn.plan l.fn.params l.fn.stop_flag.id)
    (zip (into_iter_items (zip_second l.initial.seat-iterator)) (into_iter_items (zip_first l.initial.seat-iterator)))
    (zip (into_iter_items (zip_second l.seat-iterator)) (into_iter_items (zip_first l.seat-iterator))) l.threads.items
