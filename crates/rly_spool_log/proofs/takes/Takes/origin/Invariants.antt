use Rattle.std.proofs.Common.{◌≡◌}
use Rattle.std.specs.VecDeque.Iter.{deque_iter_rest}
use Rattle.rly_spool_log.specs.SpoolLog.{origin_in}
use Rattle.rly_spool_log.proofs.takes.Takes.origin.Given as goal

-- it is none of those so far
abbrev pub invariant-loop-stored : goal.invariant-loop-stored
invariant-loop-stored l = origin_in (deque_iter_rest l.stored-iterator) l.id l.now ≡ origin_in l.self.items l.id l.now
