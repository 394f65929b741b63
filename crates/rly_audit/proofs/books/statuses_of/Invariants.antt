use Rattle.std.proofs.Common.{◌≡◌, map, take}
use Rattle.rly_machine.specs.Query.{status_of}
use Rattle.rly_audit.proofs.books.statuses_of.Given as goal

abbrev pub invariant-loop-index : goal.invariant-loop-index
invariant-loop-index g l = l.statuses.items ≡ map status_of (take l.index l.journal.state.hops)
