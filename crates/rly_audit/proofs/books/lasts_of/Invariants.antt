use Rattle.std.proofs.Common.{◌≡◌, take}
use Rattle.rly_audit.proofs.books.lasts_of.Given as goal

abbrev pub invariant-loop-index : goal.invariant-loop-index
invariant-loop-index g l = l.lasts.items ≡ take l.index l.journal.state.lasts
