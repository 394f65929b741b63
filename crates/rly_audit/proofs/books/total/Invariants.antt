use Rattle.std.proofs.Common.{◌≡◌, ◌*◌, ◌≤◌, sum, take}
use Rattle.rly_audit.proofs.books.total.Given as goal

abbrev pub invariant-loop-number : goal.invariant-loop-number
invariant-loop-number l = (l.total ≡ sum (take l.number-index l.numbers)) × (l.total ≤ 18446744073709551616 * l.number-index)
