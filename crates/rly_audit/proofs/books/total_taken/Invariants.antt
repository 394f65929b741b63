use Rattle.std.proofs.Common.{◌≡◌, ◌*◌, ◌≤◌, sum_by, take}
use Rattle.rly_audit.proofs.books.total_taken.Given as goal

abbrev pub invariant-loop-status : goal.invariant-loop-status
invariant-loop-status l = (l.total ≡ sum_by (λ h. h.taken) (take l.status-index l.hops)) × (l.total ≤ 18446744073709551616 * l.status-index)
