use Rattle.rly_segment.proofs.Common.{arith}
use Rattle.rly_segment.proofs.Greater.{greater_closed, greater_kept, greater_replaced}
use Rattle.rly_segment.proofs.generations.greater.Goals as goal

pub returns-in_default-clause-found : goal.returns-in_default-clause-found
returns-in_default-clause-found c image g is read = greater_closed image g c.args.segment c.args.found is (rw c.in_default.is at read)

pub returns-then-generation-greatest-clause-found : goal.returns-then-generation-greatest-clause-found
returns-then-generation-greatest-clause-found c image g is read =
    let opened = rw c.in-Some.is at read in greater_kept image g c.args.segment (rw c.in-Some-found.is at is) (λ _. omega (arith, opened.1))

pub returns-clause-found : goal.returns-clause-found
returns-clause-found c image g is read = greater_replaced image g c.args.segment (rw c.in-Some-found.is at is) (rw c.in-Some.is at read) (omega arith)
