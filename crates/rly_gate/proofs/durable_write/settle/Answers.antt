use Rattle.rly_gate.proofs.Common.{arith, cut_short, makes_front, makes_joined}
use Rattle.std.proofs.lemmas.Bool.Decides.{nat_tests}
use Rattle.rly_gate.proofs.Appending.{settling_some}
use Rattle.rly_gate.proofs.durable_write.settle.Goals as goal

pub returns-in_err-write_at : goal.returns-in_err-write_at
returns-in_err-write_at g c = cut_short _ _ c.from_residual.ensures.0
    (rw (settling_some c.args.at c.args.bytes.now (λ none. grind (arith, nat_tests))) (makes_front _ _ _ c.in_err-write_at.ensures.trace))

pub returns : goal.returns
returns g c = rw (settling_some _ c.args.bytes.now (grind (arith, nat_tests))) (makes_joined _ _ _ _ c.in_ok-write_at.ensures.trace c.sync-2.ensures.trace)
