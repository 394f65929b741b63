use Rattle.rly_gate.proofs.Common.{arith, sym, ◌∙◌}
use Rattle.rly_gate.proofs.Holding.{too_long}
use Rattle.rly_gate.proofs.read.read_length.Goals as goal

pub returns-then-from-room-clause-read : goal.returns-then-from-room-clause-read
returns-then-from-room-clause-read g c honest = too_long _ c.args.at c.args.end c.length_in-length.result (omega (arith, c.length_in-length.type_inv))
    (sym (c.in-Ok.ensures.read honest) ∙ sym c.length_in-length.ensures) (omega (arith, c.from.ensures))
