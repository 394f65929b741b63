use Rattle.rly_segment.proofs.Common.{◌∙◌, arith, refl, sym}
use Rattle.rly_segment.proofs.HeaderFields.{gate_at_front, number_in_front}
use Rattle.rly_segment.proofs.generations.read_gate.Goals as goal

pub returns-then-start-clause-read : goal.returns-then-start-clause-read
returns-then-start-clause-read g c honest =
    let is = c.in_ok-fill.ensures.read honest in
    let gate = sym (gate_at_front (g.D.Disk.state c.args.disk.now).seen c.fill.new.buffer c.args.place 9 is (omega arith)) ∙ c.if-start.true in
    (gate, c.number_in.ensures ∙ number_in_front (g.D.Disk.state c.args.disk.now).seen c.fill.new.buffer c.args.place 9 is 1 8 refl)
