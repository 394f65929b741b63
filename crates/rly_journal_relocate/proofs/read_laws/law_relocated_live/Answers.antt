use Rattle.std.proofs.Common.{◌+◌, ◌≤◌, arith, length}
use Rattle.rly_segment_checkpoint.specs.Checkpoint.{state_spelled}
use Rattle.rly_segment_checkpoint.specs.Stored.{stored_length, stored_spelled}
use Rattle.rly_journal_relocate.proofs.Moves.{settled_elsewhere, settled_here, settled_live}
use Rattle.rly_journal_relocate.proofs.read_laws.law_relocated_live.Goals as goal

pub returns-clause-own : goal.returns-clause-own
returns-clause-own c which g segment s within =
    let room : 13 + length (state_spelled stored_length (stored_spelled which) s) ≤ g.length = omega (arith, within) in
    omega (arith, settled_live which g segment s room segment, settled_here which g segment s room)

pub returns-clause-others : goal.returns-clause-others
returns-clause-others c which g segment other s within apart =
    let room : 13 + length (state_spelled stored_length (stored_spelled which) s) ≤ g.length = omega (arith, within) in
    omega (arith, settled_live which g segment s room other, settled_elsewhere which g segment s room other apart)
