use Rattle.std.proofs.Common.{ℕ, arith, length, ap, ◌∙◌}
use Rattle.rly_machine.specs.State.{State}
use Rattle.rly_segment_checkpoint.specs.Checkpoint.{state_spelled}
use Rattle.rly_segment_checkpoint.specs.Stored.{stored_length, stored_spelled}
use Rattle.rly_segment_checkpoint.specs.declared.stored.Stored.{Stored}
use Rattle.rly_segment.specs.HeadAddresses.{state_in_head}
use Rattle.rly_journal_relocate.proofs.AsRead.{all_there, none_drawn}
use Rattle.rly_journal_relocate.proofs.read_payloads.relocate_read.Goals as goal

pub relocate_all-requires-clause-lies : goal.relocate_all-requires-clause-lies
relocate_all-requires-clause-lies c = all_there c.args.geometry.now c.args.segment c.args.machine.now.state c.requires.elsewhere

pub relocate_all-requires-clause-room : goal.relocate_all-requires-clause-room
relocate_all-requires-clause-room c =
    let size : State Stored → ℕ = λ s. length (state_spelled stored_length (stored_spelled c.args.form) s) in
    omega (arith, c.requires.room, ap size (none_drawn c.args.geometry.now c.args.segment c.args.machine.now.state c.requires.elsewhere))

pub returns : goal.returns
returns c =
    c.relocate_all.ensures
    ∙ ap (state_in_head c.args.form c.args.geometry.now c.args.segment) (none_drawn c.args.geometry.now c.args.segment c.args.machine.now.state c.requires.elsewhere)
