use Rattle.std.proofs.Common.{◌+◌, ◌≤◌, arith, subst}
use Rattle.rly_machine.specs.declared.command.Command.{Command}
use Rattle.rly_machine.specs.declared.command.Command.TheVariants.{Pick}
use Rattle.rly_machine.specs.Step.{listed_count}
use Rattle.rly_segment_checkpoint.specs.Stored.{stored_length}
use Rattle.rly_segment_checkpoint.specs.declared.stored.Stored.{Stored}
use Rattle.rly_journal_index.proofs.Listed.{listed_few}
use Rattle.rly_journal_index.proofs.segment_counters.leaving_part.Goals as goal

pub count-requires : goal.count-requires
count-requires c =
    let bounded : c.args.room.now.expired + c.args.room.now.dropped ≤ listed_count stored_length c.args.machine.now.state (Pick c.in-Pick.hop c.in-Pick.now) =
    subst (λ (command : Command Stored). c.args.room.now.expired + c.args.room.now.dropped ≤ listed_count stored_length c.args.machine.now.state command) c.in-Pick.is c.requires.bounded in
    omega (arith, bounded, listed_few c.args.machine.now.state c.in-Pick.hop c.in-Pick.now c.law_sound.ensures)
