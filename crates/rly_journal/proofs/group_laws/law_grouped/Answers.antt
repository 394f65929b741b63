use Rattle.std.proofs.Common.{arith}
use Rattle.rly_journal.proofs.Brought.{grouped_commands, grouped_outside, grouped_stands}
use Rattle.rly_journal.proofs.group_laws.law_grouped.Goals as goal

pub returns-clause-stands : goal.returns-clause-stands
returns-clause-stands g c gate end commands group holds count made honest fits below =
    grouped_stands g.D.Disk.state gate commands group holds count made honest (g.met.D.Disk.consistent c.args.old.now honest) (omega (arith, fits, below)) end fits

pub returns-clause-outside : goal.returns-clause-outside
returns-clause-outside g c gate commands group holds count made honest room =
    grouped_outside g.D.Disk.state gate commands group holds count made honest (g.met.D.Disk.consistent c.args.old.now honest) room

pub returns-clause-commands : goal.returns-clause-commands
returns-clause-commands g c gate commands group holds count made honest room =
    grouped_commands g.D.Disk.state gate commands group holds count made honest (g.met.D.Disk.consistent c.args.old.now honest) room
