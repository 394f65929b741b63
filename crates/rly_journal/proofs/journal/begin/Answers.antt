use Rattle.rly_journal.proofs.Common.{IsRefused, only_made, opening_broken, read_again, read_all, read_broken, refl, rules, sync_broken}
use Rattle.rly_journal.proofs.journal.begin.Goals as goal

pub returns-in_default-clause-trace : goal.returns-in_default-clause-trace
returns-in_default-clause-trace g c = sync_broken g.D.Disk.state (search rules)

pub returns-in-Err-clause-refused : goal.returns-in-Err-clause-refused
returns-in-Err-clause-refused g c =
    read_again (λ image. IsRefused image c.in-Err.fault) (only_made g.D.Disk.state g.met.D.Disk.consistent refl c.in-Ok.ensures.trace) c.in-Err.ensures.refused

pub returns-in-Err-clause-trace : goal.returns-in-Err-clause-trace
returns-in-Err-clause-trace g c = read_broken g.D.Disk.state c.in-Ok.ensures.trace c.in-Err.ensures.trace

pub returns-in-Err-make_room-clause-trace : goal.returns-in-Err-make_room-clause-trace
returns-in-Err-make_room-clause-trace g c =
    let read = read_all g.D.Disk.state c.in-Ok.ensures.trace c.in-Ok-recover.found.tail c.in-Ok-recover.ensures.trace in
    opening_broken g.D.Disk.state read.0 read.2

pub returns-in-Ok-make_room-clause-trace : goal.returns-in-Ok-make_room-clause-trace
returns-in-Ok-make_room-clause-trace g c = read_all g.D.Disk.state c.in-Ok.ensures.trace c.in-Ok-recover.found.tail c.in-Ok-recover.ensures.trace
