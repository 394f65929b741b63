use Rattle.rly_disk.proofs.Common.{[], arith, Err, fault_state, Read, refl, rules}
use Rattle.rly_disk.proofs.Making.{made_row, makes_later, quiet_new}
use Rattle.rly_disk.proofs.Traces.{not_counted, read_makes}
use Rattle.rly_disk.proofs.fault_disk.FaultDiskDisk.read_at.Goals as goal

pub returns-then-is_spent-clause-trace : goal.returns-then-is_spent-clause-trace
returns-then-is_spent-clause-trace g c = not_counted (fault_state g.D.Disk.state) (Read _ _) [] (c.is_spent.ensures.0 c.if-is_spent.true)

pub returns-then-fails_next-clause-trace : goal.returns-then-fails_next-clause-trace
returns-then-fails_next-clause-trace g c =
    read_makes (fault_state g.D.Disk.state) {E = Unit {0}} _ _ (Err tt) (search rules) (search rules) (search rules) (search rules) (search rules)

pub returns-clause-trace : goal.returns-clause-trace
returns-clause-trace g c =
    let made = c.read_at-outcome.ensures.trace in
    read_makes (fault_state g.D.Disk.state) _ _ c.read_at-outcome.result (search rules) (search rules) (search (rules, makes_later g.D.Disk.state made))
    (λ honest. assumption (quiet_new g.D.Disk.state made refl honest (g.met.D.Disk.consistent _ honest)))
    (λ honest. let row = made_row made in (made.leads.follows honest).still (grind arith))
