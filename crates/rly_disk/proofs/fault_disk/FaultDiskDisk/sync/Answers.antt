use Rattle.rly_disk.proofs.Common.{[], arith, Err, fault_state, is_ok, refl, rules, Sync, true, ◌≡◌}
use Rattle.rly_disk.proofs.Making.{made_row, makes_later, makes_settled, quiet_new, synced_sync}
use Rattle.rly_disk.proofs.Traces.{not_counted, sync_makes}
use Rattle.rly_disk.proofs.fault_disk.FaultDiskDisk.sync.Goals as goal

pub returns-then-is_spent-clause-trace : goal.returns-then-is_spent-clause-trace
returns-then-is_spent-clause-trace g c = not_counted (fault_state g.D.Disk.state) Sync [] (c.is_spent.ensures.0 c.if-is_spent.true)

pub returns-then-fails_next-clause-trace : goal.returns-then-fails_next-clause-trace
returns-then-fails_next-clause-trace g c =
    sync_makes (fault_state g.D.Disk.state) {E = Unit {0}} (Err tt) (search rules) (search rules) (search rules) (search rules) (search rules) (search rules)

pub returns-clause-trace : goal.returns-clause-trace
returns-clause-trace g c =
    let made = c.sync-outcome.ensures.trace in
    sync_makes (fault_state g.D.Disk.state) c.sync-outcome.result (search rules) (search rules) (search (rules, makes_later g.D.Disk.state made))
    (λ honest. assumption (quiet_new g.D.Disk.state made refl honest (g.met.D.Disk.consistent _ honest)))
    (λ honest. let settled = λ (done : is_ok c.sync-outcome.result ≡ true). makes_settled g.D.Disk.state (rw done at made) synced_sync honest
    (g.met.D.Disk.consistent _) in grind (arith, settled)) (λ honest. let row = made_row made in grind (arith, (made.leads.follows honest).still))
