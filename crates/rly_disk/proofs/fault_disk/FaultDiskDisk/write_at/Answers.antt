use Rattle.rly_disk.proofs.Common.{[], arith, Err, fault_state, is_ok, length, length-take, rules, take_min, true, Write, ◌≡◌}
use Rattle.rly_disk.proofs.Making.{makes_later, makes_seen, write_written}
use Rattle.rly_disk.proofs.Traces.{not_counted, write_makes}
use Rattle.rly_disk.proofs.fault_disk.FaultDiskDisk.write_at.Goals as goal

pub returns-then-is_spent-clause-trace : goal.returns-then-is_spent-clause-trace
returns-then-is_spent-clause-trace g c = not_counted (fault_state g.D.Disk.state) (Write _ _) [] (c.is_spent.ensures.0 c.if-is_spent.true)

pub returns-then-fails_next-clause-trace : goal.returns-then-fails_next-clause-trace
returns-then-fails_next-clause-trace g c = write_makes (fault_state g.D.Disk.state) {E = Unit {0}} _ _ (Err tt) (search rules) (search rules) (search rules)
    (search (rules, makes_later g.D.Disk.state c.write_at.ensures.trace)) (λ honest. assumption (g.met.D.Disk.consistent c.args.self.now.inner honest))
    (λ honest. assumption (write_written g.D.Disk.state _ (length c.args.bytes.now) _ (omega (arith, length-take c.min-put.result c.args.bytes.now))
    c.write_at.ensures.trace honest (g.met.D.Disk.consistent _ honest) (search rules))) (search rules)

pub returns-then-fails_next-clause-put : goal.returns-then-fails_next-clause-put
returns-then-fails_next-clause-put g c chosen counted =
    (is_ok c.write_at.result, rw (c.min-put.ensures, take_min c.args.self.now.torn c.args.bytes.now) at c.write_at.ensures.trace)

pub returns-clause-trace : goal.returns-clause-trace
returns-clause-trace g c =
    let made = c.write_at-outcome.ensures.trace in
    write_makes (fault_state g.D.Disk.state) _ _ c.write_at-outcome.result (search rules) (search rules) (search rules)
    (search (rules, makes_later g.D.Disk.state made)) (λ honest. assumption (g.met.D.Disk.consistent c.args.self.now.inner honest)) (λ honest. assumption
    (write_written g.D.Disk.state _ (length c.args.bytes.now) _ (omega arith) made honest (g.met.D.Disk.consistent _ honest) (search rules)))
    (λ honest. grind (arith, λ (done : is_ok c.write_at-outcome.result ≡ true). makes_seen g.D.Disk.state (rw done at made) honest))
