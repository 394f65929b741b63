use Rattle.std.proofs.Common.{refl}
use Rattle.rly_daemon.proofs.Outcomes.{command_ok, may_be_over, never_over, then_both, then_ok}
use Rattle.rly_daemon.proofs.program.obey.Goals as goal

pub returns-in-Sim-clause-done : goal.returns-in-Sim-clause-done
returns-in-Sim-clause-done g c = rw c.in-Sim.is (rw c.of.ensures.same (command_ok _ c.run_sim.result (then_both c.run_sim.result c.run_sim.ensures.limits c.run_sim.ensures.written (λ limits written. (limits, written, refl)))))

-- the reader was left unchanged
pub returns-in-Format-clause-done : goal.returns-in-Format-clause-done
returns-in-Format-clause-done g c = rw c.in-Format.is (rw c.of-in-Format.ensures.same (command_ok _ c.run_format.result (then_ok c.run_format.result c.run_format.ensures.formatted (λ formatted. (refl, formatted, refl)))))

pub returns-in-Play-clause-done : goal.returns-in-Play-clause-done
returns-in-Play-clause-done g c = rw c.in-Play.is (rw c.of-in-Play.ensures.same (command_ok _ c.run_play.result (then_ok c.run_play.result c.run_play.ensures.played (λ played. (played, refl)))))

pub returns-in-Audit-clause-done : goal.returns-in-Audit-clause-done
returns-in-Audit-clause-done g c = rw c.in-Audit.is (rw c.of-in-Audit.ensures.same (command_ok _ c.run_audit.result (then_ok c.run_audit.result c.run_audit.ensures.reported (λ reported. (refl, reported, refl)))))

pub returns-in-Serve-clause-done : goal.returns-in-Serve-clause-done
returns-in-Serve-clause-done g c = rw c.in-Serve.is (rw c.of-in-Serve.ensures.same (command_ok _ c.run_serving.result (then_ok c.run_serving.result c.run_serving.ensures.served (λ served. (refl, served)))))

-- these have no limits
pub returns-in-Play-clause-refused : goal.returns-in-Play-clause-refused
returns-in-Play-clause-refused g c = rw c.in-Play.is (λ out. absurd out)

pub returns-in-Audit-clause-refused : goal.returns-in-Audit-clause-refused
returns-in-Audit-clause-refused g c = rw c.in-Audit.is (λ out. absurd out)

pub returns-in-Serve-clause-refused : goal.returns-in-Serve-clause-refused
returns-in-Serve-clause-refused g c = rw c.in-Serve.is (λ out. absurd out)

pub returns-in-Plan-clause-refused : goal.returns-in-Plan-clause-refused
returns-in-Plan-clause-refused g c = rw c.in-Plan.is (λ out. absurd out)

pub returns-in-Plan-clause-done : goal.returns-in-Plan-clause-done
returns-in-Plan-clause-done g c = rw c.in-Plan.is (rw c.of-in-Plan.ensures.same (command_ok _ c.run_plan.result (then_ok c.run_plan.result c.run_plan.ensures.told (λ told. (refl, told)))))

pub returns-in-Key-clause-done : goal.returns-in-Key-clause-done
returns-in-Key-clause-done g c = rw c.in-Key.is (rw c.of-in-Key.ensures.same (command_ok _ c.new_key.result (then_ok c.new_key.result c.new_key.ensures.written (λ written. (refl, written, refl)))))

pub returns-in-Put-clause-done : goal.returns-in-Put-clause-done
returns-in-Put-clause-done g c = rw c.in-Put.is (then_ok c.put_files.result c.put_files.ensures.put (λ put. (put, refl, refl)))

pub returns-in-Get-clause-done : goal.returns-in-Get-clause-done
returns-in-Get-clause-done g c = rw c.in-Get.is (then_ok c.get_files.result c.get_files.ensures.printed (λ printed. (refl, printed, refl)))

pub returns-in-Put-clause-refused : goal.returns-in-Put-clause-refused
returns-in-Put-clause-refused g c = rw c.in-Put.is (λ out. absurd out)

pub returns-in-Get-clause-refused : goal.returns-in-Get-clause-refused
returns-in-Get-clause-refused g c = rw c.in-Get.is (λ out. absurd out)

-- only a put waits
pub returns-in-Sim-clause-over : goal.returns-in-Sim-clause-over
returns-in-Sim-clause-over g c = never_over _ c.of.result c.of.ensures.over

pub returns-in-Format-clause-over : goal.returns-in-Format-clause-over
returns-in-Format-clause-over g c = never_over _ c.of-in-Format.result c.of-in-Format.ensures.over

pub returns-in-Play-clause-over : goal.returns-in-Play-clause-over
returns-in-Play-clause-over g c = never_over _ c.of-in-Play.result c.of-in-Play.ensures.over

pub returns-in-Audit-clause-over : goal.returns-in-Audit-clause-over
returns-in-Audit-clause-over g c = never_over _ c.of-in-Audit.result c.of-in-Audit.ensures.over

pub returns-in-Serve-clause-over : goal.returns-in-Serve-clause-over
returns-in-Serve-clause-over g c = never_over _ c.of-in-Serve.result c.of-in-Serve.ensures.over

pub returns-in-Key-clause-over : goal.returns-in-Key-clause-over
returns-in-Key-clause-over g c = never_over _ c.of-in-Key.result c.of-in-Key.ensures.over

pub returns-in-Plan-clause-over : goal.returns-in-Plan-clause-over
returns-in-Plan-clause-over g c = never_over _ c.of-in-Plan.result c.of-in-Plan.ensures.over

pub returns-in-Get-clause-over : goal.returns-in-Get-clause-over
returns-in-Get-clause-over g c = never_over _ c.get_files.result c.get_files.ensures.over

pub returns-in-NetworkCheck-clause-done : goal.returns-in-NetworkCheck-clause-done
returns-in-NetworkCheck-clause-done g c = rw c.in-NetworkCheck.is (then_ok c.check_network.result c.check_network.ensures.agree (λ agree. (refl, agree, refl)))

pub returns-in-NetworkWrite-clause-done : goal.returns-in-NetworkWrite-clause-done
returns-in-NetworkWrite-clause-done g c = rw c.in-NetworkWrite.is (then_ok c.write_network.result c.write_network.ensures.written (λ printed. (refl, printed, refl)))

pub returns-in-NetworkDraw-clause-done : goal.returns-in-NetworkDraw-clause-done
returns-in-NetworkDraw-clause-done g c = rw c.in-NetworkDraw.is (then_ok c.draw_network.result c.draw_network.ensures.drawn (λ printed. (refl, printed, refl)))

pub returns-in-NetworkCheck-clause-refused : goal.returns-in-NetworkCheck-clause-refused
returns-in-NetworkCheck-clause-refused g c = rw c.in-NetworkCheck.is (λ out. absurd out)

pub returns-in-NetworkWrite-clause-refused : goal.returns-in-NetworkWrite-clause-refused
returns-in-NetworkWrite-clause-refused g c = rw c.in-NetworkWrite.is (λ out. absurd out)

pub returns-in-NetworkDraw-clause-refused : goal.returns-in-NetworkDraw-clause-refused
returns-in-NetworkDraw-clause-refused g c = rw c.in-NetworkDraw.is (λ out. absurd out)

pub returns-in-NetworkCheck-clause-over : goal.returns-in-NetworkCheck-clause-over
returns-in-NetworkCheck-clause-over g c = never_over _ c.check_network.result c.check_network.ensures.over

pub returns-in-NetworkWrite-clause-over : goal.returns-in-NetworkWrite-clause-over
returns-in-NetworkWrite-clause-over g c = never_over _ c.write_network.result c.write_network.ensures.over

pub returns-in-NetworkDraw-clause-over : goal.returns-in-NetworkDraw-clause-over
returns-in-NetworkDraw-clause-over g c = never_over _ c.draw_network.result c.draw_network.ensures.over

pub returns-in-Put-clause-over : goal.returns-in-Put-clause-over
returns-in-Put-clause-over g c = rw c.in-Put.is (may_be_over c.put_files.result)
