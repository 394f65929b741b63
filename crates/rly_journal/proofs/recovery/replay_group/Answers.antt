use Rattle.rly_journal.proofs.Common.{ap, arith, body_of, broken_body, err_from_is_err_and, false, front_all, group_broken, group_scan, length, MakesFront}
use Rattle.rly_journal.proofs.Common.{rules, sym, true, ℕ, ◌∙◌, ◌≡◌}
use Rattle.rly_gate.specs.declared.read.GroupFault.TheVariants.{OutOfMemory, Damaged, Device}
use Rattle.rly_journal.proofs.Recovering.{all_read, damaged, given_up, read_on, starved, unaccepted}
use Rattle.rly_journal.proofs.recovery.replay_group.Goals.{In-Ok-Some}
use Rattle.rly_journal.proofs.recovery.replay_group.Goals as goal

pub redo-requires-clause-room : goal.redo-requires-clause-room
redo-requires-clause-room g c =
    let within = rw c.in-Ok-Some.field-0-is at c.in-Ok-Some.ensures.within in
    let spelled = ap length (sym c.deref.ensures.value ∙ c.in-Ok.ensures.found) in
    rw (c.requires.ends.geometry, c.requires.ends.segment) (omega (arith, within, c.segment_end-end.ensures, spelled))

-- ---- the group wasn't read

pub returns-in-Ok-None-clause-read : goal.returns-in-Ok-None-clause-read
returns-in-Ok-None-clause-read g c start so_far =
    let by = rw c.in-Ok-None.field-0-is at c.in-Ok-None.ensures in all_read g.met.D.Disk.consistent so_far by.read by.trace.1

pub returns-in-Err-OutOfMemory-clause-read : goal.returns-in-Err-OutOfMemory-clause-read
returns-in-Err-OutOfMemory-clause-read g c start so_far =
    let made = rw c.in-Err-OutOfMemory.field-0-is at c.in-Err-OutOfMemory.ensures.trace in
    starved g.met.D.Disk.consistent so_far (group_broken _ c.segment_end-end.result ℕ OutOfMemory made)

pub returns-in-Err-Damaged-clause-read : goal.returns-in-Err-Damaged-clause-read
returns-in-Err-Damaged-clause-read g c start so_far =
    let by = rw (c.in-Err-Damaged.field-0-is, c.segment_end-end.ensures) at c.in-Err-Damaged.ensures in
    damaged g.met.D.Disk.consistent so_far (λ honest was. let none = by.read honest in broken_body _ _ _ was.read none.0 none.1)
    (group_broken _ _ ℕ Damaged by.trace)

pub returns-in-Err-Device-clause-read : goal.returns-in-Err-Device-clause-read
returns-in-Err-Device-clause-read g c start so_far =
    let made = rw c.in-Err-Device.field-0-is at c.in-Err-Device.ensures.trace in
    given_up g.met.D.Disk.consistent so_far (λ honest. tt) (group_broken _ c.segment_end-end.result ℕ Device made)

-- ---- the group was read, and isn't replayed

whole : (g : _) (c : In-Ok-Some g) → (n : ℕ) × MakesFront g.D.Disk.state (group_scan c.args.found.now.tail.gate n) true c.args.disk.now c.read_group.new.disk
whole g c = (_, front_all g.D.Disk.state (rw c.in-Ok-Some.field-0-is at c.in-Ok-Some.ensures.trace).1)

pub returns-in-Err-OutOfMemory-read_body-clause-read : goal.returns-in-Err-OutOfMemory-read_body-clause-read
returns-in-Err-OutOfMemory-read_body-clause-read g c start so_far =
    starved g.met.D.Disk.consistent so_far (whole g (goal.at.returns-in-Err-OutOfMemory-read_body-clause-read g c).In-Ok-Some)

pub returns-in_err-is_redone-clause-read : goal.returns-in_err-is_redone-clause-read
returns-in_err-is_redone-clause-read g c start so_far =
    let told = err_from_is_err_and c.from_residual.result c.from_residual.ensures.1 in rw (told.1, told.2, c.in_err-is_redone.ensures)
    (starved g.met.D.Disk.consistent so_far (whole g (goal.at.returns-in_err-is_redone-clause-read g c).In-Ok-Some))

pub returns-in-Err-Malformed-clause-read : goal.returns-in-Err-Malformed-clause-read
returns-in-Err-Malformed-clause-read g c start so_far =
    let by = rw (c.in-Ok-Some.field-0-is, c.segment_end-end.ensures) at c.in-Ok-Some.ensures in
    unaccepted g.met.D.Disk.consistent so_far c.law_index.ensures.holds _ by.read
    (λ commands have spelled accepted. let memory = c.in-Err-Malformed.ensures.only commands have (c.deref.ensures.value ∙ spelled) in absurd cc) by.trace.1

pub returns-then-not-is_redone-clause-read : goal.returns-then-not-is_redone-clause-read
returns-then-not-is_redone-clause-read g c start so_far =
    let by = rw (c.in-Ok-Some.field-0-is, c.segment_end-end.ensures) at c.in-Ok-Some.ensures in
    let told : c.in_ok-is_redone.is_redone ≡ false = search rules in let refused = rw told at c.in_ok-is_redone.ensures in
    unaccepted g.met.D.Disk.consistent so_far c.law_index.ensures.holds _ by.read
    (λ commands have spelled accepted. refused (rw (c.in-Ok.ensures.only commands have (c.deref.ensures.value ∙ spelled)) accepted)) by.trace.1

-- ---- the commands were replayed

pub returns-clause-read : goal.returns-clause-read
returns-clause-read g c start so_far =
    let told : c.in_ok-is_redone.is_redone ≡ true = search rules in let spelled = sym c.deref.ensures.value ∙ c.in-Ok.ensures.found in
    let by = rw (c.in-Ok-Some.field-0-is, c.segment_end-end.ensures) at c.in-Ok-Some.ensures in
    let size : c.len.result ≡ length (body_of c.in-Ok.commands.items) = omega (arith, c.len.ensures, ap length spelled) in
    rw size (read_on g.met.D.Disk.consistent so_far c.law_index.ensures.holds c.in-Ok.commands.items c.in-Ok.ensures.commands
    (omega (arith, by.within, ap length spelled)) (rw spelled at by.read) (rw told at c.in_ok-is_redone.ensures) (rw spelled at by.trace.1))
