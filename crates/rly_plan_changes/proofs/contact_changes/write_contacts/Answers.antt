use Rattle.std.proofs.Common.{◌+◌, ◌*◌, ◌<◌, ◌≤◌, arith, length, string_bytes}
use Rattle.rly_plan_changes.proofs.Stretches.{begun, ended, more, run_out}
use Rattle.rly_plan_changes.proofs.contact_changes.write_contacts.Goals as goal

pub loop-change-init : goal.loop-change-init
loop-change-init c =
    begun (string_bytes c.args.text.now) (string_bytes c.write_number.new.text) c.args.number c.args.old.now.contacts c.args.new.now.contacts _ _ _
    c.at_key-place.ensures c.contact_count.ensures c.contact_count-2.ensures c.in_ok-write_number.ensures

pub loop-change-preserved : goal.loop-change-preserved
loop-change-preserved c =
    let within : c.loop-change._change < (length c.args.old.now.contacts + length c.args.new.now.contacts) * 2 =
    omega (arith, c.loop-change-test.true, c.from.ensures, c.from-2.ensures, c.contact_count.ensures, c.contact_count-2.ensures) in
    more (string_bytes c.loop-change.text) (string_bytes c.write_stretch.new.text) _ c.args.number c.args.old.now.contacts c.args.new.now.contacts
    ((length c.args.old.now.contacts + length c.args.new.now.contacts) * 2) c.loop-change._change c.loop-change.from c.in-Some.until _ _
    within c.in-Some.ensures c.is_open.ensures c.is_open-in-loop-change.ensures c.in_ok-write_stretch.ensures c.loop-change.invariant

pub returns-in_default : goal.returns-in_default
returns-in_default c =
    ended (string_bytes c.loop-change.text) _ c.args.number c.args.old.now.contacts c.args.new.now.contacts _ c.loop-change.from c.in_default.ensures c.loop-change.invariant

pub returns : goal.returns
returns c =
    let past : (length c.args.old.now.contacts + length c.args.new.now.contacts) * 2 ≤ c.loop-change._change =
    omega (arith, c.loop-change-test.false, c.from.ensures, c.from-2.ensures, c.contact_count.ensures, c.contact_count-2.ensures) in
    run_out (string_bytes c.loop-change.text) _ c.args.number c.args.old.now.contacts c.args.new.now.contacts
    ((length c.args.old.now.contacts + length c.args.new.now.contacts) * 2) c.loop-change._change c.loop-change.from past c.loop-change.invariant
