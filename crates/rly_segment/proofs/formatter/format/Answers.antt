use Rattle.rly_segment.proofs.Common.{◌∙◌, IsLayout, makes_nothing, makes_settled, not-false, rules}
use Rattle.rly_segment.proofs.Devices.{closed_read, format_beside, format_formatted, format_leaves, formatting_synced}
use Rattle.rly_segment.proofs.formatter.format.Goals as goal

pub returns-then-not-is_layout-clause-trace : goal.returns-then-not-is_layout-clause-trace
returns-then-not-is_layout-clause-trace g c = (_, λ _. closed_read (g.D.Disk.state c.args.disk.now).seen 0, makes_nothing g.D.Disk.state c.args.disk.now)

pub returns-in_default-clause-trace : goal.returns-in_default-clause-trace
returns-in_default-clause-trace g c = (_, λ _. closed_read (g.D.Disk.state c.args.disk.now).seen 0, makes_nothing g.D.Disk.state c.args.disk.now)

pub returns-in-Ok-write_device : goal.returns-in-Ok-write_device
returns-in-Ok-write_device g c =
    let made = rw (c.deref.ensures.value ∙ c.in-Ok.ensures) at c.in-Ok-write_device.ensures in
    let fits : IsLayout c.args.geometry.now (g.D.Disk.state c.args.disk.now).size = search (rules, not-false) in
    let ok = makes_settled g.D.Disk.state made.row (formatting_synced c.args.geometry.now made.closed _) in
    let facts = g.met.D.Disk.consistent c.write_device.new.disk in
    search (rules, not-false, format_leaves made fits, format_beside made fits, format_formatted made fits, ok, facts, made.told)

pub returns-clause-any_moment : goal.returns-clause-any_moment
returns-clause-any_moment g c settled = format_leaves (rw (c.deref.ensures.value ∙ c.in-Ok.ensures) at c.in-Err.ensures) (search (rules, not-false)) settled

pub returns-clause-beside : goal.returns-clause-beside
returns-clause-beside g c settled = format_beside (rw (c.deref.ensures.value ∙ c.in-Ok.ensures) at c.in-Err.ensures) (search (rules, not-false)) settled
