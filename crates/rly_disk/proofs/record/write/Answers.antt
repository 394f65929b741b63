use Rattle.rly_disk.proofs.Common.{length, rules, slice_range, ◌+◌, ◌≡◌}
use Rattle.rly_disk.proofs.record.write.Goals as goal

pub returns-clause-ok : goal.returns-clause-ok
returns-clause-ok c =
    let copied : c.in_ok-replaced.replaced.items ≡ slice_range c.args.bytes.now.items c.args.place (c.args.place + length c.args.new.now) = search rules in
    (c.in_ok-replaced.replaced, copied, search rules)
