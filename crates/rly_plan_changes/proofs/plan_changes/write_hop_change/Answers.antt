use Rattle.std.proofs.Common.{string_bytes}
use Rattle.rly_plan_changes.proofs.Rows.{three_written}
use Rattle.rly_plan_changes.proofs.plan_changes.write_hop_change.Goals as goal

pub returns : goal.returns
returns c =
    three_written (string_bytes c.args.text.now) _ _ _ (string_bytes c.write_far_end.new.text) (string_bytes c.write_hop_numbers.new.text)
    (string_bytes c.write_contacts.new.text) c.in_ok-write_far_end.ensures c.in_ok-write_hop_numbers.ensures c.in_ok-write_contacts.ensures
