use Rattle.std.proofs.Common.{string_bytes}
use Rattle.rly_plan_show.specs.PlanText.{hop_line, state_line, times_line}
use Rattle.rly_plan_show.proofs.Lines.{three_written}
use Rattle.rly_plan_show.proofs.plan_text.write_hop.Goals as goal

pub returns : goal.returns
returns c =
    three_written (string_bytes c.args.text.now) (hop_line (c.args.number, c.args.hop.now)) (times_line (c.args.number, c.args.hop.now)) (state_line c.args.moment (c.args.number, c.args.hop.now))
    (string_bytes c.write_link.new.text) (string_bytes c.write_times.new.text) (string_bytes c.write_state.new.text) c.in_ok-write_link.ensures c.in_ok-write_times.ensures c.in_ok-write_state.ensures
