use Rattle.std.proofs.Common.{refl, string_bytes}
use Rattle.rly_network_command.proofs.plan_reads.read_station.Goals as goal

pub returns-in-Ok-clause-read : goal.returns-in-Ok-clause-read
returns-in-Ok-clause-read g c = (
  record { name = c.args.name.now; device = c.args.device; text = string_bytes c.in_ok-text.text; plan = c.in-Ok.plan },
  (refl, refl, (rw c.as_str.ensures.value at c.in-Ok.ensures.plan)),
  refl,
  (rw c.plan_and_device.ensures.path at c.in_ok-text.ensures.called),
)
