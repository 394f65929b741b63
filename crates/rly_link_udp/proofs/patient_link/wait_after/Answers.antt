use Rattle.std.proofs.Common.{arith}
use Rattle.rly_link_udp.proofs.Waits.{longest_wait}
use Rattle.rly_link_udp.proofs.patient_link.wait_after.Goals as goal

pub returns-in_default : goal.returns-in_default
returns-in_default c = longest_wait c.args.count (omega arith)
