use Rattle.std.proofs.Common.{arith}
use Rattle.std.proofs.lemmas.Result.{IfOk-weaker}
use Rattle.rly_daemon_lines.proofs.Room.{has_room}
use Rattle.rly_daemon_lines.proofs.outflow.new_text.Goals as goal

pub returns-clause-room : goal.returns-clause-room
returns-clause-room c = IfOk-weaker c.with_capacity.result _ _ (λ text wide. has_room _ (omega (arith, wide))) c.with_capacity.ensures.capacity
