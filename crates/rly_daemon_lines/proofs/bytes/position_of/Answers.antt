use Rattle.rly_daemon_lines.proofs.Places.{place_of}
use Rattle.rly_daemon_lines.proofs.bytes.position_of.Goals as goal

pub returns-clause-place : goal.returns-clause-place
returns-clause-place c = place_of c.args.byte c.args.bytes.now c.memchr.result c.memchr.ensures
