use Rattle.rly_segment.proofs.Common.{arith}
use Rattle.rly_segment.proofs.HeadWriting.{length-new}
use Rattle.rly_segment.proofs.formatter.new_head.Goals as goal

pub head_bytes-requires-clause-length : goal.head_bytes-requires-clause-length
head_bytes-requires-clause-length c = rw c.in_ok-machine.ensures (omega (arith, length-new c.args.geometry.now.params, c.requires.peers, c.requires.hops))
