use Rattle.std.proofs.Common.{sym, arith}
use Rattle.rly_link_auth.proofs.Tags.{unsealed-short}
use Rattle.rly_link_auth.proofs.key.Key.unseal.Goals as goal

pub returns-then-packet-lt-TAG_BYTES-clause-value : goal.returns-then-packet-lt-TAG_BYTES-clause-value
returns-then-packet-lt-TAG_BYTES-clause-value c = sym (unsealed-short c.args.self.now c.args.packet.now (omega arith))
