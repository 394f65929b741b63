use Rattle.std.proofs.Common.{arith}
use Rattle.byteorder.specs.Endian.{big_bytes}
use Rattle.rly_hop.proofs.Parts.{put_mid-front}
use Rattle.rly_hop.proofs.writer.write_limit.Goals as goal

pub returns : goal.returns
returns c = put_mid-front c.args.out.now (big_bytes 5 c.args.limit) c.write_uint.new.buf 16 5 (omega (arith, c.requires.room)) c.write_uint.ensures
