use Rattle.std.proofs.Common.{arith}
use Rattle.byteorder.specs.Endian.{big_bytes}
use Rattle.rly_hop.proofs.Parts.{put_mid-front}
use Rattle.rly_hop.proofs.writer.write_bits.Goals as goal

pub returns : goal.returns
returns c = put_mid-front c.args.out.now (big_bytes 8 c.args.bits) c.write_u64.new.buf 16 8 (omega (arith, c.requires)) c.write_u64.ensures
