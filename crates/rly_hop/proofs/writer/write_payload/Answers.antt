use Rattle.std.proofs.Common.{◌-◌, ◌+◌, ℕ, List, length, refl, ap, ◌∙◌, arith}
use Rattle.byteorder.specs.Endian.{big_bytes}
use borrow.Rule.Slice.PartMut.{put_mid}
use Rattle.rly_hop.proofs.Parts.{put_mid-twice}
use Rattle.rly_hop.proofs.writer.write_payload.Goals as goal

pub returns : goal.returns
returns c =
    let size : ℕ = length c.args.payload.now in
    let out : List ℕ = c.args.out.now in
    let at : ℕ = c.args.at in
    ap (put_mid (at + 2) (at + 2 + size - (at + 2)) (put_mid at (length out - at) out c.write_u16.new.buf)) c.copy_from_slice.ensures.after
    ∙ put_mid-twice out (big_bytes 2 size) c.args.payload.now c.write_u16.new.buf at size (at + 2 + size - (at + 2)) c.requires.room (omega arith) refl c.write_u16.ensures
