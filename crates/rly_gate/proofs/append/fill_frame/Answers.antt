use Rattle.rly_gate.proofs.Common.{arith, big_bytes, body_in, length, refl, ◌-◌, ◌≡◌}
use Rattle.rly_gate.proofs.Frames.{filled, length-body}
use Rattle.rly_gate.proofs.append.fill_frame.Goals as goal

pub returns : goal.returns
returns c =
    let frame = c.args.frame.now in
    let same : length (body_in frame) ≡ length frame - 1 - 4 = omega (arith, length-body frame c.requires.long) in
    rw (c.write_u32.ensures, same) (filled (big_bytes 4 (length frame - 1 - 4)) frame (length frame - 1) refl c.requires.long (omega arith))
