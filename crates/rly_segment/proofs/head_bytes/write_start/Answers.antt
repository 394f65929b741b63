use Rattle.rly_segment.proofs.Common.{◌≡◌, ap, arith, length, length-take}
use Rattle.rly_segment.proofs.head_bytes.write_start.Goals as goal

pub copy_from_slice-requires : goal.copy_from_slice-requires
copy_from_slice-requires c =
    let size : length c.head_fields.result ≡ 12 = ap length c.head_fields.ensures in omega (arith, size, length-take 12 c.args.head.now, c.requires)
