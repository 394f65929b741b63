use Rattle.rly_segment.proofs.Common.{◌≡◌, header_of, limits_of, shape_of}
use Rattle.rly_segment.proofs.formatter.header_fields.Goals as goal

pub returns : goal.returns
unfolding header_of
returns c =
    let shape : c.copy_from_slice.new.self ≡ shape_of c.args.geometry.now = cc in
    let limits : c.copy_from_slice-2.new.self ≡ limits_of c.args.geometry.now.params = cc in rw (shape, limits)
