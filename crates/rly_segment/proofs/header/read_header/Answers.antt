use Rattle.rly_segment.proofs.Common.{◌∙◌, ◌≡◌, arith, rules, true}
use Rattle.rly_segment.proofs.HeaderFields.{device_read}
use Rattle.rly_segment.proofs.header.read_header.Goals as goal

pub returns-then-is_layout-clause-read : goal.returns-then-is_layout-clause-read
returns-then-is_layout-clause-read g c honest =
    let size = (g.met.D.Disk.consistent c.args.disk.now honest).seen_size in
    let device = device_read _ _ (c.in-Ok.ensures.read honest) (omega (arith, size)) (c.is_device.ensures.0 (search rules)) in
    (device.0, c.geometry_in-geometry.ensures ∙ device.1, rw size (search rules))

pub returns-else-is_layout-clause-read : goal.returns-else-is_layout-clause-read
returns-else-is_layout-clause-read g c honest =
    let size = (g.met.D.Disk.consistent c.args.disk.now honest).seen_size in
    let device = device_read _ _ (c.in-Ok.ensures.read honest) (omega (arith, size)) (c.is_device.ensures.0 (search rules)) in
    let named = c.geometry_in-geometry.ensures ∙ device.1 in
    (device.0, λ has. let fits : c.is_layout.result ≡ true = c.is_layout.ensures.1 (rw (← named, size, ← c.size-size.ensures) at has) in absurd cc)
