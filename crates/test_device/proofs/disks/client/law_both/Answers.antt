use Rattle.std.proofs.Common.{arith, length}
use Rattle.rly_disk.proofs.Making.{makes_leaves}
use Rattle.test_device.specs.TwoRanges.{SameOutsideBoth}
use Rattle.test_device.proofs.TwoRanges.{both_image}
use Rattle.test_device.proofs.disks.client.law_both.Goals as goal

pub returns : goal.returns
returns g c place other first second whole settled fits fits_too made =
    let count = settled.consistent.seen_size in
    makes_leaves g.D.Disk.state (SameOutsideBoth place (length first) other (length second) (g.D.Disk.state c.args.old.now).seen) made settled
    (λ image. both_image place other first second (g.D.Disk.state c.args.old.now).seen image (omega (arith, fits, count)) (omega (arith, fits_too, count)))
