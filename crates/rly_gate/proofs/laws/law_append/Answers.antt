use Rattle.rly_gate.proofs.Common.{arith, makes_leaves}
use Rattle.rly_gate.proofs.Appending.{appending_image}
use Rattle.rly_gate.proofs.laws.law_append.Goals as goal

pub returns : goal.returns
returns g c at body whole made settled closed fits =
    makes_leaves g.D.Disk.state _ made settled (λ image. appending_image at body _ image closed (omega (arith, fits, settled.consistent.seen_size)))
