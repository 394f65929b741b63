use Rattle.rly_disk.proofs.Common.{arith, same_outside_again, SameOutside, wider, ◌+◌, ◌≤◌}
use Rattle.rly_disk.proofs.Making.{leaves_kept}
use Rattle.rly_disk.proofs.laws.law_range.Goals as goal

pub returns : goal.returns
returns g c calls whole place n made inside fits settled =
    leaves_kept (SameOutside place n (g.D.Disk.state c.args.old.now).seen) (λ at count. (place ≤ at) × (at + count ≤ place + n))
    (λ at count d range same. omega (arith, range.1, fits, settled.consistent.seen_size, same.same_length))
    (λ at count d e range same again. same_outside_again place n same (wider place n at count range.0 range.1 again))
    g.D.Disk.state made settled inside assumption
