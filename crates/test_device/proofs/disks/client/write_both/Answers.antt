use Rattle.std.proofs.Common.{◌∷◌, [], false}
use Rattle.std.specs.Prelude.{is_ok}
use Rattle.rly_disk.specs.Trace.{Sync, Write}
use Rattle.rly_disk.proofs.Making.{cut_short}
use Rattle.rly_disk.proofs.Traces.{makes_front, makes_joined}
use Rattle.test_device.proofs.disks.client.write_both.Goals as goal

pub returns-in_err-write_at : goal.returns-in_err-write_at
returns-in_err-write_at g c =
    cut_short g.D.Disk.state c.from_residual.result c.from_residual.ensures.0
    (makes_front g.D.Disk.state (Write c.args.place c.args.first.now ∷ []) (Write c.args.other c.args.second.now ∷ Sync ∷ []) c.in_err-write_at.ensures.trace)

pub returns-in_err-write_at-2 : goal.returns-in_err-write_at-2
returns-in_err-write_at-2 g c =
    cut_short g.D.Disk.state c.from_residual-in_err-write_at-2.result c.from_residual-in_err-write_at-2.ensures.0
    (makes_joined g.D.Disk.state (Write c.args.place c.args.first.now ∷ []) (Write c.args.other c.args.second.now ∷ Sync ∷ []) false c.in_ok-write_at.ensures.trace
    (makes_front g.D.Disk.state (Write c.args.other c.args.second.now ∷ []) (Sync ∷ []) c.in_err-write_at-2.ensures.trace))

pub returns : goal.returns
returns g c =
    makes_joined g.D.Disk.state (Write c.args.place c.args.first.now ∷ []) (Write c.args.other c.args.second.now ∷ Sync ∷ []) (is_ok c.sync.result) c.in_ok-write_at.ensures.trace
    (makes_joined g.D.Disk.state (Write c.args.other c.args.second.now ∷ []) (Sync ∷ []) (is_ok c.sync.result) c.in_ok-write_at-2.ensures.trace c.sync.ensures.trace)
