use Rattle.std.proofs.Common.{subst}
use Rattle.rly_flush.specs.FlusherHistory.{IsOneHistory}
use Rattle.rly_flush.proofs.Crashing.{one_history}
use Rattle.rly_flush.proofs.flusher.Flusher.law_history.Goals as goal

pub returns : goal.returns
returns g c =
    subst (IsOneHistory g.D.Disk.state) c.self.view_is
    (one_history g.D.Disk.state g.met.D.Disk.consistent (record { first = c.self.inside.first.value.journal; journal = c.self.inside.owned.journal; kept = c.self.inside.kept; line = c.self.inside.line }) c.self.invariant.0)
