use Rattle.std.proofs.Common.{ap}
use Rattle.rly_machine.specs.State.{Spool}
use Rattle.rly_machine.proofs.Keeping.{hop_is_read}
use Rattle.rly_machine.proofs.machine.Machine.hop.Goals as goal

pub returns : goal.returns
returns g c =
    hop_is_read g.C.Content.length_of c.self.inside.rules c.self.inside.hops c.self.inside.lasts c.self.inside.seq c.self.inside.live_items c.self.inside.live_bytes
    c.args.self.now.state c.args.hop c.in_ok-index.index c.index.result.now
    c.self.invariant (ap (λ (v : Spool g.row.C.Denot). v.state) c.self.view_is) c.in_ok-index.ensures.0 c.in_ok-index.ensures.1 c.index.ensures
