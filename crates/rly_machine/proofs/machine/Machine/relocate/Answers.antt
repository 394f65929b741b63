use Rattle.std.proofs.Common.{ap}
use Rattle.rly_machine.specs.State.{Spool}
use Rattle.rly_machine.proofs.Relocating.{kept_relocate, relocate_read}
use Rattle.rly_machine.proofs.machine.Machine.relocate.Goals as goal

pub relocate-requires : goal.relocate-requires
relocate-requires g c =
    relocate_read g.C.Content.length_of c.self.inside.rules c.self.inside.hops c.self.inside.lasts c.self.inside.seq c.args.self.now.state c.args.hop c.args.index c.args.content c.index_mut.result.now
    (ap (λ (v : Spool g.row.C.Denot). v.state) c.self.view_is) c.requires.there c.index_mut.ensures.value c.requires.live

pub invariant_of-self : goal.invariant_of-self
invariant_of-self g c =
    (kept_relocate g.C.Content.length_of c.self.inside.rules c.self.inside.hops c.self.inside.lasts c.self.inside.seq _ _ c.args.self.now.state c.args.hop c.args.index c.args.content c.index_mut.result.now c.relocate.new.self
    (ap (λ (v : Spool g.row.C.Denot). v.state) c.self.view_is) c.requires.there c.index_mut.ensures.value c.requires.live c.self.invariant c.relocate.ensures).1

pub returns : goal.returns
returns g c =
    (kept_relocate g.C.Content.length_of c.self.inside.rules c.self.inside.hops c.self.inside.lasts c.self.inside.seq _ _ c.args.self.now.state c.args.hop c.args.index c.args.content c.index_mut.result.now c.relocate.new.self
    (ap (λ (v : Spool g.row.C.Denot). v.state) c.self.view_is) c.requires.there c.index_mut.ensures.value c.requires.live c.self.invariant c.relocate.ensures).0
