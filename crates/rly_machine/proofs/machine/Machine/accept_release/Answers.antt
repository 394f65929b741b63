use Rattle.std.proofs.Common.{◌≡◌, ap, sym, subst, ◌∙◌, None, ℕ}
use Rattle.rly_machine.specs.State.{Spool, State}
use Rattle.rly_machine.specs.Release.{release_refusal, release_step}
use Rattle.rly_machine.proofs.Keeping.{kept_release}
use Rattle.rly_machine.proofs.machine.Machine.accept_release.Goals as goal

pub invariant_of-self : goal.invariant_of-self
invariant_of-self g c =
    let len : g.row.C.Denot → ℕ = g.C.Content.length_of in
    let same = ap (λ (v : Spool g.row.C.Denot). v.state) c.self.view_is in
    let accepted = subst (λ (s : State g.row.C.Denot). release_refusal s c.args.hop c.args.number ≡ None) (sym same) c.requires in
    (kept_release len c.self.inside.rules c.self.inside.hops c.self.inside.lasts c.self.inside.seq _ _ c.args.hop c.args.number _ _ _
    c.self.invariant accepted c.index_mut-hop.ensures.value c.release-bytes.ensures.hop c.release-bytes.ensures.bytes).1

pub returns-clause-state : goal.returns-clause-state
returns-clause-state g c =
    let len : g.row.C.Denot → ℕ = g.C.Content.length_of in
    let same = ap (λ (v : Spool g.row.C.Denot). v.state) c.self.view_is in
    let accepted = subst (λ (s : State g.row.C.Denot). release_refusal s c.args.hop c.args.number ≡ None) (sym same) c.requires in
    (kept_release len c.self.inside.rules c.self.inside.hops c.self.inside.lasts c.self.inside.seq _ _ c.args.hop c.args.number _ _ _
    c.self.invariant accepted c.index_mut-hop.ensures.value c.release-bytes.ensures.hop c.release-bytes.ensures.bytes).0
    ∙ ap (λ (s : State g.row.C.Denot). (release_step s c.args.hop c.args.number).0) same
