use Rattle.std.proofs.Common.{◌≡◌, ◌-◌, ◌<◌, length, arith, ap, sym, subst, ◌∙◌, None, ℕ}
use Rattle.std.proofs.lemmas.List.{length-map}
use Rattle.rly_machine.specs.Kept.{hop_state, state_of}
use Rattle.rly_machine.specs.State.{Spool, State, HopState}
use Rattle.rly_machine.specs.Take.{take_refusal, take_step}
use Rattle.rly_machine.specs.declared.hop.Hop.{Hop}
use Rattle.rly_machine.proofs.Keeping.{kept_take, sound_read}
use Rattle.rly_machine.proofs.Refusals.{may_take}
use Rattle.rly_machine.proofs.machine.Machine.accept_take.Goals as goal

pub take-requires-clause-count : goal.take-requires-clause-count
take-requires-clause-count g c =
    let len : g.row.C.Denot → ℕ = g.C.Content.length_of in
    let same = ap (λ (v : Spool g.row.C.Denot). v.state) c.self.view_is in
    let accepted = subst (λ (s : State g.row.C.Denot). take_refusal len s c.args.peer c.args.number c.args.hop c.args.stamp c.args.limit (len c.args.payload) ≡ None) (sym same) c.requires.accepted in
    let may = may_take len (state_of c.self.inside.rules c.self.inside.hops c.self.inside.lasts c.self.inside.seq) c.args.peer c.args.number c.args.hop c.args.stamp c.args.limit (len c.args.payload) accepted in
    let f : Hop g.row.C.Denot → HopState g.row.C.Denot = hop_state in
    let below : c.args.hop.0 - 1 < length c.self.inside.hops.items = omega (arith, may.hop_from, may.hop_to, length-map c.self.inside.hops.items f) in
    let sound = sound_read len c.self.inside.rules c.self.inside.hops c.self.inside.lasts c.self.inside.seq c.self.inside.live_items c.self.inside.live_bytes (c.args.hop.0 - 1) c.index_mut-2.result.now c.self.invariant below c.index_mut-2.ensures.value in
    omega (arith, sound.taken, c.self.invariant.sound.seq)

pub invariant_of-self : goal.invariant_of-self
invariant_of-self g c =
    let len : g.row.C.Denot → ℕ = g.C.Content.length_of in
    let same = ap (λ (v : Spool g.row.C.Denot). v.state) c.self.view_is in
    let accepted = subst (λ (s : State g.row.C.Denot). take_refusal len s c.args.peer c.args.number c.args.hop c.args.stamp c.args.limit (len c.args.payload) ≡ None) (sym same) c.requires.accepted in
    let kept = kept_take len c.self.inside.rules c.self.inside.hops c.self.inside.lasts c.self.inside.seq _ _ c.args.peer c.args.number c.args.hop c.args.stamp c.args.limit c.args.payload _ _
    c.self.invariant accepted c.index_mut-2.ensures.value c.take.ensures in
    rw c.len.ensures kept.1

pub returns-clause-state : goal.returns-clause-state
returns-clause-state g c =
    let len : g.row.C.Denot → ℕ = g.C.Content.length_of in
    let same = ap (λ (v : Spool g.row.C.Denot). v.state) c.self.view_is in
    let accepted = subst (λ (s : State g.row.C.Denot). take_refusal len s c.args.peer c.args.number c.args.hop c.args.stamp c.args.limit (len c.args.payload) ≡ None) (sym same) c.requires.accepted in
    let kept = kept_take len c.self.inside.rules c.self.inside.hops c.self.inside.lasts c.self.inside.seq _ _ c.args.peer c.args.number c.args.hop c.args.stamp c.args.limit c.args.payload _ _
    c.self.invariant accepted c.index_mut-2.ensures.value c.take.ensures in
    kept.0 ∙ ap (λ (s : State g.row.C.Denot). (take_step len s c.args.peer c.args.number c.args.hop c.args.stamp c.args.limit c.args.payload).0) same
