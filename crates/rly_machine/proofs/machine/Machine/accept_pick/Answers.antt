use Rattle.std.proofs.Common.{◌≡◌, ap, sym, subst, ◌∙◌, None, ℕ}
use Rattle.rly_machine.specs.Accepted.{max_seq}
use Rattle.rly_machine.specs.Pick.{pick_refusal, pick_step}
use Rattle.rly_machine.specs.State.{Spool, State}
use Rattle.rly_machine.proofs.Keeping.{kept_pick, place_of, sound_read}
use Rattle.rly_machine.proofs.Refusals.{may_pick}
use Rattle.rly_machine.proofs.Soundness.{sound_later}
use Rattle.rly_machine.specs.Kept.{hop_state, state_of}
use Rattle.rly_machine.proofs.machine.Machine.accept_pick.Goals as goal

pub pick-reply-requires-clause-sound : goal.pick-reply-requires-clause-sound
pick-reply-requires-clause-sound g c =
    let len : g.row.C.Denot → ℕ = g.C.Content.length_of in
    let same = ap (λ (v : Spool g.row.C.Denot). v.state) c.self.view_is in
    let accepted = subst (λ (s : State g.row.C.Denot). pick_refusal s c.args.hop c.args.now ≡ None) (sym same) c.requires.accepted in
    let may = may_pick (state_of c.self.inside.rules c.self.inside.hops c.self.inside.lasts c.self.inside.seq) c.args.hop c.args.now accepted in
    let below = place_of c.self.inside.rules c.self.inside.hops c.self.inside.lasts c.self.inside.seq c.args.self.now.state c.args.hop same (may_pick c.args.self.now.state c.args.hop c.args.now c.requires.accepted).hop_there in
    let sound = sound_read len c.self.inside.rules c.self.inside.hops c.self.inside.lasts c.self.inside.seq c.self.inside.live_items c.self.inside.live_bytes _ c.index_mut-hop.result.now c.self.invariant below c.index_mut-hop.ensures.value in
    sound_later len c.self.inside.rules c.self.inside.seq max_seq (hop_state c.index_mut-hop.result.now) c.self.invariant.sound.seq sound

pub overflow_sub-self : goal.overflow_sub-self
overflow_sub-self g c =
    let len : g.row.C.Denot → ℕ = g.C.Content.length_of in
    let same = ap (λ (v : Spool g.row.C.Denot). v.state) c.self.view_is in
    let accepted = subst (λ (s : State g.row.C.Denot). pick_refusal s c.args.hop c.args.now ≡ None) (sym same) c.requires.accepted in
    let kept = kept_pick len c.self.inside.rules c.self.inside.hops c.self.inside.lasts c.self.inside.seq c.self.inside.live_items c.self.inside.live_bytes c.args.hop c.args.now
    c.pick-reply.result.1.items c.pick-reply.result.1.bytes c.index_mut-hop.result.now c.pick-reply.new.self
    c.self.invariant accepted c.index_mut-hop.ensures.value c.pick-reply.ensures.hop c.pick-reply.ensures.items c.pick-reply.ensures.bytes in
    kept.2

pub overflow_sub-self-2 : goal.overflow_sub-self-2
overflow_sub-self-2 g c =
    let len : g.row.C.Denot → ℕ = g.C.Content.length_of in
    let same = ap (λ (v : Spool g.row.C.Denot). v.state) c.self.view_is in
    let accepted = subst (λ (s : State g.row.C.Denot). pick_refusal s c.args.hop c.args.now ≡ None) (sym same) c.requires.accepted in
    let kept = kept_pick len c.self.inside.rules c.self.inside.hops c.self.inside.lasts c.self.inside.seq c.self.inside.live_items c.self.inside.live_bytes c.args.hop c.args.now
    c.pick-reply.result.1.items c.pick-reply.result.1.bytes c.index_mut-hop.result.now c.pick-reply.new.self
    c.self.invariant accepted c.index_mut-hop.ensures.value c.pick-reply.ensures.hop c.pick-reply.ensures.items c.pick-reply.ensures.bytes in
    kept.3

pub invariant_of-self : goal.invariant_of-self
invariant_of-self g c =
    let len : g.row.C.Denot → ℕ = g.C.Content.length_of in
    let same = ap (λ (v : Spool g.row.C.Denot). v.state) c.self.view_is in
    let accepted = subst (λ (s : State g.row.C.Denot). pick_refusal s c.args.hop c.args.now ≡ None) (sym same) c.requires.accepted in
    let kept = kept_pick len c.self.inside.rules c.self.inside.hops c.self.inside.lasts c.self.inside.seq c.self.inside.live_items c.self.inside.live_bytes c.args.hop c.args.now
    c.pick-reply.result.1.items c.pick-reply.result.1.bytes c.index_mut-hop.result.now c.pick-reply.new.self
    c.self.invariant accepted c.index_mut-hop.ensures.value c.pick-reply.ensures.hop c.pick-reply.ensures.items c.pick-reply.ensures.bytes in
    kept.1

pub returns-clause-state : goal.returns-clause-state
returns-clause-state g c =
    let len : g.row.C.Denot → ℕ = g.C.Content.length_of in
    let same = ap (λ (v : Spool g.row.C.Denot). v.state) c.self.view_is in
    let accepted = subst (λ (s : State g.row.C.Denot). pick_refusal s c.args.hop c.args.now ≡ None) (sym same) c.requires.accepted in
    let kept = kept_pick len c.self.inside.rules c.self.inside.hops c.self.inside.lasts c.self.inside.seq c.self.inside.live_items c.self.inside.live_bytes c.args.hop c.args.now
    c.pick-reply.result.1.items c.pick-reply.result.1.bytes c.index_mut-hop.result.now c.pick-reply.new.self
    c.self.invariant accepted c.index_mut-hop.ensures.value c.pick-reply.ensures.hop c.pick-reply.ensures.items c.pick-reply.ensures.bytes in
    kept.0 ∙ ap (λ (s : State g.row.C.Denot). (pick_step len s c.args.hop c.args.now).0) same
