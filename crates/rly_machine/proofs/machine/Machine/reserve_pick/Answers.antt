use Rattle.std.proofs.Common.{ℕ, ◌-◌, ap, sym, subst, ◌∙◌, arith}
use Rattle.std.specs.VecDeque.{deque_capacity, deque_len}
use Rattle.rly_machine.specs.Accepted.{max_seq}
use Rattle.rly_machine.specs.HelpersMachine.{KeepsCounts}
use Rattle.rly_machine.specs.Kept.{hop_state}
use Rattle.rly_machine.specs.State.{Spool, State}
use Rattle.rly_machine.specs.declared.hop.Hop.{Hop}
use Rattle.rly_machine.proofs.Keeping.{place_of, same_state, sound_read, told_of_written}
use Rattle.rly_machine.proofs.Refusals.{may_pick}
use Rattle.rly_machine.proofs.Soundness.{sound_later}
use Rattle.rly_machine.proofs.Waiting.{items_came}
use Rattle.rly_machine.proofs.machine.Machine.reserve_pick.Goals as goal

pub expired_count-late-requires : goal.expired_count-late-requires
expired_count-late-requires g c =
    let len : g.row.C.Denot → ℕ = g.C.Content.length_of in
    let same = ap (λ (v : Spool g.row.C.Denot). v.state) c.self.view_is in
    let below = place_of c.self.inside.rules c.self.inside.hops c.self.inside.lasts c.self.inside.seq c.args.self.now.state c.args.hop same (may_pick c.args.self.now.state c.args.hop c.args.now c.requires).hop_there in
    let sound = sound_read len c.self.inside.rules c.self.inside.hops c.self.inside.lasts c.self.inside.seq c.self.inside.live_items c.self.inside.live_bytes _ c.index_mut-hop.result.now c.self.invariant below c.index_mut-hop.ensures.value in
    record { sound = items_came len c.self.inside.rules c.self.inside.seq (hop_state c.index_mut-hop.result.now) sound }

pub decide-drops-requires-clause-sound : goal.decide-drops-requires-clause-sound
decide-drops-requires-clause-sound g c =
    let len : g.row.C.Denot → ℕ = g.C.Content.length_of in
    let same = ap (λ (v : Spool g.row.C.Denot). v.state) c.self.view_is in
    let below = place_of c.self.inside.rules c.self.inside.hops c.self.inside.lasts c.self.inside.seq c.args.self.now.state c.args.hop same (may_pick c.args.self.now.state c.args.hop c.args.now c.requires).hop_there in
    let sound = sound_read len c.self.inside.rules c.self.inside.hops c.self.inside.lasts c.self.inside.seq c.self.inside.live_items c.self.inside.live_bytes _ c.index_mut-hop.result.now c.self.invariant below c.index_mut-hop.ensures.value in
    sound_later len c.self.inside.rules c.self.inside.seq max_seq (hop_state c.index_mut-hop.result.now) c.self.invariant.sound.seq sound

pub invariant_of-self : goal.invariant_of-self
invariant_of-self g c =
    let same = same_state c.self.inside.rules c.self.inside.hops c.self.inside.lasts c.self.inside.seq (c.args.hop.0 - 1) c.index_mut-hop.result.now c.reserve_flight.new.self c.index_mut-hop.ensures.value c.reserve_flight.ensures.hop in
    subst (λ (s : State g.row.C.Denot). KeepsCounts g.C.Content.length_of s c.self.inside.live_items c.self.inside.live_bytes) (sym same) c.self.invariant

pub returns-in_err-reserve_flight-clause-state : goal.returns-in_err-reserve_flight-clause-state
returns-in_err-reserve_flight-clause-state g c =
    same_state c.self.inside.rules c.self.inside.hops c.self.inside.lasts c.self.inside.seq (c.args.hop.0 - 1) c.index_mut-hop.result.now c.reserve_flight.new.self c.index_mut-hop.ensures.value c.reserve_flight.ensures.hop
    ∙ ap (λ (v : Spool g.row.C.Denot). v.state) c.self.view_is

pub invariant_of-self-2 : goal.invariant_of-self-2
invariant_of-self-2 g c =
    let same = same_state c.self.inside.rules c.self.inside.hops c.self.inside.lasts c.self.inside.seq (c.args.hop.0 - 1) c.index_mut-hop.result.now c.reserve_flight.new.self c.index_mut-hop.ensures.value c.reserve_flight.ensures.hop in
    subst (λ (s : State g.row.C.Denot). KeepsCounts g.C.Content.length_of s c.self.inside.live_items c.self.inside.live_bytes) (sym same) c.self.invariant

pub returns-clause-state : goal.returns-clause-state
returns-clause-state g c =
    same_state c.self.inside.rules c.self.inside.hops c.self.inside.lasts c.self.inside.seq (c.args.hop.0 - 1) c.index_mut-hop.result.now c.reserve_flight.new.self c.index_mut-hop.ensures.value c.reserve_flight.ensures.hop
    ∙ ap (λ (v : Spool g.row.C.Denot). v.state) c.self.view_is

pub returns-clause-room : goal.returns-clause-room
returns-clause-room g c =
    let same = ap (λ (v : Spool g.row.C.Denot). v.state) c.self.view_is in
    let below = place_of c.self.inside.rules c.self.inside.hops c.self.inside.lasts c.self.inside.seq c.args.self.now.state c.args.hop same (may_pick c.args.self.now.state c.args.hop c.args.now c.requires).hop_there in
    let spare : Hop g.row.C.Denot → ℕ = λ h. deque_capacity h.flight - deque_len h.flight in
    omega (arith, told_of_written spare c.self.inside.hops.items (c.args.hop.0 - 1) c.reserve_flight.new.self below, c.in_ok-reserve_flight.ensures.room)
