use Rattle.std.proofs.Common.{ℕ, ◌-◌, ◌<◌, ap, sym, subst, ◌∙◌, get_or}
use Rattle.rly_machine.specs.HelpersMachine.{KeepsCounts}
use Rattle.rly_machine.specs.State.{Spool, State}
use Rattle.rly_machine.specs.declared.hop.Hop.{Hop}
use Rattle.rly_machine.proofs.Keeping.{on_err, on_ok, place_of, same_state, told_of_read, told_of_written}
use Rattle.rly_machine.proofs.machine.Machine.reserve_take.Goals as goal

pub invariant_of-self : goal.invariant_of-self
invariant_of-self g c =
    let same = same_state c.self.inside.rules c.self.inside.hops c.self.inside.lasts c.self.inside.seq (c.args.hop.0 - 1) c.index_mut.result.now c.reserve_queue.new.self c.index_mut.ensures.value c.reserve_queue.ensures.hop in
    subst (λ (s : State g.row.C.Denot). KeepsCounts g.C.Content.length_of s c.self.inside.live_items c.self.inside.live_bytes) (sym same) c.self.invariant

pub returns-clause-state : goal.returns-clause-state
returns-clause-state g c =
    same_state c.self.inside.rules c.self.inside.hops c.self.inside.lasts c.self.inside.seq (c.args.hop.0 - 1) c.index_mut.result.now c.reserve_queue.new.self c.index_mut.ensures.value c.reserve_queue.ensures.hop
    ∙ ap (λ (v : Spool g.row.C.Denot). v.state) c.self.view_is

pub returns-clause-room : goal.returns-clause-room
returns-clause-room g c =
    let same = ap (λ (v : Spool g.row.C.Denot). v.state) c.self.view_is in
    let below = place_of c.self.inside.rules c.self.inside.hops c.self.inside.lasts c.self.inside.seq c.args.self.now.state c.args.hop same c.requires in
    let spare : Hop g.row.C.Denot → ℕ = λ h. h.queue.spare in
    on_ok c.reserve_queue.result _ _
    (λ room. subst (λ n. 0 < n) (sym (told_of_written spare c.self.inside.hops.items (c.args.hop.0 - 1) c.reserve_queue.new.self below)) room)
    c.reserve_queue.ensures.room

pub returns-clause-memory : goal.returns-clause-memory
returns-clause-memory g c =
    let same = ap (λ (v : Spool g.row.C.Denot). v.state) c.self.view_is in
    let below = place_of c.self.inside.rules c.self.inside.hops c.self.inside.lasts c.self.inside.seq c.args.self.now.state c.args.hop same c.requires in
    let spare : Hop g.row.C.Denot → ℕ = λ h. h.queue.spare in
    let seen = ap (λ (v : Spool g.row.C.Denot). get_or v.queue_spare (c.args.hop.0 - 1) 0) c.self.view_is in
    let read = told_of_read spare c.self.inside.hops.items (c.args.hop.0 - 1) c.index_mut.result.now below c.index_mut.ensures.value in
    on_err c.reserve_queue.result _ _ (λ none. sym seen ∙ read ∙ none) c.reserve_queue.ensures.memory
