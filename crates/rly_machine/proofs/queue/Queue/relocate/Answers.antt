use Rattle.std.proofs.Common.{ℕ, ◌≡◌, ap, refl, sym, subst, ◌∙◌, List, Some}
use Rattle.rly_machine.specs.declared.hop.Item.{Item}
use Rattle.rly_machine.specs.Relocate.{carried_at, with_payload}
use Rattle.rly_machine.specs.State.{QueueState}
use Rattle.rly_machine.proofs.Relocating.{AddUp-put, put_queued, queued_carries}
use Rattle.rly_machine.proofs.queue.Queue.relocate.Goals as goal

pub invariant_of-self : goal.invariant_of-self
invariant_of-self g c =
    let len : g.row.C.Denot → ℕ = g.C.Content.length_of in
    let same = ap (λ (line : QueueState g.row.C.Denot). line.items) c.self.view_is in
    let found = subst (λ (items : List (Item g.row.C.Denot)). carried_at len items c.args.index ≡ Some (len c.args.content)) (sym same) c.requires in
    AddUp-put len c.self.inside.total c.self.inside.queued.items c.args.index c.index_mut.result.now _ c.index_mut.ensures.value refl
    (sym (queued_carries len c.self.inside.queued.items c.args.index (len c.args.content) c.index_mut.result.now found c.index_mut.ensures.value)) c.self.invariant

pub returns : goal.returns
returns g c =
    let same = ap (λ (line : QueueState g.row.C.Denot). line.items) c.self.view_is in
    put_queued c.self.inside.queued.items c.args.index c.index_mut.result.now _ c.args.content c.index_mut.ensures.value refl
    ∙ ap (λ (items : List (Item g.row.C.Denot)). with_payload items c.args.index c.args.content) same
