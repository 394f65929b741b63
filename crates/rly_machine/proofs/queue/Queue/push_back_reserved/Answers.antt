use Rattle.std.proofs.Common.{ℕ, ◌+◌, ◌%◌, ◌^◌, refl, ap}
use Rattle.rly_machine.proofs.Totals.{AddUp-push}
use Rattle.rly_machine.proofs.queue.Queue.push_back_reserved.Goals as goal

pub invariant_of-self : goal.invariant_of-self
invariant_of-self g c =
    let len : g.row.C.Denot → ℕ = g.C.Content.length_of in
    rw c.push_back_reserved.ensures.items
    (AddUp-push len c.self.inside.total ((c.self.inside.total + c.len.result) % 2 ^ 64) c.self.inside.queued.items
    (record { item = c.args.item; total = (c.self.inside.total + c.len.result) % 2 ^ 64 })
    (ap (λ n. (c.self.inside.total + n) % 2 ^ 64) c.len.ensures) refl c.self.invariant)
