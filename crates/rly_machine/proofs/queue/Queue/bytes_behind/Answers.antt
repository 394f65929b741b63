use Rattle.std.proofs.Common.{ℕ, ◌+◌, ◌<◌, drop, length, ap, arith}
use Rattle.std.proofs.lemmas.List.{length-map}
use Rattle.rly_machine.specs.declared.hop.Item.{Item}
use Rattle.rly_machine.specs.declared.queue.Queued.{Queued}
use Rattle.rly_machine.specs.HelpersQueue.{items_of}
use Rattle.rly_machine.specs.State.{bytes_of, QueueState}
use Rattle.rly_machine.proofs.Totals.{AddUp-at, between}
use Rattle.rly_machine.proofs.queue.Queue.bytes_behind.Goals as goal

pub returns : goal.returns
returns g c =
    let len : g.row.C.Denot → ℕ = g.C.Content.length_of in
    let plain : Queued g.row.C.Denot → Item g.row.C.Denot = λ q. q.item in
    let same = ap (λ (line : QueueState g.row.C.Denot). length line.items) c.self.view_is in
    let below : c.args.index < length c.self.inside.queued.items = omega (arith, same, length-map c.self.inside.queued.items plain, c.requires) in
    let at = AddUp-at len c.self.inside.total c.self.inside.queued.items c.args.index c.index.result.now below c.index.ensures c.self.invariant in
    rw (← c.self.view_is)
    (between c.self.inside.total c.index.result.now.total (bytes_of len (drop (c.args.index + 1) (items_of c.self.inside.queued.items))) (omega arith) at)
