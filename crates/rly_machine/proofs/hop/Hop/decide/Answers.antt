use Rattle.std.proofs.Common.{arith, drop, ℕ}
use Rattle.std.proofs.lemmas.List.Elements.{All-drop}
use Rattle.std.proofs.lemmas.List.Sums.{sum_by-take-drop}
use Rattle.rly_machine.specs.Accepted.{max_seq}
use Rattle.rly_machine.specs.declared.hop.Item.{Item}
use Rattle.rly_machine.proofs.Picking.{back_all}
use Rattle.rly_machine.specs.Sound.{IsLive}
use Rattle.rly_machine.proofs.Totals.{waiting_bytes-of}
use Rattle.rly_machine.proofs.Waiting.{stamps_le}
use Rattle.rly_machine.proofs.hop.Hop.decide.Goals as goal

pub new-lane-requires-clause-bytes : goal.new-lane-requires-clause-bytes
new-lane-requires-clause-bytes g c =
    let size : Item g.row.C.Denot → ℕ = λ item. g.C.Content.length_of item.payload in
    omega (arith, sum_by-take-drop size c.args.self.now.queue.items c.args.from, waiting_bytes-of g.C.Content.length_of (drop c.args.from c.args.self.now.queue.items), c.requires.bytes)

pub dequeue_with-verdict-requires-clause-stamps : goal.dequeue_with-verdict-requires-clause-stamps
dequeue_with-verdict-requires-clause-stamps g c =
    let len : g.row.C.Denot → ℕ = g.C.Content.length_of in
    let live = back_all (IsLive len c.args.rules.now c.args.self.now.moment max_seq) c.args.self.now.flight.items c.args.self.now.queue.items c.requires.sound.items in
    let left = All-drop (IsLive len c.args.rules.now c.args.self.now.moment max_seq) c.args.from c.args.self.now.queue.items live in
    rw c.new-lane.ensures (stamps_le len c.args.rules.now c.args.self.now.moment c.max-now.result max_seq (drop c.args.from c.args.self.now.queue.items) (omega (arith, c.max-now.ensures)) left)
