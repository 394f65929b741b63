use Rattle.std.proofs.Common.{ℕ, ◌≡◌, ◌+◌, ◌%◌, ◌^◌, ◌∙◌, List, drop, ap, sym, arith}
use Rattle.std.proofs.lemmas.List.{drop-drop}
use Rattle.rly_machine.specs.State.{bytes_of}
use Rattle.rly_machine.specs.declared.hop.Item.{Item}
use Rattle.rly_machine.proofs.Totals.{behind_whole}
use Rattle.rly_machine.proofs.lane.QueueLaneLane.bytes_behind.Goals as goal

pub returns : goal.returns
returns g c =
    let len : g.row.C.Denot → ℕ = g.C.Content.length_of in
    let items : List (Item g.row.C.Denot) = c.self.inside.queue.now.items in
    let from : ℕ = c.self.inside.from in
    let place : from + c.args.index + 1 ≡ from + (c.args.index + 1) = omega arith in
    rw (← c.self.view_is)
    (c.bytes_behind.ensures
    ∙ ap (λ n. bytes_of len (drop n items) % 2 ^ 64) place
    ∙ ap (λ (rest : List (Item g.row.C.Denot)). bytes_of len rest % 2 ^ 64) (sym (drop-drop (c.args.index + 1) from items))
    ∙ behind_whole len (drop from items) (c.args.index + 1) c.self.invariant.2)
