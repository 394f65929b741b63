use Rattle.std.proofs.Common.{[], ◌∷◌, ◌++◌, List, ap, ◌∙◌}
use Rattle.rly_machine.specs.declared.call.Call.{Call}
use Rattle.rly_world_pair.proofs.StationCalls.{one_round}
use Rattle.rly_world_pair.proofs.spool.call_journal.Goals as goal

pub returns-clause-called : goal.returns-clause-called
returns-clause-called g c honest =
    let call : Call = record { seat = record { 0 = 0 }; number = 0; ask = c.args.ask } in
    one_round g.D.Disk.state c.args.journal.now c.round.new.self call c.push_reserved.new.self.items c.in_ok-answers.answers.items c.round.new.answers.items c.remove.result
    (c.push_reserved.ensures.items ∙ ap (λ (l : List Call). l ++ call ∷ []) c.in_ok-calls.ensures.items) c.in_ok-answers.ensures.items
    g.met.D.Disk.consistent c.round.ensures.later honest (c.in_ok-round.ensures.any_moment honest) c.in_ok-round.ensures.answers c.in_ok-round.ensures.lost c.remove.ensures.value
