use Rattle.std.proofs.Common.{◌≤◌, ◌∙◌, ap, length, subst, sym}
use Rattle.rly_hop_pacing.specs.CongestionControl.{repeats}
use Rattle.rly_threads_workers.specs.SenderTurns.{repeat_count}
use Rattle.rly_threads_workers.proofs.Senders.{again_few, missing_few}
use Rattle.rly_threads_workers.proofs.sender.SenderWorker.list_calls.Goals as goal

pub list_action-requires-clause-again : goal.list_action-requires-clause-again
list_action-requires-clause-again c =
    let most = c.args.calls.now.most in
    let room = c.room-room.result in
    let pace = c.args.self.now.pacing.pace in
    let at = c.args.go.since in
    let missing = c.missing.new.numbers.items in
    let few : length missing ≤ repeat_count most room =
    missing_few pace (repeat_count most room) at missing (c.missing.ensures ∙ ap (λ n. repeats pace n at) c.repeat_count-count.ensures) in
    subst (λ l. length l ≤ repeat_count most room) (sym c.add_spare.ensures) (again_few pace most room at missing few)
