use Rattle.std.proofs.Common.{length}
use Rattle.rly_hop.specs.Receiving.{receiver}
use Rattle.rly_threads_workers.specs.ReceiverTurns.{receiver_worker}
use Rattle.rly_threads_workers.proofs.Grown.{none_if, some_if}
use Rattle.rly_threads_workers.proofs.Receivers.{few_asks, none_left, turned_asked, turned_none}
use Rattle.rly_threads_workers.proofs.receiver.ReceiverWorker.turn.Goals as goal

pub returns-then-not-request-clause-done : goal.returns-then-not-request-clause-done
returns-then-not-request-clause-done g c =
    let gathered = c.request.ensures.requested in
    let asks = c.request.new.takes.asks.items in
    let none = none_if c.request.result (length asks) c.request.ensures.some c.if-not-request.true in
    turned_none (receiver_worker c.args.self.now.plan.now c.args.self.now.peer) (receiver c.args.self.now.own c.args.self.now.station) c.args.ends.now c.request.new.ends
    c.args.takes.now c.request.new.takes gathered.0 gathered.1 gathered.2 c.requires.ready.asks (none_left asks none)

pub call_all-outcome-requires-clause-count : goal.call_all-outcome-requires-clause-count
call_all-outcome-requires-clause-count g c =
    let gathered = c.request.ensures.requested in (
      some_if c.request.result (length c.request.new.takes.asks.items) c.request.ensures.some c.if-not-request.false,
      few_asks (receiver_worker c.args.self.now.plan.now c.args.self.now.peer) (receiver c.args.self.now.own c.args.self.now.station) c.args.ends.now c.request.new.ends
          c.args.takes.now c.request.new.takes gathered.0 gathered.1 c.requires.ready.room c.requires.ready.asks gathered.2,
    )

pub returns-clause-done : goal.returns-clause-done
returns-clause-done g c =
    let gathered = c.request.ensures.requested in
    let called = c.call_all-outcome.ensures in
    let some = some_if c.request.result (length c.request.new.takes.asks.items) c.request.ensures.some c.if-not-request.false in
    turned_asked (receiver_worker c.args.self.now.plan.now c.args.self.now.peer) (receiver c.args.self.now.own c.args.self.now.station) c.args.ends.now c.request.new.ends c.call_all-outcome.new.self c.answer.new.ends
    c.args.takes.now c.request.new.takes gathered.0 gathered.1 c.call_all-outcome.new.answers.items c.call_all-outcome.result.0 called.told.0 c.call_all-outcome.result.1
    gathered.2 c.requires.ready.asks c.requires.ready.waiting some called.asked called.told.1 called.same called.none_given c.answer.ensures.done
