use Rattle.std.proofs.Common.{◌∷◌, [], length, subst}
use Rattle.rly_plan.specs.ContactPlan.{is_open}
use Rattle.rly_link.specs.LinkHistory.{TellsMore}
use Rattle.rly_link.specs.declared.turn.Point.TheVariants.{Answered, Call}
use Rattle.rly_link.specs.declared.turn.Worker.TheVariants.{Sender}
use Rattle.rly_threads_workers.specs.HelpersTurns.{HasHandedEvent, asks_in, outcome_events}
use Rattle.rly_threads_workers.specs.SenderTurns.{sender_worker}
use Rattle.rly_threads_workers.specs.declared.sender.SenderWorker.{SenderWorker as Worker}
use Rattle.rly_threads_workers.proofs.Grown.{none_if, some_if}
use Rattle.rly_threads_workers.proofs.Senders.{answers_fit, none_of, turned_asked, turned_none}
use Rattle.rly_threads_workers.proofs.sender.SenderWorker.turn.Goals as goal

pub returns-then-not-request-clause-idle : goal.returns-then-not-request-clause-idle
returns-then-not-request-clause-idle g c =
    let listed = c.request.ensures.requested.2.calls in
    let asks = asks_in c.request.new.calls in
    let none = none_if c.request.result (length asks) c.request.ensures.some c.if-not-request.true in
    record { room = listed.room; asks = none_of asks none; answers = listed.answers }

pub returns-then-not-request-clause-done : goal.returns-then-not-request-clause-done
returns-then-not-request-clause-done g c =
    let was = c.args.self.now in
    let requested = c.request.ensures.requested in
    let none = none_if c.request.result (length (asks_in c.request.new.calls)) c.request.ensures.some c.if-not-request.true in
    turned_none (sender_worker was.plan.now was.hop) c.args.calls.now.most c.args.ends.now c.request.new.ends was.pacing c.request.new.self.pacing c.request.new.calls c.args.start
    requested.0 requested.1 requested.2 none

pub answer-requires-clause-numbers : goal.answer-requires-clause-numbers
answer-requires-clause-numbers g c =
    let listed = c.request.ensures.requested.2.calls in
    let submitted = c.submit-outcome.ensures in
    answers_fit c.request.new.calls c.submit-outcome.new.self c.submit-outcome.result.0 submitted.same listed.numbers submitted.each submitted.none_given

pub returns-clause-done : goal.returns-clause-done
returns-clause-done g c =
    let was = c.args.self.now in
    let now = c.request.new.self in
    let requested = c.request.ensures.requested in
    let same = c.request.ensures.same in
    let submitted = c.submit-outcome.ensures in
    let after = c.submit-outcome.result.1 in
    let mid = c.request.new.ends in
    let called = c.submit-outcome.new.ends in
    let events = outcome_events c.submit-outcome.new.self c.submit-outcome.result.0 in
    let some = some_if c.request.result (length (asks_in c.request.new.calls)) c.request.ensures.some c.if-not-request.false in
    turned_asked (sender_worker was.plan.now was.hop) c.args.calls.now.most c.args.ends.now mid called c.answer.new.ends was.pacing now.pacing c.answer.new.self.pacing
    c.request.new.calls c.submit-outcome.new.self c.args.start requested.0 requested.1 c.submit-outcome.result.0 submitted.told.0 after
    requested.2 some submitted.asked
    (subst (λ (o : Worker). TellsMore mid.handed called.handed ((Sender o.hop, Call, submitted.told.0) ∷ (Sender o.hop, Answered, after) ∷ [])) same submitted.told.1)
    submitted.ends submitted.same submitted.each
    (subst (λ (o : Worker). HasHandedEvent (is_open o.plan.now o.hop after.now) after.since called c.answer.new.ends now.pacing c.answer.new.self.pacing events) same c.answer.ensures.told)
