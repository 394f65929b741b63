use Rattle.std.proofs.Common.{◌∙◌, ◌∷◌, [], ap, subst}
use Rattle.rly_plan.specs.ContactPlan.{is_open}
use Rattle.rly_link.specs.LinkHistory.{TellsMore}
use Rattle.rly_link.specs.declared.turn.Point.TheVariants.{Heard}
use Rattle.rly_link.specs.declared.turn.Worker.TheVariants.{Sender}
use Rattle.rly_threads_workers.specs.HelpersTurns.{AreListed, HasHeard}
use Rattle.rly_threads_workers.specs.SenderState.{on_moment, send_room}
use Rattle.rly_threads_workers.specs.SenderTurns.{contact_left, core_requests, sender_worker}
use Rattle.rly_threads_workers.specs.declared.sender.SenderWorker.{SenderWorker as Worker}
use Rattle.rly_threads_workers.specs.declared.sender_state.SenderState.{SenderState}
use Rattle.rly_threads_workers.proofs.Senders.{requested}
use Rattle.rly_threads_workers.proofs.sender.SenderWorker.request.Goals as goal

pub returns-clause-requested : goal.returns-clause-requested
returns-clause-requested g c =
    let was = c.args.self.now in
    let w = sender_worker was.plan.now was.hop in
    let most = c.args.calls.now.most in
    let hears = c.gather.ensures.heard in
    let same = c.gather.ensures.same in
    let ready = c.moment.new.self in
    let go = c.between-go.result in
    let calls = c.list_calls.new.calls in (
      hears.0,
      go,
      requested w most c.args.ends.now c.gather.new.ends c.between-go.new.self was.pacing c.gather.new.self.pacing ready c.list_calls.new.self.pacing calls c.args.start hears.0 go c.contact_left-left.result c.is_open.result
          (subst (λ s. HasHeard s c.args.ends.now c.gather.new.ends was.pacing c.gather.new.self.pacing hears.0) c.sleep.ensures hears.1)
          (subst (λ (o : Worker). TellsMore c.gather.new.ends.handed c.between-go.new.self.handed ((Sender o.hop, Heard, go) ∷ [])) same c.between-go.ensures.told)
          c.between-go.ensures.same
          (c.contact_left-left.ensures ∙ ap (λ (o : Worker). contact_left (sender_worker o.plan.now o.hop) go.now) same)
          (c.is_open.ensures ∙ ap (λ (o : Worker). is_open o.plan.now o.hop go.now) same)
          (c.moment.ensures ∙ ap (λ (s : SenderState). on_moment s c.is_open.result go.since) c.left_is.ensures) c.list_calls.ensures.state
          (subst (λ (o : Worker). AreListed (sender_worker o.plan.now o.hop) go.now calls (core_requests most (send_room ready go.since) go.since ready).calls) same c.list_calls.ensures.listed),
    )
