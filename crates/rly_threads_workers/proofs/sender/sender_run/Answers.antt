use Rattle.std.proofs.Common.{◌≡◌, ◌∙◌, ◌∷◌, [], ap, refl, subst, sym, true}
use Rattle.std.specs.Prelude.{Some, option_copied}
use Rattle.rly_hop.specs.Sending.{sender}
use Rattle.rly_plan.specs.ContactPlan.{next_hop_at, rate, resend}
use Rattle.rly_link.specs.declared.turn.Go.{Go}
use Rattle.rly_link.specs.declared.turn.Point.TheVariants.{Start}
use Rattle.rly_link.specs.declared.turn.Worker.TheVariants.{Sender}
use Rattle.rly_link.specs.LinkHistory.{TellsMore}
use Rattle.rly_threads_workers.specs.SenderTurns.{SenderWorker, sender_worker, sender_done, sender_turn}
use Rattle.rly_threads_workers.specs.HelpersTurns.{Did}
use Rattle.rly_threads_workers.specs.SenderState.{first_sender_state}
use Rattle.rly_threads_workers.specs.Runs.{Ran}
use Rattle.rly_threads_workers.specs.Turns.{done_in}
use Rattle.rly_threads_workers.proofs.Grown.{begun, did_end, did_start, gone_on, goes_on}
use Rattle.rly_threads_workers.proofs.Senders.{has_sent}
use Rattle.rly_threads_workers.proofs.sender.sender_run.Goals as goal

pub loop-turn-init : goal.loop-turn-init
loop-turn-init g c = (
  refl,
  refl,
  c.reserve-calls.ensures.idle,
  refl,
  begun (sender_turn (sender_worker c.args.plan.now c.args.hop) c.reserve-calls.result.most) c.new-pacing.result c.args.ends.now,
)

pub loop-turn-preserved : goal.loop-turn-preserved
loop-turn-preserved g c =
    let before = c.loop-turn.invariant in
    let done = c.turn.ensures.done in
    let was = c.loop-turn.outlet in
    let now = c.turn.new.self in
    let most = c.reserve-calls.result.most in
    let w = sender_worker c.args.plan.now c.args.hop in
    let p = was.pacing in
    let next = now.pacing in
    let same : sender_worker was.plan.now was.hop ≡ w = λ i. sender_worker (before.0 i).now (before.1 i) in
    let given = done.0 in
    let did : Did c.between-go.new.self c.turn.new.ends next (sender_done w most p given) =
    subst (λ m. Did c.between-go.new.self c.turn.new.ends next (sender_done w m p given)) before.3
    (subst (λ (w : SenderWorker). Did c.between-go.new.self c.turn.new.ends next (sender_done w c.loop-turn.calls.most p given)) same done.2) in
    let start = subst (λ (x : Go). TellsMore c.loop-turn.ends.handed c.between-go.new.self.handed ((Sender c.args.hop, Start, x) ∷ []))
    (goes_on c.between-go.result c.if-not-go.false ∙ (λ i. record (sym done.1 i) { on = true })) c.between-go.ensures.told in (
      c.turn.ensures.plan ∙ before.0,
      c.turn.ensures.hop ∙ before.1,
      c.turn.ensures.idle,
      c.turn.ensures.most ∙ before.3,
      gone_on (sender_turn w most) c.new-pacing.result p next c.args.ends.now c.loop-turn.ends c.turn.new.ends given before.4
          (did_start c.loop-turn.ends c.between-go.new.self c.turn.new.ends next _ (Sender c.args.hop) given.start start c.between-go.ensures.same did),
    )

pub returns-then-not-go : goal.returns-then-not-go
returns-then-not-go g c =
    let before = c.loop-turn.invariant.4 in
    let most = c.reserve-calls.result.most in
    let plan = c.args.plan.now in
    let hop = c.args.hop in
    let params = c.args.params.now in
    let act = sender_turn (sender_worker plan hop) most in
    let neighbour = c.in-Some.neighbour.now in
    let found : Some neighbour ≡ next_hop_at plan hop = ap option_copied (sym c.in-Some.is) ∙ c.hop.ensures in
    let core : c.new-core.result ≡ sender (record { 0 = plan.station }) (record { 0 = neighbour.station }) params.window =
    c.new-core.ensures ∙ (λ i. sender (record { 0 = c.station.ensures i }) (record { 0 = neighbour.station }) params.window) in
    let first = first_sender_state (sender (record { 0 = plan.station }) (record { 0 = neighbour.station }) params.window) params (resend plan hop) (rate plan hop) in
    let first_is : c.new-pacing.result ≡ first = c.new-pacing.ensures ∙ (λ i. first_sender_state (core i) params (c.resend.ensures i) (c.rate.ensures i)) in
    let ran : Ran c.args.ends.now c.between-go.new.self (Sender hop) (done_in act c.new-pacing.result before.turns) =
    did_end c.args.ends.now c.loop-turn.ends c.between-go.new.self c.loop-turn.outlet.pacing (done_in act c.new-pacing.result before.turns) (Sender hop) c.between-go.result
    before.did c.between-go.ensures.told c.between-go.ensures.same c.if-not-go.true in
    record {
      turns = has_sent plan hop params c.args.ends.now c.between-go.new.self neighbour most before.turns found c.reserve-calls.ensures.most
          (subst (λ p. Ran c.args.ends.now c.between-go.new.self (Sender hop) (done_in act p before.turns)) first_is ran);
    }
