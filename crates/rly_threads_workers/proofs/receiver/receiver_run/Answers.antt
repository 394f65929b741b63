use Rattle.std.proofs.Common.{◌≡◌, ◌∙◌, ◌∷◌, [], ap, refl, subst, sym}
use Rattle.std.specs.Prelude.{Some, option_copied}
use Rattle.rly_hop.specs.Receiver.{Receiver}
use Rattle.rly_hop.specs.Receiving.{receiver}
use Rattle.rly_plan.specs.ContactPlan.{peer_at}
use Rattle.rly_link.specs.declared.turn.Go.{Go}
use Rattle.rly_link.specs.declared.turn.Point.TheVariants.{Start}
use Rattle.rly_link.specs.declared.turn.Worker.TheVariants as worker
use Rattle.rly_link.specs.LinkHistory.{TellsMore}
use Rattle.rly_threads_workers.specs.HelpersTurns.{Did}
use Rattle.rly_threads_workers.specs.ReceiverTurns.{Arrivals, ReceiverWorker, receiver_worker, receiver_done, receiver_turn}
use Rattle.rly_threads_workers.specs.Runs.{Ran}
use Rattle.rly_threads_workers.specs.Turns.{done_in}
use Rattle.rly_threads_workers.proofs.Grown.{begun, did_end, did_start, goes_on, gone_on}
use Rattle.rly_threads_workers.proofs.Receivers.{has_received}
use Rattle.rly_threads_workers.proofs.receiver.receiver_run.Goals as goal

pub loop-turn-init : goal.loop-turn-init
loop-turn-init g c =
    let r : Receiver = receiver (record { 0 = c.station.result }) (record { 0 = c.in-Some.neighbour.now.station }) in (
      c.reserve-takes.ensures.ready,
      refl,
      begun (receiver_turn (receiver_worker c.args.plan.now c.args.peer) c.reserve-takes.result.most) r c.args.ends.now,
    )

pub loop-turn-preserved : goal.loop-turn-preserved
loop-turn-preserved g c =
    let before = c.loop-turn.invariant in
    let done = c.turn.ensures.done in
    let most = c.reserve-takes.result.most in
    let w : ReceiverWorker = receiver_worker c.args.plan.now c.args.peer in
    let r : Receiver = receiver (record { 0 = c.station.result }) (record { 0 = c.in-Some.neighbour.now.station }) in
    let given : Arrivals = record done.0 { start = c.between-go.result } in
    let did : Did c.between-go.new.self c.turn.new.ends r (receiver_done w most r given) =
    subst (λ m. Did c.between-go.new.self c.turn.new.ends r (receiver_done w m r done.0)) before.1 done.1 in
    let start = subst (λ (x : Go). TellsMore c.loop-turn.ends.handed c.between-go.new.self.handed ((worker.Receiver c.args.peer, Start, x) ∷ [])) (goes_on c.between-go.result c.if-not-go.false) c.between-go.ensures.told in (
      c.turn.ensures.ready,
      c.turn.ensures.most ∙ before.1,
      gone_on (receiver_turn w most) r r r c.args.ends.now c.loop-turn.ends c.turn.new.ends given before.2
          (did_start c.loop-turn.ends c.between-go.new.self c.turn.new.ends r _ (worker.Receiver c.args.peer) c.between-go.result start c.between-go.ensures.same did),
    )

pub returns-then-not-go : goal.returns-then-not-go
returns-then-not-go g c =
    let before = c.loop-turn.invariant.2 in
    let most = c.reserve-takes.result.most in
    let plan = c.args.plan.now in
    let neighbour = c.in-Some.neighbour.now in
    let r : Receiver = receiver (record { 0 = c.station.result }) (record { 0 = neighbour.station }) in
    let own : r ≡ receiver (record { 0 = plan.station }) (record { 0 = neighbour.station }) =
    λ i. receiver (record { 0 = c.station.ensures i }) (record { 0 = neighbour.station }) in
    let act = receiver_turn (receiver_worker plan c.args.peer) most in
    let found : Some neighbour ≡ peer_at plan c.args.peer = ap option_copied (sym c.in-Some.is) ∙ c.peer.ensures in
    let ran : Ran c.args.ends.now c.between-go.new.self (worker.Receiver c.args.peer) (done_in act r before.turns) =
    did_end c.args.ends.now c.loop-turn.ends c.between-go.new.self r (done_in act r before.turns) (worker.Receiver c.args.peer) c.between-go.result
    before.did c.between-go.ensures.told c.between-go.ensures.same c.if-not-go.true in
    record {
      turns = has_received plan c.args.peer c.args.ends.now c.between-go.new.self neighbour most before.turns found c.reserve-takes.ensures.most
          (subst (λ (f : Receiver). Ran c.args.ends.now c.between-go.new.self (worker.Receiver c.args.peer) (done_in act f before.turns)) own ran);
    }
