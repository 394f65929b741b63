use Rattle.std.proofs.Common.{◌∙◌, ◌∷◌, [], ap, arith, length, subst, sym, take}
use Rattle.std.specs.Option.{option_map}
use Rattle.rly_hop.specs.Payloads.{message_bytes}
use Rattle.rly_hop.specs.Receiving.{receiver}
use Rattle.rly_link.specs.LinkHistory.{TellsMore, new_hearing, packet_in}
use Rattle.rly_threads_workers.specs.HelpersTurns.{HasMore}
use Rattle.rly_threads_workers.specs.ReceiverTurns.{Arrival, receiver_worker, wanted_by}
use Rattle.rly_threads_workers.proofs.Receivers.{fewer_after, gathering_full, gathering_more, gathering_none, gathering_quiet, one_at_most}
use Rattle.rly_threads_workers.proofs.receiver.ReceiverWorker.gather.Goals as goal

pub loop-place-init : goal.loop-place-init
loop-place-init g c =
    let ready = c.requires.ready in record {
      waiting = record {
        room = ready.room;
        each = ap length ready.waiting ∙ sym (ap length ready.asks);
        none = ready.answers;
        place = omega (arith, ap length ready.asks);
      };
      fewer = omega (arith, ap length ready.asks);
      gathered = gathering_none (receiver_worker c.args.self.now.plan.now c.args.self.now.peer) (receiver c.args.self.now.own c.args.self.now.station) c.args.ends.now c.args.takes.now;
    }

pub returns-in_default-clause-gathered : goal.returns-in_default-clause-gathered
returns-in_default-clause-gathered g c =
    let heard = subst (λ f. TellsMore c.loop-place.ends.heard c.hear-found.new.self.heard (new_hearing c.sleep_at-sleep.result (packet_in f c.hear-found.new.buffer) ∷ [])) c.in_default.is c.hear-found.ensures.heard in
    gathering_quiet (receiver_worker c.args.self.now.plan.now c.args.self.now.peer) (receiver c.args.self.now.own c.args.self.now.station) c.args.ends.now c.loop-place.ends c.hear-found.new.self
    c.args.takes.now c.loop-place.takes c.loop-place.place c.hear-found.result.1 c.sleep_at-sleep.result c.loop-place.invariant.gathered
    c.loop-place-test.true c.sleep_at-sleep.ensures heard c.hear-found.ensures.told c.hear-found.ensures.same

pub loop-place-preserved : goal.loop-place-preserved
loop-place-preserved g c =
    let before = c.loop-place.invariant in
    let w = receiver_worker c.args.self.now.plan.now c.args.self.now.peer in
    let r = receiver c.args.self.now.own c.args.self.now.station in
    let more = c.hear.ensures.more in
    let now = c.hear-found.result.1.now in
    let a : Arrival = record { packet = take c.in-Some.count c.hear-found.new.buffer; heard = c.hear-found.result.1; refused = more.0 } in
    let heard = subst (λ f. TellsMore c.loop-place.ends.heard c.hear-found.new.self.heard (new_hearing c.sleep_at-sleep.result (packet_in f c.hear-found.new.buffer) ∷ [])) c.in-Some.is c.hear-found.ensures.heard in
    record {
      waiting = c.hear.ensures.waiting;
      fewer = fewer_after c.loop-place.takes c.hear.new.takes (wanted_by w c.loop-place.takes.most r now more.0 (option_map message_bytes c.message_in.result)) c.loop-place.place more.1
          (one_at_most w c.loop-place.takes.most r now more.0 (option_map message_bytes c.message_in.result)) before.fewer;
      gathered = gathering_more w r c.args.ends.now c.loop-place.ends c.hear-found.new.self c.args.takes.now c.loop-place.takes c.hear.new.takes c.loop-place.place a c.sleep_at-sleep.result
          before.gathered c.sleep_at-sleep.ensures heard c.hear-found.ensures.told c.hear-found.ensures.same
          (subst (HasMore c.loop-place.takes c.hear.new.takes) (λ i. wanted_by w (before.gathered.more.most i) r now more.0 (c.message_in.ensures i)) more.1);
    }

pub returns-clause-gathered : goal.returns-clause-gathered
returns-clause-gathered g c =
    gathering_full (receiver_worker c.args.self.now.plan.now c.args.self.now.peer) (receiver c.args.self.now.own c.args.self.now.station) c.args.ends.now c.loop-place.ends
    c.args.takes.now c.loop-place.takes c.loop-place.place c.loop-place.invariant.gathered (omega (arith, c.loop-place-test.false, c.loop-place.auto.place-end))
