use Rattle.std.proofs.Common.{◌∙◌, ◌∷◌, [], arith, refl, subst, take}
use Rattle.rly_link.specs.LinkHistory.{TellsMore, new_hearing, packet_in}
use Rattle.rly_threads_workers.specs.SenderState.{sender_on_hearing}
use Rattle.rly_threads_workers.proofs.Senders.{hearing_full, hearing_more, hearing_none, hearing_quiet}
use Rattle.rly_threads_workers.proofs.sender.SenderWorker.gather.Goals as goal

pub loop-place-init : goal.loop-place-init
loop-place-init g c = record { same = refl; heard = hearing_none c.args.sleep c.args.ends.now c.args.self.now.pacing }

pub returns-in_default-clause-heard : goal.returns-in_default-clause-heard
returns-in_default-clause-heard g c =
    let before = c.loop-place.invariant in
    let heard = subst (λ f. TellsMore c.loop-place.ends.heard c.receive-found.new.self.heard (new_hearing c.sleep_at.result (packet_in f c.receive-found.new.buffer) ∷ [])) c.in_default.is c.receive-found.ensures.heard in
    hearing_quiet c.args.sleep c.args.ends.now c.loop-place.ends c.receive-found.new.self c.args.self.now.pacing c.loop-place.self.pacing c.loop-place.place c.sleep_at.result
    before.heard c.loop-place-test.true c.sleep_at.ensures heard c.receive-found.ensures.same

pub loop-place-preserved : goal.loop-place-preserved
loop-place-preserved g c =
    let before = c.loop-place.invariant in
    let heard = subst (λ f. TellsMore c.loop-place.ends.heard c.receive-found.new.self.heard (new_hearing c.sleep_at.result (packet_in f c.receive-found.new.buffer) ∷ [])) c.in-Some.is c.receive-found.ensures.heard in
    record {
      same = c.hear.ensures.same ∙ (λ i. record (before.same i) { pacing = c.hear.new.self.pacing });
      heard = hearing_more c.args.sleep c.args.ends.now c.loop-place.ends c.receive-found.new.self c.args.self.now.pacing c.loop-place.self.pacing c.hear.new.self.pacing
          c.loop-place.place (take c.in-Some.count c.receive-found.new.buffer) c.sleep_at.result before.heard c.sleep_at.ensures heard c.receive-found.ensures.same
          (c.hear.ensures.pacing ∙ (λ i. sender_on_hearing c.loop-place.self.pacing (c.message_in.ensures i)));
    }

pub returns-clause-heard : goal.returns-clause-heard
returns-clause-heard g c =
    hearing_full c.args.sleep c.args.ends.now c.loop-place.ends c.args.self.now.pacing c.loop-place.self.pacing c.loop-place.place c.loop-place.invariant.heard
    (omega (arith, c.loop-place-test.false, c.loop-place.auto.place-end))
