use Rattle.std.proofs.Common.{None, subst}
use Rattle.std.specs.String.{string_bytes}
use Rattle.std.proofs.lemmas.Result.{err_from_is_err_and}
use Rattle.rly_daemon_lines.specs.HelpersOutflow.{outflow_of}
use Rattle.rly_daemon_lines.proofs.Outflows.{adds_between, adds_held, adds_none, begins_between, begins_lost}
use Rattle.rly_daemon_lines.proofs.Rounds.{ToldSoFar, next_slot, told_begun, told_more}
use Rattle.rly_daemon_lines.proofs.line_batch.add_replies.Goals as goal

pub returns-in_err-rest-clause-begun : goal.returns-in_err-rest-clause-begun
returns-in_err-rest-clause-begun g c =
    let failed = err_from_is_err_and c.from_residual.result c.from_residual.ensures.1 in
    let cut = next_slot c.args.slots.now c.loop-slot.slot-index None c.loop-slot-test.true in
    let so_far = subst (λ left. ToldSoFar (outflow_of (g.W.Write.contents c.args.writer.now) (string_bytes c.args.text.now)) (outflow_of (g.W.Write.contents c.loop-slot.writer) (string_bytes c.loop-slot.text))
    c.args.slots.now c.args.answers.now left c.loop-slot.rest.now) cut c.loop-slot.invariant in
    rw failed.1 (told_begun (outflow_of (g.W.Write.contents c.args.writer.now) (string_bytes c.args.text.now)) (outflow_of (g.W.Write.contents c.loop-slot.writer) (string_bytes c.loop-slot.text))
    (outflow_of (g.W.Write.contents c.loop-slot.writer) (string_bytes c.add_slot.new.text)) c.args.slots.now c.args.answers.now _ _ c.loop-slot.rest.now so_far
    (begins_lost (g.W.Write.contents c.loop-slot.writer) (string_bytes c.loop-slot.text) (string_bytes c.add_slot.new.text) _ c.in_err-rest.ensures.none))

pub returns-in_err-relieve-clause-begun : goal.returns-in_err-relieve-clause-begun
returns-in_err-relieve-clause-begun g c =
    let failed = err_from_is_err_and c.from_residual-in_err-relieve.result c.from_residual-in_err-relieve.ensures.1 in
    let cut = next_slot c.args.slots.now c.loop-slot.slot-index _ c.loop-slot-test.true in
    let so_far = subst (λ left. ToldSoFar (outflow_of (g.W.Write.contents c.args.writer.now) (string_bytes c.args.text.now)) (outflow_of (g.W.Write.contents c.loop-slot.writer) (string_bytes c.loop-slot.text))
    c.args.slots.now c.args.answers.now left c.loop-slot.rest.now) cut c.loop-slot.invariant in
    let held = adds_held (g.W.Write.contents c.loop-slot.writer) (string_bytes c.loop-slot.text) (string_bytes c.add_slot.new.text) _ c.in_ok-rest.ensures.text in
    let begun = begins_between (outflow_of (g.W.Write.contents c.loop-slot.writer) (string_bytes c.loop-slot.text)) (outflow_of (g.W.Write.contents c.loop-slot.writer) (string_bytes c.loop-slot.text))
    (outflow_of (g.W.Write.contents c.loop-slot.writer) (string_bytes c.add_slot.new.text)) (outflow_of (g.W.Write.contents c.relieve.new.writer) (string_bytes c.relieve.new.text)) _ (adds_none (outflow_of (g.W.Write.contents c.loop-slot.writer) (string_bytes c.loop-slot.text))) held c.in_err-relieve.ensures.begun in
    rw failed.1 (told_begun (outflow_of (g.W.Write.contents c.args.writer.now) (string_bytes c.args.text.now)) (outflow_of (g.W.Write.contents c.loop-slot.writer) (string_bytes c.loop-slot.text))
    (outflow_of (g.W.Write.contents c.relieve.new.writer) (string_bytes c.relieve.new.text)) c.args.slots.now c.args.answers.now _ _ c.loop-slot.rest.now so_far begun)

pub loop-slot-preserved : goal.loop-slot-preserved
loop-slot-preserved g c =
    let cut = next_slot c.args.slots.now c.loop-slot.slot-index _ c.loop-slot-test.true in
    let so_far = subst (λ left. ToldSoFar (outflow_of (g.W.Write.contents c.args.writer.now) (string_bytes c.args.text.now)) (outflow_of (g.W.Write.contents c.loop-slot.writer) (string_bytes c.loop-slot.text))
    c.args.slots.now c.args.answers.now left c.loop-slot.rest.now) cut c.loop-slot.invariant in
    let held = adds_held (g.W.Write.contents c.loop-slot.writer) (string_bytes c.loop-slot.text) (string_bytes c.add_slot.new.text) _ c.in_ok-rest.ensures.text in
    let added = adds_between (outflow_of (g.W.Write.contents c.loop-slot.writer) (string_bytes c.loop-slot.text)) (outflow_of (g.W.Write.contents c.loop-slot.writer) (string_bytes c.loop-slot.text))
    (outflow_of (g.W.Write.contents c.loop-slot.writer) (string_bytes c.add_slot.new.text)) (outflow_of (g.W.Write.contents c.relieve.new.writer) (string_bytes c.relieve.new.text)) _ (adds_none (outflow_of (g.W.Write.contents c.loop-slot.writer) (string_bytes c.loop-slot.text))) held c.in_ok-relieve.ensures.same in
    told_more (outflow_of (g.W.Write.contents c.args.writer.now) (string_bytes c.args.text.now)) (outflow_of (g.W.Write.contents c.loop-slot.writer) (string_bytes c.loop-slot.text))
    (outflow_of (g.W.Write.contents c.relieve.new.writer) (string_bytes c.relieve.new.text)) c.args.slots.now c.args.answers.now _ _ c.loop-slot.rest.now c.in_ok-rest.rest.now so_far c.in_ok-rest.ensures.rest added
