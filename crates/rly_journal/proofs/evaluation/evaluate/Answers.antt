use Rattle.rly_journal.proofs.Common.{[], ap, append-nil, arith, drain_items, length, length-append, take_all, vec_len, ◌-◌, ◌∙◌, ◌∷◌, ◌≡◌}
use Rattle.rly_journal.proofs.Evaluating.{evaluating_grouping, evaluating_next, evaluating_none}
use Rattle.rly_journal.proofs.evaluation.evaluate.Goals as goal

pub loop-call-init : goal.loop-call-init
loop-call-init c =
    let rest = ap drain_items c.into_iter-call-iterator.ensures.into_iter_gives ∙ c.drain-call-items.ensures.rest
    ∙ take_all (vec_len c.args.calls.now - 0) c.args.calls.now.items (omega (arith, c.args.calls.now.ok.0)) in
    search (arith, evaluating_none, rest, c.requires.empty, c.requires.used, c.requires.none, c.requires.room)

pub loop-call-preserved : goal.loop-call-preserved
loop-call-preserved c =
    let cut : drain_items c.loop-call.call-iterator ≡ c.in-Some.call ∷ drain_items c.next.new.self = c.in-Some.ensures.steps.0 in
    let pushed = c.push_reserved.ensures.items in
    let came = c.evaluate_call-outcome in
    let next = evaluating_next c.loop-call.invariant.so_far cut came.result came.ensures.outcome came.ensures.taken pushed in
    search (arith, next, ap length cut, ap length pushed, length-append c.loop-call.outcomes.items (came.result ∷ []), c.loop-call.invariant.room)

pub evaluate_call-outcome-requires : goal.evaluate_call-outcome-requires
evaluate_call-outcome-requires c =
    evaluating_grouping c.loop-call.invariant.so_far c.in-Some.ensures.steps.0 c.requires.count c.requires.above c.requires.ready

pub returns-clause-evaluated : goal.returns-clause-evaluated
returns-clause-evaluated c =
    let so_far = c.loop-call.invariant.so_far in
    rw (so_far.calls, c.in-None.ensures.steps.0, append-nil so_far.served) so_far.evaluated
