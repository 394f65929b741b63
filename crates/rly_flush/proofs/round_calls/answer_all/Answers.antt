use Rattle.std.proofs.Common.{◌∙◌, ap, arith, length}
use Rattle.rly_line.specs.Batches.{AnswersView}
use Rattle.rly_flush.proofs.Answering.{all_filled, first_wanted, may_answer, more_wanted, next_way, there_are}
use Rattle.rly_flush.proofs.round_calls.answer_all.Goals as goal

pub fill-filled-requires-clause-none : goal.fill-filled-requires-clause-none
fill-filled-requires-clause-none g c =
    let kept = c.loop-wanted.invariant.2 in
    ap (λ (a : AnswersView). a.answers) (first_wanted _ _ _ _ _ _ _ _ _ _ kept.under_way.1 kept.wanted c.in-Some.ensures.steps.0 kept.count c.index-batch.ensures)

pub fill-filled-requires-clause-enough : goal.fill-filled-requires-clause-enough
fill-filled-requires-clause-enough g c =
    let kept = c.loop-wanted.invariant.2 in
    there_are _ _ _ _ _ _ _ _ _ _ kept.under_way.1 kept.wanted c.in-Some.ensures.steps.0 kept.count c.index-batch.ensures

pub answer-requires-clause-count : goal.answer-requires-clause-count
answer-requires-clause-count g c =
    let kept = c.loop-wanted.invariant.2 in
    all_filled _ _ _ _ _ _ _ _ _ _ kept.under_way.1 kept.wanted c.in-Some.ensures.steps.0 kept.count c.index-batch.ensures _ c.fill-filled.ensures.filled

pub answer-requires-clause-answered : goal.answer-requires-clause-answered
answer-requires-clause-answered g c =
    let kept = c.loop-wanted.invariant.2 in
    may_answer _ _ _ _ _ _ _ _ _ _ kept.under_way.1 kept.wanted c.in-Some.ensures.steps.0 kept.count c.index-batch.ensures _ c.fill-filled.ensures.filled

pub loop-wanted-preserved : goal.loop-wanted-preserved
loop-wanted-preserved g c =
    let kept = c.loop-wanted.invariant.2 in (
      tt,
      tt,
      record {
        count = omega (arith, ap length c.in-Some.ensures.steps.0, kept.count);
        wanted = more_wanted _ _ _ _ _ _ _ _ _ _ kept.under_way.1 kept.wanted c.in-Some.ensures.steps.0 kept.count c.index-batch.ensures;
        under_way = (
          kept.under_way.0,
          next_way _ _ _ _ _ _ _ _ _ _ kept.under_way.1 kept.wanted c.in-Some.ensures.steps.0 kept.count c.index-batch.ensures _ c.fill-filled.ensures.filled c.fill-filled.ensures.rest
              c.answer.ensures.taken c.answer.ensures.start c.answer.ensures.history,
        );
        answers_capacity = c.fill-filled.ensures.capacity ∙ kept.answers_capacity;
        of = c.answer.ensures.of ∙ kept.of;
        taken = c.answer.ensures.taken ∙ kept.taken;
        start = c.answer.ensures.start ∙ kept.start;
        over = c.answer.ensures.over ∙ kept.over;
        names = c.answer.ensures.names ∙ kept.names;
        holds = c.answer.ensures.holds;
      },
    )
