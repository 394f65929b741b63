use Rattle.std.proofs.Common.{◌≡◌, [], ◌∷◌, ◌+◌, ◌-◌, ◌∙◌, ap, arith, length, length-append, refl, subst, sym, vec_len}
use Rattle.std.proofs.lemmas.List.{take_all}
use Rattle.std_alloc.specs.Vec.Iter.{drain_items}
use Rattle.rly_journal_fetch.specs.FetchReads.{fetch_tries}
use Rattle.rly_journal_fetch.proofs.Answered.{IsAnswering, all_reads, answering_done, answering_next, answering_none, answering_there}
use Rattle.rly_disk.proofs.TriedReads.{tried_new, tried_settled}
use Rattle.rly_disk.proofs.TriedRows.{tries_later}
use Rattle.rly_journal_fetch.proofs.answers.answer_all.Goals as goal

pub loop-outcome-init : goal.loop-outcome-init
loop-outcome-init g c =
    let rest : drain_items c.into_iter-outcome-iterator.result ≡ c.args.outcomes.now.items =
    ap drain_items c.into_iter-outcome-iterator.ensures.into_iter_gives ∙ c.drain-outcome-items.ensures.rest
    ∙ take_all (vec_len c.args.outcomes.now - 0) c.args.outcomes.now.items (omega (arith, c.args.outcomes.now.ok.0)) in (
      tt,
      tt,
      subst (λ l. IsAnswering g.D.Disk.state c.args.outcomes.now.items l c.args.answers.now.items c.args.answers.now.items c.args.disk.now c.args.disk.now) (sym rest)
          (answering_none g.D.Disk.state c.args.outcomes.now.items c.args.answers.now.items c.args.disk.now),
      (let size : length (drain_items c.into_iter-outcome-iterator.result) ≡ length c.args.outcomes.now.items = ap length rest in omega (arith, size, c.requires.room)),
      refl,
    )

pub answer_one-answer-requires : goal.answer_one-answer-requires
answer_one-answer-requires g c = record {
  there = answering_there g.D.Disk.state c.loop-outcome.invariant.2 c.in-Some.ensures.steps.0 c.requires.there;
}

pub loop-outcome-preserved : goal.loop-outcome-preserved
loop-outcome-preserved g c =
    let cut : drain_items c.loop-outcome.outcome-iterator ≡ c.in-Some.outcome ∷ drain_items c.next.new.self = c.in-Some.ensures.steps.0 in
    let size : length (drain_items c.loop-outcome.outcome-iterator) ≡ length (drain_items c.next.new.self) + 1 =
    ap length cut ∙ (let e : length (c.in-Some.outcome ∷ drain_items c.next.new.self) ≡ length (drain_items c.next.new.self) + 1 = omega arith in e) in
    let pushed : length c.push_reserved.new.self.items ≡ length c.loop-outcome.answers.items + 1 =
    ap length c.push_reserved.ensures.items ∙ length-append c.loop-outcome.answers.items (c.answer_one-answer.result ∷ []) in (
      tt,
      tt,
      answering_next g.D.Disk.state c.in-Some.outcome c.answer_one-answer.result c.loop-outcome.invariant.2 cut c.push_reserved.ensures.items (g.met.D.Disk.consistent c.args.disk.now)
          c.answer_one-answer.ensures.answer c.answer_one-answer.ensures.trace,
      omega (arith, size, pushed, c.loop-outcome.invariant.3, c.push_reserved.ensures.capacity),
      c.push_reserved.ensures.capacity ∙ c.loop-outcome.invariant.4,
    )

pub returns-clause-answers : goal.returns-clause-answers
returns-clause-answers g c = answering_done g.D.Disk.state c.loop-outcome.invariant.2 c.in-None.ensures.steps.0

pub returns-clause-only : goal.returns-clause-only
returns-clause-only g c =
    let all = answering_done g.D.Disk.state c.loop-outcome.invariant.2 c.in-None.ensures.steps.0 in
    let rows = fetch_tries c.args.outcomes.now.items all.0 in
    let reads = all_reads c.args.outcomes.now.items all.0 in
    record {
      crash = λ honest. tried_new g.D.Disk.state rows all.3 reads honest (g.met.D.Disk.consistent c.args.disk.now honest);
      settled = λ settled. tried_settled g.D.Disk.state rows all.3 reads settled (g.met.D.Disk.consistent c.loop-outcome.disk);
      later = tries_later g.D.Disk.state rows all.3;
    }
