use Rattle.std.proofs.Common.{◌++◌, ◌∙◌, None, ap, arith, length, subst, sym, vec_capacity, length-append}
use Rattle.std.specs.Global.{Vec}
use Rattle.rly_machine.specs.declared.call.Answer.{Answer}
use Rattle.rly_line.specs.Batches.{calls_in_batch}
use Rattle.rly_line.proofs.Submitting.{length_batch}
use Rattle.rly_flush.specs.HelpersFlusher.{AreCollected}
use Rattle.rly_flush.proofs.Collecting.{collected_kept, collected_more}
use Rattle.rly_flush.proofs.round_calls.take_more.Goals as goal

pub loop-more-init : goal.loop-more-init
loop-more-init g c = record {
  collected = λ old kept was. was;
  kept = c.requires.none_kept;
  gathering = c.requires.gathering;
  holds = c.requires.holds;
}

pub loop-more-preserved : goal.loop-more-preserved
loop-more-preserved g c =
    let old = c.loop-more.invariant in
    let so_far = old.gathering in
    let calls = c.add.ensures.calls in
    let many = length_batch c.in-Some.batch in
    let sum = length-append c.loop-more.lists.calls.items (calls_in_batch c.in-Some.batch) in
    record {
      collected = λ before kept was.
          subst (AreCollected before c.more.new.self kept None) (sym calls)
          (collected_more c.in-Some.batch (old.collected before kept was) c.in-Some.ensures.taken);
      kept = old.kept;
      gathering = record {
        said = c.add.ensures.said ∙ ap (λ l. l ++ calls_in_batch c.in-Some.batch) so_far.said ∙ sym calls;
        wanted = c.add.ensures.wanted;
        count = (
          omega (arith, ap length calls, sum, so_far.count.0),
          omega (arith, ap length calls, sum, many, c.len-in-loop-more.ensures.count, c.len.ensures, c.if-len-gt-MAX_CALLS.false),
        );
        batches = omega (arith, ap length calls, sum, many, c.len-in-loop-more.ensures.count, c.len-in-loop-more.ensures.some.0, c.add.ensures.count, so_far.batches);
        answers = ap (λ (v : Vec Answer). v.items) c.add.ensures.answers ∙ so_far.answers;
        room = record {
          calls_room = omega (arith, c.add.ensures.calls_capacity, so_far.room.calls_room);
          said_room = omega (arith, c.add.ensures.said_capacity, so_far.room.said_room);
          wanted_room = omega (arith, c.add.ensures.wanted_capacity, so_far.room.wanted_room);
          answers_room = omega (arith, ap (λ (v : Vec Answer). vec_capacity v) c.add.ensures.answers, so_far.room.answers_room);
        };
      };
      holds = c.more.ensures.holds;
    }

pub returns-then-len-gt-MAX_CALLS-clause-collected :
    goal.returns-then-len-gt-MAX_CALLS-clause-collected
returns-then-len-gt-MAX_CALLS-clause-collected g c =
    λ before kept was.
    collected_kept c.in-Some.batch (c.loop-more.invariant.collected before kept was) c.in-Some.ensures.taken
    (omega (arith, c.len-in-loop-more.ensures.count, c.len.ensures, c.if-len-gt-MAX_CALLS.true))
