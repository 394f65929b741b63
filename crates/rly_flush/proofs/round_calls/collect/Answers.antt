use Rattle.std.proofs.Common.{◌++◌, ◌∙◌, None, ap, arith, length, subst, sym, vec_capacity}
use Rattle.std.specs.Global.{Vec}
use Rattle.rly_machine.specs.declared.call.Answer.{Answer}
use Rattle.rly_line.specs.Batches.{calls_in_batch}
use Rattle.rly_line.proofs.Submitting.{length_batch}
use Rattle.rly_flush.specs.HelpersFlusher.{AreCollected, calls_said}
use Rattle.rly_flush.proofs.round_calls.collect.Goals as goal

-- the first batch begins the lists
pub take_more-requires-clause-gathering : goal.take_more-requires-clause-gathering
take_more-requires-clause-gathering g c =
    let ready = c.requires.ready in
    let calls = c.add.ensures.calls ∙ ap (λ l. l ++ calls_in_batch c.in-Some.first) ready.calls_empty in
    let many = length_batch c.in-Some.first in
    record {
      said = c.add.ensures.said ∙ ap (λ l. calls_said l ++ calls_in_batch c.in-Some.first) ready.said_empty ∙ sym calls;
      wanted = c.add.ensures.wanted;
      count = (
        omega (arith, ap length calls, many, c.len-count.ensures.count, c.len-count.ensures.some.0),
        omega (arith, ap length calls, many, c.len-count.ensures.count, c.len-count.ensures.some.1),
      );
      batches = omega (arith, ap length calls, many, c.len-count.ensures.count, c.len-count.ensures.some.0, c.add.ensures.count, ap length ready.said_empty);
      answers = ap (λ (v : Vec Answer). v.items) c.add.ensures.answers ∙ ready.answers_empty;
      room = record {
        calls_room = omega (arith, c.add.ensures.calls_capacity, ready.room.calls_room);
        said_room = omega (arith, c.add.ensures.said_capacity, ready.room.said_room);
        wanted_room = omega (arith, c.add.ensures.wanted_capacity, ready.room.wanted_room);
        answers_room = omega (arith, ap (λ (v : Vec Answer). vec_capacity v) c.add.ensures.answers, ready.room.answers_room);
      };
    }

-- a round of one batch
pub returns-then-alone-clause-count : goal.returns-then-alone-clause-count
returns-then-alone-clause-count g c =
    let calls = c.add.ensures.calls ∙ ap (λ l. l ++ calls_in_batch c.in-Some.first) c.requires.ready.calls_empty in
    let many = length_batch c.in-Some.first in (
      omega (arith, ap length calls, many, c.len-count.ensures.count, c.len-count.ensures.some.0),
      omega (arith, ap length calls, many, c.len-count.ensures.count, c.len-count.ensures.some.1),
    )
