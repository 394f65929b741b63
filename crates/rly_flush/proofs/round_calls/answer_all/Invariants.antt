use Rattle.std.proofs.Common.{◌≡◌, ◌+◌, List, drop, length, vec_capacity}
use Rattle.std.specs.Vec.Iter.{drain_items}
use Rattle.rly_machine.specs.declared.call.Call.{Call}
use Rattle.rly_line.specs.EndViews.{names_of}
use Rattle.rly_line.specs.ResponderView.{IsOneResponder}
use Rattle.rly_flush.specs.HelpersFlusher.{answers_said, calls_said}
use Rattle.rly_flush.proofs.Answering.{IsUnderWay, once_told}
use Rattle.rly_flush.proofs.round_calls.answer_all.Given as goal

abbrev pub invariant-loop-wanted : goal.invariant-loop-wanted
invariant-loop-wanted g l =
    (goal.iterator-loop-wanted g).can_next l.wanted-iterator
    × (goal.iterator-loop-wanted g).is_finite l.wanted-iterator
    × (record {
      count : l.next + length (drain_items l.wanted-iterator) ≡ length l.fn.said.items;
      wanted : drain_items l.wanted-iterator ≡ answers_said (drop l.next l.fn.said.items);
      under_way : (kept : List Call) × IsUnderWay l.line (once_told l.fn.line (calls_said l.fn.said.items) l.fn.answers.items) (calls_said (drop l.next l.fn.said.items)) kept l.answers.items;
      answers_capacity : vec_capacity l.answers ≡ vec_capacity l.fn.answers;
      of : l.line.of ≡ l.fn.line.of;
      taken : l.line.taken ≡ l.fn.line.taken;
      start : l.line.start ≡ l.fn.line.start;
      over : l.line.over ≡ l.fn.line.over;
      names : names_of l.line.lines ≡ names_of l.fn.line.lines;
      holds : IsOneResponder l.line;
    })
