use Rattle.std.proofs.Common.{◌+◌, ◌∷◌, [], ap, sym, ◌∙◌, length, length-append}
use Rattle.rly_line.specs.EndViews.{names_of}
use Rattle.rly_line.specs.HelpersEnds.{Hearer, Putter, Taker}
use Rattle.rly_line.specs.Seats.{new_caller, new_callers}
use Rattle.rly_line.proofs.Making.{is_new_end, next_line, one_more_line, one_more_seat}
use Rattle.rly_line.proofs.setup.make.Goals as goal

pub loop-number-preserved : goal.loop-number-preserved
loop-number-preserved c =
    let l = c.loop-number in
    record {
      line = next_line _ _ _ l.number c.in_ok-puts.ensures.ok.1 l.invariant.line;
      made = one_more_seat l.line.of _ _ l.replies.items _ _ _ l.number l.invariant.made l.invariant.lines c.push_reserved-in-loop-number.ensures.items
          c.push_reserved.ensures.items
          (c.in_ok-seat.ensures ∙ (λ i. new_caller (ap (λ (p : Putter). p.of) c.in_ok-puts.ensures.ok.0 i) (ap (λ (h : Hearer). h.of) c.in_ok-tells.ensures.1 i) l.number))
          ∙ ap (λ o. new_callers o 0 (names_of c.push_reserved.new.self.items)) (sym (ap (λ (t : Taker). t.of) c.in_ok-puts.ensures.ok.1));
      replies = one_more_line l.replies.items _ _ l.number l.invariant.replies l.invariant.lines c.push_reserved.ensures.items c.in_ok-tells.ensures.0;
      count = c.push_reserved-in-loop-number.ensures.len ∙ ap (λ n. n + 1) l.invariant.count;
      lines = ap length c.push_reserved.ensures.items ∙ length-append l.replies.items (_ ∷ []) ∙ ap (λ n. n + 1) l.invariant.lines;
      reply_count = c.push_reserved.ensures.len ∙ ap (λ n. n + 1) l.invariant.reply_count;
      room = c.push_reserved-in-loop-number.ensures.capacity ∙ l.invariant.room;
      reply_room = c.push_reserved.ensures.capacity ∙ l.invariant.reply_room;
    }

pub new-end-requires : goal.new-end-requires
new-end-requires c =
    let l = c.loop-number in
    is_new_end l.line.of c.args.capacity c.into_end-calls.result l.replies.items l.number (c.into_end-calls.ensures ∙ l.invariant.line) l.invariant.replies l.invariant.lines
