use Rattle.std.proofs.Common.{rules, ◌∙◌, subst, sym}
use Rattle.rly_line.specs.Seats.{Caller, IsAnsweredWith}
use Rattle.rly_line.proofs.Hearing.{one_answered}
use Rattle.rly_line.proofs.seat.Seat.call.Goals as goal

pub returns-in-Ok-clause-ok : goal.returns-in-Ok-clause-ok
returns-in-Ok-clause-ok g c =
    subst (λ (x : Caller). IsAnsweredWith x c.args.ask c.take_last-answer.result c.exchange.new.self) c.self.view_is
    (one_answered _ _ _ _ _ _ _ (search rules) (sym c.into_lists-asks.ensures.answers ∙ c.take_last-answer.ensures.items) c.in-Ok.ensures.ok)
