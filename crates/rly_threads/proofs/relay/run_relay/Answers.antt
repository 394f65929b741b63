use Rattle.std.proofs.Common.{◌≡◌, ◌∙◌, List, Option, ap, length, rules, subst, sym}
use Rattle.std.specs.List.{AllByRecursion, zip}
use Rattle.rly_line.specs.EndViews.{names_of}
use Rattle.rly_line.specs.Replies.{ReplyId}
use Rattle.rly_line.specs.ResponderView.{IsSeatOf}
use Rattle.rly_line.proofs.Closing.{as_many_names, seats_of}
use Rattle.rly_line.proofs.Making.{callers_count}
use Rattle.rly_threads.proofs.Kept.{if_ok}
use Rattle.rly_threads.proofs.RelayEnds.{at_new_line, begun_new}
use Rattle.rly_threads.proofs.relay.run_relay.Goals as goal

-- a seat for each worker
pub run_relay_at-requires-clause-each : goal.run_relay_at-requires-clause-each
run_relay_at-requires-clause-each g c κs within =
    let workers : c.len-workers.result ≡ length c.args.posts.items = search rules in
    ap length c.in-Ok.ensures.seats ∙ callers_count _ 0 _ ∙ as_many_names c.in-Ok.line_end.lines ∙ c.in-Ok.ensures.count ∙ workers

-- of that queue
pub run_relay_at-requires-clause-seats : goal.run_relay_at-requires-clause-seats
run_relay_at-requires-clause-seats g c κs within =
    let names : List (Option ReplyId) = names_of c.in-Ok.line_end.lines in
    subst (AllByRecursion (IsSeatOf c.in-Ok.line_end.of names)) (sym c.in-Ok.ensures.seats) (seats_of c.in-Ok.line_end.of names)

-- its line is a new one with as many seats as there are workers, each of which had the seat of its place
pub returns-clause-end : goal.returns-clause-end
returns-clause-end g c =
    let made = c.in-Ok.ensures in
    let workers : c.len-workers.result ≡ length c.args.posts.items = search rules in
    let begun = begun_new c.in-Ok.line_end _ made.end made.capacity made.count in
    if_ok c.run_relay_at.result c.run_relay_at.ensures.end
    (λ relayed end. at_new_line c.in-Ok.line_end _ c.args.posts.items _ begun (made.count ∙ workers) (ap (zip c.args.posts.items) made.seats) end)
