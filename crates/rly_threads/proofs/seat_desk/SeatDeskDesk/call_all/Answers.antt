use Rattle.std.proofs.Common.{◌≡◌, ◌∙◌, ◌∷◌, [], ◌++◌, List, ap, map, subst, sym}
use Rattle.std.proofs.lemmas.List.{map-append}
use Rattle.rly_threads.specs.declared.seat_desk.SeatExchange.{SeatExchange}
use Rattle.rly_threads.specs.declared.seat_desk.SeatExchange.TheVariants.{Several}
use Rattle.rly_threads_workers.specs.DeskExchanges.{Asked, batch_outcome}
use Rattle.rly_threads.specs.HelpersCut.{IsTelling, asked_in, exchange}
use Rattle.rly_threads.proofs.Seating.{told_several}
use Rattle.rly_threads.proofs.seat_desk.SeatDeskDesk.call_all.Goals as goal

pub invariant_of-self : goal.invariant_of-self
invariant_of-self g c =
    let asked : List Asked = asked_in c.self.inside.said in
    let now : Asked = (c.args.asks.now.items, batch_outcome c.call_all-outcome.result c.call_all-outcome.new.answers.items) in
    let same : exchange (Several c.of-said.result c.of.result c.of-2.result) ≡ now =
    λ i. ((c.of-said.ensures i).items, batch_outcome (c.of.ensures i) (c.of-2.ensures i).items) in
    let grown : asked_in c.and-self-inside.result ≡ asked ++ now ∷ [] =
    ap (map (λ (e : SeatExchange × Unit {0}). exchange e.0)) c.and-self-inside.ensures ∙ map-append (λ (e : SeatExchange × Unit {0}). exchange e.0) c.self.inside.said.items _
    ∙ ap (λ (x : Asked). asked ++ x ∷ []) same in
    subst (λ a. IsTelling g.W.TurnOwner.seat (record { seat = c.call_all-outcome.new.self; asked = a })) (sym grown)
    (told_several g.W.TurnOwner.seat c.self.inside.seat c.call_all-outcome.new.self asked c.args.asks.now.items c.call_all-outcome.new.asks.items c.call_all-outcome.new.answers.items
    c.call_all-outcome.result c.self.invariant c.call_all-outcome.ensures.ok c.call_all-outcome.ensures.err)
