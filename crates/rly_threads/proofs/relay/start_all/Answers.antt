use Rattle.std.proofs.Common.{◌≡◌, ◌∙◌, [], ap, arith, inl, inr, length, refl, rules, subst, sym}
use Rattle.std.specs.Iterator.Adapters.{zip_first, zip_second}
use Rattle.std.specs.List.{AllZip, zip}
use Rattle.std.specs.Vec.Iter.{into_iter_items, into_iter_len}
use Rattle.rly_threads.specs.HelpersCut.{IsFor}
use Rattle.rly_threads.proofs.Threads.{each_all, each_first, each_next}
use Rattle.rly_threads_workers.proofs.Receivers.{none_left}
use Rattle.rly_threads.proofs.relay.start_all.Goals as goal

pub loop-seat-init : goal.loop-seat-init
loop-seat-init g c =
    let same = c.into_iter-seat-iterator.ensures.into_iter_gives in
    let seats = ap (λ s. into_iter_len (zip_first s)) same ∙ ap into_iter_len c.zip-seat-items.ensures.first ∙ c.into_iter.ensures.len in
    let items = ap (λ s. into_iter_items (zip_second s)) same ∙ c.zip-seat-items.ensures.second.0 in
    let left = ap (λ s. into_iter_len (zip_second s)) same ∙ c.zip-seat-items.ensures.second.1 in
    let count = ap length items in (
      grind (arith, rules, seats, count, c.requires.seats),
      grind (arith, rules, left, count),
      grind (arith, rules, count, ap length c.requires.empty.0, c.requires.empty.1),
      each_first _ _ _ _ refl c.requires.empty.0,
    )

pub push_reserved-requires : goal.push_reserved-requires
push_reserved-requires g c =
    let post = ap length c.in-Some.ensures.steps.1.0 in
    grind (arith, rules, post, c.loop-seat.invariant.2)

pub loop-seat-preserved : goal.loop-seat-preserved
loop-seat-preserved g c =
    let before = c.loop-seat.invariant in
    let steps = c.in-Some.ensures.steps in
    let post = ap length steps.1.0 in
    let pushed = ap length c.push_reserved.ensures.items in (
      grind (arith, rules, before.0, steps.0.1, post),
      grind (arith, rules, before.1, steps.1.1, post),
      grind (arith, rules, before.2, post, pushed, c.push_reserved.ensures.capacity),
      each_next _ _ _ _ _ _ _ _ before.3 (λ i. zip (steps.1.0 i) (steps.0.0 i)) c.start-thread.ensures c.push_reserved.ensures.items,
    )

pub returns : goal.returns
returns g c =
    let before = c.loop-seat.invariant in
    let same = c.into_iter-seat-iterator.ensures.into_iter_gives in
    let items = ap (λ s. into_iter_items (zip_second s)) same ∙ c.zip-seat-items.ensures.second.0 in
    let seats = ap (λ s. into_iter_items (zip_first s)) same ∙ ap into_iter_items c.zip-seat-items.ensures.first ∙ c.into_iter.ensures.rest in
    let none : into_iter_items (zip_second c.loop-seat.seat-iterator) ≡ [] =
    (elim c.in-None.ensures.steps [
      | inl first ↦ none_left _ (sym before.0 ∙ first.1.0)
      | inr second ↦ none_left _ (sym before.1 ∙ second.1.0)
    ]) in
    subst (λ given. AllZip (IsFor c.args.plan.now c.args.params c.args.stop_flag.now.id) given c.loop-seat.threads.items) (λ i. zip (items i) (seats i))
    (each_all _ _ _ _ before.3 (ap (λ l. zip l (into_iter_items (zip_first c.loop-seat.seat-iterator))) none))
