use Rattle.std.proofs.Common.{◌∙◌, IfSome, ap, arith, length, rules, subst, sym}
use Rattle.std.specs.List.{AllByRecursion}
use Rattle.rly_line.specs.EndViews.{ClosedView, names_of}
use Rattle.rly_line.specs.ResponderView.{IsSeatOf}
use Rattle.rly_threads.specs.HelpersCut.{GivesBack, IsJoined}
use Rattle.rly_threads.proofs.Threads.{each_all, each_first, each_next}
use Rattle.rly_threads_workers.proofs.Receivers.{none_left}
use Rattle.rly_threads.proofs.relay.join_all.Goals as goal

pub loop-thread-init : goal.loop-thread-init
loop-thread-init g c =
    let items = c.into_iter-thread-iterator.ensures.into_iter_gives.0 in (
      search rules,
      grind (arith, rules, c.requires.empty, c.requires.room, items),
      subst (AllByRecursion _) (sym items) c.requires.stop_flag,
      subst (AllByRecursion _) (sym items) c.requires.seats,
      search rules,
      each_first _ _ _ _ items c.requires.empty,
    )

pub loop-thread-preserved : goal.loop-thread-preserved
loop-thread-preserved g c =
    let steps = c.in-Some.ensures.steps in
    let kept = c.loop-thread.invariant in
    let shorter = ap length steps.0 in
    let longer = ap length c.push_reserved.ensures.items in
    let joined = subst (λ (lines : ClosedView). GivesBack (IsJoined g.L.Link.heard g.L.Link.sent g.T.Turn.told g.T.Turn.endless g.W.Waker.woken c.args.said.now.value lines) c.in-Some.thread c.join.result)
    kept.4 c.join.ensures.joined in (
      omega (arith, steps.1, shorter, kept.0),
      grind (arith, rules, shorter, longer, kept.1, c.push_reserved.ensures.capacity),
      (subst (AllByRecursion _) steps.0 kept.2).1,
      (subst (AllByRecursion _) steps.0 kept.3).1,
      c.join.ensures.same ∙ kept.4,
      each_next _ _ _ _ _ _ _ _ kept.5 steps.0 joined c.push_reserved.ensures.items,
    )

pub join-requires-clause-stop_flag : goal.join-requires-clause-stop_flag
join-requires-clause-stop_flag g c = (subst (AllByRecursion _) c.in-Some.ensures.steps.0 c.loop-thread.invariant.2).0

pub join-requires-clause-seat : goal.join-requires-clause-seat
join-requires-clause-seat g c =
    subst (λ (lines : ClosedView). IfSome c.in-Some.thread (λ t. IsSeatOf lines.of (names_of lines.lines) t.promise.seat.value)) (sym c.loop-thread.invariant.4)
    (subst (AllByRecursion _) c.in-Some.ensures.steps.0 c.loop-thread.invariant.3).0

pub returns-clause-joined : goal.returns-clause-joined
returns-clause-joined g c = each_all _ _ _ _ c.loop-thread.invariant.5 (none_left _ (sym c.loop-thread.invariant.0 ∙ c.in-None.ensures.steps.0))
