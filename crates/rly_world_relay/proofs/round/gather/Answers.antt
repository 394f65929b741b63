use Rattle.std.proofs.Common.{ap, arith, inl, inr, length, sym, subst}
use Rattle.std.proofs.lemmas.Bool.{le-leb}
use Rattle.rly_world_relay.specs.HelpersRounds.{IsNoneLeft}
use Rattle.rly_world_relay.proofs.RelayTakes.{GathersOn, gathered, gathering_more, gathering_none}
use Rattle.rly_world_relay.proofs.round.gather.Goals as goal

pub loop-kept-init : goal.loop-kept-init
loop-kept-init c = (
  gathering_none c.args.most c.args.kept.now c.args.line.now.items c.args.calls.now.items c.requires.empty,
  omega (arith, ap length c.requires.empty),
  c.requires.room,
)

pub loop-kept-preserved : goal.loop-kept-preserved
loop-kept-preserved c = (
  gathering_more c.args.most c.args.kept.now c.args.line.now.items c.loop-kept.kept c.loop-kept.line.items c.loop-kept.calls.items
      c.take.new.kept c.take.new.line.items c.take.new.calls.items (omega (arith, c.loop-kept-test.true, c.len.ensures)) c.if-not-take.ensures.takes
      c.loop-kept.invariant.0,
  c.take.ensures.count,
  omega (arith, c.take.ensures.capacity, c.loop-kept.invariant.2),
)

pub returns-after-loop-kept-clause-gathers : goal.returns-after-loop-kept-clause-gathers
returns-after-loop-kept-clause-gathers c =
    gathered c.args.most c.args.kept.now c.args.line.now.items c.loop-kept.kept c.loop-kept.line.items c.loop-kept.calls.items
    (inl (le-leb c.args.most (length c.loop-kept.calls.items) (omega (arith, c.loop-kept-test.false, c.len.ensures)))) c.loop-kept.invariant.0

pub returns-then-not-take-clause-gathers : goal.returns-then-not-take-clause-gathers
returns-then-not-take-clause-gathers c =
    let none = c.if-not-take.ensures.takes in
    gathered c.args.most c.args.kept.now c.args.line.now.items c.take.new.kept c.take.new.line.items c.take.new.calls.items
    (inr (subst (λ k. IsNoneLeft k c.take.new.line.items c.take.new.calls.items) (sym none.1)
    (subst (λ l. IsNoneLeft c.loop-kept.kept l c.take.new.calls.items) (sym none.2)
    (subst (λ l. IsNoneLeft c.loop-kept.kept c.loop-kept.line.items l) (sym none.3) none.0))))
    (subst (λ k. GathersOn c.args.most c.args.kept.now c.args.line.now.items k c.take.new.line.items c.take.new.calls.items) (sym none.1)
    (subst (λ l. GathersOn c.args.most c.args.kept.now c.args.line.now.items c.loop-kept.kept l c.take.new.calls.items) (sym none.2)
    (subst (λ l. GathersOn c.args.most c.args.kept.now c.args.line.now.items c.loop-kept.kept c.loop-kept.line.items l) (sym none.3) c.loop-kept.invariant.0)))
