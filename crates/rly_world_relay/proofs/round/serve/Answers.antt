use Rattle.std.proofs.Common.{◌∙◌, ◌++◌, ap, arith, inl, inr, length, subst, ⊎_elim}
use Rattle.rly_disk.specs.FaultDisk.{fault_state}
use Rattle.rly_disk.specs.MemDisk.{mem_state}
use Rattle.rly_journal.specs.Rounds.{refusals}
use Rattle.rly_journal.specs.Journal.{MakesRound}
use Rattle.rly_world_relay.proofs.RelayServed.{answers_counted, on_ok, serves}
use Rattle.rly_world_relay.proofs.round.serve.Goals as goal

pub returns-clause-served : goal.returns-clause-served
returns-clause-served c =
    let made = c.round-made.ensures in
    let ok = made.reserved (omega (arith, ap length c.requires.empty, c.requires.count.1, c.requires.room)) in
    let answered = on_ok c.round-made.result ok made.answers in
    serves c.args.journal.now c.round-made.new.self c.args.calls.now.items c.round-made.new.answers.items answered.0
    (λ whole. c.law_tail.ensures tt whole) (λ whole. c.law_counted.ensures whole) (λ whole full r renewal. c.law_renewed.ensures tt whole full r renewal)
    (λ whole. ⊎_elim
    (λ went. inl (subst (λ b. MakesRound (fault_state mem_state) c.args.journal.now c.round-made.new.self c.args.calls.now.items b c.round-made.new.answers.items)
    c.requires.empty went))
    (λ shut. inr (
      shut.0,
      shut.1,
      shut.2 ∙ ap (λ l. l ++ refusals shut.1 c.args.journal.now.position c.args.calls.now.items) c.requires.empty,
      shut.3,
    ))
    (on_ok c.round-made.result ok (made.trace whole)))
    (answered.1 ∙ ap (λ l. l ++ answered.0) c.requires.empty) answered.2

pub returns-clause-count : goal.returns-clause-count
returns-clause-count c =
    let made = c.round-made.ensures in
    let ok = made.reserved (omega (arith, ap length c.requires.empty, c.requires.count.1, c.requires.room)) in
    let answered = on_ok c.round-made.result ok made.answers in
    ap length (answered.1 ∙ ap (λ l. l ++ answered.0) c.requires.empty)
    ∙ answers_counted c.args.journal.now c.round-made.new.self c.args.calls.now.items answered.0 answered.2
