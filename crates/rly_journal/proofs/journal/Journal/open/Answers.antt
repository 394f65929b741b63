use Rattle.rly_journal.proofs.Common.{ap, broken_only, broken_settled, map, opening_only, opening_settled, rules, told_when, ◌∙◌}
use Rattle.rly_journal.proofs.Opening.{opened_sound, opened_stands}
use Rattle.rly_journal.proofs.journal.Journal.open.Goals as goal

pub invariant_of-result : goal.invariant_of-result
invariant_of-result g c =
    let trace = c.in-Ok.ensures.trace in let only = opening_only g.D.Disk.state g.met.D.Disk.consistent trace.0 trace.2 in (
      opened_sound (g.met.D.Disk.consistent c.begin.new.disk) c.in-Ok.ensures.shaped c.in-Ok.ensures.ends c.law_index.ensures.holds
          (ap (λ d. (g.D.Disk.state d).seen) c.of-first_disk.ensures) (ap (λ x. x.spool.state) c.of-first_index.ensures)
          (ap (map (λ e. e.0.value)) c.new.ensures)
          (λ honest. opening_settled g.D.Disk.state g.met.D.Disk.consistent trace.0 trace.2 (only.later.honest.0 honest))
          (λ honest. rw (only.crash (only.later.honest.0 honest)).seen (c.in-Ok.ensures.logged (only.later.honest.0 honest)))
          (c.seq-position.ensures ∙ ap (λ m. m.state.seq) c.machine.ensures),
      record { empty = c.in-Ok.ensures.group; none = c.in-Ok.ensures.outcomes; room = c.in-Ok.ensures.room },
    )

pub returns-in-Ok : goal.returns-in-Ok
returns-in-Ok g c =
    let only = opening_only g.D.Disk.state g.met.D.Disk.consistent c.in-Ok.ensures.trace.0 c.in-Ok.ensures.trace.2 in
    let settled = opening_settled g.D.Disk.state g.met.D.Disk.consistent c.in-Ok.ensures.trace.0 c.in-Ok.ensures.trace.2 in
    let stands = opened_stands (g.met.D.Disk.consistent c.begin.new.disk) c.in-Ok.ensures.shaped c.in-Ok.ensures.ends c.law_index.ensures.holds
    (ap (λ d. (g.D.Disk.state d).seen) c.of-first_disk.ensures) (ap (λ x. x.spool.state) c.of-first_index.ensures) (ap (map (λ e. e.0.value)) c.new.ensures)
    only in
    search (rules, only, settled, stands, c.in-Ok.ensures.logged)

pub returns-in-Err-clause-only : goal.returns-in-Err-clause-only
returns-in-Err-clause-only g c = broken_only g.D.Disk.state g.met.D.Disk.consistent c.in-Err.ensures.trace

pub returns-in-Err-clause-stays_refused : goal.returns-in-Err-clause-stays_refused
returns-in-Err-clause-stays_refused g c honest told =
    broken_settled g.D.Disk.state g.met.D.Disk.consistent (rw (told_when c.in-Err.fault told) at c.in-Err.ensures.trace) honest
