use Rattle.rly_journal.proofs.Common.{ap, arith, victim_reads_for, false, front_all, Makes, makes_joined, Renewal, tail_after_renewal, rules, same_spelled, true}
use Rattle.rly_journal.proofs.Renewed.{copy_forms, copy_head, headless, IsChosen, IsDrawn, opened_renewing, starved, undrawn, unread_front, victim_there}
use Rattle.rly_journal.proofs.Counted.{two_tried}
use Rattle.rly_journal.proofs.next_segment.renew.Goals.{After-machine, In-Ok}
use Rattle.rly_journal.proofs.next_segment.renew.Goals as goal

-- ---- the intermediate facts

chosen : (g : _) (c : After-machine g)
    → IsChosen (g.D.Disk.state c.args.disk.now).size c.args.tail.now c.args.index.now.spool.state c.choose-choice.result.target c.choose-choice.result.victim
chosen g c =
    let by = c.choose-choice.ensures in
    let e = c.requires.ends.geometry in
    let free = rw (e, c.requires.ends.segment) at by.target in
    search (c.requires.shaped, c.requires.shaped.full c.requires.full, c.law_index.ensures.sound, free, rw e at by.victim, rw e at by.may, rw e at by.room)

abbrev copied : (g : _) → In-Ok g → Renewal
copied g c =
    record { places = c.args.index.now.spool.state; target = c.choose-choice.result.target; victim = c.choose-choice.result.victim; copy = c.in-Ok.copy.state }

drawn : (g : _) (c : In-Ok g) → IsDrawn (g.D.Disk.state c.args.disk.now) c.args.tail.now (copied g c)
drawn g c = record {
  chosen = chosen g (goal.at.In-Ok g c).After-machine;
  copy = rw c.machine.ensures at c.in-Ok.ensures.lengths;
  bytes = λ honest. rw c.machine.ensures at (c.in-Ok.ensures.drawn honest);
}

drew : (g : _) (c : In-Ok g) → Makes g.D.Disk.state (victim_reads_for c.args.tail.now (copied g c)) true c.args.disk.now c.collect_victim.new.disk
drew g c = rw c.machine.ensures at c.in-Ok.ensures.trace

-- ---- the intermediate calls

pub open_segment-requires-clause-head : goal.open_segment-requires-clause-head
open_segment-requires-clause-head g c = copy_head (drawn g (goal.at.open_segment-requires-clause-head g c).In-Ok)

pub open_segment-requires-clause-fits : goal.open_segment-requires-clause-fits
open_segment-requires-clause-fits g c = copy_forms (drawn g (goal.at.open_segment-requires-clause-fits g c).In-Ok)

pub relocate_victim-requires-clause-gate : goal.relocate_victim-requires-clause-gate
relocate_victim-requires-clause-gate g c =
    rw (c.requires.ends.geometry, c.in-Ok-open_segment.ensures.gate)
    (omega (arith, same_spelled _ _ (drawn g (goal.at.relocate_victim-requires-clause-gate g c).In-Ok).copy))

pub relocate_victim-requires-clause-victim : goal.relocate_victim-requires-clause-victim
relocate_victim-requires-clause-victim g c = rw c.requires.ends.geometry (victim_there (drawn g (goal.at.relocate_victim-requires-clause-victim g c).In-Ok).chosen)

-- ---- no copy was made

pub returns-in-Err-OutOfMemory : goal.returns-in-Err-OutOfMemory
returns-in-Err-OutOfMemory g c s position calls asks sound =
    let d = undrawn (g.met.D.Disk.consistent c.args.disk.now) (chosen g (goal.at.returns-in-Err-OutOfMemory g c).After-machine) in
    let made = rw (c.in-Err-OutOfMemory.field-0-is, c.machine.ensures) at c.in-Err-OutOfMemory.ensures.trace in
    starved g.met.D.Disk.consistent sound d (asks, c.requires.full) made

pub returns-in-Err-Device : goal.returns-in-Err-Device
returns-in-Err-Device g c s position calls asks sound =
    let d = undrawn (g.met.D.Disk.consistent c.args.disk.now) (chosen g (goal.at.returns-in-Err-Device g c).After-machine) in
    unread_front g.met.D.Disk.consistent sound d (asks, c.requires.full) (rw (c.in-Err-Device.field-0-is, c.machine.ensures) at c.in-Err-Device.ensures.trace)

-- ---- it was made, but the allocation or the write of its head failed

pub returns-in-Err-OutOfMemory-open_segment : goal.returns-in-Err-OutOfMemory-open_segment
returns-in-Err-OutOfMemory-open_segment g c s position calls asks sound =
    let at = (goal.at.returns-in-Err-OutOfMemory-open_segment g c).In-Ok in
    let nothing = rw c.in-Err-OutOfMemory-open_segment.field-0-is at c.in-Err-OutOfMemory-open_segment.ensures.trace in
    rw (nothing.untouched nothing.made) (starved g.met.D.Disk.consistent sound (drawn g at) (asks, c.requires.full) (front_all g.D.Disk.state (drew g at)))

pub returns-in-Err-Device-open_segment : goal.returns-in-Err-Device-open_segment
returns-in-Err-Device-open_segment g c s position calls asks sound =
    let at = (goal.at.returns-in-Err-Device-open_segment g c).In-Ok in
    let cut = rw c.in-Err-Device-open_segment.field-0-is at c.in-Err-Device-open_segment.ensures.trace in
    headless g.met.D.Disk.consistent sound (drawn g at) (asks, c.requires.full) (two_tried g.D.Disk.state _ _ false (drew g at) cut)

-- ---- the segment was opened

pub returns : goal.returns
returns g c s position calls asks sound =
    let at = (goal.at.returns g c).In-Ok in
    let made = makes_joined g.D.Disk.state _ _ true (drew g at) c.in-Ok-open_segment.ensures.trace in
    let is = ap (λ n. record (tail_after_renewal c.args.tail.now (copied g at)) { gate = n }) c.in-Ok-open_segment.ensures.gate in
    opened_renewing g.met.D.Disk.consistent sound (drawn g at) (asks, c.requires.full) made is (rw c.requires.ends.geometry at c.relocate_victim.ensures.state)
    (search rules) (search rules)
