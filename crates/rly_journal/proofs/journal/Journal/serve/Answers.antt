use Rattle.rly_journal.proofs.Common.{ap, empty_group, fold, fold_append, inl, length, makes_later, map, map_state, refl, rules, shown_in, shown_state, sym}
use Rattle.rly_journal.proofs.Common.{taken_of, weaker, zip, ◌∙◌}
use Rattle.rly_journal.proofs.Rounded.{failed_served, served}
use Rattle.rly_journal.proofs.Reading.{going, sound_read, leaves_durable, broken_sound}
use Rattle.rly_journal.proofs.Serving.{IsServing, group_none, group_room, group_there, longest_there, none_sound, wanted_there, written_sound, alike_now}
use Rattle.rly_journal.proofs.Serving.{crash_group, front_kept, front_written, logging_group, logging_none, still, shape_kept}
use Rattle.rly_journal.proofs.journal.Journal.serve.Goals.{After-evaluate}
use Rattle.rly_journal.proofs.journal.Journal.serve.Goals as goal

-- the calls were evaluated
evaluated : (g : _) (c : After-evaluate g) → let j = c.self.inside in let image = (g.D.Disk.state j.first_disk.value).seen in
    let first = j.first_index.value.spool.state in let s = shown_state image first (map (λ e. e.0.value) j.accepted.items) in
    IsServing g.D.Disk.state (record { disk = j.disk; tail = j.tail; state = s; position = j.position; broken = j.broken }) j.index c.evaluate.new.index
    c.evaluate.new.group (shown_state image first (map (λ e. e.0.value) c.evaluate.new.accepted.items)) c.args.calls.now.items c.evaluate.new.outcomes.items
evaluated g c =
    let first = map_state (shown_in (g.D.Disk.state c.self.inside.first_disk.value).seen) c.self.inside.first_index.value.spool.state in
    let taken = taken_of (zip c.args.calls.now.items c.evaluate.new.outcomes.items) in
    let done = c.evaluate.ensures.evaluated in
    let shows = ap (fold length first) done.log ∙ fold_append length first (map (λ e. e.0.value) c.self.inside.accepted.items) taken in
    let j = going g.D.Disk.state c.self.view_is c.requires.broken c.self.invariant.0 in
    search (j, c.law_index.ensures.holds, c.requires.count, rw (← c.self.view_is) at c.requires.ready, done, shows)

pub answer_all-requires-clause-there : goal.answer_all-requires-clause-there
answer_all-requires-clause-there g c = wanted_there (evaluated g (goal.at.answer_all-requires-clause-there g c).After-evaluate)

pub invariant_of-self : goal.invariant_of-self
invariant_of-self g c =
    let e = evaluated g (goal.at.invariant_of-self g c).After-evaluate in (none_sound e (cc) c.answer_all.ensures.only, search (rules, group_none e (cc)))

pub returns-then-is_empty-clause-served : goal.returns-then-is_empty-clause-served
returns-then-is_empty-clause-served g c =
    let e = evaluated g (goal.at.returns-then-is_empty-clause-served g c).After-evaluate in
    rw (← c.self.view_is) (served e (logging_none e (cc)) (front_kept e (cc)) (λ honest. weaker _ _ (λ image. inl) (leaves_durable (e.going.durable honest)))
    refl (e.going.counted ∙ ap (λ m. m.seq) (sym (still e (cc)))) c.answer_all.ensures.only c.answer_all.ensures.answers)

pub append-requires : goal.append-requires
append-requires g c =
    let e = evaluated g (goal.at.append-requires g c).After-evaluate in
    search (group_there e (cc), e.done.holds.staged, e.going.sound.shaped, group_room e (cc))

pub answer_all-requires-in-Ok-clause-there : goal.answer_all-requires-in-Ok-clause-there
answer_all-requires-in-Ok-clause-there g c =
    rw (makes_later g.D.Disk.state c.in-Ok.ensures.trace).size (wanted_there (evaluated g (goal.at.answer_all-requires-in-Ok-clause-there g c).After-evaluate))

pub invariant_of-self-in-Ok : goal.invariant_of-self-in-Ok
invariant_of-self-in-Ok g c =
    let e = evaluated g (goal.at.invariant_of-self-in-Ok g c).After-evaluate in
    let counted = c.seq-self-inside.ensures ∙ ap (λ m. m.state.seq) c.machine.ensures in
    let sound = written_sound e (cc) g.met.D.Disk.consistent c.in-Ok.ensures.trace c.in-Ok.ensures.gate counted in
    (sound_read c.answer_all-in-Ok.ensures.only sound, rw c.in-Ok.ensures.gate (search (rules, c.append.ensures.emptied ∙ ap empty_group (longest_there e))))

pub returns-in-Ok-clause-served : goal.returns-in-Ok-clause-served
returns-in-Ok-clause-served g c =
    let e = evaluated g (goal.at.returns-in-Ok-clause-served g c).After-evaluate in
    rw (← c.self.view_is) (served e (logging_group e (cc) c.in-Ok.ensures.trace) (front_written e (cc) g.met.D.Disk.consistent c.in-Ok.ensures.trace)
    (crash_group e (cc) c.in-Ok.ensures.trace) c.in-Ok.ensures.gate
    (c.seq-self-inside.ensures ∙ ap (λ m. m.state.seq) c.machine.ensures ∙ ap (λ m. m.seq) (alike_now e))
    c.answer_all-in-Ok.ensures.only c.answer_all-in-Ok.ensures.answers)

pub invariant_of-self-in-Err : goal.invariant_of-self-in-Err
invariant_of-self-in-Err g c =
    let e = evaluated g (goal.at.invariant_of-self-in-Err g c).After-evaluate in
    let empty = c.append.ensures.emptied ∙ ap empty_group (longest_there e) in
    rw c.in-Err.ensures.err (broken_sound (rw (makes_later g.D.Disk.state c.in-Err.ensures.trace).size (shape_kept e)) (alike_now e), search (rules, empty))

pub returns-in-Err-clause-served : goal.returns-in-Err-clause-served
returns-in-Err-clause-served g c =
    let e = evaluated g (goal.at.returns-in-Err-clause-served g c).After-evaluate in
    rw (← c.self.view_is) (failed_served e (cc) c.in-Err.ensures.trace c.in-Err.ensures.err c.refuse_all.ensures.answers)
