use Rattle.rly_journal.proofs.Common.{ap, arith, group_body, inl, inr, IsRecordable, IsShort, length, map, map_push, place_after, placed_alike, placed_at}
use Rattle.rly_journal.proofs.Common.{record_length, record_place, recordable_short, refl, same_reply, sym, ◌+◌, ◌<◌, ◌^◌, ◌∙◌, ◌≡◌}
use Rattle.rly_journal.proofs.Outcomes.{place_small, placed_wants, room_there, staged_brought, staged_left, staged_taken}
use Rattle.rly_journal.proofs.Redone.{IsStepped, stepped}
use Rattle.rly_journal.proofs.evaluation.answer_command.Goals.{After-apply-reply, After-len, After-record_len, then-is_accepted, else-is_accepted}
use Rattle.rly_journal.proofs.evaluation.answer_command.Goals as goal

-- a command that can be recorded may join the group
recordable : (c : After-len) → IsRecordable c.args.group.now.most c.args.command
recordable c =
    let here = c.params.ensures ∙ ap (λ m. m.state.params) c.machine.ensures ∙ c.law_index.ensures.holds.params in
    rw c.requires.longest (rw here at (c.is_recordable.ensures.yes c.if-not-is_recordable.false))

short : (c : After-len) → IsShort c.args.group.now.most c.args.command
short c = recordable_short c.args.group.now.most c.args.command (recordable c)

-- the offset of the record after it
ends : (c : After-record_len)
    → c.args.gate + c.len.result + c.record_len.result ≡ record_place c.args.gate c.args.group.now + record_length length c.args.command
ends c = omega (arith, place_after c.args.gate c.args.group.now, c.len.ensures, c.record_len.ensures)

small : (c : After-len) → c.args.gate + (5 + length (group_body c.args.group.now)) + record_length length c.args.command < 2 ^ 64
small c = place_small c.requires c.law_index.ensures.holds c.args.command (short c)

pub overflow_add-next : goal.overflow_add-next
overflow_add-next c = omega (arith, small (goal.at.overflow_add-next c).After-len, c.len.ensures)

pub overflow_add-next-2 : goal.overflow_add-next-2
overflow_add-next-2 c = omega (arith, small (goal.at.overflow_add-next-2 c).After-len, c.len.ensures, c.record_len.ensures)

pub stage-placed-requires-clause-recordable : goal.stage-placed-requires-clause-recordable
stage-placed-requires-clause-recordable c = recordable (goal.at.stage-placed-requires-clause-recordable c).After-len

pub stage-placed-requires-clause-gate : goal.stage-placed-requires-clause-gate
stage-placed-requires-clause-gate c = omega (arith, room_there c.requires c.law_index.ensures.holds)

pub returns-in_default-clause-told : goal.returns-in_default-clause-told
returns-in_default-clause-told c = λ t alike.
    let memory = rw c.stage-placed.ensures.placed at c.in_default.ensures.memory in
    inr (refl, placed_wants c.args.command c.args.index.now.spool t alike (record_place c.args.gate c.args.group.now) memory)

pub apply-reply-requires-clause-brought : goal.apply-reply-requires-clause-brought
apply-reply-requires-clause-brought c = λ _.
    let at_call = goal.at.apply-reply-requires-clause-brought c in
    let at = c.in-Ok.ensures.at in
    rw (at.geometry, at.segment, at.used, ends at_call.After-record_len, c.stage-placed.ensures.placed)
    (staged_brought c.requires c.law_index.ensures.holds c.args.command (short at_call.After-len))

-- its effect on the index
one : (c : After-apply-reply) → let place = record_place c.args.gate c.args.group.now in
    IsStepped c.args.index.now c.apply-reply.new.self (placed_at place c.args.command) c.apply-reply.result (place + record_length length c.args.command)
one c =
    let by = c.apply-reply.ensures in
    rw (← ends (goal.at.After-apply-reply c).After-record_len)
    (stepped c.in-Ok.ensures.state c.in-Ok.ensures.at c.stage-placed.ensures.placed by.state by.reply by.at)

pub returns-clause-told : goal.returns-clause-told
returns-clause-told c = λ t alike.
    let stepped = one (goal.at.returns-clause-told c).After-apply-reply in
    inl (stepped.reply ∙ same_reply c.args.index.now.spool.state t _ c.args.command alike (placed_alike _ c.args.command))

pub returns-clause-taken : goal.returns-clause-taken
returns-clause-taken c =
    let at = goal.at.returns-clause-taken c in
    let stepped = one at.After-apply-reply in
    elim c.if-is_accepted.branch [
      | then-is_accepted w ↦
          let said = ap (λ a. map (λ e. e.0.value) a.items) w.accepted-is ∙ ap (map (λ e. e.0.value)) w.and.ensures ∙ map_push (λ e. e.0.value) _ _ in
          inl (staged_taken c.args.gate c.args.command stepped c.stage-placed.ensures.staged (sym c.is_accepted.ensures ∙ w.if-is_accepted.true)
          c.stage-placed.ensures.has (short at.After-len) (w.group-is ∙ w.keep.ensures) (rw c.of-said.ensures at said))
      | else-is_accepted w ↦
          inr (staged_left c.args.gate c.args.command stepped c.stage-placed.ensures.staged (sym c.is_accepted.ensures ∙ w.if-is_accepted.false)
          c.requires.holds.staged (w.group-is ∙ w.discard-else-is_accepted.ensures) (ap (λ a. map (λ e. e.0.value) a.items) w.accepted-is))
    ]
