use Rattle.std.proofs.Common.{ℕ, ◌≡◌, ◌+◌, ◌≤◌, List, arith, ap, false, length, set, slice_index, subst, sym, true, ◌∙◌}
use Rattle.rly_machine.specs.Accepted.{is_accepted}
use Rattle.rly_machine.specs.Sound.{IsSound}
use Rattle.rly_machine.specs.State.{State}
use Rattle.rly_machine.specs.Step.{step}
use Rattle.rly_machine.proofs.RealReplies.{unaccepted}
use Rattle.rly_segment_checkpoint.specs.Stored.{stored_length}
use Rattle.rly_segment_checkpoint.specs.declared.stored.Stored.{Stored}
use Rattle.rly_reclaim.proofs.Placing.{few_live}
use Rattle.rly_journal_index.specs.IndexRelation.{IsBrought}
use Rattle.rly_journal_index.specs.HelpersCounters.{IsPartIfAny, KeepsIndex, part_in}
use Rattle.rly_journal_index.specs.Index.{IndexState}
use Rattle.rly_journal_index.proofs.Counters.{counted_here, counter_is, keeps_accepted, keeps_refused}
use Rattle.rly_journal_index.proofs.Parts.{part_least}
use Rattle.rly_journal_index.proofs.index.Index.apply.Goals as goal

pub take_off-requires-clause-least : goal.take_off-requires-clause-least
take_off-requires-clause-least c t lt =
    let x = c.self.inside in
    omega (
      arith,
      part_least x.geometry t x.machine.state c.leaving_part-leaving.result c.leaving_part-leaving.ensures.part,
      counter_is x.geometry x.machine.state x.live t c.self.invariant.live lt,
    )

pub overflow_add-self : goal.overflow_add-self
overflow_add-self c =
    let x = c.self.inside in
    let command = c.args.command in
    let part = c.leaving_part-leaving.result in
    let long : x.geometry.segments ≤ length x.live = omega (arith, c.self.told, c.self.invariant.holds.layout.segments.1) in
    let accepted : is_accepted (step stored_length x.machine.state command).1 ≡ true =
    sym (c.is_accepted.ensures ∙ ap is_accepted c.apply-reply.ensures.reply) ∙ c.if-is_accepted.true in
    let brought : IsBrought x.geometry x.segment x.used c.args.next command =
    subst (λ (v : IndexState). is_accepted (step stored_length v.spool.state command).1 ≡ true → IsBrought v.geometry v.segment v.used c.args.next command)
    (sym c.self.view_is) c.requires.brought accepted in
    let leaves = c.leaving_part-leaving.ensures.leaving accepted in
    let sound : IsSound stored_length (step stored_length x.machine.state command).0 = subst (IsSound stored_length) c.apply-reply.ensures.state c.law_sound.ensures in
    omega (
      arith,
      counted_here x.geometry x.segment x.used c.args.next x.machine.state x.live c.take_off.new.live command part c.self.invariant c.take_off.auto.live long c.take_off.ensures
          accepted brought leaves,
      c.brought_bytes-brought.ensures,
      few_live x.geometry x.segment (step stored_length x.machine.state command).0 sound,
    )

pub invariant_of-self : goal.invariant_of-self
invariant_of-self c =
    let x = c.self.inside in
    let command = c.args.command in
    let part = c.leaving_part-leaving.result in
    let long : x.geometry.segments ≤ length x.live = omega (arith, c.self.told, c.self.invariant.holds.layout.segments.1) in
    let accepted : is_accepted (step stored_length x.machine.state command).1 ≡ true =
    sym (c.is_accepted.ensures ∙ ap is_accepted c.apply-reply.ensures.reply) ∙ c.if-is_accepted.true in
    let brought : IsBrought x.geometry x.segment x.used c.args.next command =
    subst (λ (v : IndexState). is_accepted (step stored_length v.spool.state command).1 ≡ true → IsBrought v.geometry v.segment v.used c.args.next command)
    (sym c.self.view_is) c.requires.brought accepted in
    let leaves = c.leaving_part-leaving.ensures.leaving accepted in
    let less : List ℕ = c.take_off.new.live in
    let bytes : ℕ = c.brought_bytes-brought.result in
    subst (λ (t : State Stored). KeepsIndex x.geometry x.segment c.args.next t (set less x.segment (slice_index less x.segment + bytes))) (sym c.apply-reply.ensures.state)
    (keeps_accepted x.geometry x.segment x.used c.args.next x.machine.state x.live less command part c.self.invariant c.take_off.auto.live long c.take_off.ensures
    accepted brought leaves bytes c.brought_bytes-brought.ensures)

pub put_back-requires-clause-part : goal.put_back-requires-clause-part
put_back-requires-clause-part c =
    let x = c.self.inside in
    let command = c.args.command in
    let refused : is_accepted (step stored_length x.machine.state command).1 ≡ false =
    sym (c.is_accepted.ensures ∙ ap is_accepted c.apply-reply.ensures.reply) ∙ c.if-is_accepted.false in
    let stays : c.apply-reply.new.self.state ≡ x.machine.state = c.apply-reply.ensures.state ∙ unaccepted stored_length x.machine.state command refused in
    subst (λ (t : State Stored). IsPartIfAny t c.leaving_part-leaving.result) (sym stays) c.leaving_part-leaving.ensures.part

pub put_back-requires-clause-fits : goal.put_back-requires-clause-fits
put_back-requires-clause-fits c t lt =
    let x = c.self.inside in
    let command = c.args.command in
    let part = c.leaving_part-leaving.result in
    let refused : is_accepted (step stored_length x.machine.state command).1 ≡ false =
    sym (c.is_accepted.ensures ∙ ap is_accepted c.apply-reply.ensures.reply) ∙ c.if-is_accepted.false in
    let stays : c.apply-reply.new.self.state ≡ x.machine.state = c.apply-reply.ensures.state ∙ unaccepted stored_length x.machine.state command refused in
    omega (
      arith,
      ap (λ (u : State Stored). part_in x.geometry t u part) stays,
      c.take_off.ensures t lt,
      counter_is x.geometry x.machine.state x.live t c.self.invariant.live lt,
      few_live x.geometry t x.machine.state (subst (IsSound stored_length) stays c.law_sound.ensures),
    )

pub invariant_of-self-else-is_accepted : goal.invariant_of-self-else-is_accepted
invariant_of-self-else-is_accepted c =
    let x = c.self.inside in
    let command = c.args.command in
    let part = c.leaving_part-leaving.result in
    let long : x.geometry.segments ≤ length x.live = omega (arith, c.self.told, c.self.invariant.holds.layout.segments.1) in
    let refused : is_accepted (step stored_length x.machine.state command).1 ≡ false =
    sym (c.is_accepted.ensures ∙ ap is_accepted c.apply-reply.ensures.reply) ∙ c.if-is_accepted.false in
    let stays : c.apply-reply.new.self.state ≡ x.machine.state = c.apply-reply.ensures.state ∙ unaccepted stored_length x.machine.state command refused in
    let back : List ℕ = c.put_back.new.live in
    subst (λ (t : State Stored). KeepsIndex x.geometry x.segment x.used t back) (sym c.apply-reply.ensures.state)
    (keeps_refused x.geometry x.segment x.used c.args.next x.machine.state x.live c.take_off.new.live command part c.self.invariant c.take_off.auto.live long c.take_off.ensures
    refused back (omega (arith, c.put_back.auto.live, c.take_off.auto.live))
    (λ t lt. c.put_back.ensures t lt ∙ ap (λ (u : State Stored). slice_index c.take_off.new.live t + part_in x.geometry t u part) c.apply-reply.ensures.state))
