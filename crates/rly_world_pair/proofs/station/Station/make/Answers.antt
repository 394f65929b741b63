use Rattle.std.proofs.Common.{◌≡◌, ◌<◌, List, [], ◌∷◌, ◌++◌, length, drop, arith, sym, ◌∙◌, ap, subst, refl}
use Rattle.std.specs.Vec.{vec_len}
use Rattle.rly_machine.specs.declared.command.Ask.{Ask}
use Rattle.rly_world.specs.PairEnd.{Asked, End, Replied}
use Rattle.rly_world_pair.specs.HelpersStation.{accepted_in, harm_number}
use Rattle.rly_world_pair.specs.PairSteps.{Calls, Makes}
use Rattle.rly_world_pair.proofs.StationSteps.{front_removed, made_left, makes_left, nonempty, shown, sound_push}
use Rattle.rly_world_pair.proofs.station.Station.make.Goals as goal

pub invariant_of-self-2 : goal.invariant_of-self-2
invariant_of-self-2 c =
    let i = c.self.inside in
    let made = made_left i.params i.commands.items i.told (harm_number i.harm) i.asked.items i.replied.items c.in_ok-ask.ask c.in_ok-reply.reply c.call_end.new.commands.items
    (harm_number c.call_end.new.harm) c.in_ok-reply.position i.spool c.call_end.new.spool c.self.invariant c.in_ok-reply.ensures.called c.in_ok-reply.ensures.kept c.in_ok-reply.ensures.harmed
    c.in_ok-reply.ensures.tells in
    sound_push i.params c.call_end.new.commands.items i.told (harm_number c.call_end.new.harm) c.in_ok-reply.position i.replied.items c.reserve.new.self.items c.push_reserved.new.self.items
    (record { call = c.remove-call.result; reply = c.in_ok-reply.reply; position = c.in_ok-reply.position }) c.call_end.new.spool made.1 c.reserve.ensures.items c.push_reserved.ensures.items refl

pub returns-clause-made : goal.returns-clause-made
returns-clause-made c =
    let i = c.self.inside in
    let made = made_left i.params i.commands.items i.told (harm_number i.harm) i.asked.items i.replied.items c.in_ok-ask.ask c.in_ok-reply.reply c.call_end.new.commands.items
    (harm_number c.call_end.new.harm) c.in_ok-reply.position i.spool c.call_end.new.spool c.self.invariant c.in_ok-reply.ensures.called c.in_ok-reply.ensures.kept c.in_ok-reply.ensures.harmed
    c.in_ok-reply.ensures.tells in
    let some : 0 < length i.asked.items =
    omega (arith, nonempty (vec_len i.asked) (sym c.is_empty.ensures ∙ c.if-is_empty.false), c.deref.ensures.len, ap (λ (l : List Asked). length l) c.deref.ensures.value) in
    let front : i.asked.items ≡ c.remove-call.result ∷ drop 1 i.asked.items = front_removed i.asked.items c.remove-call.result some c.remove-call.ensures.value in
    let ask_is : c.in_ok-ask.ask ≡ c.remove-call.result.ask = c.in_ok-ask.ensures c.remove-call.result (drop 1 i.asked.items) (c.deref.ensures.value ∙ front) in
    let before : End = shown i.params i.told i.asked.items i.replied.items (accepted_in i.params i.commands.items) (harm_number i.harm) in
    let after : End = shown i.params i.told i.asked.items i.replied.items (accepted_in i.params c.call_end.new.commands.items) (harm_number c.call_end.new.harm) in
    let calls : Calls before after c.remove-call.result.ask c.in_ok-reply.reply c.in_ok-reply.position =
    subst (λ (a : Ask). Calls before after a c.in_ok-reply.reply c.in_ok-reply.position) ask_is made.0 in
    let due : Replied = record { call = c.remove-call.result; reply = c.in_ok-reply.reply; position = c.in_ok-reply.position } in
    subst (λ (e : End). Makes e (shown i.params i.told c.remove-call.new.self.items c.push_reserved.new.self.items (accepted_in i.params c.call_end.new.commands.items) (harm_number c.call_end.new.harm))) c.self.view_is
    (subst (λ (l : List Asked). Makes before (record after { asked = l; replied = c.push_reserved.new.self.items })) (sym c.remove-call.ensures.items)
    (subst (λ (l : List Replied). Makes before (record after { asked = drop 1 i.asked.items; replied = l }))
    (sym (c.push_reserved.ensures.items ∙ ap (λ (l : List Replied). l ++ due ∷ []) c.reserve.ensures.items))
    (makes_left before after c.remove-call.result (drop 1 i.asked.items) c.in_ok-reply.reply c.in_ok-reply.position calls front)))
