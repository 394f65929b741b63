use Rattle.std.proofs.Common.{ℕ, sym, subst}
use Rattle.rly_world_pair.specs.HelpersStation.{accepted_in, harm_number}
use Rattle.rly_world.specs.PairEnd.{End}
use Rattle.rly_world_pair.specs.PairSteps.{Serves}
use Rattle.rly_world_pair.proofs.StationSteps.{made_left, serves_left, shown, sound_told}
use Rattle.rly_world_pair.proofs.station.Station.serve.Goals as goal

pub invariant_of-self-2 : goal.invariant_of-self-2
invariant_of-self-2 c =
    let i = c.self.inside in
    let made = made_left i.params i.commands.items i.told (harm_number i.harm) i.asked.items i.replied.items c.args.ask c.in_ok-reply.reply c.call_end.new.commands.items
    (harm_number c.call_end.new.harm) c.in_ok-reply.position i.spool c.call_end.new.spool c.self.invariant c.in_ok-reply.ensures.called c.in_ok-reply.ensures.kept c.in_ok-reply.ensures.harmed
    c.in_ok-reply.ensures.tells in
    sound_told i.params c.call_end.new.commands.items i.told (harm_number c.call_end.new.harm) c.in_ok-reply.position i.replied.items c.call_end.new.spool c.args.is_answered c.in_ok-reply.reply
    c.reported_after-self-inside.result made.1 c.reported_after-self-inside.ensures

pub returns-clause-served : goal.returns-clause-served
returns-clause-served c =
    let i = c.self.inside in
    let made = made_left i.params i.commands.items i.told (harm_number i.harm) i.asked.items i.replied.items c.args.ask c.in_ok-reply.reply c.call_end.new.commands.items
    (harm_number c.call_end.new.harm) c.in_ok-reply.position i.spool c.call_end.new.spool c.self.invariant c.in_ok-reply.ensures.called c.in_ok-reply.ensures.kept c.in_ok-reply.ensures.harmed
    c.in_ok-reply.ensures.tells in
    subst (λ (e : End). Serves e (shown i.params c.reported_after-self-inside.result i.asked.items i.replied.items (accepted_in i.params c.call_end.new.commands.items) (harm_number c.call_end.new.harm))
    c.args.ask c.args.is_answered) c.self.view_is
    (subst
    (λ (n : ℕ). Serves (shown i.params i.told i.asked.items i.replied.items (accepted_in i.params i.commands.items) (harm_number i.harm))
    (shown i.params n i.asked.items i.replied.items (accepted_in i.params c.call_end.new.commands.items) (harm_number c.call_end.new.harm)) c.args.ask c.args.is_answered)
    (sym c.reported_after-self-inside.ensures) (serves_left _ _ c.args.ask c.in_ok-reply.reply c.in_ok-reply.position c.args.is_answered made.0))
