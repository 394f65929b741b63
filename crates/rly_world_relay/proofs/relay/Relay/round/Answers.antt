use Rattle.std.proofs.Common.{◌≡◌, ◌≢◌, ◌≤◌, ◌∙◌, [], ap, arith, length, rules, subst, sym}
use Rattle.rly_world.specs.RelaySteps.{all_replied}
use Rattle.rly_world_relay.specs.HelpersSeats.{views_of}
use Rattle.rly_world_relay.specs.Relay.{RelayState}
use Rattle.rly_world_relay.specs.Steps.{HappenedRound}
use Rattle.rly_world_relay.specs.declared.spool.Spool.TheVariants.{Opened}
use Rattle.rly_world_relay.proofs.RelayReplies.{room_all}
use Rattle.rly_world_relay.proofs.RelayRounded.{none_of, round_empty, round_served, round_shut}
use Rattle.rly_world_relay.proofs.relay.Relay.round.Goals as goal

pub returns-in_default-clause-round : goal.returns-in_default-clause-round
returns-in_default-clause-round c =
    let was : RelayState = record { seats = views_of c.self.inside.seats.items; line = c.self.inside.line.items; kept = c.self.inside.kept; spool = c.self.inside.spool } in
    subst (λ o. HappenedRound c.args.most o (record was { seats = views_of c.reserve.new.seats.items })) c.self.view_is
    (subst (λ s. HappenedRound c.args.most was (record was { seats = s })) (sym c.reserve.ensures.same)
    (round_shut c.args.most was c.in_default.field-0 c.in_default.is))

pub returns-then-is_empty-clause-round : goal.returns-then-is_empty-clause-round
returns-then-is_empty-clause-round c =
    let was : RelayState = record { seats = views_of c.self.inside.seats.items; line = c.self.inside.line.items; kept = c.self.inside.kept; spool = c.self.inside.spool } in
    let none : c.gather.new.calls.items ≡ [] = none_of c.gather.new.calls.items (search rules) in
    subst (λ o. HappenedRound c.args.most o (record { seats = views_of c.reserve.new.seats.items; line = c.gather.new.line.items; kept = c.gather.new.kept; spool = Opened c.in-Opened.journal })) c.self.view_is
    (subst (λ s. HappenedRound c.args.most was (record { seats = s; line = c.gather.new.line.items; kept = c.gather.new.kept; spool = Opened c.in-Opened.journal })) (sym c.reserve.ensures.same)
    (subst (λ s. HappenedRound c.args.most was (record { seats = was.seats; line = c.gather.new.line.items; kept = c.gather.new.kept; spool = s })) c.in-Opened.is
    (round_empty c.args.most was c.in-Opened.journal c.in-Opened.is c.gather.new.kept c.gather.new.line.items c.gather.new.calls.items c.gather.ensures.gathers none)))

pub reply_all-requires : goal.reply_all-requires
reply_all-requires c =
    room_all 64 (length c.serve.new.answers.items) c.reserve.new.seats.items (omega (arith, c.serve.ensures.count, c.gather.ensures.count)) c.in_ok-reserve.ensures.room

pub returns-clause-round : goal.returns-clause-round
returns-clause-round c =
    let was : RelayState = record { seats = views_of c.self.inside.seats.items; line = c.self.inside.line.items; kept = c.self.inside.kept; spool = c.self.inside.spool } in
    let least : 1 ≤ length c.gather.new.calls.items = search rules in
    let some : c.gather.new.calls.items ≢ [] = λ none. omega (arith, least, ap length none) in
    subst (λ o. HappenedRound c.args.most o (record { seats = views_of c.reply_all.new.seats.items; line = c.gather.new.line.items; kept = c.gather.new.kept; spool = Opened c.serve.new.journal })) c.self.view_is
    (round_served c.args.most was c.in-Opened.journal c.in-Opened.is c.gather.new.kept c.gather.new.line.items c.gather.new.calls.items c.gather.ensures.gathers
    c.serve.new.journal (views_of c.reply_all.new.seats.items) c.serve.new.answers.items some c.serve.ensures.served c.serve.ensures.count
    (c.reply_all.ensures ∙ ap (λ s. all_replied s c.serve.new.answers.items) c.reserve.ensures.same))
