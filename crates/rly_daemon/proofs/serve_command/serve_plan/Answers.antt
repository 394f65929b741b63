use Rattle.std.proofs.Common.{◌∙◌, length, sym}
use Rattle.rly_daemon.proofs.Outcomes.{and_none, left_whole, then_both}
use Rattle.rly_daemon_serve.proofs.Outcomes.{well_is_whole}
use Rattle.rly_station.specs.Workers.{workers_of}
use Rattle.rly_daemon.specs.Program.{HasServed}
use Rattle.rly_daemon.proofs.serve_command.serve_plan.Goals as goal

pub returns-in-Ok : goal.returns-in-Ok
returns-in-Ok g c =
    let relay = c.in-Ok in
    let end = relay.ensures.ran.end in
    record {
      served = then_both {Z = HasServed c.args.settings.turns (g.E.Write.contents c.relay_ended.new.errors)} c.relay_ended.result c.relay_ended.ensures.told c.relay_ended.ensures.well (λ told well. (
        c.args.plan.now,
        relay.served.end.finished.last.value,
        record {
          opened = c.in_ok-journal.journal;
          room = relay.ensures.room;
          ends = relay.ensures.ends well;
          begun = c.in_ok-journal.ensures.whole;
          whole = left_whole relay.served.end.finished.last.value.journal relay.served.end.finished.journal end.end.left (sym end.end.broken ∙ well_is_whole _ _ _ (sym relay.ensures.fault.1 ∙ well));
          line = end.line;
          names = end.names;
          seats = and_none (length end.names) (length (workers_of c.args.plan.now)) end.many;
          served = end.end.served;
          begins = g.E.Write.contents c.serve.new.errors;
          told = told;
        },
      ));
    }
