use Rattle.std.proofs.Common.{◌∙◌, sym}
use Rattle.rly_daemon.proofs.Outcomes.{left_whole, then_each}
use Rattle.rly_daemon_serve.proofs.Outcomes.{well_is_whole}
use Rattle.rly_daemon.specs.Program.{HasServedReporting}
use Rattle.rly_daemon.proofs.serve_command.report_plan.Goals as goal

pub returns-in-Ok : goal.returns-in-Ok
returns-in-Ok g c =
    let relay = c.in-Ok in
    let relayed = relay.served.end.relayed in
    let end = relay.ensures.ran.end in
    record {
      served = then_each {V = HasServedReporting c.args.settings.turns (g.W.Write.contents c.args.writer.now) (g.W.Write.contents c.serve_reporting.new.writer) (g.E.Write.contents c.reported_ended.new.errors)} c.reported_ended.result c.reported_ended.ensures.told c.reported_ended.ensures.well c.reported_ended.ensures.end (λ told well all. record {
        plan = c.args.plan.now;
        left = relayed.finished.last.value;
        served = record {
          opened = c.in_ok-journal.journal;
          room = relay.ensures.room;
          ends = relay.ensures.ends well;
          begun = c.in_ok-journal.ensures.whole;
          whole = left_whole relayed.finished.last.value.journal relayed.finished.journal end.end.left (sym end.end.broken ∙ well_is_whole _ _ _ (sym relay.ensures.fault.1 ∙ well));
          line = end.line;
          names = end.names;
          seats = end.many;
          served = end.end.served;
          begins = g.E.Write.contents c.serve_reporting.new.errors;
          told = told;
        };
        seat = relay.served.end.watched.seat.value;
        end = relay.served.end.watched.end;
        all = all;
        reports = relay.ensures.reported;
      });
    }
