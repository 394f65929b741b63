use Rattle.std.proofs.Common.{subst, sym}
use Rattle.rly_world_relay.specs.HelpersSeats.{views_of}
use Rattle.rly_world_relay.specs.Relay.{Happened, IsOpening}
use Rattle.rly_world_relay.specs.declared.spool.Spool.TheVariants.{Opened, Shut}
use Rattle.rly_world_relay.proofs.RelayShows.{forgets, opened_done, unsynced_done}
use Rattle.rly_world_relay.proofs.relay.Relay.opening.Goals.{in-Ok, in-Err}
use Rattle.rly_world_relay.proofs.relay.Relay.opening.Goals as goal

pub returns : goal.returns
returns c =
    let made = c.stop.ensures in
    elim c.match-open.branch [
      | in-Ok w ↦ record {
        event = subst (λ s. Happened (IsOpening s) c.args.self.now (record { seats = views_of c.self.inside.seats.items; line = c.self.inside.line.items; kept = c.self.inside.kept; spool = s })) (sym w.t-14-is)
            (subst (Happened (IsOpening (Opened w.in-Ok.journal)) c.args.self.now) (forgets c.args.self.now c.stop.new.self _ (Opened w.in-Ok.journal) made.seats made.line made.kept c.self.view_is)
            (opened_done c.args.self.now c.stop.result c.new-disk.result w.in-Ok.journal made.disk c.new-disk.ensures.inner (w.in-Ok.ensures.stands tt) w.in-Ok.ensures.whole w.in-Ok.ensures.only
            (w.in-Ok.ensures.settled tt)));
      }
      | in-Err w ↦ record {
        event = subst (λ s. Happened (IsOpening s) c.args.self.now (record { seats = views_of c.self.inside.seats.items; line = c.self.inside.line.items; kept = c.self.inside.kept; spool = s })) (sym w.t-14-is)
            (subst (Happened (IsOpening (Shut w.into_inner.result)) c.args.self.now) (forgets c.args.self.now c.stop.new.self _ (Shut w.into_inner.result) made.seats made.line made.kept c.self.view_is)
            (unsynced_done c.args.self.now c.stop.result c.new-disk.result w.in-Err.disk w.into_inner.result made.disk c.new-disk.ensures.inner w.in-Err.ensures.only w.into_inner.ensures));
      }
    ]
