use Rattle.std.proofs.Common.{inl, inr, refl}
use Rattle.rly_link_folder.specs.PeerNeighbour.{Peer}
use Rattle.rly_link_folder.specs.declared.phase.Phase.TheVariants.{Serving}
use Rattle.rly_link_folder.proofs.peer_neighbour.PeerNeighbour.open.Goals as goal

pub returns-in-Ok-To : goal.returns-in-Ok-To
returns-in-Ok-To g c =
    let numbers = rw c.in-Ok-To.field-0-is at c.in-Ok-To.ensures.numbers in
    let opened : Peer g.row.F.Denot = record {
      own = c.self.inside.own;
      station = c.self.inside.station;
      rules = c.self.inside.rules;
      window = c.self.inside.window;
      limit = c.self.inside.limit;
      probe = c.self.inside.probe;
      inbox = c.open_again.new.self;
      places = c.clear.new.self.items;
      phase = Serving;
      sent = c.args.custody;
    } in
    rw (← c.self.view_is) (inl (
      opened,
      record {
        joins = rw (← numbers.1) at (rw c.in-Ok-To.field-0-is at c.in-Ok-To.ensures.joins);
        custody_is = numbers.0;
        rest = rw c.clear.ensures.items refl;
      },
      c.release.ensures,
    ))

pub returns-in-Err : goal.returns-in-Err
returns-in-Err g c = rw (← c.self.view_is) (inr (inr (
  c.in-Err.ensures.fails,
  record {
    numbers = record { custody = c.in-Err.ensures.unchanged.0; last = c.in-Err.ensures.unchanged.1 };
    rest = refl;
  },
)))
