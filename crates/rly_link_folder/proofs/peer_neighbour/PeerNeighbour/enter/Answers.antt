use Rattle.std.proofs.Common.{inl, inr, refl}
use Rattle.rly_link_folder.specs.declared.inbox.Entry.TheVariants.{Gone}
use Rattle.rly_link_folder.proofs.peer_neighbour.PeerNeighbour.enter.Goals as goal

pub returns-in-Ok-Gone-clause-none : goal.returns-in-Ok-Gone-clause-none
returns-in-Ok-Gone-clause-none g c = rw (← c.self.view_is) (inl (record {
  became = Gone;
  enters = rw c.in-Ok-Gone.field-0-is at c.in-Ok-Gone.ensures.enters;
  number_is = refl;
  last = rw c.in-Ok-Gone.field-0-is at c.in-Ok-Gone.ensures.last;
  custody = c.enter_in_place.ensures.custody;
  rest = refl;
}))

pub returns-in-Err-clause-none : goal.returns-in-Err-clause-none
returns-in-Err-clause-none g c = rw (← c.self.view_is) (inr (record {
  calls = c.in-Err.ensures.fails;
  failed = record {
    numbers = record { custody = c.enter_in_place.ensures.custody; last = c.in-Err.ensures.unchanged };
    rest = refl;
  };
}))
