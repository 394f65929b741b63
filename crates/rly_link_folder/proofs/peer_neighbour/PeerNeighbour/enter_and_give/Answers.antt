use Rattle.std.proofs.Common.{inl}
use Rattle.rly_link_folder.proofs.peer_neighbour.PeerNeighbour.enter_and_give.Goals as goal

pub returns-in-Some-clause-gives : goal.returns-in-Some-clause-gives
returns-in-Some-clause-gives g c =
    inl (c.in-Some.number, c.enter_next.new.self, c.in-Some.ensures.enters, c.give.ensures.gives)
