use Rattle.rly_link_folder.proofs.Peers.{next_place, no_place}
use Rattle.rly_link_folder.proofs.peer_neighbour.PeerNeighbour.enter_next.Goals as goal

pub returns-in-Ok-Some-clause-enters : goal.returns-in-Ok-Some-clause-enters
returns-in-Ok-Some-clause-enters g c =
    let finds = rw c.in-Ok-Some.field-0-is at c.in-Ok-Some.ensures.found in
    next_place g.F.Folder.state c.in-Ok-Some.place _ _ _ _ finds c.enter.ensures.some c.enter.ensures.none

pub returns-in-Err-clause-enters : goal.returns-in-Err-clause-enters
returns-in-Err-clause-enters g c =
    let fails = rw (← c.self.view_is) at c.in-Err.ensures.fails in
    let numbers = rw (← c.self.view_is) at c.next_place.ensures.numbers in
    let rest = rw (← c.self.view_is) at c.next_place.ensures.rest in
    no_place g.F.Folder.state _ _ fails numbers rest
