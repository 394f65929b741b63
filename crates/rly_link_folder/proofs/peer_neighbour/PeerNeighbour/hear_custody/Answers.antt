use Rattle.std.proofs.Common.{◌≡◌, ◌∙◌, ap, sym}
use Rattle.rly_link_folder.proofs.Peers.{asked}
use Rattle.rly_link_folder.specs.PeerNeighbour.{Peer}
use Rattle.rly_link_folder.specs.declared.phase.Phase.TheVariants.{Asked}
use Rattle.rly_link_folder.proofs.peer_neighbour.PeerNeighbour.hear_custody.Goals as goal

pub returns-in-Asked : goal.returns-in-Asked
returns-in-Asked g c =
    let phase : c.args.self.now.phase ≡ Asked = sym (ap (λ (p : Peer _). p.phase) c.self.view_is) ∙ c.in-Asked.is in
    asked g.F.Folder.state c.args.self.now.phase c.args.custody c.args.self.now c.open.new.self phase c.open.ensures
