use Rattle.std.proofs.Common.{length}
use Rattle.rly_link_folder.proofs.Links.{too_short}
use Rattle.rly_link_folder.proofs.folder_link.FolderLinkLink.recv.Goals as goal

pub returns-then-buffer-lt-MAX_MESSAGE-clause-none : goal.returns-then-buffer-lt-MAX_MESSAGE-clause-none
returns-then-buffer-lt-MAX_MESSAGE-clause-none g c =
    too_short g.L.Link.heard g.N.Neighbour.gives g.N.Neighbour.more g.N.Neighbour.pending g.N.Neighbour.wakes g.N.Neighbour.tries_again
    c.args.sleep (length c.args.buffer.now) c.args.self.now.bell c.rest.new.self.bell c.args.self.now.neighbour c.rest.new.self.neighbour
    c.if-buffer-lt-MAX_MESSAGE.true c.in_ok-rest.ensures.rests
