use Rattle.rly_folder_clients.proofs.putting.+link_free.Given as goal

abbrev pub decreases-link_free : goal.decreases-link_free
decreases-link_free g l = l.tries
