-- A neighbour's link that publishes its counts to the reporter.
use Rattle.rly_daemon_reporter.specs.CountedLink.{CountedView}
use Rattle.rly_daemon_reporter.specs.declared.tallied_link.TalliedLink.{TalliedLink}

-- the counted link below it, and the link below that
abbrev pub counted_below : {L C : Type 0} → TalliedLink L C → CountedView L
counted_below l = l.link

abbrev pub link_below : {L C : Type 0} → TalliedLink L C → L
link_below l = l.link.link
