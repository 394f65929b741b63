-- Helpers of private functions.
use Rattle.std.specs.Option.{option_map_or}
use Rattle.rly_hop.specs.declared.message.StationId.{StationId}
use Rattle.rly_link.specs.declared.post.Post.{Post}
use Rattle.rly_link.specs.declared.turn.Worker.{Worker}
use Rattle.rly_plan.specs.ContactPlan.{ContactPlan}
use Rattle.rly_station.specs.Workers.{neighbour_of}
use Rattle.rly_daemon_reporter.specs.declared.tallied_link.TalliedLink.{TalliedLink}
use Rattle.rly_daemon_reporter.specs.TalliedLink.{link_below}

-- the same post at the link below
abbrev pub post_below : {L C T K : Type 0} → Post (TalliedLink L C) T K → Post L T K
post_below post =
    record { worker = post.worker; link = link_below post.link; turn = post.turn; waker = post.waker }

-- the station of a plan
abbrev pub own_station : ContactPlan → StationId
own_station plan = record { 0 = plan.station }

-- the station of a worker's neighbour: 0 if the plan doesn't have it
abbrev pub station_of : ContactPlan → Worker → StationId
station_of plan worker = record { 0 = option_map_or (λ n. n.station) (neighbour_of plan worker) 0 }
