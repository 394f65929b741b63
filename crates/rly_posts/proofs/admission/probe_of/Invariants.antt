use Rattle.std.proofs.Common.{◌≡◌, drop}
use Rattle.rly_posts.specs.Folders.{first_of, probe_of, stations_of}
use Rattle.rly_posts.proofs.admission.probe_of.Given as goal

-- the station is the first from here on
abbrev pub invariant-loop-route : goal.invariant-loop-route
invariant-loop-route l = first_of (stations_of (drop l.route-index l.route-items)) ≡ probe_of l.plan
