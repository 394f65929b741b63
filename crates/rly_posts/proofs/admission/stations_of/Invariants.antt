use Rattle.std.proofs.Common.{◌≡◌, take}
use Rattle.rly_posts.specs.Folders.{stations_of}
use Rattle.rly_posts.proofs.admission.stations_of.Given as goal

-- the stations of the routes so far
abbrev pub invariant-loop-route : goal.invariant-loop-route
invariant-loop-route l = l.found.items ≡ stations_of (take l.route-index l.routes)
