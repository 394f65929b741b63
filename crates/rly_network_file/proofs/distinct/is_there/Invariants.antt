use Rattle.std.proofs.Common.{◌≡◌, ◌==◌, drop, map}
use Rattle.std.specs.List.{list_any}
use Rattle.rly_network_file.specs.Ids.{Neighbours}
use Rattle.rly_network_file.proofs.distinct.is_there.Given as goal

-- whether the station is there from here on
abbrev pub invariant-loop-station : goal.invariant-loop-station
invariant-loop-station l =
    list_any (λ y. y == l.number) (map (λ (s : Neighbours). s.number) (drop l.station-index l.stations))
    ≡ list_any (λ y. y == l.number) (map (λ (s : Neighbours). s.number) l.stations)
