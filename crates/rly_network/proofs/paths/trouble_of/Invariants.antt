use Rattle.std.proofs.Common.{◌≡◌, ◌-◌, length}
use Rattle.rly_network.specs.Paths.{trouble_of}
use Rattle.rly_network.proofs.paths.trouble_of.Given as goal

-- the trouble from here on, in the stations that are left
abbrev pub invariant-loop-step : goal.invariant-loop-step
invariant-loop-step l =
    trouble_of l.stations l.to (length l.stations - l._step) l.at l.hop ≡ trouble_of l.initial.stations l.initial.to (length l.initial.stations) l.initial.at l.initial.hop
