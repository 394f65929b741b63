use Rattle.std.proofs.Common.{◌≡◌, ◌+◌, map}
use Rattle.std.specs.List.{range_with_len}
use Rattle.rly_hop_pacing.specs.Moments.{soonest}
use Rattle.rly_hop_pacing.specs.NextMoments.{number_after}
use Rattle.rly_hop_pacing.proofs.congestion_control.CongestionControl.again_after.Given as goal

-- the numbers so far
abbrev pub invariant-loop-place : goal.invariant-loop-place
invariant-loop-place l = l.first ≡ soonest (map (number_after l.fn.self l.at) (range_with_len (l.fn.self.flight.covered + 1) l.place))
