use Rattle.std.proofs.Common.{◌≡◌, ◌+◌}
use Rattle.std.specs.List.{filter, range_with_len}
use Rattle.rly_hop_pacing.specs.CongestionControl.{first_of, is_spare}
use Rattle.rly_hop_pacing.proofs.congestion_control.CongestionControl.repeated_before.Given as goal

-- the numbers so far
abbrev pub invariant-loop-place : goal.invariant-loop-place
invariant-loop-place l = l.found ≡ first_of (filter (is_spare l.fn.self l.at) (range_with_len (l.fn.self.flight.covered + 1) l.place))
