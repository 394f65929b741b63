use Rattle.std.proofs.Common.{◌≡◌, ◌+◌, take}
use Rattle.std.specs.List.{filter, range_with_len}
use Rattle.rly_hop_pacing.specs.CongestionControl.{is_missing}
use Rattle.rly_hop_pacing.proofs.congestion_control.CongestionControl.missing.Given as goal

-- the numbers so far
abbrev pub invariant-loop-place : goal.invariant-loop-place
invariant-loop-place l = l.numbers.items ≡ take l.most (filter (is_missing l.fn.self l.at) (range_with_len (l.fn.self.flight.covered + 1) l.place))
