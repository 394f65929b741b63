use Rattle.std.proofs.Common.{◌≡◌, ◌+◌, length}
use Rattle.std.specs.List.{filter, range_with_len}
use Rattle.rly_hop_pacing.specs.CongestionControl.{is_on_way}
use Rattle.rly_hop_pacing.proofs.congestion_control.CongestionControl.way_count.Given as goal

-- the numbers so far
abbrev pub invariant-loop-place : goal.invariant-loop-place
invariant-loop-place l = l.count ≡ length (filter (is_on_way l.fn.self l.at) (range_with_len (l.fn.self.flight.covered + 1) l.place))
