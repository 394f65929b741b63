use Rattle.std.proofs.Common.{◌≡◌}
use Rattle.rly_hop_pacing.specs.Scoreboards.{after_heard, is_told}
use Rattle.rly_hop_pacing.proofs.scoreboard.Scoreboard.hear.Given as goal

-- the report on the places so far
abbrev pub invariant-loop-place : goal.invariant-loop-place
invariant-loop-place l = l.self ≡ after_heard l.fn.self (is_told l.last l.bits) l.at l.trip l.covered l.place
