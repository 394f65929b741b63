use Rattle.std.proofs.Common.{None, Some, false}
use Rattle.rly_daemon_reporter.proofs.reporter_at_seat.report_at.Given as goal

-- its seat at first; it has no clock, and nothing stops it
abbrev pub ghosts-report_as : goal.ghosts-report_as
ghosts-report_as g a = record { first = None; endless = false; seat = Some a.seat; lock = 0 }
