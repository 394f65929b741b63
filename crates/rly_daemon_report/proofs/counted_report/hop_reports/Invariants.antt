use Rattle.std.proofs.Common.{◌≡◌, take}
use Rattle.rly_daemon_report.specs.CountedReport.{hop_reports}
use Rattle.rly_daemon_report.proofs.counted_report.hop_reports.Given as goal

-- the reports of the hops so far
abbrev pub invariant-loop-index : goal.invariant-loop-index
invariant-loop-index l = l.hops.items ≡ hop_reports l.plan l.moment l.links (take l.index l.answers)
