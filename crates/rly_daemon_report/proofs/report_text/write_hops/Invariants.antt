use Rattle.std.proofs.Common.{◌≡◌, ◌++◌, string_bytes, take}
use Rattle.rly_daemon_report.specs.ReportText.{hops_text}
use Rattle.rly_daemon_report.proofs.report_text.write_hops.Given as goal

abbrev pub invariant-loop-hop : goal.invariant-loop-hop
invariant-loop-hop l = string_bytes l.text ≡ string_bytes l.initial.text ++ hops_text l.moment (take l.hop-index l.hops)
