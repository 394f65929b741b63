use Rattle.std.proofs.Common.{◌≡◌, ◌++◌, string_bytes, take}
use Rattle.rly_daemon_report.specs.ReportText.{peers_text}
use Rattle.rly_daemon_report.proofs.report_text.write_peers.Given as goal

abbrev pub invariant-loop-peer : goal.invariant-loop-peer
invariant-loop-peer l = string_bytes l.text ≡ string_bytes l.initial.text ++ peers_text l.moment (take l.peer-index l.peers)
