use Rattle.std.proofs.Common.{◌≡◌, ◌++◌, string_bytes, take}
use Rattle.rly_audit.specs.Report.{peer_lines}
use Rattle.rly_audit.proofs.books.write_peers.Given as goal

abbrev pub invariant-loop-last : goal.invariant-loop-last
invariant-loop-last l =
    (l.number ≡ l.last-index) × (string_bytes l.text ≡ string_bytes l.initial.text ++ peer_lines (take l.last-index l.lasts))
