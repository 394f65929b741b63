use Rattle.std.proofs.Common.{◌≡◌, ◌++◌, string_bytes, take}
use Rattle.rly_audit.specs.Report.{hop_lines}
use Rattle.rly_audit.proofs.books.write_hops.Given as goal

abbrev pub invariant-loop-status : goal.invariant-loop-status
invariant-loop-status l =
    (l.number ≡ l.status-index) × (string_bytes l.text ≡ string_bytes l.initial.text ++ hop_lines (take l.status-index l.hops))
