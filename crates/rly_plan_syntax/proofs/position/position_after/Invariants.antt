use Rattle.std.proofs.Common.{◌≡◌, ◌+◌, ◌≤◌, drop, take}
use Rattle.rly_plan_syntax.specs.DocumentPaths.{after_bytes, position_after}
use Rattle.rly_plan_syntax.proofs.position.position_after.Given as goal

abbrev pub invariant-loop-byte : goal.invariant-loop-byte
invariant-loop-byte l =
    (after_bytes l.place (drop l.byte-index (take l.count l.text)) ≡ position_after (take l.count l.text))
    × (l.place.line ≤ l.byte-index + 1) × (l.place.column ≤ l.byte-index + 1)
