use Rattle.std.proofs.Common.{take, ◌≡◌}
use Rattle.rly_folder.specs.Record.{synced_events}
use Rattle.rly_folder.proofs.record.synced_events.Given as goal

abbrev pub invariant-loop-at : goal.invariant-loop-at
invariant-loop-at l = l.synced ≡ synced_events (take l.at l.events)
