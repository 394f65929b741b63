use Rattle.std.proofs.Common.{take, ◌≡◌}
use Rattle.std.specs.List.{filter_map}
use Rattle.rly_folder.specs.Record.{files_of, listed_number}
use Rattle.rly_folder.proofs.record.numbers_in.Given as goal

abbrev pub invariant-loop-event : goal.invariant-loop-event
invariant-loop-event l = l.numbers.items ≡ filter_map (listed_number (files_of l.events) l.area) (take l.event-index l.events)
