use Rattle.std.proofs.Common.{take, ◌≡◌}
use Rattle.std.specs.Prelude.{option_map}
use Rattle.rly_folder.specs.FolderModel.{as_file}
use Rattle.rly_folder.specs.Record.{files_of}
use Rattle.rly_folder.proofs.record.file_of.Given as goal

abbrev pub invariant-loop-event : goal.invariant-loop-event
invariant-loop-event l = option_map (λ f. as_file f.now) l.found ≡ files_of (take l.event-index l.events) l.name
