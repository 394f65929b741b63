-- The state in contracts of a folder in memory.
use Rattle.std.specs.Prelude.{ℕ, List, length, Option, option_map, ⊤}
use Rattle.rly_folder.specs.FolderModel.{File, FolderState, as_file}
use Rattle.rly_folder.specs.Record.{IsImage, WasImage, files_of}
use Rattle.rly_folder.specs.declared.counts.Counts.{Counts}
use Rattle.rly_folder.specs.declared.mem.MemFolder.{MemFolder}
use Rattle.rly_folder.specs.declared.record.Event.{Event}

-- the folder after these events
abbrev pub recorded_state : List Event → Option File → Counts → FolderState
recorded_state events hidden counts = record {
  seen = record { files = files_of events; hidden = hidden };
  images = IsImage events;
  moment = length events;
  since = WasImage events;
  honest = ⊤;
  calls = counts.calls;
  failures = counts.failures;
  syncs = counts.syncs;
}

abbrev pub mem_state : MemFolder → FolderState
mem_state folder = recorded_state folder.events.items (option_map as_file folder.hidden) folder.counts

abbrev pub record_of : MemFolder → List Event
record_of folder = folder.events.items
