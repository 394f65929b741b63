use Rattle.rly_folder.proofs.MemCalls.{mem_sync}
use Rattle.rly_folder.proofs.mem.MemFolderFolder.sync.Goals as goal

pub returns : goal.returns
returns c = record {
  trace = mem_sync _ _ c.note.result c.note.ensures.ok c.note.ensures.err c.note.ensures.hidden c.note.ensures.calls
      c.note.ensures.failures c.note.ensures.syncs;
}
