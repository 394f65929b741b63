use Rattle.std.proofs.Common.{inl, inr, is_ok, refl}
use Rattle.rly_folder.specs.FolderCalls.{Did, Refrained, Rename, Sync}
use Rattle.rly_link_folder.proofs.Made.{ends, fault, more}
use Rattle.rly_link_folder.specs.OutboxCalls.{making, moving}
use Rattle.rly_link_folder.proofs.calls.keep.Goals as goal

pub returns-in-Ok-true : goal.returns-in-Ok-true
returns-in-Ok-true g c = record {
  steps = moving c.args.from c.args.to;
  keeping = inl refl;
  makes = more g.F.Folder.state (Rename _ _) Did refl (rw c.in-Ok-true.field-0-test at c.in-Ok-true.ensures.trace)
      (ends g.F.Folder.state Sync (is_ok c.sync.result) c.sync.ensures.trace);
}

pub returns-in-Ok-false : goal.returns-in-Ok-false
returns-in-Ok-false g c = record {
  steps = making c.args.from c.args.to c.put.ensures.0;
  keeping = inr (c.put.ensures.0, refl);
  makes = more g.F.Folder.state (Rename _ _) Refrained refl (rw c.in-Ok-false.field-0-test at c.in-Ok-false.ensures.trace) c.put.ensures.1;
}

pub returns-in-Err : goal.returns-in-Err
returns-in-Err g c = record {
  steps = moving c.args.from c.args.to;
  keeping = inl refl;
  makes = fault g.F.Folder.state (Rename _ _) Did _ c.in-Err.ensures.trace;
}
