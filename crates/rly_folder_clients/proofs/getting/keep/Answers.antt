use Rattle.std.proofs.Common.{inl, inr, is_ok, refl}
use Rattle.rly_folder.specs.FolderCalls.{Sync}
use Rattle.rly_folder_clients.proofs.Lists.{ends}
use Rattle.rly_folder_clients.specs.Getting.{making, moving}
use Rattle.rly_folder_clients.proofs.getting.keep.Goals as goal

pub returns-in-Ok-true : goal.returns-in-Ok-true
returns-in-Ok-true g c = record {
  steps = moving c.args.from c.args.to;
  keeping = inl refl;
  runs = inl (_, (rw c.in-Ok-true.field-0-test at c.in-Ok-true.ensures.trace), ends g.F.Folder.state Sync (is_ok c.sync.result) c.sync.ensures.trace);
}

pub returns-in-Ok-false : goal.returns-in-Ok-false
returns-in-Ok-false g c = record {
  steps = making c.args.from c.args.to c.make.ensures.0;
  keeping = inr (c.make.ensures.0, refl);
  runs = inl (_, (rw c.in-Ok-false.field-0-test at c.in-Ok-false.ensures.trace), c.make.ensures.1);
}

pub returns-in-Err : goal.returns-in-Err
returns-in-Err g c = record {
  steps = moving c.args.from c.args.to;
  keeping = inl refl;
  runs = inr (refl, c.in-Err.ensures.trace);
}
