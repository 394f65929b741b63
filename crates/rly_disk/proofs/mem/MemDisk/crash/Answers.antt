use Rattle.rly_disk.proofs.Common.{arith}
use Rattle.rly_disk.proofs.RecordLemmas.{left_image, of_record, part-within}
use Rattle.rly_disk.proofs.mem.MemDisk.crash.Goals as goal

pub restore-requires : goal.restore-requires
restore-requires c = rw (c.deref.ensures.value, c.deref_mut.ensures.value) (part-within _ _ _ c.args.self.within c.args.self.synced_is)

pub fill-requires : goal.fill-requires
fill-requires c = rw (c.deref.ensures.value, c.deref_mut-in-Fill.ensures.value) (part-within _ _ _ c.args.self.within c.args.self.synced_is)

pub restore-requires-in-Split : goal.restore-requires-in-Split
restore-requires-in-Split c = rw (c.deref.ensures.value, c.deref_mut-in-Split.ensures.value) (part-within _ _ _ c.args.self.within c.args.self.synced_is)

pub returns-clause-left : goal.returns-clause-left
returns-clause-left c = grind (arith, of_record)

pub returns-clause-image : goal.returns-clause-image
returns-clause-image c = left_image c.args.torn c.args.self _ (returns-clause-left c)
