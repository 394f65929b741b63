use Rattle.std.proofs.Common.{arith, refl, ◌++◌, ◌∷◌, [], ◌≡◌}
use Rattle.rly_folder.specs.Record.{after_crash}
use Rattle.rly_folder.specs.declared.record.Event.TheVariants.{Synced}
use Rattle.rly_folder.proofs.MemCalls.{crash_settled}
use Rattle.rly_folder.proofs.RecordLemmas.{files_synced, items_crashed, left_is_image}
use Rattle.rly_folder.proofs.mem.MemFolder.crash.Goals as goal

pub returns-clause-left : goal.returns-clause-left
returns-clause-left c =
    let made : c.push.new.self.items ≡ after_crash c.args.stands.now c.args.self.events.items ++ Synced ∷ [] =
    items_crashed _ _ c.undo_pending.new.events _ c.args.self.events.len (omega arith) (rw c.deref_mut.ensures.value at c.undo_pending.ensures) c.in_ok-push.ensures.items in
    rw (made, files_synced) refl

pub returns-clause-image : goal.returns-clause-image
returns-clause-image c =
    let made : c.push.new.self.items ≡ after_crash c.args.stands.now c.args.self.events.items ++ Synced ∷ [] =
    items_crashed _ _ c.undo_pending.new.events _ c.args.self.events.len (omega arith) (rw c.deref_mut.ensures.value at c.undo_pending.ensures) c.in_ok-push.ensures.items in
    rw (made, files_synced) (left_is_image c.args.stands.now c.args.self.events.items)

pub returns-clause-settled : goal.returns-clause-settled
returns-clause-settled c = crash_settled _ c.push.new.self.items c.new.result c.in_ok-push.ensures.items
