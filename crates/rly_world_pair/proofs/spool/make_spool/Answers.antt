use Rattle.std.proofs.Common.{List, ℕ, sym, subst}
use Rattle.rly_disk.specs.DiskModel.{Settled}
use Rattle.rly_disk.specs.FaultDisk.{fault_state}
use Rattle.rly_disk.specs.HelpersFaultDisk.{fault_consistent}
use Rattle.rly_disk.specs.MemDisk.{mem_state}
use Rattle.rly_disk.specs.declared.fault_disk.FaultDisk.{FaultDisk}
use Rattle.rly_disk.specs.declared.mem.MemDisk.{MemDisk}
use Rattle.rly_machine.specs.State.{new_state}
use Rattle.rly_world_pair.proofs.spool.make_spool.Goals as goal

-- if the disk inside has no write pending, the failing disk has none
over : (disk : FaultDisk MemDisk) → Settled (mem_state disk.inner) → Settled (fault_state mem_state disk)
over disk settled = record { honest = settled.honest; consistent = fault_consistent mem_state disk settled.consistent; only = settled.only }

pub returns-in-Ok-open : goal.returns-in-Ok-open
returns-in-Ok-open c =
    let image : List ℕ = (fault_state mem_state c.format.new.disk).seen in
    let settled = over c.new-disk.result (subst (λ (m : MemDisk). Settled (mem_state m)) (sym c.new-disk.ensures.inner) c.new.ensures.settled) in (
      c.in-Ok-open.ensures.whole.0,
      c.law_stands_for_one.ensures image c.in-Ok-open.journal.state (new_state c.args.geometry.now.params) (c.in-Ok-open.ensures.stands tt)
          (c.law_formatted_stands.ensures c.args.geometry.now image (c.in-Ok-format.ensures.formatted settled)),
    )
