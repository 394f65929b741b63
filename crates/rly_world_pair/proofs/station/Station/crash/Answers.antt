use Rattle.std.proofs.Common.{ℕ, List, Option, Some, sym, ◌∙◌, subst}
use Rattle.rly_disk.specs.FaultDisk.{fault_state}
use Rattle.rly_disk.specs.MemDisk.{mem_state}
use Rattle.rly_disk.specs.declared.fault_disk.FaultDisk.{FaultDisk}
use Rattle.rly_disk.specs.declared.mem.MemDisk.{MemDisk}
use Rattle.rly_world_pair.specs.HelpersStation.{IsReopened, IsSoundStation, accepted_in, harm_number}
use Rattle.rly_world.specs.PairEnd.{End}
use Rattle.rly_world_pair.specs.PairSteps.{Crashes}
use Rattle.rly_world_pair.specs.declared.spool.Spool.{Spool}
use Rattle.rly_world_pair.proofs.StationCrash.{crash_left, emptied}
use Rattle.rly_world_pair.proofs.StationSteps.{shown}
use Rattle.rly_world_pair.proofs.station.Station.crash.Goals as goal

pub invariant_of-self-2 : goal.invariant_of-self-2
invariant_of-self-2 c =
    let i = c.self.inside in
    let sound = subst (λ (o : Option Spool). IsSoundStation i.params i.commands.items i.told (harm_number i.harm) i.replied.items o) (sym c.take.ensures.value ∙ c.in-Some.is) c.self.invariant in
    let found = subst (λ (d : FaultDisk MemDisk). (image : List ℕ) × (fault_state mem_state d).images image × IsReopened image c.reopen-spool.result) c.disk_of.ensures.disk c.reopen-spool.ensures in
    let crashed = crash_left i.params i.commands.items i.told (harm_number i.harm) i.asked.items i.replied.items c.in-Some.spool c.reopen-spool.result c.cut-self-inside.new.commands.items
    (harm_number c.cut-self-inside.result) sound c.disk_of.ensures.durable found c.law_stands_for_one.ensures c.cut-self-inside.ensures.commands c.cut-self-inside.ensures.harmed in
    (emptied i.params i.commands.items i.told (harm_number i.harm) i.asked.items i.replied.items c.cut-self-inside.new.commands.items (harm_number c.cut-self-inside.result)
    (Some c.reopen-spool.result) c.clear.new.self.items c.clear-2.new.self.items c.clear.ensures.items c.clear-2.ensures.items crashed).0

pub returns : goal.returns
returns c =
    let i = c.self.inside in
    let sound = subst (λ (o : Option Spool). IsSoundStation i.params i.commands.items i.told (harm_number i.harm) i.replied.items o) (sym c.take.ensures.value ∙ c.in-Some.is) c.self.invariant in
    let found = subst (λ (d : FaultDisk MemDisk). (image : List ℕ) × (fault_state mem_state d).images image × IsReopened image c.reopen-spool.result) c.disk_of.ensures.disk c.reopen-spool.ensures in
    let crashed = crash_left i.params i.commands.items i.told (harm_number i.harm) i.asked.items i.replied.items c.in-Some.spool c.reopen-spool.result c.cut-self-inside.new.commands.items
    (harm_number c.cut-self-inside.result) sound c.disk_of.ensures.durable found c.law_stands_for_one.ensures c.cut-self-inside.ensures.commands c.cut-self-inside.ensures.harmed in
    subst (λ (e : End). Crashes e (shown i.params i.told c.clear.new.self.items c.clear-2.new.self.items (accepted_in i.params c.cut-self-inside.new.commands.items) (harm_number c.cut-self-inside.result))) c.self.view_is
    (emptied i.params i.commands.items i.told (harm_number i.harm) i.asked.items i.replied.items c.cut-self-inside.new.commands.items (harm_number c.cut-self-inside.result)
    (Some c.reopen-spool.result) c.clear.new.self.items c.clear-2.new.self.items c.clear.ensures.items c.clear-2.ensures.items crashed).1
