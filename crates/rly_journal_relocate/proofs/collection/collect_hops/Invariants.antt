use Rattle.std.proofs.Common.{◌≡◌, ◌+◌, ◌-◌, ◌≤◌, length, map, take, true, vec_len}
use Rattle.std.specs.Vec.{vec_capacity}
use Rattle.rly_disk.specs.Trace.{Makes}
use Rattle.rly_machine.specs.Kept.{hop_state}
use Rattle.rly_machine.specs.Map.{map_hop}
use Rattle.rly_journal_relocate.specs.Collection.{blank_payload}
use Rattle.rly_journal_relocate.specs.HelpersCollection.{collected_blank, collected_in, hops_reads}
use Rattle.rly_journal_relocate.proofs.collection.collect_hops.Given as goal

-- the hops so far are collected, and the reads of their payloads were made
abbrev pub invariant-loop-hop : goal.invariant-loop-hop
invariant-loop-hop g l = record {
  drawn : (g.D.Disk.state l.initial.disk).honest
      → map hop_state l.copy.items ≡ map (map_hop (collected_in (g.D.Disk.state l.initial.disk).seen l.geometry l.victim)) (take l.hop-index (map hop_state l.hops));
  lengths : map (map_hop blank_payload) (map hop_state l.copy.items) ≡ map (map_hop (collected_blank l.geometry l.victim)) (take l.hop-index (map hop_state l.hops));
  made : Makes g.D.Disk.state (hops_reads l.geometry l.victim (take l.hop-index (map hop_state l.hops))) true l.initial.disk l.disk;
  room : vec_len l.copy + (length l.hops - l.hop-index) ≤ vec_capacity l.copy;
}
