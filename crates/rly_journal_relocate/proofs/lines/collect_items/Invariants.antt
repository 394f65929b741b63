use Rattle.std.proofs.Common.{◌≡◌, ◌+◌, ◌-◌, ◌≤◌, take, true, vec_len}
use Rattle.std.specs.Vec.{vec_capacity}
use Rattle.rly_disk.specs.Trace.{Makes}
use Rattle.rly_machine.specs.Kept.{hop_state}
use Rattle.rly_journal_relocate.specs.HelpersCollection.{blank_items, items_blank, items_in, items_reads, part_of}
use Rattle.rly_journal_relocate.proofs.lines.collect_items.Given as goal

-- the items so far are collected, and the reads of their payloads were made
abbrev pub invariant-loop-index : goal.invariant-loop-index
invariant-loop-index g l = record {
  drawn : (g.D.Disk.state l.initial.disk).honest
      → l.items.items ≡ items_in (g.D.Disk.state l.initial.disk).seen l.geometry l.victim (take l.index (part_of (hop_state l.hop) l.from l.count));
  lengths : blank_items l.items.items ≡ items_blank l.geometry l.victim (take l.index (part_of (hop_state l.hop) l.from l.count));
  made : Makes g.D.Disk.state (items_reads l.geometry l.victim (take l.index (part_of (hop_state l.hop) l.from l.count))) true l.initial.disk l.disk;
  room : vec_len l.items + (l.count - l.index) ≤ vec_capacity l.items;
}
