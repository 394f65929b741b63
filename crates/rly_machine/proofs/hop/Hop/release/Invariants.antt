use Rattle.std.proofs.Common.{◌≡◌, ◌+◌, drop}
use Rattle.rly_machine.specs.Kept.{hop_state}
use Rattle.rly_machine.specs.State.{bytes_of}
use Rattle.rly_machine.proofs.hop.Hop.release.Given as goal

-- the items removed from the front of the flight, and their bytes
abbrev pub invariant-loop-item : goal.invariant-loop-item
invariant-loop-item g l = record {
  kept : hop_state l.self ≡ (record (hop_state l.initial.self) { flight = drop l._item l.initial.self.flight.items });
  weighed : l.bytes + bytes_of g.C.Content.length_of l.self.flight.items ≡ bytes_of g.C.Content.length_of l.initial.self.flight.items;
}
