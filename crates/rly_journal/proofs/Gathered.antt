-- An index that applies the commands of a group on the device.
use Rattle.std.proofs.Common.{◌≡◌, ℕ, ◌+◌, ◌<◌, ◌≤◌, ◌∙◌, List, [], ◌∷◌, ◌++◌, length, ap, subst, arith, length-append}
use Rattle.std.specs.List.{flat_map}
use Rattle.std.proofs.lemmas.Grind.{flat_map-append}
use Rattle.std.proofs.lemmas.List.Elements.{All-weaker}
use Rattle.byteorder.specs.Endian.{big_bytes}
use Rattle.rly_core.specs.declared.params.Geometry.{Geometry}
use Rattle.rly_disk.specs.DiskModel.{Consistent, DiskState}
use Rattle.rly_gate.specs.Group.{StandsAt}
use Rattle.rly_gate.specs.GroupReads.{HoldsGroup}
use Rattle.rly_machine.specs.Fold.{fold}
use Rattle.rly_machine.specs.Map.{payloads_of}
use Rattle.rly_machine.specs.State.{State}
use Rattle.rly_machine.specs.Step.{step}
use Rattle.rly_machine.specs.declared.command.Command.{Command}
use Rattle.rly_record.specs.Spelling.{body_of, record_length, record_of}
use Rattle.rly_segment_checkpoint.specs.Stored.{stored_length}
use Rattle.rly_segment_checkpoint.specs.declared.stored.Stored.{Stored}
use Rattle.rly_segment.specs.Device.{IsLayout, device_length}
use Rattle.rly_segment.specs.Heads.{segment_end, segment_place}
use Rattle.rly_segment.proofs.BytesAtPlace.{stands_front}
use Rattle.rly_journal_index.specs.IndexRelation.{IsBrought, IsIndex, StandsForBytes, LiesClear}
use Rattle.rly_journal_index.proofs.Images.{recorded}
use Rattle.rly_journal_index.proofs.Lying.{clear_more}
use Rattle.rly_journal_index.proofs.Stepping.{alike_after, commanded}
use Rattle.rly_journal.specs.GroupAddresses.{Commands, placed_at, placed_from, placed_group}
use Rattle.rly_journal.proofs.Brought.{placed_brought}
use Rattle.rly_journal.proofs.GroupAddresses.{first_stands, payload_stands, records_there}
use Rattle.rly_journal.proofs.Records.{placed_alike, records_size}

-- an index that is used up to an offset is used up to a later one
index_later : (g : Geometry) (segment used later : ℕ) (s : State Stored) → used ≤ later → IsIndex g segment used s → IsIndex g segment later s
index_later g segment used later s le index = record {
  there = index.there;
  clear = All-weaker (LiesClear used (segment_end g segment)) (LiesClear later (segment_end g segment))
      (λ p clear. clear_more later used (segment_end g segment) p le clear) (payloads_of s) index.clear;
  inline = index.inline;
  free = index.free;
}

module _ (g : Geometry) (segment : ℕ) (there : segment < g.segments) where
  from_place : (used place : ℕ) (commands : Commands) (s : State Stored) → segment_place g segment ≤ used → used ≤ place
      → place + length (flat_map record_of commands) ≤ segment_end g segment → IsIndex g segment used s
      → IsIndex g segment (place + length (flat_map record_of commands)) (fold stored_length s (placed_from place commands))
  from_place used place [] s from below to index = index_later g segment used (place + 0) s (omega (arith, below)) index
  from_place used place (command ∷ commands) s from below to index =
      let size = records_size command commands in
      let after : ℕ = place + record_length length command in
      let end : after + length (flat_map record_of commands) ≡ place + length (flat_map record_of (command ∷ commands)) = omega (arith, size) in
      let brought = placed_brought g segment used place command there from below (omega (arith, to, size)) in
      let rest : List (Command Stored) = placed_from after commands in
      let t : State Stored = (step stored_length s (placed_at place command)).0 in
      subst (λ (n : ℕ). IsIndex g segment n (fold stored_length t rest)) end
      (from_place after after commands t (omega (arith, from, below)) (omega arith) (omega (arith, to, end))
      (commanded g segment used after s (placed_at place command) index brought))

  module _ (disk : DiskState) (layout : IsLayout g disk.size) (facts : disk.honest → Consistent disk) where
    one_kept : (used place : ℕ) (command : Command (List ℕ)) (s : State Stored) (t : State (List ℕ)) → IsIndex g segment used s
        → IsBrought g segment used (place + record_length length command) (placed_at place command) → (disk.honest → StandsAt disk.seen place (record_of command))
        → StandsForBytes disk s t → StandsForBytes disk (step stored_length s (placed_at place command)).0 (step length t command).0
    one_kept used place command s t index brought stands kept = record {
      alike = alike_after s t (placed_at place command) command kept.alike (placed_alike place command);
      bytes = λ honest.
          let long : device_length g ≤ length disk.seen = omega (arith, layout.room, (facts honest).seen_size) in
          recorded disk.seen g segment used (place + record_length length command) s t (placed_at place command) command long index brought
          (payload_stands disk.seen place command (stands honest)) (kept.bytes honest);
    }

    all_kept : (used place : ℕ) (commands : Commands) (s : State Stored) (t : State (List ℕ)) → segment_place g segment ≤ used → used ≤ place
        → place + length (flat_map record_of commands) ≤ segment_end g segment → (disk.honest → StandsAt disk.seen place (flat_map record_of commands))
        → IsIndex g segment used s → StandsForBytes disk s t → StandsForBytes disk (fold stored_length s (placed_from place commands)) (fold length t commands)
    all_kept used place [] s t from below to stands index kept = kept
    all_kept used place (command ∷ commands) s t from below to stands index kept =
        let size = records_size command commands in
        let after : ℕ = place + record_length length command in
        let brought = placed_brought g segment used place command there from below (omega (arith, to, size)) in
        all_kept after after commands (step stored_length s (placed_at place command)).0 (step length t command).0 (omega (arith, from, below)) (omega arith)
        (omega (arith, to, size)) (λ honest. (first_stands disk.seen place command commands (stands honest)).1)
        (commanded g segment used after s (placed_at place command) index brought)
        (one_kept used place command s t index brought (λ honest. (first_stands disk.seen place command commands (stands honest)).0) kept)

-- the records of the first commands of a group
parts_size : (commands more : Commands) → length (flat_map record_of (commands ++ more)) ≡ length (flat_map record_of commands) + length (flat_map record_of more)
parts_size commands more = ap length (flat_map-append record_of commands more) ∙ length-append (flat_map record_of commands) (flat_map record_of more)

pub body_size : (commands : Commands) → length (body_of commands) ≡ 2 + length (flat_map record_of commands)
body_size commands = length-append (big_bytes 2 (length commands)) (flat_map record_of commands)

pub gathered_index : (g : Geometry) (segment gate end : ℕ) (commands more : Commands) (s : State Stored) → segment < g.segments
    → segment_place g segment ≤ gate → end ≤ segment_end g segment → gate + 6 + length (body_of (commands ++ more)) ≤ end → IsIndex g segment gate s
    → IsIndex g segment (gate + 5 + length (body_of commands)) (fold stored_length s (placed_group gate commands))
gathered_index g segment gate end commands more s there above below room index =
    let whole = body_size (commands ++ more) in
    let parts = parts_size commands more in
    let same : gate + 7 + length (flat_map record_of commands) ≡ gate + 5 + length (body_of commands) = omega (arith, body_size commands) in
    subst (λ (n : ℕ). IsIndex g segment n (fold stored_length s (placed_group gate commands))) same
    (from_place g segment there gate (gate + 7) commands s above (omega arith) (omega (arith, below, room, parts, whole)) index)

pub gathered_kept : (disk : DiskState) (g : Geometry) (segment gate end : ℕ) (commands more : Commands) (s : State Stored) (t : State (List ℕ))
    → (disk.honest → Consistent disk) → IsLayout g disk.size → segment < g.segments → segment_place g segment ≤ gate → end ≤ segment_end g segment
    → gate + 6 + length (body_of (commands ++ more)) ≤ end → (disk.honest → HoldsGroup disk.seen gate end (body_of (commands ++ more)))
    → IsIndex g segment gate s → StandsForBytes disk s t → StandsForBytes disk (fold stored_length s (placed_group gate commands)) (fold length t commands)
gathered_kept disk g segment gate end commands more s t facts layout there above below room holds index kept =
    let whole = body_size (commands ++ more) in
    let parts = parts_size commands more in
    all_kept g segment there disk layout facts gate (gate + 7) commands s t above (omega arith) (omega (arith, below, room, parts, whole))
    (λ honest. stands_front disk.seen (gate + 7) (flat_map record_of commands) (flat_map record_of more)
    (subst (StandsAt disk.seen (gate + 7)) (flat_map-append record_of commands more) (records_there disk.seen gate end (commands ++ more) (holds honest))))
    index kept
