-- A staged command may be applied to an index, and the properties of a group after it was written.
use Rattle.std.proofs.Common.{◌≡◌, ℕ, suc, ◌+◌, ◌-◌, ◌*◌, ◌<◌, ◌≤◌, ◌^◌, ◌∙◌, List, [], ◌∷◌, ◌++◌, length, take, drop, map, true, refl, ap, sym, subst, arith, append_assoc, inl, inr}
use Rattle.std.specs.Prelude.{All}
use Rattle.std.proofs.lemmas.Bool.{cases_lt}
use Rattle.std.proofs.lemmas.List.Elements.{All-cons, All-nil}
use Rattle.std.proofs.Math.Nat.{mul-le-mul_left}
use Rattle.byteorder.specs.Endian.{big_bytes}
use Rattle.rly_core.specs.Bounds.{IsIn}
use Rattle.rly_core.specs.declared.params.Geometry.{Geometry}
use Rattle.rly_disk.specs.DiskModel.{Consistent, DiskState, SameOutside, bytes_after_write}
use Rattle.rly_disk.specs.Trace.{Makes}
use Rattle.rly_disk.proofs.Overwritten.{overwritten_outside}
use Rattle.rly_disk.proofs.Ranges.{part-overwritten}
use Rattle.rly_gate.specs.Calls.{append_calls}
use Rattle.rly_gate.specs.Group.{StandsAt, group_of, open_gate}
use Rattle.rly_gate.specs.GroupReads.{HoldsGroup}
use Rattle.rly_gate.proofs.Appending.{appending_seen}
use Rattle.rly_gate.proofs.Frames.{length-frame}
use Rattle.rly_machine.specs.Map.{map_command, payload_of}
use Rattle.rly_machine.specs.declared.command.Command.{Command}
use Rattle.rly_machine.specs.declared.command.Command.TheVariants.{Take, Pick, Release}
use Rattle.rly_record.specs.Spelling.{HasRecord, IsShort, body_of, longest_record, record_length}
use Rattle.rly_record.proofs.Bodies.{record_length-short}
use Rattle.rly_reclaim.specs.Room.{IsDue, group_room}
use Rattle.rly_segment_checkpoint.specs.Stored.{payload_in}
use Rattle.rly_segment_checkpoint.specs.declared.stored.Stored.{Stored}
use Rattle.rly_segment.specs.Heads.{segment_end, segment_place}
use Rattle.rly_segment.proofs.BytesAtPlace.{stands_front}
use Rattle.rly_journal_index.specs.IndexRelation.{IsBrought, LiesBetween}
use Rattle.rly_journal.specs.Groups.{GroupState, Holds, group_body, record_place}
use Rattle.rly_journal.specs.GroupAddresses.{Commands, stored_at, placed_at, placed_group}
use Rattle.rly_journal.proofs.GroupAddresses.{group_commands}
use Rattle.rly_journal.proofs.Records.{body_length, holds_body, holds_most, holds_small}

-- ---- device addresses

lying_between : (used next place : ℕ) (payload : List ℕ) → used ≤ place → place + length payload ≤ next → LiesBetween used next (stored_at place payload)
lying_between used next place [] from to = refl
lying_between used next place (byte ∷ bytes) from to = (omega arith, from, to)

placed_between : (used place : ℕ) (command : Command (List ℕ)) → used ≤ place
    → All (LiesBetween used (place + record_length length command)) (payload_of (placed_at place command))
placed_between used place (Take peer number hop stamp limit payload) from =
    let Lies : Stored → Type 0 = LiesBetween used (place + (23 + length payload)) in
    All-cons Lies (stored_at (place + 23) payload) []
    (lying_between used (place + (23 + length payload)) (place + 23) payload (omega (arith, from)) (omega arith)) (All-nil Lies)
placed_between used place (Pick hop now) from = All-nil (LiesBetween used (place + 11))
placed_between used place (Release hop number) from = All-nil (LiesBetween used (place + 11))

-- a command whose record lies in the segment
pub placed_brought : (g : Geometry) (segment used place : ℕ) (command : Command (List ℕ)) → segment < g.segments → segment_place g segment ≤ used → used ≤ place
    → place + record_length length command ≤ segment_end g segment → IsBrought g segment used (place + record_length length command) (placed_at place command)
placed_brought g segment used place command there from below to = record {
  there = there;
  from = from;
  on = omega (arith, below);
  to = to;
  lies = placed_between used place command below;
}

-- ---- room

-- the room after a gate
pub not_due : (g : Geometry) (segment gate : ℕ) → segment_place g segment ≤ gate → (IsDue g (gate - segment_place g segment) → ⊥) → gate + group_room g.params.payload ≤ segment_end g segment
not_due g segment gate above room =
    elim (cases_lt g.length (gate - segment_place g segment + group_room g.params.payload)) [
      | inl due ↦ absurd (room due)
      | inr fits ↦ omega (arith, fits, above)
    ]

-- the bytes of a group's records there
records_within : (g : Geometry) (commands : Commands) (group : GroupState) → group.most ≡ g.params.payload → Holds commands group
    → length group.records ≤ longest_record g.params.payload * length commands
records_within g commands group same holds = subst (λ (n : ℕ). length group.records ≤ longest_record n * length commands) same (holds_most commands group holds)

pub brought : (g : Geometry) (segment used gate : ℕ) (commands : Commands) (command : Command (List ℕ)) (group : GroupState)
    → group.most ≡ g.params.payload → segment < g.segments → segment_place g segment ≤ gate → (IsDue g (gate - segment_place g segment) → ⊥)
    → Holds commands group → length commands < 64 → HasRecord command → IsShort g.params.payload command
    → segment_place g segment ≤ used → used ≤ record_place gate group
    → IsBrought g segment used (record_place gate group + record_length length command) (placed_at (record_place gate group) command)
brought g segment used gate commands command group same there above room holds few has short from below =
    let less : suc (length commands) ≤ 64 = omega (arith, few) in
    placed_brought g segment used (record_place gate group) command there from below
    (omega (
      arith,
      not_due g segment gate above room,
      records_within g commands group same holds,
      record_length-short g.params.payload command short,
      mul-le-mul_left (longest_record g.params.payload) less,
    ))

pub group_fits : (g : Geometry) (segment gate : ℕ) (commands : Commands) (group : GroupState)
    → group.most ≡ g.params.payload → segment_place g segment ≤ gate → (IsDue g (gate - segment_place g segment) → ⊥) → Holds commands group
    → length commands ≤ 64 → gate + 6 + length (group_body group) ≤ segment_end g segment
group_fits g segment gate commands group same above room holds few =
    omega (
      arith,
      not_due g segment gate above room,
      records_within g commands group same holds,
      body_length group,
      mul-le-mul_left (longest_record g.params.payload) few,
    )

-- ---- a group that was written

-- a whole group is there
stands_whole : (image : List ℕ) (gate end : ℕ) (body : List ℕ) → StandsAt image gate (group_of body) → length body < 2 ^ 32 → gate + 6 + length body ≤ end
    → HoldsGroup image gate end body
stands_whole image gate end body stands fits room = record {
  bytes = stands_front image gate (open_gate ∷ (big_bytes 4 (length body) ++ body)) (0 ∷ [])
      (subst (λ (l : List ℕ). StandsAt image gate (open_gate ∷ l)) (sym (append_assoc (big_bytes 4 (length body)) body (0 ∷ []))) stands);
  fits = fits;
  room = omega (arith, length-frame body, room);
}

module _ {D : Type 0} (state : D → DiskState) {a b : D} (gate : ℕ) (commands : Commands) (group : GroupState) (holds : Holds commands group)
    (count : IsIn 1 64 (length commands)) (made : Makes state (append_calls gate (group_body group)) true a b) (honest : (state a).honest)
    (facts : Consistent (state a)) (room : gate + 6 + length (group_body group) ≤ (state a).size) where
  written : (state b).seen ≡ bytes_after_write gate (group_of (group_body group)) (state a).seen
  written = appending_seen state gate (group_body group) made honest (omega (arith, room, facts.seen_size))

  long : length (group_of (group_body group)) ≡ 6 + length (group_body group)
  long = omega (arith, length-frame (group_body group))

  within : gate + length (group_of (group_body group)) ≤ length (state a).seen
  within = omega (arith, long, room, facts.seen_size)

  pub grouped_outside : SameOutside gate (6 + length (group_body group)) (state a).seen (state b).seen
  grouped_outside =
      subst (λ (n : ℕ). SameOutside gate n (state a).seen (state b).seen) long
      (subst (SameOutside gate (length (group_of (group_body group))) (state a).seen) (sym written)
      (overwritten_outside gate (group_of (group_body group)) (state a).seen within))

  pub grouped_stands : (end : ℕ) → gate + 6 + length (group_body group) ≤ end → HoldsGroup (state b).seen gate end (body_of commands)
  grouped_stands end fits =
      let stands : StandsAt (state b).seen gate (group_of (group_body group)) =
      ap (λ (l : List ℕ). take (length (group_of (group_body group))) (drop gate l)) written
      ∙ part-overwritten gate (group_of (group_body group)) (state a).seen (omega (arith, within)) in
      subst (HoldsGroup (state b).seen gate end) (holds_body commands group holds)
      (stands_whole (state b).seen gate end (group_body group) stands
      (holds_small commands group holds count) fits)

  pub grouped_commands : map (map_command (payload_in (state b).seen)) (placed_group gate commands) ≡ commands
  grouped_commands = group_commands (state b).seen gate (state a).size commands (grouped_stands (state a).size room)
