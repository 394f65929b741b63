-- The commands of a group, and its bytes.
use Rattle.std.proofs.Common.{◌≡◌, ℕ, ◌+◌, ◌*◌, ◌^◌, ◌<◌, ◌≤◌, ◌∙◌, List, [], ◌∷◌, ◌++◌, length, refl, ap, sym, arith, length-append}
use Rattle.std.specs.List.{AllByRecursion, flat_map}
use Rattle.std.proofs.lemmas.List.{flat_map_more}
use Rattle.std.proofs.lemmas.List.Concat.{flat_map-cons}
use Rattle.byteorder.specs.Endian.{big_bytes}
use Rattle.rly_core.specs.Bounds.{IsIn}
use Rattle.rly_machine.specs.Map.{map_command}
use Rattle.rly_machine.specs.declared.command.Command.{Command}
use Rattle.rly_machine.specs.declared.command.Command.TheVariants.{Take, Pick, Release}
use Rattle.rly_record.specs.Spelling.{HasRecord, HaveBody, IsShort, body_of, longest_record, record_length, record_of}
use Rattle.rly_record.proofs.Bodies.{body_small, sum-lengths, sum-lengths-within}
use Rattle.rly_record.proofs.Records.{length-record_of}
use Rattle.rly_segment_checkpoint.specs.Stored.{stored_length}
use Rattle.rly_segment_checkpoint.specs.declared.stored.Stored.TheVariants.{Inline}
use Rattle.rly_journal_index.specs.IndexRelation.{IsCommandAlike}
use Rattle.rly_journal.specs.Groups.{GroupState, Holds, empty_group, group_body, record_place, with_record}
use Rattle.rly_journal.specs.GroupAddresses.{Commands, stored_at, placed_at, placed_from, placed_group}

-- one more element with the same property
all_push : {X : Type 0} (P : X → Type 0) (xs : List X) (x : X) → AllByRecursion P xs → P x → AllByRecursion P (xs ++ x ∷ [])
all_push P [] x all one = (one, tt)
all_push P (y ∷ xs) x all one = (all.0, all_push P xs x all.1 one)

pub holds_none : (most : ℕ) → Holds [] (empty_group most)
holds_none most = record { have = tt; short = tt; records = refl; count = refl; staged = refl }

pub holds_more : (commands : Commands) (command : Command (List ℕ)) (group : GroupState) → Holds commands group → HasRecord command → IsShort group.most command
    → Holds (commands ++ command ∷ []) (with_record group command)
holds_more commands command group holds has short = record {
  have = all_push HasRecord commands command holds.have has;
  short = all_push (IsShort group.most) commands command holds.short short;
  records = ap (λ (l : List ℕ). l ++ record_of command) holds.records ∙ flat_map_more record_of [] commands command;
  count = omega (arith, holds.count, length-append commands (command ∷ []));
  staged = refl;
}

pub holds_body : (commands : Commands) (group : GroupState) → Holds commands group → group_body group ≡ body_of commands
holds_body commands group holds =
    ap (λ (n : ℕ). big_bytes 2 n ++ group.records) holds.count ∙ ap (λ (l : List ℕ). big_bytes 2 (length commands) ++ l) holds.records

pub holds_have : (commands : Commands) (group : GroupState) → Holds commands group → IsIn 1 64 (length commands) → HaveBody commands
holds_have commands group holds count = (count, holds.have)

-- ---- lengths

pub body_length : (group : GroupState) → length (group_body group) ≡ 2 + length group.records
body_length group = length-append (big_bytes 2 group.count) group.records

pub holds_most : (commands : Commands) (group : GroupState) → Holds commands group → length group.records ≤ longest_record group.most * length commands
holds_most commands group holds =
    let size : length group.records ≡ length (flat_map record_of commands) = ap length holds.records in
    omega (arith, size, sum-lengths commands, sum-lengths-within group.most commands holds.short)

-- its length fits four bytes
pub holds_small : (commands : Commands) (group : GroupState) → Holds commands group → IsIn 1 64 (length commands) → length (group_body group) < 2 ^ 32
holds_small commands group holds count = omega (arith, ap length (holds_body commands group holds), body_small commands (holds_have commands group holds count))

-- ---- offsets

pub next_place : (gate : ℕ) (command : Command (List ℕ)) (group : GroupState)
    → record_place gate (with_record group command) ≡ record_place gate group + record_length length command
next_place gate command group = omega (arith, length-append group.records (record_of command), length-record_of command)

pub place_after : (gate : ℕ) (group : GroupState) → gate + (5 + length (group_body group)) ≡ record_place gate group
place_after gate group = omega (arith, body_length group)

-- the length of the commands' records
pub records_size : (command : Command (List ℕ)) (commands : Commands)
    → length (flat_map record_of (command ∷ commands)) ≡ record_length length command + length (flat_map record_of commands)
records_size command commands =
    let parts = ap (λ (l : List ℕ). length l) (flat_map-cons record_of command commands) in
    omega (arith, parts, length-append (record_of command) (flat_map record_of commands), length-record_of command)

-- commands after others have their records after theirs
pub placed_joined : (place : ℕ) (a b : Commands) → placed_from place (a ++ b) ≡ placed_from place a ++ placed_from (place + length (flat_map record_of a)) b
placed_joined place [] b = grind arith
placed_joined place (command ∷ a) b =
    let rest = placed_joined (place + record_length length command) a b in
    grind (arith, records_size command a)

pub placed_told : (gate : ℕ) (commands : Commands) (command : Command (List ℕ)) (group : GroupState) → Holds commands group
    → placed_group gate (commands ++ command ∷ []) ≡ placed_group gate commands ++ placed_at (record_place gate group) command ∷ []
placed_told gate commands command group holds =
    placed_joined (gate + 7) commands (command ∷ [])
    ∙ ap (λ (l : List ℕ). placed_group gate commands ++ placed_at (gate + 7 + length l) command ∷ []) (sym holds.records)

-- ---- the same except for payloads

lying_long : (place : ℕ) (payload : List ℕ) → stored_length (stored_at place payload) ≡ length payload
lying_long place [] = refl
lying_long place (byte ∷ bytes) = refl

pub placed_alike : (place : ℕ) (command : Command (List ℕ)) → IsCommandAlike (placed_at place command) command
placed_alike place (Take peer number hop stamp limit payload) = ap (λ (n : ℕ). Take peer number hop stamp limit n) (lying_long (place + 23) payload)
placed_alike place (Pick hop now) = refl
placed_alike place (Release hop number) = refl

pub inline_alike : (command : Command (List ℕ)) → IsCommandAlike (map_command Inline command) command
inline_alike (Take peer number hop stamp limit payload) = refl
inline_alike (Pick hop now) = refl
inline_alike (Release hop number) = refl
