-- The device addresses of a group's payloads are those in its records.
use Rattle.std.proofs.Common.{◌≡◌, ◌+◌, ◌-◌, ◌++◌, ◌∷◌, [], ◌∙◌, ℕ, zero, suc, List, length, take, drop, map, arith, ap, refl, subst}
use Rattle.std.specs.List.{flat_map}
use Rattle.std.proofs.lemmas.List.Concat.{flat_map-cons}
use Rattle.byteorder.specs.Endian.{big_bytes}
use Rattle.rly_gate.specs.Group.{StandsAt, open_gate}
use Rattle.rly_gate.specs.GroupReads.{HoldsGroup}
use Rattle.rly_machine.specs.declared.command.Command.{Command}
use Rattle.rly_machine.specs.declared.command.Command.TheVariants.{Take, Pick, Release}
use Rattle.rly_machine.specs.Map.{map_command}
use Rattle.rly_record.specs.Spelling.{body_of, limited_take_of, plain_take_of, record_length, record_of}
use Rattle.rly_record.proofs.Records.{length-record_of}
use Rattle.rly_segment_checkpoint.specs.Stored.{payload_in}
use Rattle.rly_segment.proofs.BytesAtPlace.{stands_back, stands_front}
use Rattle.rly_journal.specs.GroupAddresses.{Commands, stored_at, placed_at, placed_from, placed_group}

-- a payload at an offset has its device address there
lying_there : (image : List ℕ) (place : ℕ) (payload : List ℕ) → StandsAt image place payload → payload_in image (stored_at place payload) ≡ payload
lying_there image place [] stands = refl
lying_there image place (byte ∷ bytes) stands =
    let n : ℕ = length (byte ∷ bytes) in
    let size : (place + n) - place ≡ n = omega arith in
    ap (λ k. take k (drop place image)) size ∙ stands

-- a record's payload follows its other fields
pub payload_stands : (image : List ℕ) (place : ℕ) (command : Command (List ℕ)) → StandsAt image place (record_of command)
    → map_command (payload_in image) (placed_at place command) ≡ command
unfolding record_of plain_take_of limited_take_of
payload_stands image place (Take peer number hop stamp zero payload) stands =
    let fields : List ℕ = 1 ∷ (big_bytes 2 peer.0 ++ (big_bytes 8 number ++ (big_bytes 2 hop.0 ++ (big_bytes 8 stamp ++ big_bytes 2 (length payload))))) in
    ap (λ bytes. Take peer number hop stamp 0 bytes) (lying_there image (place + 23) payload (stands_back image place fields payload stands))
payload_stands image place (Take peer number hop stamp (suc limit) payload) stands =
    let fields : List ℕ =
    5 ∷ (big_bytes 1 peer.0 ++ (big_bytes 6 number ++ (big_bytes 1 hop.0 ++ (big_bytes 7 stamp ++ (big_bytes 5 (suc limit) ++ big_bytes 2 (length payload)))))) in
    ap (λ bytes. Take peer number hop stamp (suc limit) bytes) (lying_there image (place + 23) payload (stands_back image place fields payload stands))
payload_stands image place (Pick hop now) stands = refl
payload_stands image place (Release hop number) stands = refl

-- the first records, and those after them
pub first_stands : (image : List ℕ) (place : ℕ) (command : Command (List ℕ)) (commands : Commands) → StandsAt image place (flat_map record_of (command ∷ commands))
    → StandsAt image place (record_of command) × StandsAt image (place + record_length length command) (flat_map record_of commands)
first_stands image place command commands stands =
    let both : StandsAt image place (record_of command ++ flat_map record_of commands) = subst (StandsAt image place) (flat_map-cons record_of command commands) stands in (
      stands_front image place (record_of command) (flat_map record_of commands) both,
      subst (λ n. StandsAt image (place + n) (flat_map record_of commands)) (length-record_of command)
          (stands_back image place (record_of command) (flat_map record_of commands) both),
    )

records_stand : (image : List ℕ) (place : ℕ) (commands : Commands) → StandsAt image place (flat_map record_of commands)
    → map (map_command (payload_in image)) (placed_from place commands) ≡ commands
records_stand image place [] stands = refl
records_stand image place (command ∷ commands) stands =
    let parts = first_stands image place command commands stands in
    let after : ℕ = place + record_length length command in
    ap (λ c. c ∷ map (map_command (payload_in image)) (placed_from after commands)) (payload_stands image place command parts.0)
    ∙ ap (λ l. command ∷ l) (records_stand image after commands parts.1)

-- the records of a group follow its length and its count
pub records_there : (image : List ℕ) (gate end : ℕ) (commands : Commands) → HoldsGroup image gate end (body_of commands) → StandsAt image (gate + 7) (flat_map record_of commands)
records_there image gate end commands holds =
    let body : List ℕ = body_of commands in
    let records : List ℕ = flat_map record_of commands in
    let after : StandsAt image (gate + 1 + 4) body =
    stands_back image (gate + 1) (big_bytes 4 (length body)) body (stands_back image gate (open_gate ∷ []) (big_bytes 4 (length body) ++ body) holds.bytes) in
    let there : StandsAt image (gate + 1 + 4 + 2) records = stands_back image (gate + 1 + 4) (big_bytes 2 (length commands)) records after in
    subst (λ k. StandsAt image k records) (let e : gate + 1 + 4 + 2 ≡ gate + 7 = omega arith in e) there

pub group_commands : (image : List ℕ) (gate end : ℕ) (commands : Commands) → HoldsGroup image gate end (body_of commands)
    → map (map_command (payload_in image)) (placed_group gate commands) ≡ commands
group_commands image gate end commands holds = records_stand image (gate + 7) commands (records_there image gate end commands holds)
