-- The replay of a group's commands on an index, with their payloads by device address.
use Rattle.rly_journal.proofs.Common.{[], accepted_parts, accepted_push, alike_after, AllAccepted, AllByRecursion, ap, append_assoc, arith, Command, Commands}
use Rattle.rly_journal.proofs.Common.{false, false≢true, flat_map, flat_map_more, fold, fold_push, HasRecord, HoldsIndex, IndexState, inl, is_accepted, IsAlike}
use Rattle.rly_journal.proofs.Common.{IsAt, IsBrought, length, length-append, List, placed_alike, placed_at, placed_brought, placed_from, placed_group}
use Rattle.rly_journal.proofs.Common.{placed_joined, record_length, record_of, records_size, refl, Reply, same_reply, segment_end, State, step, Stored}
use Rattle.rly_journal.proofs.Common.{stored_length, sym, true, used_after, ℕ, ◌++◌, ◌+◌, ◌↔◌, ◌∙◌, ◌∷◌, ◌≡◌, ◌≤◌, ◌⊎◌}
use Rattle.rly_record.proofs.Records.{length-record_of}

-- ---- device addresses

pub placed_count : (place : ℕ) (commands : Commands) → length (placed_from place commands) ≡ length commands
placed_count place [] = refl
placed_count place (command ∷ commands) = omega (arith, placed_count (place + record_length length command) commands)

-- ---- over addresses and over bytes

-- both spools make the same steps, and accept the same commands
pub alike_commands : (place : ℕ) (commands : Commands) (s : State Stored) (t : State (List ℕ)) → IsAlike s t
    → IsAlike (fold stored_length s (placed_from place commands)) (fold length t commands)
    × (AllAccepted stored_length s (placed_from place commands) ↔ AllAccepted length t commands)
alike_commands place [] s t alike = (alike, ((λ all. all), λ all. all))
alike_commands place (command ∷ commands) s t alike =
    let same = placed_alike place command in let one = same_reply s t (placed_at place command) command alike same in
    let rest = alike_commands (place + record_length length command) commands (step stored_length s (placed_at place command)).0 (step length t command).0
    (alike_after s t (placed_at place command) command alike same) in
    (rest.0, ((λ all. (rw one at all.0, rest.1.0 all.1)), λ all. (rw one all.0, rest.1.1 all.1)))

-- ---- one command

-- the index applied a command, and is used up to the next record if it was accepted
pub record IsStepped (x y : IndexState) (placed : Command Stored) (told : Reply) (next : ℕ) : Type 0 where
  pub state : y.spool.state ≡ (step stored_length x.spool.state placed).0
  pub reply : told ≡ (step stored_length x.spool.state placed).1
  pub at : IsAt x.geometry x.segment (used_after x.used next told) y

-- so it did after its room was reserved
pub stepped : {x r y : IndexState} {placed command : Command Stored} {told : Reply} {next : ℕ} → r.spool.state ≡ x.spool.state
    → IsAt x.geometry x.segment x.used r → command ≡ placed → y.spool.state ≡ (step stored_length r.spool.state command).0
    → told ≡ (step stored_length r.spool.state command).1 → IsAt r.geometry r.segment (used_after r.used next told) y → IsStepped x y placed told next
stepped same before is state says after =
    record { state = rw (← same, ← is) state; reply = rw (← same, ← is) says; at = rw (← before.geometry, ← before.segment, ← before.used) after }

-- ---- the loop

-- the first commands were accepted from a state and led to that of the index, which is used up to the next record, or
-- to the gate if there was none
pub record IsRedoing (old : IndexState) (gate : ℕ) (all rest : Commands) (at : ℕ) (x : IndexState) : Type 0 where
  pub done : Commands
  pub all_of : all ≡ done ++ rest
  pub accepted : AllAccepted stored_length old.spool.state (placed_group gate done)
  pub state : x.spool.state ≡ fold stored_length old.spool.state (placed_group gate done)
  pub place : at ≡ gate + 7 + length (flat_map record_of done)
  pub have : AllByRecursion HasRecord rest
  pub room : at + length (flat_map record_of rest) ≤ segment_end old.geometry old.segment
  pub geometry : x.geometry ≡ old.geometry
  pub segment : x.segment ≡ old.segment
  pub used : (x.used ≡ at) ⊎ ((done ≡ []) × (x.used ≡ gate))

-- the next record
module _ {old x : IndexState} {gate at : ℕ} {all rest more : Commands} {command : Command (List ℕ)} (so_far : IsRedoing old gate all rest at x)
    (cut : rest ≡ command ∷ more) where
  room : at + record_length length command + length (flat_map record_of more) ≤ segment_end old.geometry old.segment
  room = omega (arith, so_far.room, ap (λ (l : Commands). length (flat_map record_of l)) cut, records_size command more)

  pub redoing_brought : HoldsIndex x.geometry x.segment x.used x.spool.state
      → IsBrought x.geometry x.segment x.used (at + record_length length command) (placed_at at command)
  redoing_brought holds =
      let below : x.used ≤ at = omega (arith, so_far.used, so_far.place) in
      placed_brought x.geometry x.segment x.used at command holds.there holds.from below (rw (so_far.geometry, so_far.segment) (omega (arith, room)))

  pub redoing_next : {y : IndexState} {told : Reply} {next : ℕ} → IsStepped x y (placed_at at command) told next → is_accepted told ≡ true
      → next ≡ at + record_length length command → IsRedoing old gate all more next y
  redoing_next one accepts is =
      let done : Commands = so_far.done in let s : State Stored = old.spool.state in
      let placed : Command Stored = placed_at at command in
      let row : placed_group gate (done ++ command ∷ []) ≡ placed_group gate done ++ placed ∷ [] =
      rw (so_far.place) (placed_joined (gate + 7) done (command ∷ [])) in
      let joined = length-append (flat_map record_of done) (record_of command) in
      record {
        done = done ++ command ∷ [];
        all_of = so_far.all_of ∙ ap (λ l. done ++ l) cut ∙ sym (append_assoc done (command ∷ []) more);
        accepted = rw row (accepted_push stored_length s (placed_group gate done) placed so_far.accepted (rw (one.reply, so_far.state) at accepts));
        state = rw (row, fold_push stored_length s (placed_group gate done) placed, ← so_far.state) one.state;
        place = grind (arith, is, so_far.place, joined, flat_map_more record_of [] done command, length-record_of command);
        have = (rw cut at so_far.have).1;
        room = omega (arith, is, room);
        geometry = one.at.geometry ∙ so_far.geometry;
        segment = one.at.segment ∙ so_far.segment;
        used = inl (rw accepts at one.at.used);
      }

  -- one that isn't accepted
  pub redoing_refused : {y : IndexState} {told : Reply} {next : ℕ} → IsStepped x y (placed_at at command) told next → is_accepted told ≡ false
      → AllAccepted stored_length old.spool.state (placed_group gate all) → ⊥
  redoing_refused one leaves accepted =
      let done : Commands = so_far.done in let s : State Stored = old.spool.state in
      let row : placed_group gate all ≡ placed_group gate done ++ placed_from at (command ∷ more) =
      rw (so_far.all_of, cut, so_far.place) (placed_joined (gate + 7) done (command ∷ more)) in
      let parts = accepted_parts stored_length s (placed_group gate done) (placed_from at (command ∷ more)) (rw row at accepted) in
      false≢true (sym leaves ∙ rw (one.reply, so_far.state) parts.1.0)
