-- The frame law: bytes that recovery doesn't read may be anything.
use Rattle.std.proofs.Common.{◌≡◌, ◌≢◌, ◌≤◌, ◌<◌, ◌+◌, ◌++◌, ◌∷◌, [], ◌∙◌, ℕ, List, length, arith, sym, refl, subst, length-append}
use Rattle.byteorder.specs.Endian.{big_bytes}
use Rattle.rly_core.specs.Bounds.{IsIn}
use Rattle.rly_machine.specs.State.{State}
use Rattle.rly_gate.specs.Group.{IsClosed, open_gate}
use Rattle.rly_record.specs.Spelling.{body_of}
use Rattle.rly_segment_checkpoint.specs.Checkpoint.{Spelled, checkpoint_of, inline_form, state_spelled}
use Rattle.rly_segment_checkpoint.specs.Widths.{mark_of}
use Rattle.rly_segment_checkpoint.specs.Stored.{stored_length, stored_spelled}
use Rattle.rly_segment_checkpoint.specs.Stored.{state_in as state_over}
use Rattle.rly_segment.specs.Device.{IsDevice, IsLayout, device_text, geometry_in}
use Rattle.rly_segment.specs.Heads.{IsNewest, IsPassedOver, generation_in, head_of, head_spelled, segment_place}
use Rattle.rly_segment.specs.PlacedHeads.{HoldsPlaced}
use Rattle.rly_journal.specs.Recovery.{Commands, HoldGroups, IsScanned, IsRecovery, Recovery, next_gate, recovery_end, first_of, gate_behind, gate_of}
use Rattle.rly_journal.specs.UntouchedBytes.{SameBytes}
use Rattle.rly_journal.proofs.Agreeing.{number_still, stands_still}

-- all bytes that recovery reads before the first closed gate are unchanged, and the head recovers to the same state
pub record SameReads (x : Recovery) (old new : List ℕ) : Type 0 where
  pub header : SameBytes 0 64 old new
  pub heads : (t : ℕ) → t < x.geometry.segments → t ≢ x.segment → IsPassedOver x.geometry t old new
  pub own : SameBytes (segment_place x.geometry x.segment) (gate_of x) old new
  pub payloads : state_over new x.head ≡ state_over old x.head

-- the gate after groups lies after the first one
pub gate_above : (at : ℕ) (groups : List Commands) → at ≤ gate_behind at groups
gate_above at [] = omega arith
gate_above at (commands ∷ groups) = omega (arith, gate_above (next_gate at commands) groups)

-- the length of a head after its gate
pub length-spelled : {P : Type 0} (len : P → ℕ) (form : Spelled P) (generation : ℕ) (s : State P)
    → length (head_spelled len form generation s) ≡ 12 + length (state_spelled len form s)
unfolding head_spelled
length-spelled len form generation s =
    let body : List ℕ = state_spelled len form s in
    let number : ℕ = mark_of form.which + length body in
    omega (arith, length-append (big_bytes 8 generation ++ big_bytes 4 number) body, length-append (big_bytes 8 generation) (big_bytes 4 number))

pub length-head : (generation : ℕ) (s : State (List ℕ)) → length (head_of generation s) ≡ 12 + length (checkpoint_of s)
length-head generation s = length-spelled length inline_form generation s

-- the length of a group without the gate after it
pub length-group : (body : List ℕ) → length (open_gate ∷ (big_bytes 4 (length body) ++ body)) ≡ 5 + length body
length-group body = omega (arith, length-append (big_bytes 4 (length body)) body)

pub device_still : {old new : List ℕ} → SameBytes 0 64 old new → IsDevice old → IsDevice new
device_still same device = record {
  long = omega (arith, device.long, same.same_length);
  gate = same.each 0 (omega arith) (omega arith) ∙ device.gate;
  mark = stands_still 0 64 1 device_text (omega arith) (omega arith) same device.mark;
  version = subst (IsIn 1 2) (sym (number_still 0 64 9 2 (omega arith) (omega arith) same)) device.version;
}

pub geometry_still : {old new : List ℕ} → SameBytes 0 64 old new → geometry_in new ≡ geometry_in old
unfolding geometry_in
geometry_still {old} {new} same =
    let at2 : (place : ℕ) → place + 2 ≤ 64 → _ = λ place le. number_still {old = old} {new = new} 0 64 place 2 (omega arith) le same in
    let at4 : (place : ℕ) → place + 4 ≤ 64 → _ = λ place le. number_still {old = old} {new = new} 0 64 place 4 (omega arith) le same in
    let at8 : (place : ℕ) → place + 8 ≤ 64 → _ = λ place le. number_still {old = old} {new = new} 0 64 place 8 (omega arith) le same in
    rw (at2 9 (omega arith), at2 11 (omega arith), at2 13 (omega arith), at2 15 (omega arith), at2 17 (omega arith), at4 19 (omega arith), at4 23 (omega arith), at4 27 (omega arith), at4 31 (omega arith), at8 35 (omega arith), at8 43 (omega arith), at2 51 (omega arith)) refl

pub newest_still : {old new : List ℕ} (x : Recovery) → ((t : ℕ) → t < x.geometry.segments → t ≢ x.segment → IsPassedOver x.geometry t old new)
    → SameBytes (segment_place x.geometry x.segment) (gate_of x) old new → IsNewest old x.geometry x.segment → IsNewest new x.geometry x.segment
newest_still {old} {new} x heads same newest =
    let above = gate_above (first_of x) x.groups in
    let place : ℕ = segment_place x.geometry x.segment in
    let own : generation_in new x.geometry x.segment ≡ generation_in old x.geometry x.segment = number_still place (gate_of x) (place + 1) 8 (omega arith) (omega (arith, above)) same in
    record {
      there = newest.there;
      gate = same.each place (omega arith) (omega (arith, above)) ∙ newest.gate;
      newest = λ t below other opened.
          let before = heads t below other opened in
          let less = newest.newest t below other before.0 in
          omega (arith, own, before.1, less);
    }

pub head_still : {old new : List ℕ} (x : Recovery) → SameBytes (segment_place x.geometry x.segment) (gate_of x) old new
    → HoldsPlaced x.form old x.geometry x.segment x.generation x.head → HoldsPlaced x.form new x.geometry x.segment x.generation x.head
head_still x same holds =
    let above = gate_above (first_of x) x.groups in
    let place : ℕ = segment_place x.geometry x.segment in
    record {
      head = record {
        bytes = stands_still place (gate_of x) (place + 1) (head_spelled stored_length (stored_spelled x.form) x.generation x.head) (omega arith)
            (omega (arith, above, length-spelled stored_length (stored_spelled x.form) x.generation x.head)) same holds.head.bytes;
        sound = holds.head.sound;
        plain = holds.head.plain;
        head = holds.head.head;
      };
      placed = holds.placed;
    }

pub groups_still : {old new : List ℕ} (end from at : ℕ) (groups : List Commands) → from ≤ at → SameBytes from (gate_behind at groups) old new
    → HoldGroups old end at groups → HoldGroups new end at groups
groups_still end from at [] low same holds = tt
groups_still end from at (commands ∷ groups) low same holds =
    let body : List ℕ = body_of commands in
    let above = gate_above (next_gate at commands) groups in
    let group = holds.1 in (
      holds.0,
      record {
        bytes = stands_still from (gate_behind at (commands ∷ groups)) at (open_gate ∷ (big_bytes 4 (length body) ++ body)) low (omega (arith, above, length-group body)) same group.bytes;
        fits = group.fits;
        room = group.room;
      },
      groups_still end from (next_gate at commands) groups (omega (arith, low)) same holds.2,
    )

-- the frame law: for a part that was scanned, and then for the whole
pub frame_scanned : {old new : List ℕ} (x : Recovery) → SameReads x old new → IsScanned old x → IsScanned new x
frame_scanned {old} {new} x same scanned = record {
  device = device_still same.header scanned.device;
  geometry = scanned.geometry ∙ sym (geometry_still same.header);
  fits = subst (IsLayout x.geometry) (sym same.header.same_length) scanned.fits;
  newest = newest_still x same.heads same.own scanned.newest;
  head = head_still x same.own scanned.head;
  payloads = scanned.payloads ∙ sym same.payloads;
  groups = groups_still (recovery_end x) (segment_place x.geometry x.segment) (first_of x) x.groups (omega arith) same.own scanned.groups;
  accepted = scanned.accepted;
}

pub frame : {old new : List ℕ} (x : Recovery) → SameReads x old new → IsClosed new (gate_of x) → IsRecovery old x → IsRecovery new x
frame x same gate stands = record { scanned = frame_scanned x same stands.scanned; closed = gate }
