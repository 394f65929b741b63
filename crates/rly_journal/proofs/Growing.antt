-- The recovered content after one more group, and after one more segment.
use Rattle.std.proofs.Common.{◌≡◌, ◌≢◌, ◌⊎◌, ◌≤◌, ◌<◌, ◌+◌, ◌^◌, ◌++◌, ◌∷◌, [], ◌∙◌, ℕ, List, length, drop, get_or, arith, sym, ap, refl, subst, inl, inr, append_assoc}
use Rattle.std.proofs.lemmas.Bool.{cases_eq, cases_lt}
use Rattle.std.proofs.lemmas.List.{get_or-take, get_or-drop}
use Rattle.byteorder.specs.Endian.{big_bytes}
use Rattle.rly_core.specs.declared.params.Geometry.{Geometry}
use Rattle.rly_disk.specs.DiskModel.{SameOutside}
use Rattle.rly_machine.specs.Fold.{fold, AllAccepted}
use Rattle.rly_machine.specs.Sound.{IsSound}
use Rattle.rly_machine.specs.State.{State, new_state}
use Rattle.rly_machine.proofs.Runs.{sound_from_new}
use Rattle.rly_gate.specs.Group.{IsAppended, IsClosed, StandsAt, frame_of, group_of, open_gate}
use Rattle.rly_gate.specs.GroupReads.{HoldsGroup}
use Rattle.rly_disk.proofs.Ranges.{wider}
use Rattle.rly_record.specs.Spelling.{HaveBody, body_of}
use Rattle.rly_machine.specs.Map.{map_state}
use Rattle.rly_reclaim.specs.Room.{group_room}
use Rattle.rly_segment_checkpoint.specs.Checkpoint.{Spelled, state_spelled}
use Rattle.rly_segment_checkpoint.specs.Widths.{mark_of}
use Rattle.rly_segment_checkpoint.specs.Stored.{stored_form, stored_length, stored_spelled}
use Rattle.rly_segment_checkpoint.specs.declared.head_form.HeadForm.TheVariants.{Second}
use Rattle.rly_segment_checkpoint.specs.declared.stored.Stored.{Stored}
use Rattle.rly_reclaim.specs.Placed.{IsPlaced}
use Rattle.rly_segment_checkpoint.specs.Stored.{state_in as state_over}
use Rattle.rly_segment_checkpoint.specs.declared.stored.Stored.TheVariants.{Inline}
use Rattle.rly_segment_checkpoint.proofs.Inlined.{bytes_inline}
use Rattle.rly_gate.proofs.Frames.{length-frame}
use Rattle.rly_segment.specs.Device.{IsLayout, number_in}
use Rattle.rly_segment.specs.Formatted.{IsFormatted}
use Rattle.rly_segment.specs.Heads.{IsHead, IsHeadOf, IsPassedOver, generation_in, head_of, head_spelled, opened_head, opened_spelled, segment_place}
use Rattle.rly_segment.proofs.HeadWriting.{length-new}
use Rattle.rly_segment.proofs.BytesAtPlace.{stands_back, stands_front}
use Rattle.rly_journal.specs.Recovery.{AreAccepted, Commands, HoldGroups, IsScanned, IsRecovery, Recovery, Stands, next_gate, recovery_end, first_of, gate_behind, gate_of, state_after_groups, state_in, stored_after, stored_commands}
use Rattle.rly_journal.specs.UntouchedBytes.{SameBytes}
use Rattle.rly_journal.proofs.Agreeing.{apart, number_of_bytes, number_still, same_before, same_behind}
use Rattle.rly_journal.proofs.Frame.{SameReads, device_still, frame, frame_scanned, gate_above, geometry_still, length-group, length-head, length-spelled}
use Rattle.rly_journal.proofs.Inlining.{elsewhere_still, gate_inline, head_inline, inline_holds, inline_is_head, inline_placed, inline_sound}

-- the byte at an offset
pub byte_there : (image : List ℕ) (place byte : ℕ) → StandsAt image place (byte ∷ []) → get_or image place 0 ≡ byte
byte_there image place byte stands =
    ap (λ k. get_or image k 0) (let e : place ≡ place + 0 = omega arith in e) ∙ sym (get_or-drop place image 0 0) ∙ sym (get_or-take 1 (drop place image) 0 0 (omega arith)) ∙ ap (λ l. get_or l 0 0) stands

-- a closed gate that was written
pub closed_there : (image : List ℕ) (place : ℕ) → StandsAt image place (0 ∷ []) → IsClosed image place
closed_there image place stands opened = let e : 0 ≡ open_gate = sym (byte_there image place 0 stands) ∙ opened in omega (arith, e)

-- ---- one more group

pub gate_behind-more : (at : ℕ) (groups : List Commands) (commands : Commands) → gate_behind at (groups ++ commands ∷ []) ≡ next_gate (gate_behind at groups) commands
gate_behind-more at [] commands = refl
gate_behind-more at (first ∷ groups) commands = gate_behind-more (next_gate at first) groups commands

pub replayed-more : (s : State (List ℕ)) (groups : List Commands) (commands : Commands) → state_after_groups s (groups ++ commands ∷ []) ≡ fold length (state_after_groups s groups) commands
replayed-more s [] commands = refl
replayed-more s (first ∷ groups) commands = replayed-more (fold length s first) groups commands

pub stored-more : (s : State Stored) (groups : List Commands) (commands : Commands)
    → stored_after s (groups ++ commands ∷ []) ≡ fold stored_length (stored_after s groups) (stored_commands commands)
stored-more s [] commands = refl
stored-more s (first ∷ groups) commands = stored-more (fold stored_length s (stored_commands first)) groups commands

pub accepted-more : (s : State (List ℕ)) (groups : List Commands) (commands : Commands) → AreAccepted s groups → AllAccepted length (state_after_groups s groups) commands → AreAccepted s (groups ++ commands ∷ [])
accepted-more s [] commands before last = (last, tt)
accepted-more s (first ∷ groups) commands before last = (before.0, accepted-more (fold length s first) groups commands before.1 last)

pub groups-more : (image : List ℕ) (end at : ℕ) (groups : List Commands) (commands : Commands) → HoldGroups image end at groups
    → HaveBody commands → HoldsGroup image (gate_behind at groups) end (body_of commands) → HoldGroups image end at (groups ++ commands ∷ [])
groups-more image end at [] commands before body group = (body, group, tt)
groups-more image end at (first ∷ groups) commands before body group = (before.0, before.1, groups-more image end (next_gate at first) groups commands before.2 body group)

-- the content with one more group
abbrev pub with_group : Recovery → Commands → Recovery
with_group x commands = record x { groups = x.groups ++ commands ∷ [] }

-- the segments are long
pub long_segments : {image : List ℕ} {x : Recovery} → IsScanned image x → group_room x.geometry.params.payload ≤ x.geometry.length
long_segments scanned = omega (arith, scanned.fits.fits)

-- the head of another segment lies outside the segment
pub other_heads : {old new : List ℕ} (g : Geometry) (s t : ℕ) → 9 ≤ g.length → t ≢ s → SameOutside (segment_place g s) g.length old new → IsPassedOver g t old new
other_heads g s t long other same opened =
    let place : ℕ = segment_place g t in
    elim (cases_lt t s) [
      | inl before ↦
          let low = apart t s g.length before in
          let bytes = same_before (segment_place g s) g.length place (place + 9) (omega (arith, low, long)) same in
          (sym (bytes.each place (omega arith) (omega arith)) ∙ opened, number_still place (place + 9) (place + 1) 8 (omega arith) (omega arith) bytes)
      | inr after ↦
          let high = apart s t g.length (omega (arith, after, other)) in
          let bytes = same_behind (segment_place g s) g.length place (place + 9) (omega (arith, high)) same in
          (sym (bytes.each place (omega arith) (omega arith)) ∙ opened, number_still place (place + 9) (place + 1) 8 (omega arith) (omega arith) bytes)
    ]

-- the part of the content that a range within the segment, from the first closed gate on, leaves unchanged
reads_before : {old new : List ℕ} (x : Recovery) (n : ℕ) → IsScanned old x → gate_of x + n ≤ recovery_end x → SameOutside (gate_of x) n old new → SameReads x old new
reads_before {old} {new} x n scanned within same =
    let above = gate_above (first_of x) x.groups in
    let own : SameOutside (segment_place x.geometry x.segment) x.geometry.length old new = wider (segment_place x.geometry x.segment) x.geometry.length (gate_of x) n (omega (arith, above)) (omega (arith, within)) same in
    record {
      header = same_before (gate_of x) n 0 64 (omega (arith, above)) same;
      heads = λ t below other. other_heads x.geometry x.segment t (omega (arith, long_segments scanned)) other own;
      own = same_before (gate_of x) n (segment_place x.geometry x.segment) (gate_of x) (omega arith) same;
      payloads = elsewhere_still x.geometry x.segment x.head scanned.head.placed.elsewhere own;
    }

-- a whole group after the first closed gate
pub appended : {old new : List ℕ} (x : Recovery) (commands : Commands) → IsRecovery old x → HaveBody commands → AllAccepted length (state_in x) commands
    → length (body_of commands) < 2 ^ 32 → gate_of x + 1 + length (frame_of (body_of commands)) ≤ recovery_end x
    → SameOutside (gate_of x) (length (group_of (body_of commands))) old new → StandsAt new (gate_of x) (group_of (body_of commands)) → IsRecovery new (with_group x commands)
appended {old} {new} x commands stands body accepted fits within outside group =
    let whole : List ℕ = open_gate ∷ (big_bytes 4 (length (body_of commands)) ++ body_of commands) in
    let reads : SameReads x old new = reads_before x (length (group_of (body_of commands))) stands.scanned (omega (arith, within)) outside in
    let front : StandsAt new (gate_of x) (open_gate ∷ (big_bytes 4 (length (body_of commands)) ++ body_of commands)) = stands_front new (gate_of x) whole (0 ∷ []) group in
    let last : StandsAt new (gate_of x + length whole) (0 ∷ []) = stands_back new (gate_of x) whole (0 ∷ []) group in
    let place : gate_of x + length whole ≡ gate_of (with_group x commands) =
    (let e : gate_of x + length whole ≡ next_gate (gate_of x) commands = omega (arith, length-group (body_of commands)) in e)
    ∙ sym (gate_behind-more (first_of x) x.groups commands) in
    let before : IsScanned new x = frame_scanned x reads stands.scanned in
    record {
      scanned = record {
        device = before.device;
        geometry = before.geometry;
        fits = before.fits;
        newest = before.newest;
        head = before.head;
        payloads = before.payloads;
        groups = groups-more new (recovery_end x) (first_of x) x.groups commands before.groups body (record { bytes = front; fits = fits; room = within });
        accepted = accepted-more x.checkpoint x.groups commands before.accepted accepted;
      };
      closed = closed_there new (gate_of (with_group x commands)) (subst (λ k. StandsAt new k (0 ∷ [])) place last);
    }

-- the images of a crash within an append: the content as before, or with the group
pub grown : {old : List ℕ} (x : Recovery) (commands : Commands) → IsRecovery old x → HaveBody commands → AllAccepted length (state_in x) commands
    → length (body_of commands) < 2 ^ 32 → gate_of x + 1 + length (frame_of (body_of commands)) ≤ recovery_end x
    → (image : List ℕ) → IsAppended (gate_of x) (body_of commands) old image → IsRecovery image x ⊎ IsRecovery image (with_group x commands)
grown {old} x commands stands body accepted fits within image left =
    elim left.whole [
      | inl closed ↦ inl (frame x (reads_before x (length (group_of (body_of commands))) stands.scanned (omega (arith, within)) left.outside) closed stands)
      | inr group ↦ inr (appended x commands stands body accepted fits within left.outside group)
    ]

-- ---- one more segment

-- the generation of an open head
pub generation_there : {P : Type 0} (len : P → ℕ) (form : Spelled P) (image : List ℕ) (place generation : ℕ) (s : State P) → generation < 2 ^ 64
    → StandsAt image place (head_spelled len form generation s) → number_in image place 8 ≡ generation
unfolding head_spelled
generation_there len form image place generation s fits stands =
    let body : List ℕ = state_spelled len form s in
    number_of_bytes image place 8 generation refl fits
    (stands_front image place (big_bytes 8 generation) (big_bytes 4 (mark_of form.which + length body) ++ body)
    (subst (StandsAt image place) (append_assoc (big_bytes 8 generation) (big_bytes 4 (mark_of form.which + length body)) body) stands))

-- the content with a new segment
abbrev pub with_head : Recovery → ℕ → State Stored → State (List ℕ) → Recovery
with_head x t s checkpoint = record { geometry = x.geometry; segment = t; generation = x.generation + 1; form = Second; head = s; checkpoint = checkpoint; groups = [] }

-- the whole head of another segment
pub opened_with : {old new : List ℕ} (x : Recovery) (t : ℕ) (s : State Stored) (checkpoint : State (List ℕ)) → IsRecovery old x → t < x.geometry.segments → t ≢ x.segment
    → IsSound stored_length s → IsHeadOf stored_length stored_form x.geometry t (x.generation + 1) s → IsPlaced x.geometry t s
    → x.generation + 1 < 2 ^ 64 → checkpoint ≡ state_over new s
    → SameOutside (segment_place x.geometry t) x.geometry.length old new
    → StandsAt new (segment_place x.geometry t) (opened_spelled stored_length stored_form (x.generation + 1) s) → IsRecovery new (with_head x t s checkpoint)
opened_with {old} {new} x t s checkpoint stands below other sound head placed small is outside whole =
    let g : Geometry = x.geometry in
    let place : ℕ = segment_place x.geometry t in
    let long = long_segments stands.scanned in
    let text : List ℕ = head_spelled stored_length stored_form (x.generation + 1) s in
    let front : List ℕ = open_gate ∷ text in
    let header : SameBytes 0 64 old new = same_before place g.length 0 64 (omega arith) outside in
    let both : StandsAt new place (open_gate ∷ text) = stands_front new place front (0 ∷ []) whole in
    let gate : StandsAt new place (open_gate ∷ []) = stands_front new place (open_gate ∷ []) text both in
    let bytes : StandsAt new (place + 1) text = stands_back new place (open_gate ∷ []) text both in
    let number : generation_in new g t ≡ x.generation + 1 = generation_there stored_length stored_form new (place + 1) (x.generation + 1) s small bytes in
    let before : generation_in old g x.segment ≡ x.generation = generation_there stored_length (stored_spelled x.form) old (segment_place g x.segment + 1) x.generation x.head (omega (arith, small)) stands.scanned.head.head.bytes in
    let last : StandsAt new (place + length front) (0 ∷ []) = stands_back new place front (0 ∷ []) whole in
    let ends : place + length front ≡ gate_of (with_head x t s checkpoint) = omega (arith, length-spelled stored_length stored_form (x.generation + 1) s) in
    record {
      scanned = record {
        device = device_still header stands.scanned.device;
        geometry = stands.scanned.geometry ∙ sym (geometry_still header);
        fits = subst (IsLayout x.geometry) (sym header.same_length) stands.scanned.fits;
        newest = record {
          there = below;
          gate = byte_there new place open_gate gate;
          newest = λ u small_u apart_u opened_u.
              let kept = other_heads g t u (omega (arith, long)) apart_u outside opened_u in
              elim (cases_eq u x.segment) [
                | inl same ↦ let e : generation_in old g u ≡ x.generation = ap (generation_in old g) same ∙ before in omega (arith, number, e, kept.1)
                | inr differs ↦ let less = stands.scanned.newest.newest u small_u differs kept.0 in omega (arith, number, before, less, kept.1)
              ];
        };
        head = record { head = record { bytes = bytes; sound = sound; plain = tt; head = head }; placed = placed };
        payloads = is;
        groups = tt;
        accepted = tt;
      };
      closed = closed_there new (gate_of (with_head x t s checkpoint)) (subst (λ k. StandsAt new k (0 ∷ [])) ends last);
    }

-- the content with a new segment that holds its state, with every payload inline
abbrev pub with_segment : Recovery → ℕ → Recovery
with_segment x t = with_head x t (map_state Inline (state_in x)) (state_in x)

pub opened : {old new : List ℕ} (x : Recovery) (t : ℕ) → IsRecovery old x → t < x.geometry.segments → t ≢ x.segment
    → IsSound length (state_in x) → IsHead Second x.geometry t (x.generation + 1) (state_in x) → x.generation + 1 < 2 ^ 64
    → SameOutside (segment_place x.geometry t) x.geometry.length old new → StandsAt new (segment_place x.geometry t) (opened_head (x.generation + 1) (state_in x))
    → IsRecovery new (with_segment x t)
opened {old} {new} x t stands below other sound head small outside whole =
    let s : State (List ℕ) = state_in x in
    opened_with x t (map_state Inline s) s stands below other (inline_sound s sound) (inline_is_head Second x.geometry t (x.generation + 1) s head)
    (inline_placed x.geometry t s stands.scanned.fits.segments.0) small (sym (bytes_inline new s)) outside
    (subst (λ (text : List ℕ). StandsAt new (segment_place x.geometry t) (open_gate ∷ text ++ 0 ∷ [])) (sym (head_inline Second (x.generation + 1) s)) whole)

-- the first closed gate lies in the segment
pub gate_within : (image : List ℕ) (end at : ℕ) (groups : List Commands) → at < end → HoldGroups image end at groups → gate_behind at groups < end
gate_within image end at [] below holds = below
gate_within image end at (commands ∷ groups) below holds =
    gate_within image end (next_gate at commands) groups (omega (arith, holds.1.room, length-frame (body_of commands))) holds.2

pub gate_of-within : {image : List ℕ} (x : Recovery) → IsScanned image x → gate_of x < recovery_end x
gate_of-within {image} x scanned = gate_within image (recovery_end x) (first_of x) x.groups (omega (arith, scanned.head.head.head.room)) scanned.groups

-- ---- a new device

-- the content of a formatted device
abbrev pub new_standing : Geometry → Recovery
new_standing g = record { geometry = g; segment = 0; generation = 1; form = Second; head = map_state Inline (new_state g.params); checkpoint = new_state g.params; groups = [] }

formatted : {image : List ℕ} (g : Geometry) → IsFormatted g image → IsHead Second g 0 1 (new_state g.params) → IsSound {P = List ℕ} length (new_state g.params) → IsRecovery image (new_standing g)
formatted {image} g is head sound =
    let place : ℕ = segment_place g 0 in
    let front : List ℕ = open_gate ∷ head_of 1 (new_state g.params) in
    let both : StandsAt image place (open_gate ∷ head_of 1 (new_state g.params)) = stands_front image place front (0 ∷ []) is.head in
    let gate : StandsAt image place (open_gate ∷ []) = stands_front image place (open_gate ∷ []) (head_of 1 (new_state g.params)) both in
    let bytes : StandsAt image (place + 1) (head_of 1 (new_state g.params)) = stands_back image place (open_gate ∷ []) (head_of 1 (new_state g.params)) both in
    let last : StandsAt image (place + length front) (0 ∷ []) = stands_back image place front (0 ∷ []) is.head in
    let ends : place + length front ≡ gate_of (new_standing g) = omega (arith, length-head 1 (new_state g.params), gate_inline Second g 0 (new_state g.params)) in
    record {
      scanned = record {
        device = is.device;
        geometry = sym is.geometry;
        fits = is.fits;
        newest = record {
          there = omega (arith, is.fits.segments.0);
          gate = byte_there image place open_gate gate;
          newest = λ u small_u apart_u opened_u. absurd (is.others u (omega (arith, apart_u)) small_u opened_u);
        };
        head = inline_holds Second image g 0 1 (new_state g.params) is.fits.segments.0 (record { bytes = bytes; sound = sound; plain = tt; head = head });
        payloads = sym (bytes_inline image (new_state g.params));
        groups = tt;
        accepted = tt;
      };
      closed = closed_there image (gate_of (new_standing g)) (subst (λ k. StandsAt image k (0 ∷ [])) ends last);
    }

pub formatted_stands : (g : Geometry) (image : List ℕ) → IsFormatted g image → Stands image (new_state g.params)
formatted_stands g image is =
    let head : IsHead Second g 0 1 (new_state g.params) = record {
      params = refl;
      least = omega arith;
      most = omega arith;
      room = omega (arith, is.fits.fits, length-new g.params);
    } in
    (new_standing g, formatted g is head (sound_from_new length g.params [] is.fits.params), refl)
