-- The end of the journal while a group is appended.
use Rattle.std.proofs.Common.{◌≡◌, ◌⊎◌, ◌≤◌, ◌<◌, ◌+◌, ◌^◌, ◌∙◌, ℕ, Bool, List, length, take, drop, get_or, arith, sym, ap, subst, inl, inr}
use Rattle.std.proofs.lemmas.Bool.{cases_eq}
use Rattle.rly_core.specs.declared.params.Geometry.{Geometry}
use Rattle.rly_disk.specs.DiskModel.{SameOutside, bytes_after_write}
use Rattle.rly_disk.proofs.Overwritten.{overwritten_outside}
use Rattle.rly_disk.proofs.Ranges.{part-overwritten, wider}
use Rattle.rly_machine.specs.Fold.{AllAccepted, fold}
use Rattle.rly_machine.specs.State.{State}
use Rattle.rly_gate.specs.Group.{IsAppended, StandsAt, frame_of, group_of}
use Rattle.rly_gate.proofs.Frames.{length-frame}
use Rattle.rly_record.specs.Spelling.{HaveBody, body_of}
use Rattle.rly_segment.specs.Answers.{AreClosed}
use Rattle.rly_segment.specs.Device.{IsLayout}
use Rattle.rly_segment.specs.Heads.{segment_end, segment_place}
use Rattle.rly_segment.proofs.Segments.{segment_within}
use Rattle.rly_journal.specs.declared.tail.Tail.{Tail}
use Rattle.rly_journal.specs.Log.{EndsAt, IsLogged}
use Rattle.rly_journal.specs.Recovery.{Commands, Recovery, Stands, recovery_end, first_of, gate_of, state_in}
use Rattle.rly_journal.proofs.Agreeing.{other_bytes, same_before}
use Rattle.rly_journal.proofs.Frame.{gate_above}
use Rattle.rly_journal.proofs.Growing.{appended, gate_behind-more, grown, replayed-more, with_group}

-- the end after a group
abbrev pub appended_tail : Tail → List ℕ → Tail
appended_tail tail body = record tail { gate = tail.gate + (5 + length body) }

-- the closed gates after a group
closed_still : (g : Geometry) (segment gate n : ℕ) (old new : List ℕ) (closed : List Bool) → segment_place g segment < gate → gate + n ≤ segment_end g segment → 1 ≤ g.length
    → AreClosed old g g.segments closed → SameOutside gate n old new → AreClosed new g g.segments closed
closed_still g segment gate n old new closed above within long before outside u small =
    let own : SameOutside (segment_place g segment) g.length old new = wider (segment_place g segment) g.length gate n (omega (arith, above)) (omega (arith, within)) outside in
    let byte : get_or new (segment_place g u) 0 ≡ get_or old (segment_place g u) 0 =
    elim (cases_eq u segment) [
      | inl same ↦ (same_before gate n 0 gate (omega arith) outside).each (segment_place g u) (omega arith) (let e : segment_place g u ≡ segment_place g segment = ap (segment_place g) same in omega (arith, e, above))
      | inr differs ↦ (other_bytes g u segment (λ e. differs (sym e)) own).each (segment_place g u) (omega arith) (omega (arith, long))
    ] in
    let was = before u small in
    (λ yes opened. was.0 yes (sym byte ∙ opened), λ shut. was.1 (λ opened. shut (byte ∙ opened)))

-- the segment ends before the device does
pub logged_within : (old : List ℕ) (tail : Tail) (s : State (List ℕ)) → IsLogged old tail s → segment_end tail.geometry tail.segment ≤ length old
logged_within old tail s logged =
    segment_within tail.geometry tail.segment (length old)
    (subst (λ h. IsLayout h (length old)) (sym logged.ends.geometry) logged.stands.scanned.fits)
    (subst (λ k. k < tail.geometry.segments) (sym logged.ends.segment) (subst (λ h. logged.x.segment < h.segments) (sym logged.ends.geometry) logged.stands.scanned.newest.there))

-- the group of the commands, after an image that recovers to a state
module _ (tail : Tail) (commands : Commands) (s : State (List ℕ)) (body : HaveBody commands) (accepted : AllAccepted length s commands)
    (few : length (body_of commands) < 2 ^ 32) (room : tail.gate + 6 + length (body_of commands) ≤ segment_end tail.geometry tail.segment) where
  same_end : (x : Recovery) → EndsAt tail x → segment_end tail.geometry tail.segment ≡ recovery_end x
  same_end x ends = ap (λ g. segment_end g tail.segment) ends.geometry ∙ ap (segment_end x.geometry) ends.segment

  grown_state : (x : Recovery) → s ≡ state_in x → fold length s commands ≡ state_in (with_group x commands)
  grown_state x state = ap (λ r. fold length r commands) state ∙ sym (replayed-more x.checkpoint x.groups commands)

  -- a crash during the append leaves an image that recovers to the state before it or after it
  pub append_image : (old image : List ℕ) → IsLogged old tail s → IsAppended tail.gate (body_of commands) old image → Stands image s ⊎ Stands image (fold length s commands)
  append_image old image logged left =
      let x : Recovery = logged.x in
      let gate : tail.gate ≡ gate_of x = logged.ends.gate in
      let within : gate_of x + 1 + length (frame_of (body_of commands)) ≤ recovery_end x = omega (arith, gate, room, same_end x logged.ends, length-frame (body_of commands)) in
      elim (grown x commands logged.stands body (subst (λ r. AllAccepted length r commands) logged.state accepted) few within image
      (subst (λ p. IsAppended p (body_of commands) old image) gate left)) [
        | inl before ↦ inl (x, before, logged.state)
        | inr after ↦ inr (with_group x commands, after, grown_state x logged.state)
      ]

  -- the group is there, and the journal ends after it
  pub append_logged : (old new : List ℕ) → IsLogged old tail s → new ≡ bytes_after_write tail.gate (group_of (body_of commands)) old
      → IsLogged new (appended_tail tail (body_of commands)) (fold length s commands)
  append_logged old new logged written =
      let x : Recovery = logged.x in
      let bytes : List ℕ = group_of (body_of commands) in
      let gate : tail.gate ≡ gate_of x = logged.ends.gate in
      let end = same_end x logged.ends in
      let within : gate_of x + 1 + length (frame_of (body_of commands)) ≤ recovery_end x = omega (arith, gate, room, end, length-frame (body_of commands)) in
      let fits : IsLayout tail.geometry (length old) = subst (λ h. IsLayout h (length old)) (sym logged.ends.geometry) logged.stands.scanned.fits in
      let inside = logged_within old tail s logged in
      let long : length (group_of (body_of commands)) ≡ 6 + length (body_of commands) = omega (arith, length-frame (body_of commands)) in
      let fit : tail.gate + length (group_of (body_of commands)) ≤ length old = omega (arith, long, room, inside) in
      let outside : SameOutside tail.gate (length (group_of (body_of commands))) old new =
      subst (SameOutside tail.gate (length (group_of (body_of commands))) old) (sym written) (overwritten_outside tail.gate (group_of (body_of commands)) old fit) in
      let stands : StandsAt new tail.gate (group_of (body_of commands)) =
      ap (λ l. take (length (group_of (body_of commands))) (drop tail.gate l)) written ∙ part-overwritten tail.gate (group_of (body_of commands)) old (omega (arith, fit)) in
      let above = gate_above (first_of x) x.groups in
      let place : segment_place tail.geometry tail.segment ≡ segment_place x.geometry x.segment = ap (λ h. segment_place h tail.segment) logged.ends.geometry ∙ ap (segment_place x.geometry) logged.ends.segment in
      record {
        x = with_group x commands;
        stands = appended x commands logged.stands body (subst (λ r. AllAccepted length r commands) logged.state accepted) few within
            (subst (λ p. SameOutside p (length (group_of (body_of commands))) old new) gate outside)
            (subst (λ p. StandsAt new p (group_of (body_of commands))) gate stands);
        ends = record {
          geometry = logged.ends.geometry;
          segment = logged.ends.segment;
          generation = logged.ends.generation;
          gate = (let e : tail.gate + (5 + length (body_of commands)) ≡ gate_of x + 5 + length (body_of commands) = omega (arith, gate) in e)
              ∙ sym (gate_behind-more (first_of x) x.groups commands);
        };
        state = grown_state x logged.state;
        gates = closed_still tail.geometry tail.segment tail.gate (length (group_of (body_of commands))) old new tail.closed
            (omega (arith, place, gate, above)) (omega (arith, long, room)) (omega (arith, fits.fits)) logged.gates outside;
      }
