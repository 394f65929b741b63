-- The crash images of each phase of a round, and the recovered state at its end.
use Rattle.std.proofs.Common.{◌≡◌, ◌⊎◌, ◌≤◌, ◌<◌, ◌+◌, ◌^◌, ◌++◌, ◌∷◌, [], ◌∙◌, ℕ, List, length, get_or, arith}
use Rattle.std.proofs.Common.{sym, refl, subst, inl, inr, length-append}
use Rattle.std.proofs.lemmas.Bool.{cases_eq}
use Rattle.rly_disk.specs.DiskModel.{SameOutside}
use Rattle.rly_disk.proofs.Ranges.{same_outside_again, wider}
use Rattle.rly_machine.specs.Fold.{AllAccepted, fold}
use Rattle.rly_machine.specs.State.{State}
use Rattle.rly_segment_checkpoint.specs.Checkpoint.{state_spelled}
use Rattle.rly_segment_checkpoint.specs.Stored.{stored_form, stored_length}
use Rattle.rly_segment_checkpoint.specs.declared.stored.Stored.{Stored}
use Rattle.rly_gate.specs.Group.{IsAppended, IsClosed, IsOpen, StandsAt, frame_of, group_of, open_gate}
use Rattle.rly_gate.proofs.Appending.{behind_the_gate, gate_opened}
use Rattle.rly_record.specs.Spelling.{HaveBody, body_of}
use Rattle.rly_segment.specs.Heads.{IsOpeningOf, head_spelled, segment_place}
use Rattle.rly_segment.proofs.Segments.{segment_within}
use Rattle.rly_journal.specs.UntouchedBytes.{IsHeadFor}
use Rattle.rly_journal.specs.Recovery.{Commands, HoldGroups, IsRecovery, Recovery, Stands, first_of, gate_behind}
use Rattle.rly_journal.specs.Recovery.{gate_of, next_gate, recovery_end, state_in}
use Rattle.rly_journal.proofs.Agreeing.{number_still, same_behind}
use Rattle.rly_journal.proofs.Frame.{length-spelled}
use Rattle.rly_journal.proofs.UntouchedBytes.{opening_law, read_in}
use Rattle.rly_journal.proofs.Growing.{grown, replayed-more, with_group}
use Rattle.rly_journal.proofs.Once.{gate_there}
use Rattle.rly_world.specs.RelayPhases.{IsDone, IsNeeded, bytes_of, next_head, place_of}
use Rattle.rly_world.specs.RelayWorld.{Body, Gate, Head, Phase, Seal, Switch}
use Rattle.rly_world.proofs.RelayStill.{IsStill, stays_still}

-- commands that may be appended as one group
pub record IsGroup (x : Recovery) (commands : Commands) : Type 0 where
  pub body : HaveBody commands
  pub accepted : AllAccepted length (state_in x) commands
  pub small : length (body_of commands) < 2 ^ 32
  pub room : gate_of x + 1 + length (frame_of (body_of commands)) ≤ recovery_end x

-- the content at the start of a phase
abbrev pub Begins : Phase → Recovery → Commands → List ℕ → Type 0
Begins (Seal segment copy) x commands old = IsHeadFor old x segment copy × (commands ≡ [])
Begins (Head segment copy) x commands old =
    IsHeadFor old x segment copy × (commands ≡ []) × IsClosed old (segment_place x.geometry segment)
Begins (Switch segment copy) x commands old =
    IsHeadFor old x segment copy × (commands ≡ []) × IsClosed old (segment_place x.geometry segment)
    × StandsAt old (segment_place x.geometry segment + 1) (next_head x copy)
Begins Body x commands old = IsGroup x commands
Begins Gate x commands old = IsGroup x commands × StandsAt old (gate_of x + 1) (frame_of (body_of commands))

-- no crash opens a gate that is to be closed
abbrev pub StaysShut : Phase → Recovery → List ℕ → List ℕ → Type 0
StaysShut (Seal segment copy) x old image =
    IsOpen image (segment_place x.geometry segment) → IsOpen old (segment_place x.geometry segment)
StaysShut (Head segment copy) x old image = Unit {0}
StaysShut (Switch segment copy) x old image = Unit {0}
StaysShut Body x old image = Unit {0}
StaysShut Gate x old image = Unit {0}

-- the crash images of a phase, from its initial bytes
pub record IsPhaseImage (phase : Phase) (x : Recovery) (commands : Commands) (old image : List ℕ) : Type 0 where
  pub outside : SameOutside (place_of phase x) (length (bytes_of phase x commands)) old image
  pub shut : StaysShut phase x old image

same_list : (place n : ℕ) (old : List ℕ) → SameOutside place n old old
same_list place n old = record { same_length = refl; each = λ i out. refl }

shut_itself : (phase : Phase) (x : Recovery) (old : List ℕ) → StaysShut phase x old old
shut_itself (Seal segment copy) x old = λ opened. opened
shut_itself (Head segment copy) x old = tt
shut_itself (Switch segment copy) x old = tt
shut_itself Body x old = tt
shut_itself Gate x old = tt

-- its initial bytes are one such image
pub first_image : (phase : Phase) (x : Recovery) (commands : Commands) (old : List ℕ)
    → IsPhaseImage phase x commands old old
first_image phase x commands old =
    record {
      outside = same_list (place_of phase x) (length (bytes_of phase x commands)) old;
      shut = shut_itself phase x
          old;
    }

-- ---- the opening of a segment

pub length-behind : (x : Recovery) (copy : State Stored)
    → length (next_head x copy) ≡ 13 + length (state_spelled stored_length stored_form copy)
length-behind x copy =
    omega (
      arith,
      length-append (head_spelled stored_length stored_form (x.generation + 1) copy) (0 ∷ []),
      length-spelled stored_length stored_form (x.generation + 1) copy,
    )

-- the crash images of the opening
abbrev IsOpened : Recovery → ℕ → State Stored → List ℕ → List ℕ → Type 0
IsOpened x segment copy = IsOpeningOf stored_length stored_form x.geometry segment (x.generation + 1) copy

module _ {old image : List ℕ} (x : Recovery) (segment : ℕ) (copy : State Stored) (for : IsHeadFor old x segment copy) where
  opening_within : (from n : ℕ) → segment_place x.geometry segment ≤ from
      → from + n ≤ segment_place x.geometry segment + 14 + length (state_spelled stored_length stored_form copy)
      → SameOutside from n old image
      → SameOutside (segment_place x.geometry segment) x.geometry.length old image
  opening_within from n begins ends same =
      wider (segment_place x.geometry segment) x.geometry.length from n begins (omega (arith, ends, for.head.room)) same

  opening_shut : SameOutside (segment_place x.geometry segment) x.geometry.length old image
      → IsClosed image (segment_place x.geometry segment) → IsOpened x segment copy old image
  opening_shut outside closed = record { outside = outside; whole = inl (λ opened. absurd (closed opened)) }

  seal_outside : IsPhaseImage (Seal segment copy) x [] old image
      → SameOutside (segment_place x.geometry segment) x.geometry.length old image
  seal_outside left = opening_within (segment_place x.geometry segment) 1 (omega arith) (omega arith) left.outside

  seal_opening : IsPhaseImage (Seal segment copy) x [] old image → IsOpened x segment copy old image
  seal_opening left =
      let place : ℕ = segment_place x.geometry segment in
      record {
        outside = seal_outside left;
        whole = inl (λ opened. (
          left.shut opened,
          number_still (place + 1) (place + 9) (place + 1) 8 (omega arith) (omega arith)
              (same_behind place 1 (place + 1) (place + 9) (omega arith) left.outside),
        ));
      }

  head_shut : IsClosed old (segment_place x.geometry segment) → IsPhaseImage (Head segment copy) x [] old image
      → IsClosed image (segment_place x.geometry segment)
  head_shut closed left opened =
      closed (sym (left.outside.each (segment_place x.geometry segment) (inl (omega arith))) ∙ opened)

  head_outside : IsPhaseImage (Head segment copy) x [] old image
      → SameOutside (segment_place x.geometry segment) x.geometry.length old image
  head_outside left =
      opening_within (segment_place x.geometry segment + 1) (length (next_head x copy)) (omega arith)
      (omega (arith, length-behind x copy)) left.outside

  head_opening : IsClosed old (segment_place x.geometry segment) → IsPhaseImage (Head segment copy) x [] old image
      → IsOpened x segment copy old image
  head_opening closed left = opening_shut (head_outside left) (head_shut closed left)

  switch_opening : segment_place x.geometry segment < length old
      → StandsAt old (segment_place x.geometry segment + 1) (next_head x copy)
      → IsPhaseImage (Switch segment copy) x [] old image → IsOpened x segment copy old image
  switch_opening within stands left =
      let place : ℕ = segment_place x.geometry segment in
      let outside = opening_within place 1 (omega arith) (omega arith) left.outside in
      elim (cases_eq (get_or image place 0) open_gate) [
        | inl opened ↦ record {
          outside = outside;
          whole = inr (gate_opened place (next_head x copy) old image within stands left.outside opened);
        }
        | inr closed ↦ opening_shut outside closed
      ]

segment_there : {old : List ℕ} (x : Recovery) (segment : ℕ) (copy : State Stored) → IsRecovery old x
    → IsHeadFor old x segment copy → segment_place x.geometry segment < length old
segment_there {old} x segment copy stands for =
    omega (arith, segment_within x.geometry segment (length old) stands.scanned.fits for.there, for.head.room)

-- ---- a group

room_there : {old : List ℕ} (x : Recovery) (commands : Commands) → IsGroup x commands → IsRecovery old x
    → gate_of x < length old
room_there {old} x commands group stands =
    omega (
      arith,
      group.room,
      segment_within x.geometry x.segment (length old) stands.scanned.fits
          stands.scanned.newest.there,
    )

grown_state : (x : Recovery) (commands : Commands)
    → fold length (state_in x) commands ≡ state_in (with_group x commands)
grown_state x commands = sym (replayed-more x.checkpoint x.groups commands)

-- the gate of the last group is open
last_open : (image : List ℕ) (end at : ℕ) (groups : List Commands) (commands : Commands)
    → HoldGroups image end at (groups ++ commands ∷ []) → IsOpen image (gate_behind at groups)
last_open image end at [] commands holds = gate_there image at end (body_of commands) holds.1
last_open image end at (first ∷ groups) commands holds =
    last_open image end (next_gate at first) groups commands holds.2

module _ {old image : List ℕ} (x : Recovery) (commands : Commands) (group : IsGroup x commands)
    (stands : IsRecovery old x) where
  body_appended : IsPhaseImage Body x commands old image → IsAppended (gate_of x) (body_of commands) old image
  body_appended left = behind_the_gate (gate_of x) (body_of commands) old image stands.closed left.outside

  gate_appended : StandsAt old (gate_of x + 1) (frame_of (body_of commands)) → IsPhaseImage Gate x commands old image
      → IsAppended (gate_of x) (body_of commands) old image
  gate_appended frame left = record {
    outside =
        wider (gate_of x) (length (group_of (body_of commands))) (gate_of x) 1 (omega arith) (omega arith) left.outside;
    whole = elim (cases_eq (get_or image (gate_of x) 0) open_gate) [
      | inl opened ↦ inr
          (gate_opened (gate_of x) (frame_of (body_of commands)) old image (room_there x commands group stands) frame
          left.outside opened)
      | inr closed ↦ inl closed
    ];
  }

  appended_standing : IsAppended (gate_of x) (body_of commands) old image → IsRecovery image x
      ⊎ IsRecovery image (with_group x commands)
  appended_standing left = grown x commands stands group.body group.accepted group.small group.room image left

  appended_stands : IsAppended (gate_of x) (body_of commands) old image → Stands image (state_in x)
      ⊎ Stands image (fold length (state_in x) commands)
  appended_stands left =
      elim (appended_standing left) [
        | inl before ↦ inl (x, before, refl)
        | inr after ↦ inr (with_group x commands, after, grown_state x commands)
      ]

  appended_same : IsAppended (gate_of x) (body_of commands) old image → IsClosed image (gate_of x) → IsRecovery image x
  appended_same left closed =
      elim (appended_standing left) [
        | inl before ↦ before
        | inr after ↦ absurd
            (closed (last_open image (recovery_end x) (first_of x) x.groups commands after.scanned.groups))
      ]

  appended_whole : IsAppended (gate_of x) (body_of commands) old image → IsOpen image (gate_of x)
      → Stands image (fold length (state_in x) commands)
  appended_whole left opened =
      elim (appended_standing left) [
        | inl before ↦ absurd (before.closed opened)
        | inr after ↦ (with_group x commands, after, grown_state x commands)
      ]

-- ---- all phases

-- a crash image recovers to the state, or to the one after the commands
pub phase_stands : (phase : Phase) (x : Recovery) (commands : Commands) (old image : List ℕ) → IsRecovery old x
    → Begins phase x commands old
    → IsPhaseImage phase x commands old image → Stands image (state_in x)
    ⊎ Stands image (fold length (state_in x) commands)
phase_stands (Seal segment copy) x commands old image stands begins left =
    inl (opening_law old image x segment copy stands begins.0
    (seal_opening x segment copy begins.0
    (subst (λ c. IsPhaseImage (Seal segment copy) x c old image) begins.1 left)))
phase_stands (Head segment copy) x commands old image stands begins left =
    inl (opening_law old image x segment copy stands begins.0
    (head_opening x segment copy begins.0 begins.2
    (subst (λ c. IsPhaseImage (Head segment copy) x c old image) begins.1 left)))
phase_stands (Switch segment copy) x commands old image stands begins left =
    inl (opening_law old image x segment copy stands begins.0
    (switch_opening x segment copy begins.0 (segment_there x segment copy stands begins.0) begins.3
    (subst (λ c. IsPhaseImage (Switch segment copy) x c old image) begins.1 left)))
phase_stands Body x commands old image stands begins left =
    appended_stands x commands begins stands (body_appended x commands begins stands left)
phase_stands Gate x commands old image stands begins left =
    appended_stands x commands begins.0 stands (gate_appended x commands begins.0 stands begins.1 left)

-- at its end, the bytes that are read are the initial ones of the next phase, or recover to the new state
pub seal_next : (segment : ℕ) (copy : State Stored) (x : Recovery) (commands : Commands) (old seen : List ℕ)
    → IsRecovery old x → Begins (Seal segment copy) x commands old
    → IsPhaseImage (Seal segment copy) x commands old seen → IsDone (Seal segment copy) x commands seen
    → IsStill x segment copy seen × Begins (Head segment copy) (read_in seen x) commands seen
seal_next segment copy x commands old seen stands begins left done =
    let image = subst (λ c. IsPhaseImage (Seal segment copy) x c old seen) begins.1 left in
    let still = stays_still x segment copy stands begins.0 (seal_outside x segment copy begins.0 image) done in
    (still, (still.head, begins.1, done))

pub head_next : (segment : ℕ) (copy : State Stored) (x : Recovery) (commands : Commands) (old seen : List ℕ)
    → IsRecovery old x → Begins (Head segment copy) x commands old
    → IsPhaseImage (Head segment copy) x commands old seen → IsDone (Head segment copy) x commands seen
    → IsStill x segment copy seen × Begins (Switch segment copy) (read_in seen x) commands seen
head_next segment copy x commands old seen stands begins left done =
    let image = subst (λ c. IsPhaseImage (Head segment copy) x c old seen) begins.1 left in
    let shut = head_shut x segment copy begins.0 begins.2 image in
    let still = stays_still x segment copy stands begins.0 (head_outside x segment copy begins.0 image) shut in
    (still, (still.head, begins.1, shut, done))

pub switch_next : (segment : ℕ) (copy : State Stored) (x : Recovery) (commands : Commands) (old seen : List ℕ)
    → IsRecovery old x → Begins (Switch segment copy) x commands old
    → IsPhaseImage (Switch segment copy) x commands old seen → Stands seen (state_in x)
switch_next segment copy x commands old seen stands begins left =
    opening_law old seen x segment copy stands begins.0
    (switch_opening x segment copy begins.0 (segment_there x segment copy stands begins.0) begins.3
    (subst (λ c. IsPhaseImage (Switch segment copy) x c old seen) begins.1 left))

pub body_next : (x : Recovery) (commands : Commands) (old seen : List ℕ) → IsRecovery old x → Begins Body x commands old
    → IsPhaseImage Body x commands old seen → IsDone Body x commands seen → IsRecovery seen x
    × Begins Gate x commands seen
body_next x commands old seen stands begins left done =
    let shut : IsClosed seen (gate_of x) = λ opened. stands.closed
    (sym (left.outside.each (gate_of x) (inl (omega arith))) ∙ opened) in
    (appended_same x commands begins stands (body_appended x commands begins stands left) shut, (begins, done))

pub gate_next : (x : Recovery) (commands : Commands) (old seen : List ℕ) → IsRecovery old x → Begins Gate x commands old
    → IsPhaseImage Gate x commands old seen → IsDone Gate x commands seen
    → Stands seen (fold length (state_in x) commands)
gate_next x commands old seen stands begins left done =
    appended_whole x commands begins.0 stands (gate_appended x commands begins.0 stands begins.1 left) done

-- a write in the range leaves an image of the phase, and so do the bytes read after it
pub phase_torn : (phase : Phase) (x : Recovery) (commands : Commands) (old seen d image : List ℕ) (place n : ℕ)
    → place_of phase x ≤ place
    → place + n ≤ place_of phase x + length (bytes_of phase x commands) → IsNeeded phase x seen
    → IsPhaseImage phase x commands old seen
    → IsPhaseImage phase x commands old d → SameOutside place n d image → IsPhaseImage phase x commands old image
phase_torn phase x commands old seen d image place n from to needed read before torn = record {
  outside = same_outside_again (place_of phase x) (length (bytes_of phase x commands)) before.outside
      (wider (place_of phase x) (length (bytes_of phase x commands)) place n from to torn);
  shut = shut_torn phase needed read;
}
  where
    shut_torn : (phase : Phase) → IsNeeded phase x seen → IsPhaseImage phase x commands old seen
        → StaysShut phase x old image
    shut_torn (Seal segment copy) needed read = λ opened. read.shut needed
    shut_torn (Head segment copy) needed read = tt
    shut_torn (Switch segment copy) needed read = tt
    shut_torn Body needed read = tt
    shut_torn Gate needed read = tt

-- the range of a phase lies on the device
pub phase_within : (phase : Phase) (x : Recovery) (commands : Commands) (old : List ℕ) → IsRecovery old x
    → Begins phase x commands old
    → place_of phase x + length (bytes_of phase x commands) ≤ length old
phase_within (Seal segment copy) x commands old stands begins =
    omega (arith, segment_there x segment copy stands begins.0)
phase_within (Head segment copy) x commands old stands begins =
    omega (
      arith,
      length-behind x copy,
      begins.0.head.room,
      segment_within x.geometry segment (length old)
          stands.scanned.fits begins.0.there,
    )
phase_within (Switch segment copy) x commands old stands begins =
    omega (arith, segment_there x segment copy stands begins.0)
phase_within Body x commands old stands begins =
    omega (
      arith,
      begins.room,
      segment_within x.geometry x.segment (length old) stands.scanned.fits
          stands.scanned.newest.there,
    )
phase_within Gate x commands old stands begins = omega (arith, room_there x commands begins.0 stands)
