-- The content that recovery reads is unique: no image recovers to two states.
use Rattle.std.proofs.Common.{◌≡◌, ◌+◌, ◌++◌, ◌∷◌, [], ◌∙◌, ℕ, List, length, take, drop, arith, sym, ap, refl, subst, inl, inr}
use Rattle.std.proofs.lemmas.Bool.{cases_eq}
use Rattle.byteorder.specs.Endian.{big_bytes}
use Rattle.rly_core.specs.declared.params.Geometry.{Geometry}
use Rattle.rly_machine.specs.State.{State}
use Rattle.rly_gate.specs.Group.{IsClosed, IsOpen, StandsAt, open_gate}
use Rattle.rly_gate.specs.GroupReads.{HoldsGroup}
use Rattle.rly_gate.proofs.Holding.{number_once}
use Rattle.rly_gate.proofs.Frames.{group_length}
use Rattle.rly_record.specs.Spelling.{body_of}
use Rattle.rly_record.proofs.Bodies.{body_once}
use Rattle.rly_segment_checkpoint.specs.Stored.{state_in as state_over}
use Rattle.rly_segment_checkpoint.specs.declared.head_form.HeadForm.{HeadForm}
use Rattle.rly_segment_checkpoint.specs.declared.stored.Stored.{Stored}
use Rattle.rly_segment_checkpoint.proofs.Fitness.{one_spelled}
use Rattle.rly_segment_checkpoint.proofs.StoredForms.{stored_forms}
use Rattle.rly_segment.specs.Heads.{IsNewest}
use Rattle.rly_segment.specs.PlacedHeads.{HoldsPlaced}
use Rattle.rly_segment.specs.Device.{IsLayout}
use Rattle.rly_segment.proofs.PlacedHeads.{forms_of, stored_once}
use Rattle.rly_journal.specs.Recovery.{Commands, HoldGroups, IsRecovery, Recovery, Stands, next_gate, recovery_end, first_of, gate_behind, state_in}
use Rattle.rly_segment.proofs.BytesAtPlace.{stands_back, stands_front}
use Rattle.rly_journal.proofs.Growing.{byte_there}

-- two lists of one length at one offset
same_bytes : (image : List ℕ) (place : ℕ) (a b : List ℕ) → length a ≡ length b → StandsAt image place a → StandsAt image place b → a ≡ b
same_bytes image place a b size first second = sym first ∙ ap (λ k. take k (drop place image)) size ∙ second

-- two newest segments
pub newest_once : {image : List ℕ} (g : Geometry) (s t : ℕ) → IsNewest image g s → IsNewest image g t → s ≡ t
newest_once {image} g s t first second =
    elim (cases_eq s t) [
      | inl same ↦ same
      | inr differs ↦
          let one = first.newest t second.there (λ e. differs (sym e)) second.gate in
          let other = second.newest s first.there differs first.gate in
          omega (arith, one, other)
    ]

-- two heads of one segment
pub head_once : {image : List ℕ} (g : Geometry) (segment : ℕ) (w v : HeadForm) (n m : ℕ) (a b : State Stored) → IsLayout g (length image)
    → HoldsPlaced w image g segment n a → HoldsPlaced v image g segment m b → (w ≡ v) × (n ≡ m) × (a ≡ b)
head_once {image} g segment w v n m a b geometry one other =
    stored_once (λ which. one_spelled (stored_forms which)) image g segment w v n m a b geometry.length one.head other.head
    (forms_of w g (length image) segment a geometry one.placed) (forms_of v g (length image) segment b geometry other.placed)

-- two bodies after one gate
pub body_there_once : {image : List ℕ} (at end : ℕ) (a b : List ℕ) → HoldsGroup image at end a → HoldsGroup image at end b → a ≡ b
body_there_once {image} at end a b first second =
    let size : length a ≡ length b = number_once 4 (length a) (length b) first.fits second.fits
    (sym (group_length image at (length a) a first.bytes) ∙ group_length image at (length b) b second.bytes) in
    let rest : (body : List ℕ) → HoldsGroup image at end body → StandsAt image (at + 5) body = λ body holds.
    subst (λ k. StandsAt image k body) (let e : at + 1 + 4 ≡ at + 5 = omega arith in e)
    (stands_back image (at + 1) (big_bytes 4 (length body)) body
    (stands_back image at (open_gate ∷ []) (big_bytes 4 (length body) ++ body) holds.bytes)) in
    same_bytes image (at + 5) a b size (rest a first) (rest b second)

-- the gate of a group is open
pub gate_there : (image : List ℕ) (at end : ℕ) (body : List ℕ) → HoldsGroup image at end body → IsOpen image at
gate_there image at end body holds = byte_there image at open_gate (stands_front image at (open_gate ∷ []) (big_bytes 4 (length body) ++ body) holds.bytes)

-- two chains of groups
pub groups_once : (image : List ℕ) (end at : ℕ) (a b : List Commands) → HoldGroups image end at a → IsClosed image (gate_behind at a)
    → HoldGroups image end at b → IsClosed image (gate_behind at b) → a ≡ b
groups_once image end at [] [] first closed_a second closed_b = refl
groups_once image end at [] (commands ∷ groups) first closed_a second closed_b = absurd (closed_a (gate_there image at end (body_of commands) second.1))
groups_once image end at (commands ∷ groups) [] first closed_a second closed_b = absurd (closed_b (gate_there image at end (body_of commands) first.1))
groups_once image end at (one ∷ groups) (other ∷ others) first closed_a second closed_b =
    let bodies : body_of one ≡ body_of other = body_there_once at end (body_of one) (body_of other) first.1 second.1 in
    let same : one ≡ other = (body_once one other [] [] first.0 second.0 (ap (λ l. l ++ []) bodies)).0 in
    let moved : HoldGroups image end (next_gate at one) others = subst (λ c. HoldGroups image end (next_gate at c) others) (sym same) second.2 in
    let ends : IsClosed image (gate_behind (next_gate at one) others) = subst (λ c. IsClosed image (gate_behind (next_gate at c) others)) (sym same) closed_b in
    let rest : groups ≡ others = groups_once image end (next_gate at one) groups others first.2 closed_a moved ends in
    ap (λ c. c ∷ groups) same ∙ ap (λ l. other ∷ l) rest

-- the content of an image is unique
pub standing_once : {image : List ℕ} (x y : Recovery) → IsRecovery image x → IsRecovery image y → x ≡ y
standing_once {image} x y first second =
    let g : y.geometry ≡ x.geometry = second.scanned.geometry ∙ sym first.scanned.geometry in
    let y1 : Recovery = record y { geometry = x.geometry } in
    let to_y1 : y ≡ y1 = ap (λ h. record y { geometry = h }) g in
    let second1 : IsRecovery image y1 = subst (IsRecovery image) to_y1 second in
    let s : y.segment ≡ x.segment = newest_once x.geometry y.segment x.segment second1.scanned.newest first.scanned.newest in
    let y2 : Recovery = record y1 { segment = x.segment } in
    let to_y2 : y1 ≡ y2 = ap (λ k. record y1 { segment = k }) s in
    let second2 : IsRecovery image y2 = subst (IsRecovery image) to_y2 second1 in
    let heads = head_once x.geometry x.segment y.form x.form y.generation x.generation y.head x.head first.scanned.fits second2.scanned.head first.scanned.head in
    let payloads : y.checkpoint ≡ x.checkpoint = second2.scanned.payloads ∙ ap (state_over image) heads.2 ∙ sym first.scanned.payloads in
    let y3 : Recovery = record y2 { form = x.form; generation = x.generation; head = x.head; checkpoint = x.checkpoint } in
    let to_y3 : y2 ≡ y3 = ap (λ w. record y2 { form = w }) heads.0 ∙ ap (λ n. record y2 { form = x.form; generation = n }) heads.1
    ∙ ap (λ c. record y2 { form = x.form; generation = x.generation; head = c }) heads.2
    ∙ ap (λ c. record y2 { form = x.form; generation = x.generation; head = x.head; checkpoint = c }) payloads in
    let second3 : IsRecovery image y3 = subst (IsRecovery image) to_y3 second2 in
    let groups : y.groups ≡ x.groups = groups_once image (recovery_end x) (first_of x) y.groups x.groups second3.scanned.groups second3.closed first.scanned.groups first.closed in
    sym (to_y1 ∙ to_y2 ∙ to_y3 ∙ ap (λ l. record y3 { groups = l }) groups)

-- no image recovers to two states
pub stands_for_one : (image : List ℕ) (a b : State (List ℕ)) → Stands image a → Stands image b → a ≡ b
stands_for_one image a b first second = first.2 ∙ ap state_in (standing_once first.0 second.0 first.1 second.1) ∙ sym second.2
