-- An image that fails a check recovers to no state.
use Rattle.std.proofs.Common.{◌≡◌, ◌≢◌, ◌++◌, ◌∷◌, [], ◌∙◌, ℕ, List, length, arith, sym, ap, subst, inl, inr}
use Rattle.std.proofs.lemmas.Bool.{cases_eq}
use Rattle.rly_core.specs.declared.params.Geometry.{Geometry}
use Rattle.rly_gate.specs.Group.{IsClosed, IsOpen}
use Rattle.rly_gate.specs.GroupReads.{HoldsGroup}
use Rattle.rly_machine.specs.Fold.{AllAccepted, fold}
use Rattle.rly_machine.specs.State.{State}
use Rattle.rly_record.specs.Spelling.{HaveBody, body_of}
use Rattle.rly_record.proofs.Bodies.{body_once}
use Rattle.rly_segment_checkpoint.specs.Stored.{state_in as state_over}
use Rattle.rly_segment.specs.Device.{geometry_in}
use Rattle.rly_segment.specs.Heads.{IsAmbiguous, IsLastOfTie, IsNewest, generation_in}
use Rattle.rly_journal.specs.Faults.{IsDamagedAt, IsHeadless}
use Rattle.rly_segment.specs.PlacedHeads.{HoldsPlaced}
use Rattle.rly_journal.specs.Recovery.{AreAccepted, Commands, HoldGroups, IsScanned, IsRecovery, Recovery, next_gate, recovery_end, first_of, gate_behind, gate_of, state_after_groups, state_in}
use Rattle.rly_journal.proofs.Once.{body_there_once, gate_there, head_once, newest_once}

-- a segment with the newest head is not one of a tie
not_of_tie : {image : List ℕ} (g : Geometry) (newest segment : ℕ) → IsNewest image g newest → IsLastOfTie image g segment → ⊥
not_of_tie {image} g newest segment alone tie =
    elim (cases_eq newest segment) [
      | inl same ↦
          let apart : tie.other ≢ newest = λ e. omega (arith, e, same, tie.before) in
          let less = alone.newest tie.other (omega (arith, tie.before, tie.there)) apart tie.other_gate in
          let is : generation_in image g newest ≡ generation_in image g segment = ap (generation_in image g) same in
          omega (arith, less, is, tie.shared)
      | inr differs ↦
          let less = alone.newest segment tie.there (λ e. differs (sym e)) tie.gate in
          let most = tie.greatest newest alone.there alone.gate in
          omega (arith, less, most)
    ]

not_ambiguous : {image : List ℕ} (g : Geometry) (newest place : ℕ) → IsNewest image g newest → IsAmbiguous image g place → ⊥
not_ambiguous g newest place alone ambiguous =
    elim ambiguous [
      | inl none ↦ none.0 newest alone.there alone.gate
      | inr tie ↦ not_of_tie g newest tie.0 alone tie.1
    ]

-- two chains of groups, one up to a closed gate and one that stops before
not_broken : (image : List ℕ) (end at : ℕ) (s : State (List ℕ)) (a b : List Commands) → HoldGroups image end at a → IsOpen image (gate_behind at a)
    → ((commands : Commands) → HaveBody commands → HoldsGroup image (gate_behind at a) end (body_of commands) → AllAccepted length (state_after_groups s a) commands → ⊥)
    → HoldGroups image end at b → AreAccepted s b → IsClosed image (gate_behind at b) → ⊥
not_broken image end at s [] [] first opened none second accepted closed = closed opened
not_broken image end at s [] (commands ∷ groups) first opened none second accepted closed = none commands second.0 second.1 accepted.0
not_broken image end at s (commands ∷ groups) [] first opened none second accepted closed = closed (gate_there image at end (body_of commands) first.1)
not_broken image end at s (one ∷ groups) (other ∷ others) first opened none second accepted closed =
    let bodies : body_of other ≡ body_of one = body_there_once at end (body_of other) (body_of one) second.1 first.1 in
    let same : other ≡ one = (body_once other one [] [] second.0 first.0 (ap (λ l. l ++ []) bodies)).0 in
    not_broken image end (next_gate at one) (fold length s one) groups others first.2 opened none
    (subst (λ c. HoldGroups image end (next_gate at c) others) same second.2)
    (subst (λ c. AreAccepted (fold length s c) others) same accepted.1)
    (subst (λ c. IsClosed image (gate_behind (next_gate at c) others)) same closed)

-- the content up to a gate that stops the scan, and the recovered content
not_stuck : {image : List ℕ} (x y : Recovery) → IsScanned image x → IsOpen image (gate_of x)
    → ((commands : Commands) → HaveBody commands → HoldsGroup image (gate_of x) (recovery_end x) (body_of commands) → AllAccepted length (state_in x) commands → ⊥)
    → IsRecovery image y → ⊥
not_stuck {image} x y scanned opened none second =
    let g : y.geometry ≡ x.geometry = second.scanned.geometry ∙ sym scanned.geometry in
    let y1 : Recovery = record y { geometry = x.geometry } in
    let to_y1 : y ≡ y1 = ap (λ h. record y { geometry = h }) g in
    let second1 : IsRecovery image y1 = subst (IsRecovery image) to_y1 second in
    let s : y.segment ≡ x.segment = newest_once x.geometry y.segment x.segment second1.scanned.newest scanned.newest in
    let y2 : Recovery = record y1 { segment = x.segment } in
    let to_y2 : y1 ≡ y2 = ap (λ k. record y1 { segment = k }) s in
    let second2 : IsRecovery image y2 = subst (IsRecovery image) to_y2 second1 in
    let heads = head_once x.geometry x.segment y.form x.form y.generation x.generation y.head x.head scanned.fits second2.scanned.head scanned.head in
    let payloads : y.checkpoint ≡ x.checkpoint = second2.scanned.payloads ∙ ap (state_over image) heads.2 ∙ sym scanned.payloads in
    let y3 : Recovery = record y2 { form = x.form; generation = x.generation; head = x.head; checkpoint = x.checkpoint } in
    let to_y3 : y2 ≡ y3 = ap (λ w. record y2 { form = w }) heads.0 ∙ ap (λ n. record y2 { form = x.form; generation = n }) heads.1
    ∙ ap (λ c. record y2 { form = x.form; generation = x.generation; head = c }) heads.2
    ∙ ap (λ c. record y2 { form = x.form; generation = x.generation; head = x.head; checkpoint = c }) payloads in
    let second3 : IsRecovery image y3 = subst (IsRecovery image) to_y3 second2 in
    not_broken image (recovery_end x) (first_of x) x.checkpoint x.groups y.groups scanned.groups opened none second3.scanned.groups second3.scanned.accepted second3.closed

not_headless : {image : List ℕ} (g : Geometry) (place : ℕ) (y : Recovery) → y.geometry ≡ g → IsHeadless image g place → IsRecovery image y → ⊥
not_headless {image} g place y same headless second =
    let newest : IsNewest image g y.segment = subst (λ h. IsNewest image h y.segment) same second.scanned.newest in
    let head : HoldsPlaced y.form image g y.segment y.generation y.head = subst (λ h. HoldsPlaced y.form image h y.segment y.generation y.head) same second.scanned.head in
    let segment : y.segment ≡ headless.segment = newest_once g y.segment headless.segment newest headless.newest in
    headless.none y.form y.generation y.head (subst (λ k. HoldsPlaced y.form image g k y.generation y.head) segment head)

pub not_damaged : {image : List ℕ} (place : ℕ) (y : Recovery) → IsDamagedAt image (geometry_in image) place → IsRecovery image y → ⊥
not_damaged {image} place y damaged second =
    elim damaged [
      | inl ambiguous ↦ not_ambiguous (geometry_in image) y.segment place (subst (λ h. IsNewest image h y.segment) second.scanned.geometry second.scanned.newest) ambiguous
      | inr (inl headless) ↦ not_headless (geometry_in image) place y second.scanned.geometry headless second
      | inr (inr broken) ↦ not_stuck broken.x y broken.scanned (subst (IsOpen image) broken.at broken.gate)
          (λ commands have holds accepted. broken.none commands have (subst (λ k. HoldsGroup image k (recovery_end broken.x) (body_of commands)) (sym broken.at) holds) accepted) second
    ]
