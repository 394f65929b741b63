-- The crash images while bytes after a gate are written.
use Rattle.rly_segment.proofs.Common.{[], ⊎_elim, ◌++◌, ◌+◌, ◌<◌, ◌↔◌, ◌∙◌, ◌∷◌, ◌≡◌, ◌≤◌, ◌⊎◌, AreSynced, AreWrites, arith, behind, Bool, close_calls, DeviceEvent}
use Rattle.rly_segment.proofs.Common.{false, front, gate_and_frame, Geometry, head_spelled, images_within, inl, inr, IsClosed, IsClosing, IsHeadOf, IsLayout}
use Rattle.rly_segment.proofs.Common.{IsOpen, IsOpeningOf, IsTrue, length, List, open_gate, opened_spelled, opening_image, bytes_after_write, overwritten_outside}
use Rattle.rly_segment.proofs.Common.{refl, replace_calls, same_bytes, same_outside_again, same_range, SameOutside, seen_at_end, seen_joined, segment_place}
use Rattle.rly_segment.proofs.Common.{settle_calls, settling_on, settling_synced, settling_then, settling_writes, Spelled, State, sym, synced_behind, true, wider}
use Rattle.rly_segment.proofs.Common.{writes_joined, ℕ}
use Rattle.rly_segment.proofs.Gates.{zero_closes}
use Rattle.rly_segment.proofs.HeadWriting.{head_room}
use Rattle.rly_segment.proofs.Segments.{segment_within}

-- ---- the closing of a gate

module _ (place : ℕ) (old : List ℕ) where
  -- the bytes that are read then
  abbrev pub shut : Bool → List ℕ
  shut closed = seen_at_end (close_calls place closed) old

  pub closing_same : (closed : Bool) → place + 1 ≤ length old → SameOutside place 1 old (shut closed)
  closing_same closed within = grind (arith, same_bytes place 1 old old refl, overwritten_outside place (0 ∷ []) old within)

  pub closing_closed : (closed : Bool) → place + 1 ≤ length old → (IsTrue closed ↔ IsClosed old place) → IsClosed (shut closed) place
  closing_closed closed within told = grind (arith, told.0, zero_closes place old within)

  -- a crash while a gate is closed, or in the calls after that. If it is open in two lists that are otherwise equal,
  -- they are equal
  pub closing_then : (closed : Bool) (rest : List DeviceEvent) (c : List ℕ) → (IsTrue closed ↔ IsClosed old place)
      → images_within (close_calls place closed ++ rest) old (λ d. d ≡ old) c → IsClosing place old c ⊎ images_within rest (shut closed) (λ d. d ≡ shut closed) c
  closing_then true rest c told image = ⊎_elim (λ is. inl (record { outside = same_bytes place 1 old c is; gate = λ opened. is })) (λ later. inr later) image
  closing_then false rest c told image =
      let was : IsOpen old place = grind (arith, told.1) in
      let kept = λ (same : SameOutside place 1 old c) (opened : IsOpen c place).
      same_range place 1 same (same_bytes place 1 old old refl) (λ i high low. let at : i ≡ place = omega arith in rw at (opened ∙ sym was)) in
      ⊎_elim (λ same. inl (record { outside = same; gate = kept same })) (λ then. inr then) (settling_then place (0 ∷ []) rest old c image)

pub replacing_synced : (place : ℕ) (closed : Bool) (behind : List ℕ) → AreSynced (replace_calls place closed behind)
replacing_synced place closed row = synced_behind (close_calls place closed) _ (synced_behind (settle_calls (place + 1) row) _ (settling_synced place (open_gate ∷ [])))

-- ---- the opening of a segment

module _ {P : Type 0} (len : P → ℕ) (form : Spelled P) (g : Geometry) (segment generation : ℕ) (s : State P) (closed : Bool) where
  abbrev place : ℕ
  place = segment_place g segment

  abbrev bytes : List ℕ
  bytes = head_spelled len form generation s ++ 0 ∷ []

  -- bytes are written after a gate, which is closed before it and opened after it
  pub image_of_opening : (old c : List ℕ) → IsLayout g (length old) → segment < g.segments → IsHeadOf len form g segment generation s
      → (IsTrue closed ↔ IsClosed old place) → images_within (replace_calls place closed bytes) old (λ d. d ≡ old) c
      → IsOpeningOf len form g segment generation s old c
  image_of_opening old c geometry there head told image =
      let mid : List ℕ = shut place old closed in
      let fits = segment_within g segment (length old) geometry there in
      let same = closing_same place old closed (omega arith) in
      let gate = λ (b : List ℕ) (one : SameOutside place 1 old b). wider place g.length place 1 (omega arith) (omega arith) one in
      elim (closing_then place old closed _ c told image) [
        | inl close_calls ↦ record { outside = gate c close_calls.outside; whole = inl (λ opened. let kept = close_calls.gate opened in grind arith) }
        | inr second ↦
            let closes = closing_closed place old closed (omega arith) told in
            let left = opening_image place bytes mid c closes (omega (arith, same.same_length, fits, head_room head)) second in
            let wide = wider place g.length place (length (open_gate ∷ bytes)) (omega arith) (omega (arith, head_room head)) left.0 in
            record { outside = same_outside_again place g.length (gate mid same) wide; whole = grind (arith, left.1) }
      ]

  pub end_of_opening : (old : List ℕ) → place + 1 ≤ length old
      → seen_at_end (replace_calls place closed bytes) old ≡ bytes_after_write place (opened_spelled len form generation s) old
  end_of_opening old within =
      let mid : List ℕ = shut place old closed in
      let same = closing_same place old closed within in
      rw (seen_joined (close_calls place closed) _ old, settling_on, gate_and_frame place open_gate bytes mid (omega (arith, same.same_length)))
      (rw (front place 1 same place (omega arith), behind place 1 same (place + length (open_gate ∷ bytes)) (omega arith)))

-- ---- the number of calls

pub replacing_writes : (place : ℕ) (closed : Bool) (behind : List ℕ) → AreWrites (replace_calls place closed behind) 6 3
replacing_writes place closed behind =
    let close_calls : AreWrites (close_calls place closed) 2 1 = search arith in
    writes_joined close_calls (writes_joined (settling_writes (place + 1) behind) (settling_writes place (open_gate ∷ [])))
