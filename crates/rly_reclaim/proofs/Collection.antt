-- The state in the next head.
use Rattle.std.proofs.Common.{ℕ, ◌≡◌, ◌≢◌, ◌+◌, Bool, true, false, cond, eqb, List, length, arith, refl, sym, ap, ◌∙◌, ⊎_elim}
use Rattle.std.proofs.lemmas.Bool.{cases_eq, eqb-true, ne_eqb}
use Rattle.rly_core.specs.declared.params.Geometry.{Geometry}
use Rattle.rly_machine.specs.Sound.{IsSound}
use Rattle.rly_machine.specs.State.{State}
use Rattle.rly_machine.proofs.Alike.{sound_alike}
use Rattle.rly_machine.proofs.Lifting.{state_twice}
use Rattle.rly_machine.proofs.Mapping.{mapped_bytes}
use Rattle.rly_segment_checkpoint.specs.Stored.{payload_in, state_in, stored_length}
use Rattle.rly_segment_checkpoint.specs.declared.stored.DeviceAddress.{DeviceAddress}
use Rattle.rly_segment_checkpoint.specs.declared.stored.Stored.{Stored}
use Rattle.rly_segment_checkpoint.specs.declared.stored.Stored.TheVariants.{Inline, Placed}
use Rattle.rly_reclaim.specs.Places.{bytes_in, live_in, segment_of}
use Rattle.rly_reclaim.specs.LiveRoom.{collected_payload, collected_state, inline_bytes, inline_length}
use Rattle.rly_reclaim.proofs.Weights.{bytes_both, bytes_none, maps_same}

module _ (g : Geometry) (victim : ℕ) (read : DeviceAddress → List ℕ) where
  -- one payload
  one_length : ((place : DeviceAddress) → length (read place) ≡ place.length) → (p : Stored) → stored_length (collected_payload g victim read p) ≡ stored_length p
  one_length long (Inline payload) = refl
  one_length long (Placed place) = by_cases (eqb (segment_of g place.start) victim)
    where
      by_cases : (b : Bool) → stored_length (cond b (Inline (read place)) (Placed place)) ≡ place.length
      by_cases true = long place
      by_cases false = refl

  one_inline : ((place : DeviceAddress) → length (read place) ≡ place.length) → (p : Stored)
      → inline_length (collected_payload g victim read p) ≡ inline_length p + bytes_in g victim p
  one_inline long (Inline payload) = omega arith
  one_inline long (Placed place) = by_cases (eqb (segment_of g place.start) victim)
    where
      by_cases : (b : Bool) → inline_length (cond b (Inline (read place)) (Placed place)) ≡ 0 + cond b place.length 0
      by_cases true = omega (arith, long place)
      by_cases false = omega arith

  one_empty : (p : Stored) → bytes_in g victim (collected_payload g victim read p) ≡ 0
  one_empty (Inline payload) = refl
  one_empty (Placed place) = by_cases (eqb (segment_of g place.start) victim) refl
    where
      by_cases : (b : Bool) → eqb (segment_of g place.start) victim ≡ b → bytes_in g victim (cond b (Inline (read place)) (Placed place)) ≡ 0
      by_cases true e = refl
      by_cases false e = ap (λ (b : Bool). cond b place.length 0) e

  -- the bytes of the victim are inline
  pub drawn_inline : (s : State Stored) → ((place : DeviceAddress) → length (read place) ≡ place.length)
      → inline_bytes (collected_state g victim read s) ≡ inline_bytes s + live_in g victim s
  drawn_inline s long = mapped_bytes (λ (p : Stored). inline_length p + bytes_in g victim p) inline_length (collected_payload g victim read) (one_inline long) s
      ∙ bytes_both inline_length (bytes_in g victim) s

  -- and no payload lies there
  pub drawn_empty : (s : State Stored) → live_in g victim (collected_state g victim read s) ≡ 0
  drawn_empty s = mapped_bytes (λ (p : Stored). 0) (bytes_in g victim) (collected_payload g victim read) one_empty s ∙ bytes_none (λ (p : Stored). 0) (λ p. refl) s

  pub drawn_sound : (s : State Stored) → ((place : DeviceAddress) → length (read place) ≡ place.length)
      → IsSound stored_length s → IsSound stored_length (collected_state g victim read s)
  drawn_sound s long sound = sound_alike stored_length stored_length s (collected_state g victim read s)
      (sym (state_twice stored_length (collected_payload g victim read) s ∙ maps_same (λ p. stored_length (collected_payload g victim read p)) stored_length (one_length long) s))
      sound

  -- other segments keep their bytes
  one_other : (segment : ℕ) → segment ≢ victim → (p : Stored) → bytes_in g segment (collected_payload g victim read p) ≡ bytes_in g segment p
  one_other segment differs (Inline payload) = refl
  one_other segment differs (Placed place) = by_cases (eqb (segment_of g place.start) victim) refl
    where
      by_cases : (b : Bool) → eqb (segment_of g place.start) victim ≡ b
          → bytes_in g segment (cond b (Inline (read place)) (Placed place)) ≡ bytes_in g segment (Placed place)
      by_cases true e = ⊎_elim (λ same. absurd (differs (sym same ∙ eqb-true (segment_of g place.start) victim e)))
          (λ apart. ap (λ (b : Bool). cond b place.length 0) (sym (ne_eqb (segment_of g place.start) segment apart))) (cases_eq (segment_of g place.start) segment)
      by_cases false e = refl

  pub drawn_other : (s : State Stored) (segment : ℕ) → segment ≢ victim → live_in g segment (collected_state g victim read s) ≡ live_in g segment s
  drawn_other s segment differs = mapped_bytes (bytes_in g segment) (bytes_in g segment) (collected_payload g victim read) (one_other segment differs) s

-- over the image in which its payloads were read a state recovers to the same state
one_payload : (g : Geometry) (victim : ℕ) (image : List ℕ) (p : Stored)
    → payload_in image (collected_payload g victim (λ place. payload_in image (Placed place)) p) ≡ payload_in image p
one_payload g victim image (Inline payload) = refl
one_payload g victim image (Placed place) = by_cases (eqb (segment_of g place.start) victim)
  where
    by_cases : (b : Bool) → payload_in image (cond b (Inline (payload_in image (Placed place))) (Placed place)) ≡ payload_in image (Placed place)
    by_cases true = refl
    by_cases false = refl

pub drawn_stands : (g : Geometry) (victim : ℕ) (image : List ℕ) (s : State Stored)
    → state_in image (collected_state g victim (λ place. payload_in image (Placed place)) s) ≡ state_in image s
drawn_stands g victim image s =
    let read : DeviceAddress → List ℕ = λ place. payload_in image (Placed place) in
    state_twice (payload_in image) (collected_payload g victim read) s
    ∙ maps_same (λ p. payload_in image (collected_payload g victim read p)) (payload_in image) (one_payload g victim image) s
