-- The calls that make bytes durable, and those of an append, with their crash images.
use Rattle.rly_gate.proofs.Common.{[], AllWrites, append-nil, append_calls, AreSynced, arith, Bool, cases_eq, Consistent, count_joined, count_of, DeviceEvent}
use Rattle.rly_gate.proofs.Common.{DiskState, drop_more, frame_of, get_or, group_of, images_within, inr, is_failed_call, is_read_call, is_sync_call, IsAppended}
use Rattle.rly_gate.proofs.Common.{IsClosed, IsOpen, IsTorn, length, length-append, List, Makes, makes_seen, makes_settled, open_gate, bytes_after_write}
use Rattle.rly_gate.proofs.Common.{overwritten_outside, SameOutside, seen_at_end, Settled, settle_calls, StandsAt, suc, Sync, synced_behind, take-append-drop, true}
use Rattle.rly_gate.proofs.Common.{Write, ℕ, ⊎_elim, ◌++◌, ◌+◌, ◌<◌, ◌∷◌, ◌≡◌, ◌≤◌, ◌⊎◌}
use Rattle.rly_disk.proofs.Ranges.{part, part-overwritten, same_outside_again, wider}
use Rattle.rly_gate.proofs.Frames.{gate_and_frame, length-frame}

-- ---- the calls

pub settling_some : (at : ℕ) (bytes : List ℕ) → (length bytes ≡ 0 → ⊥) → settle_calls at bytes ≡ Write at bytes ∷ Sync ∷ []
settling_some at bytes some = grind (arith, some)

-- the maximum number of these calls, and of syncs among them; none is a read or failed
pub record AreWrites (calls : List DeviceEvent) (most syncs : ℕ) : Type 0 where
  pub most_calls : length calls ≤ most
  pub all_syncs : count_of is_sync_call calls ≡ syncs
  pub sound : count_of is_failed_call calls ≡ 0
  pub no_read : count_of is_read_call calls ≡ 0

pub writes_joined : {first second : List DeviceEvent} {n m k l : ℕ} → AreWrites first n k → AreWrites second m l → AreWrites (first ++ second) (n + m) (k + l)
writes_joined {first} {second} one two =
    let joined = λ (kind : DeviceEvent → Bool). count_joined kind first second in
    search (arith, length-append first second, joined is_sync_call, joined is_failed_call, joined is_read_call)

pub settling_writes : (at : ℕ) (bytes : List ℕ) → AreWrites (settle_calls at bytes) 2 1
settling_writes at bytes = search arith

-- ---- the images

-- no bytes written over a list
pub overwritten_nothing : (at : ℕ) (seen : List ℕ) → bytes_after_write at [] seen ≡ seen
overwritten_nothing at seen = let same : at + 0 ≡ at = omega arith in simp (append-nil, same, take-append-drop)

pub settling_on : (at : ℕ) (bytes : List ℕ) (rest : List DeviceEvent) (seen : List ℕ)
    → seen_at_end (settle_calls at bytes ++ rest) seen ≡ seen_at_end rest (bytes_after_write at bytes seen)
settling_on at bytes rest seen = grind (arith, overwritten_nothing at seen)

pub settling_synced : (at : ℕ) (bytes : List ℕ) → AreSynced (settle_calls at bytes)
settling_synced at bytes seen I c image = grind arith

pub settling_all : (IsRange : ℕ → ℕ → Type 0) (at : ℕ) (bytes : List ℕ) → IsRange at (length bytes) → AllWrites IsRange (settle_calls at bytes)
settling_all IsRange at bytes range = grind arith

pub same_bytes : (at n : ℕ) (seen c : List ℕ) → c ≡ seen → SameOutside at n seen c
same_bytes at n seen c is = rw is assumption

torn_once : (at n : ℕ) (seen c : List ℕ) → IsTorn at n (λ d. d ≡ seen) c → SameOutside at n seen c
torn_once at n seen c torn = rw torn.1 at torn.2

-- a crash while bytes are made durable, or in the calls after that
pub settling_then : (at : ℕ) (bytes : List ℕ) (rest : List DeviceEvent) (seen c : List ℕ) → images_within (settle_calls at bytes ++ rest) seen (λ d. d ≡ seen) c
    → SameOutside at (length bytes) seen c ⊎ images_within rest (bytes_after_write at bytes seen) (λ d. d ≡ bytes_after_write at bytes seen) c
settling_then at [] rest seen c image = rw overwritten_nothing (grind (arith, same_bytes at 0 seen c))
settling_then at (byte ∷ bytes) rest seen c image = let n = length (byte ∷ bytes) in grind (arith, same_bytes at n seen c, torn_once at n seen c)

-- and if there are no calls after that
pub settling_last : (at : ℕ) (bytes seen c : List ℕ) → at + length bytes ≤ length seen → images_within (settle_calls at bytes) seen (λ d. d ≡ seen) c
    → SameOutside at (length bytes) seen c
settling_last at bytes seen c fits image =
    let over : c ≡ bytes_after_write at bytes seen → SameOutside at (length bytes) seen c = λ is. rw is (overwritten_outside at bytes seen fits) in
    ⊎_elim (λ first. first) over (settling_then at bytes [] seen c (rw append-nil image))

-- ---- the images of an append

-- an image from the write of the frame: the gate is still closed
pub behind_the_gate : (at : ℕ) (body old image : List ℕ) → IsClosed old at → SameOutside (at + 1) (length (frame_of body)) old image
    → IsAppended at body old image
behind_the_gate at body old image closed same =
    let outside = wider at (length (group_of body)) (at + 1) (length (frame_of body)) (omega arith) (omega arith) same in grind (arith, same.each at)

-- bytes lie after a gate that is open
pub gate_opened : (place : ℕ) (bytes old image : List ℕ) → place < length old → StandsAt old (place + 1) bytes → SameOutside place 1 old image
    → IsOpen image place → StandsAt image place (open_gate ∷ bytes)
gate_opened place bytes old image within stands same opened =
    let kept = part place 1 same (place + 1) (length bytes) (inr (omega arith)) in
    rw (drop_more image place 0 (omega (arith, same.same_length)), opened, kept, stands)

-- a crash while bytes are made durable after a closed gate, and then the gate is opened
pub opening_image : (at : ℕ) (bytes old c : List ℕ) → IsClosed old at → at + 1 + length bytes ≤ length old
    → images_within (settle_calls (at + 1) bytes ++ settle_calls at (open_gate ∷ [])) old (λ d. d ≡ old) c
    → SameOutside at (length (open_gate ∷ bytes)) old c × (IsClosed c at ⊎ StandsAt c at (open_gate ∷ bytes))
opening_image at bytes old c closed fits image =
    let n : ℕ = length bytes in
    let same = overwritten_outside (at + 1) bytes old fits in
    let behind = λ (b : List ℕ) (one : SameOutside (at + 1) n old b). wider at (suc n) (at + 1) n (omega arith) (omega arith) one in
    ⊎_elim (λ now. (behind c now, grind (arith, now.each at))) (λ second.
    let last = settling_last at (open_gate ∷ []) _ c (omega (arith, same.same_length, fits)) second in
    let stands = gate_opened at bytes _ c (omega (arith, same.same_length, fits)) (part-overwritten (at + 1) bytes old (omega (arith, fits))) last in
    let outside = same_outside_again at (suc n) (behind _ same) (wider at (suc n) at 1 (omega arith) (omega arith) last) in
    (outside, grind (arith, cases_eq (get_or c at 0) open_gate, stands))) (settling_then (at + 1) bytes (settle_calls at (open_gate ∷ [])) old c image)

-- a crash at any moment of the calls
pub appending_image : (at : ℕ) (body old c : List ℕ) → IsClosed old at → at + 6 + length body ≤ length old
    → images_within (append_calls at body) old (λ d. d ≡ old) c → IsAppended at body old c
appending_image at body old c closed fits image = assumption (opening_image at (frame_of body) old c closed (omega (arith, fits, length-frame body)) image)

module _ {D : Type 0} (state : D → DiskState) {a b : D} (at : ℕ) (body : List ℕ) where
  pub appending_settled : Makes state (append_calls at body) true a b → (state a).honest → ((state b).honest → Consistent (state b)) → Settled (state b)
  appending_settled made =
      makes_settled state made (synced_behind (settle_calls (at + 1) (frame_of body)) (settle_calls at (open_gate ∷ [])) (settling_synced at (open_gate ∷ [])))

  pub appending_seen : Makes state (append_calls at body) true a b → (state a).honest → at + 1 ≤ length (state a).seen
      → (state b).seen ≡ bytes_after_write at (group_of body) (state a).seen
  appending_seen made honest within = rw (makes_seen state made honest, settling_on) (gate_and_frame at open_gate (frame_of body) (state a).seen within)
