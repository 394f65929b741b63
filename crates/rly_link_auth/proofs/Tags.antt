-- A packet with a right tag was sealed.
use Rattle.std.proofs.Common.{◌≡◌, ℕ, ◌-◌, ◌<◌, ◌⊎◌, inl, inr, Bool, true, false, ◌||◌, List, ◌++◌, length, Some, None, Option, refl, sym, ◌∙◌, ap, arith, length-append, cond, eqb}
use Rattle.std.specs.Cmp.Lexicographic.{unequal}
use Rattle.std.proofs.lemmas.List.{take-append-drop, length-take, length-drop}
use Rattle.std.proofs.Math.Seq.{take-append_seam, drop-append_seam}
use Rattle.std.proofs.lemmas.Slice.Eq.{bytes_eq-Decides}
use Rattle.sha2.proofs.Facts256.{length-sha256}
use Rattle.rly_link_auth.specs.Hmac.{hmac_sha256}
use Rattle.rly_link_auth.specs.Keys.{Hears, Keys}
use Rattle.rly_link_auth.specs.Seal.{before_tag, has_tag, has_tag_if_some, last_bytes, sealed_packet, tag_of, unsealed_packet}

length-hmac : (key text : List ℕ) → length (hmac_sha256 key text) ≡ 32
unfolding hmac_sha256
length-hmac key text = length-sha256 _

pub length-tag_of : (key packet : List ℕ) → length (tag_of key packet) ≡ 16
unfolding tag_of
length-tag_of key packet = omega (arith, length-take 16 (hmac_sha256 key packet), length-hmac key packet)

length-sealed : (key packet : List ℕ) → length (sealed_packet key packet) - 16 ≡ length packet
length-sealed key packet = omega (arith, length-append packet (tag_of key packet), length-tag_of key packet)

before_tag-sealed : (key packet : List ℕ) → before_tag (sealed_packet key packet) ≡ packet
before_tag-sealed key packet = rw (length-sealed key packet) (take-append_seam packet (tag_of key packet))

last_bytes-sealed : (key packet : List ℕ) → last_bytes (sealed_packet key packet) ≡ tag_of key packet
last_bytes-sealed key packet = rw (length-sealed key packet) (drop-append_seam packet (tag_of key packet))

has_tag-sealed : (key packet : List ℕ) → has_tag key (sealed_packet key packet) ≡ true
has_tag-sealed key packet =
    (bytes_eq-Decides _ _).1 (last_bytes-sealed key packet ∙ sym (ap (tag_of key) (before_tag-sealed key packet)))

sealed-has_tag : (key packet : List ℕ) → has_tag key packet ≡ true → packet ≡ sealed_packet key (before_tag packet)
sealed-has_tag key packet h =
    sym (take-append-drop (length packet - 16) packet) ∙ ap (λ t. before_tag packet ++ t) ((bytes_eq-Decides _ _).0 h)

-- a packet shorter than a tag has none
no_tag-short : (key packet : List ℕ) → length packet < 16 → has_tag key packet ≡ false
no_tag-short key packet h =
    let len : length (last_bytes packet) ≡ length packet - (length packet - 16) = length-drop (length packet - 16) packet in
    unequal eqb (last_bytes packet) (tag_of key (before_tag packet)) (λ e. omega (arith, len, e, length-tag_of key (before_tag packet)))

no_tag_if_some-short : (second : Option (List ℕ)) (packet : List ℕ) → length packet < 16 → has_tag_if_some second packet ≡ false
no_tag_if_some-short (Some key) packet h = no_tag-short key packet h
no_tag_if_some-short None packet h = refl

pub unsealed-short : (keys : Keys) (packet : List ℕ) → length packet < 16 → unsealed_packet keys packet ≡ None
unfolding unsealed_packet
unsealed-short keys packet h = rw (no_tag-short keys.first packet h, no_tag_if_some-short keys.second packet h) refl

or-right : (a b : Bool) → b ≡ true → (a || b) ≡ true
or-right true b h = refl
or-right false b h = h

or-cases : (a b : Bool) → (a || b) ≡ true → (a ≡ true) ⊎ (b ≡ true)
or-cases true b h = inl refl
or-cases false b h = inr h

-- a packet sealed under an accepted key is received
pub sealed_is_heard : (keys : Keys) (key packet : List ℕ) → Hears keys key → unsealed_packet keys (sealed_packet key packet) ≡ Some packet
unfolding unsealed_packet
sealed_is_heard keys key packet h =
    let front = before_tag-sealed key packet in
    let right : (has_tag keys.first (sealed_packet key packet) || has_tag_if_some keys.second (sealed_packet key packet)) ≡ true =
    elim h [
      | inl e ↦ ap (λ k. has_tag k (sealed_packet key packet) || has_tag_if_some keys.second (sealed_packet key packet)) (sym e)
          ∙ ap (λ b. b || has_tag_if_some keys.second (sealed_packet key packet)) (has_tag-sealed key packet)
      | inr e ↦ or-right _ _ (ap (λ k. has_tag_if_some k (sealed_packet key packet)) (sym e) ∙ has_tag-sealed key packet)
    ] in
    rw right (ap Some front)

has_tag_if_some-key : (second : Option (List ℕ)) (packet : List ℕ) → has_tag_if_some second packet ≡ true
    → (key : List ℕ) × (Some key ≡ second) × (has_tag key packet ≡ true)
has_tag_if_some-key (Some key) packet h = (key, refl, h)
has_tag_if_some-key None packet h = absurd (cc h)

heard_front : (b : Bool) (front packet : List ℕ) → cond b (Some front) None ≡ Some packet → (b ≡ true) × (front ≡ packet)
heard_front true front packet h = (refl, cc)
heard_front false front packet h = cc

-- and no other packet is
pub only_sealed : (keys : Keys) (bytes packet : List ℕ) → unsealed_packet keys bytes ≡ Some packet
    → (key : List ℕ) × Hears keys key × (bytes ≡ sealed_packet key packet)
unfolding unsealed_packet
only_sealed keys bytes packet h =
    let f = heard_front (has_tag keys.first bytes || has_tag_if_some keys.second bytes) (before_tag bytes) packet h in
    elim (or-cases (has_tag keys.first bytes) (has_tag_if_some keys.second bytes) f.0) [
      | inl e ↦ (keys.first, inl refl, sealed-has_tag keys.first bytes e ∙ ap (sealed_packet keys.first) f.1)
      | inr e ↦
          let s = has_tag_if_some-key keys.second bytes e in
          (s.0, inr s.1, sealed-has_tag s.0 bytes s.2 ∙ ap (sealed_packet s.0) f.1)
    ]
