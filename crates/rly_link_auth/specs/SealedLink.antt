-- The ghost history of a link with a key (docs/reference/DEFINITIONS.md, "Keys").
use Rattle.std.specs.Prelude.{ℕ, ◌+◌, ◌-◌, ◌^◌, min, nat_le, Bool, if◌then◌else◌, Option, Some, None, option_and_then}
use Rattle.std.specs.Prelude.{List, [], length, map, filter}
use Rattle.std.specs.Cmp.Lexicographic.{pointwise}
use Rattle.std.specs.Option.{option_map}
use Rattle.std.specs.Str.{bytes_eq}
use Rattle.rly_link_auth.specs.Keys.{Keys}
use Rattle.rly_link_auth.specs.Seal.{sealed_packet, unsealed_packet}
use Rattle.rly_link.specs.LinkHistory.{Hearing, new_hearing}

-- the link below; the keys; how many packets had a wrong tag; the packets passed to send, and how many of them were
-- too long
pub record SealedView (L : Type 0) : Type 0 where
  pub link : L
  pub keys : Keys
  pub wrong : ℕ
  pub given : List (List ℕ)
  pub long : ℕ

-- a link with keys, before its first call
abbrev pub new_sealed : {L : Type 0} → L → Keys → SealedView L
new_sealed link keys = record { link = link; keys = keys; wrong = 0; given = []; long = 0 }

-- a receive with keys, given that of the link below: the packet without its tag, or nothing if the tag is wrong
abbrev pub heard_with : Keys → Hearing → Hearing
heard_with keys h = new_hearing h.sleep (option_and_then (unsealed_packet keys) h.packet)

abbrev pub all_heard_with : Keys → Option (List Hearing) → Option (List Hearing)
all_heard_with keys told = option_map (map (heard_with keys)) told

-- a packet within the maximum length
abbrev pub is_short : List ℕ → Bool
is_short packet = nat_le (length packet) 8300

-- the packets passed to the link below: each one sealed under the key, except those that are too long
abbrev pub all_sealed : List ℕ → List (List ℕ) → List (List ℕ)
all_sealed key packets = map (sealed_packet key) (filter is_short packets)

-- the packets passed to send, if the link below sent exactly their sealed forms
abbrev pub given_if_sealed : Keys → List (List ℕ) → List (List ℕ) → Option (List (List ℕ))
given_if_sealed keys given sent = if pointwise bytes_eq sent (all_sealed keys.first given) then Some given else None

abbrev pub all_sent_with : Keys → List (List ℕ) → Option (List (List ℕ)) → Option (List (List ℕ))
all_sent_with keys given told = option_and_then (given_if_sealed keys given) told

-- a count of 64 bits, one more
abbrev pub next_count : ℕ → ℕ
next_count count = min (count + 1) (2 ^ 64 - 1)

-- two counts together
abbrev pub counted_both : ℕ → ℕ → ℕ
counted_both one other = min (one + other) (2 ^ 64 - 1)

-- the receives, sends and failed calls of a link with keys, given those of the link below
abbrev pub sealed_heard : {L : Type 0} → (L → Option (List Hearing)) → SealedView L → Option (List Hearing)
sealed_heard heard s = all_heard_with s.keys (heard s.link)

abbrev pub sealed_sent : {L : Type 0} → (L → Option (List (List ℕ))) → SealedView L → Option (List (List ℕ))
sealed_sent sent s = all_sent_with s.keys s.given (sent s.link)

abbrev pub sealed_failed : {L : Type 0} → (L → ℕ) → SealedView L → ℕ
sealed_failed failed s = counted_both (failed s.link) s.long

-- the count of wrong tags, after a packet or none
abbrev pub wrong_unless : Option (List ℕ) → ℕ → ℕ
wrong_unless (Some packet) wrong = wrong
wrong_unless None wrong = next_count wrong

abbrev pub wrong_after : Keys → Option (List ℕ) → ℕ → ℕ
wrong_after keys (Some bytes) wrong = wrong_unless (unsealed_packet keys bytes) wrong
wrong_after keys None wrong = wrong
