-- A sealed packet: a packet with its tag after it (docs/PROTOCOL.md, "Sealed packets").
use Rattle.std.specs.Prelude.{ℕ, ◌-◌, ◌||◌, false, Bool, if◌then◌else◌, Option, Some, None}
use Rattle.std.specs.Prelude.{List, ◌++◌, length, take, drop}
use Rattle.std.specs.Str.{bytes_eq}
use Rattle.rly_link_auth.specs.Hmac.{hmac_sha256}
use Rattle.rly_link_auth.specs.Keys.{Keys}

-- the tag of a packet: the first 16 bytes of its HMAC
unfoldable pub tag_of : List ℕ → List ℕ → List ℕ
tag_of key packet = take 16 (hmac_sha256 key packet)

-- a packet sealed under a key
abbrev pub sealed_packet : List ℕ → List ℕ → List ℕ
sealed_packet key packet = packet ++ tag_of key packet

-- the bytes before the last 16, and these 16
abbrev pub before_tag : List ℕ → List ℕ
before_tag packet = take (length packet - 16) packet

abbrev pub last_bytes : List ℕ → List ℕ
last_bytes packet = drop (length packet - 16) packet

-- whether a packet ends with the tag, under a key, of the bytes before it
abbrev pub has_tag : List ℕ → List ℕ → Bool
has_tag key packet = bytes_eq (last_bytes packet) (tag_of key (before_tag packet))

-- the same under an optional key
abbrev pub has_tag_if_some : Option (List ℕ) → List ℕ → Bool
has_tag_if_some (Some key) packet = has_tag key packet
has_tag_if_some None packet = false

-- the packet that a link receives: the bytes before the tag, if the tag is right
unfoldable pub unsealed_packet : Keys → List ℕ → Option (List ℕ)
unsealed_packet keys packet =
    if has_tag keys.first packet || has_tag_if_some keys.second packet then Some (before_tag packet) else None
