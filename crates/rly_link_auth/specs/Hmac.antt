-- HMAC at SHA-256, whose blocks have 64 bytes (RFC 2104, section 2).
use Rattle.std.specs.Prelude.{ℕ, ◌-◌, nat_le, if◌then◌else◌, List, ◌++◌, length, map, replicate, bit_xor}
use Rattle.sha2.specs.Sha256.{sha256}

-- a key of at most a block, or the digest of a longer one
abbrev pub short_key : List ℕ → List ℕ
short_key key = if nat_le (length key) 64 then key else sha256 key

-- the same with zeros after it, up to a whole block
abbrev pub key_block : List ℕ → List ℕ
key_block key = short_key key ++ replicate (64 - length (short_key key)) 0

-- a block, each of its bytes mixed with a byte
abbrev pub xor_block : ℕ → List ℕ → List ℕ
xor_block pad block = map (λ byte. bit_xor byte pad) block

-- the HMAC of a text under a key, with the bytes ipad (0x36) and opad (0x5c)
unfoldable pub hmac_sha256 : List ℕ → List ℕ → List ℕ
hmac_sha256 key text = sha256 (xor_block 0x5c (key_block key) ++ sha256 (xor_block 0x36 (key_block key) ++ text))
