-- The keys of a link, and the file that holds them (docs/FORMATS.md, "Keys").
use Rattle.std.specs.Prelude.{◌≡◌, ◌⊎◌, ℕ, ◌-◌, ◌==◌, ◌&&◌, if◌then◌else◌, Option, Some, None}
use Rattle.std.specs.Prelude.{List, length, take, drop, slice_index}
use Rattle.std.specs.Result.{result_ok}
use Rattle.hex.specs.Hex.{decode_sized}

-- the key that a link sends with, and an optional second one that it also accepts
pub record Keys : Type 0 where
  pub first : List ℕ
  pub second : Option (List ℕ)

-- a link with these keys accepts this one
abbrev pub Hears : Keys → List ℕ → Type 0
Hears keys key = (key ≡ keys.first) ⊎ (Some key ≡ keys.second)

-- the 32 bytes that a line of 64 hex digits encodes
abbrev pub line_key : List ℕ → Option (List ℕ)
line_key line = result_ok (decode_sized line 32)

-- one key, if there is one
abbrev pub one_key : Option (List ℕ) → Option Keys
one_key (Some first) = Some (record { first = first; second = None })
one_key None = None

-- two keys, if both are present
abbrev pub two_keys : Option (List ℕ) → Option (List ℕ) → Option Keys
two_keys (Some first) (Some second) = Some (record { first = first; second = Some second })
two_keys (Some first) None = None
two_keys None second = None

-- a text without its last newline, which is optional
abbrev pub without_end : List ℕ → List ℕ
without_end text = if slice_index text (length text - 1) == 10 then take (length text - 1) text else text

-- the keys in one line of 64 digits, or in two lines
abbrev pub keys_in_lines : List ℕ → Option Keys
keys_in_lines lines =
    if length lines == 64 then one_key (line_key lines)
    else if (length lines == 129) && (slice_index lines 64 == 10)
    then two_keys (line_key (take 64 lines)) (line_key (drop 65 lines))
    else None

-- the keys in a file
unfoldable pub keys_in : List ℕ → Option Keys
keys_in text = keys_in_lines (without_end text)
