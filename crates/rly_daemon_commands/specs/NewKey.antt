-- A new key (docs/COMMANDS.md).
use Rattle.std.specs.Prelude.{◌≡◌, ℕ, List, [], ◌∷◌, ◌++◌, length, Option, Some, None}
use Rattle.std.specs.Io.KnownBytes.{Appends}
use Rattle.hex.specs.Hex.{encode_lower}
use Rattle.rly_link_auth.specs.Keys.{keys_in}

-- a new key was written, as the line of its digits
pub record HasKey (old new : Option (List ℕ)) : Type 0 where
  pub key : List ℕ
  pub long : length key ≡ 32
  pub line : List ℕ
  pub spelled : line ≡ encode_lower key ++ 10 ∷ []
  pub read : keys_in line ≡ Some (record { first = key; second = None })
  pub written : Appends old new line
