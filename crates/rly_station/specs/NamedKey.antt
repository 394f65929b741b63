-- The model of a link's key that was read from a file.
use Rattle.std.specs.Prelude.{ℕ, List}
use Rattle.rly_link_auth.specs.Keys.{Keys}

-- the key, and the path in the plan
pub record KeyOfFile : Type 0 where
  pub file : List ℕ
  pub keys : Keys
