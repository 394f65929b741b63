-- The addresses of a link, as the plan writes them.
use Rattle.std.specs.Prelude.{ℕ, List}

pub record Endpoints : Type 0 where
  pub listen : List ℕ
  pub remote : List ℕ
