-- The ghost history of a reporter's schedule.
use Rattle.std.specs.Prelude.{ℕ, List, Option, map}
use Rattle.http_server.specs.declared.log.Log.{Log}

abbrev pub due_moments : Log (Option ℕ) (Unit {0}) → List (Option ℕ)
due_moments log = map (λ e. e.0) log.items
