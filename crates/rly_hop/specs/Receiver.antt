-- The state of the receiving end of custody.
use Rattle.std.specs.Prelude.{ℕ, Option}
use Rattle.rly_hop.specs.declared.message.StationId.{StationId}

-- the own station, the peer station whose Data is taken, and the number of the pending Take
pub record Receiver : Type 0 where
  pub own : StationId
  pub peer : StationId
  pub pending : Option ℕ
