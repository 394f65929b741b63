-- What a link looks for in a packet: the number of a Data, of a custody, and of a refusal; and the Heard that it sends
-- (docs/PROTOCOL.md, "Messages").
use Rattle.std.specs.Prelude.{ℕ, ◌&&◌, ◌==◌, if◌then◌else◌, Option, Some, None, List}
use Rattle.rly_hop.specs.declared.message.Message.{Message}
use Rattle.rly_hop.specs.declared.message.Message.TheVariants.{Data, Custody, Refused, Heard}
use Rattle.rly_hop.specs.declared.message.StationId.{StationId}
use Rattle.rly_hop.specs.Spelling.{lacks_station, spelling}

-- the number of a Data from one station to another, if the message is one
abbrev pub data_number : StationId → StationId → Option (Message (List ℕ)) → Option ℕ
data_number from to (Some (Data source target number limit payload)) =
    if (source.0 == from.0) && (target.0 == to.0) then Some number else None
data_number from to (Some (Custody source target last)) = None
data_number from to (Some (Refused source target number refusal)) = None
data_number from to (Some (Heard source target last bits)) = None
data_number from to None = None

-- the last number of a custody from one station to another, if the message is one
abbrev pub custody_number : StationId → StationId → Option (Message (List ℕ)) → Option ℕ
custody_number from to (Some (Custody source target last)) =
    if (source.0 == from.0) && (target.0 == to.0) then Some last else None
custody_number from to (Some (Data source target number limit payload)) = None
custody_number from to (Some (Refused source target number refusal)) = None
custody_number from to (Some (Heard source target last bits)) = None
custody_number from to None = None

-- the number of a refusal from one station to another, if the message is one
abbrev pub refused_number : StationId → StationId → Option (Message (List ℕ)) → Option ℕ
refused_number from to (Some (Refused source target number refusal)) =
    if (source.0 == from.0) && (target.0 == to.0) then Some number else None
refused_number from to (Some (Data source target number limit payload)) = None
refused_number from to (Some (Custody source target last)) = None
refused_number from to (Some (Heard source target last bits)) = None
refused_number from to None = None

-- the bytes of a Heard, unless one of its stations is 0
abbrev pub heard_packet : StationId → StationId → ℕ → ℕ → Option (List ℕ)
heard_packet from to last bits = if lacks_station from to then None else Some (spelling (Heard from to last bits))
