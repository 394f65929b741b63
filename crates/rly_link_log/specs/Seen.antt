-- What a log sees in a packet of its link (docs/COMMANDS.md, "rly serve").
use Rattle.std.specs.Prelude.{◌≡◌, ℕ, ◌==◌, ◌&&◌, if◌then◌else◌, IfSome, List, length}
use Rattle.rly_hop.specs.MessageReads.{first_fault}
use Rattle.rly_hop.specs.Spelling.{IsMessage, spelling}
use Rattle.rly_hop.specs.declared.message.Message.{Message}
use Rattle.rly_hop.specs.declared.message.Message.TheVariants as message
use Rattle.rly_hop.specs.declared.message.StationId.{StationId}
use Rattle.rly_link_log.specs.declared.seen.Seen.{Seen}
use Rattle.rly_link_log.specs.declared.seen.Seen.TheVariants.{Custody, Data, Heard, Other, Refused, Strange}
use Rattle.rly_link_log.specs.declared.seen.SeenData.{SeenData}
use Rattle.rly_plan.specs.ContactPlan.{destination_in}

-- what a message from one station to another is, if these are the link's; else that they aren't
abbrev pub unless_strange : (from to source target : StationId) → Seen → Seen
unless_strange from to source target seen =
    if (source.0 == from.0) && (target.0 == to.0) then seen else Strange source.0 target.0

-- what a log sees of a Data
abbrev pub data_of : ℕ → List ℕ → SeenData
data_of number payload = record { number = number; length = length payload; destination = destination_in payload }

-- what a message is, on a link from a station to another
abbrev pub seen_of : (from to : StationId) → Message (List ℕ) → Seen
seen_of from to (message.Data source target number limit payload) =
    unless_strange from to source target (Data (data_of number payload))
seen_of from to (message.Custody source target last) = unless_strange from to source target (Custody last)
seen_of from to (message.Refused source target number refusal) =
    unless_strange from to source target (Refused number refusal)
seen_of from to (message.Heard source target last bits) = unless_strange from to source target (Heard last bits)

-- what a packet is: its message, or none
pub record IsSeen (from to : StationId) (packet : List ℕ) (seen : Seen) : Type 0 where
  pub message : (m : Message (List ℕ)) → IsMessage m → packet ≡ spelling m → seen ≡ seen_of from to m
  pub fault : IfSome (first_fault packet) (λ _. seen ≡ Other)
