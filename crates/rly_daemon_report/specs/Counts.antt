-- The counts of a peer's link (docs/reference/DEFINITIONS.md, "Reports").
use Rattle.std.specs.Prelude.{ℕ, ◌+◌, ◌-◌, ◌^◌, max, min, nat_le, nat_lt, Bool, true, false, not, ◌&&◌, is_some}
use Rattle.std.specs.Prelude.{if◌then◌else◌, Option, Some, None, List}
use Rattle.std.specs.Result.{result_ok}
use Rattle.rly_hop.specs.FixedBytes.{custody_number, data_number}
use Rattle.rly_hop.specs.MessageReads.{message_or_fault}
use Rattle.rly_hop.specs.declared.message.Message.{Message}
use Rattle.rly_hop.specs.declared.message.Message.TheVariants.{Data, Custody, Refused, Heard}
use Rattle.rly_hop.specs.declared.message.StationId.{StationId}
use Rattle.rly_daemon_report.specs.declared.peer_counts.PeerCounts.{PeerCounts}

-- the count, incremented if this is true. It stops at its last value of 64 bits
abbrev pub counted_if : Bool → ℕ → ℕ
counted_if is_one count = if is_one then min (count + 1) (2 ^ 64 - 1) else count

-- the message in a packet, if it is one
abbrev pub message_in : List ℕ → Option (Message (List ℕ))
message_in packet = result_ok (message_or_fault packet)

-- whether a message hands a datagram from a peer to this station
abbrev pub is_datagram : StationId → StationId → Option (Message (List ℕ)) → Bool
is_datagram own peer message = is_some (data_number peer own message)

-- whether a message is a custody, and whether it is a refusal
abbrev pub is_custody : Option (Message (List ℕ)) → Bool
is_custody (Some (Data from to number limit payload)) = false
is_custody (Some (Custody from to last)) = true
is_custody (Some (Refused from to number refusal)) = false
is_custody (Some (Heard from to last bits)) = false
is_custody None = false

abbrev pub is_refusal : Option (Message (List ℕ)) → Bool
is_refusal (Some (Data from to number limit payload)) = false
is_refusal (Some (Custody from to last)) = false
is_refusal (Some (Refused from to number refusal)) = true
is_refusal (Some (Heard from to last bits)) = false
is_refusal None = false

-- whether there is a number, and it isn't above the greatest one before it; 0 repeats none
abbrev pub is_repeat : ℕ → Option ℕ → Bool
is_repeat greatest None = false
is_repeat greatest (Some number) = nat_lt 0 number && nat_le number greatest

-- the greatest number so far, after this one, if there is one
abbrev pub greatest_with : ℕ → Option ℕ → ℕ
greatest_with greatest None = greatest
greatest_with greatest (Some number) = max greatest number

-- all counts zero
abbrev pub no_counts : PeerCounts
no_counts = record { heard = 0; custody = 0; refused = 0; malformed = 0; repeats = 0; covered = 0; last = None }

-- the counts after a packet was received from a peer at a moment
abbrev pub after_heard : StationId → StationId → ℕ → List ℕ → PeerCounts → PeerCounts
after_heard own peer moment packet c = record c {
  heard = counted_if true c.heard;
  malformed = counted_if (not (is_datagram own peer (message_in packet))) c.malformed;
  repeats = counted_if (is_repeat c.covered (data_number peer own (message_in packet))) c.repeats;
  last = Some moment;
}

-- the counts after a packet was sent to a peer
abbrev pub after_sent : StationId → StationId → List ℕ → PeerCounts → PeerCounts
after_sent own peer packet c = record c {
  custody = counted_if (is_custody (message_in packet)) c.custody;
  refused = counted_if (is_refusal (message_in packet)) c.refused;
  covered = greatest_with c.covered (custody_number own peer (message_in packet));
}
