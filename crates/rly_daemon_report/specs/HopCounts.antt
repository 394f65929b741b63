-- The counts of a hop's link (docs/reference/DEFINITIONS.md, "Reports").
use Rattle.std.specs.Prelude.{ℕ, ◌==◌, Bool, true, false, ◌&&◌, ◌||◌, not, is_some, Option, Some, None, List}
use Rattle.rly_hop.specs.FixedBytes.{custody_number, data_number, refused_number}
use Rattle.rly_hop.specs.declared.message.Message.{Message}
use Rattle.rly_hop.specs.declared.message.Message.TheVariants.{Data, Custody, Refused, Heard}
use Rattle.rly_hop.specs.declared.message.StationId.{StationId}
use Rattle.rly_daemon_report.specs.Counts.{counted_if, greatest_with, is_repeat, message_in}
use Rattle.rly_daemon_report.specs.declared.hop_counts.HopCounts.{HopCounts}

-- whether a message is a custody from one station to another, a refusal, or a Heard
abbrev pub is_custody_between : StationId → StationId → Option (Message (List ℕ)) → Bool
is_custody_between from to message = is_some (custody_number from to message)

abbrev pub is_refusal_between : StationId → StationId → Option (Message (List ℕ)) → Bool
is_refusal_between from to message = is_some (refused_number from to message)

abbrev pub is_heard_between : StationId → StationId → Option (Message (List ℕ)) → Bool
is_heard_between from to (Some (Data source target number limit payload)) = false
is_heard_between from to (Some (Custody source target last)) = false
is_heard_between from to (Some (Refused source target number refusal)) = false
is_heard_between from to (Some (Heard source target last bits)) = (source.0 == from.0) && (target.0 == to.0)
is_heard_between from to None = false

-- whether it is one of these
abbrev pub is_answer_between : StationId → StationId → Option (Message (List ℕ)) → Bool
is_answer_between from to message =
    is_custody_between from to message || is_refusal_between from to message || is_heard_between from to message

-- all counts zero
abbrev pub no_hop_counts : HopCounts
no_hop_counts =
    record { heard = 0; custody = 0; refused = 0; heards = 0; malformed = 0; repeats = 0; sent = 0; last = None }

-- the counts after a packet was received from a hop at a moment
abbrev pub hop_after_heard : StationId → StationId → ℕ → List ℕ → HopCounts → HopCounts
hop_after_heard own hop moment packet c = record c {
  heard = counted_if true c.heard;
  custody = counted_if (is_custody_between hop own (message_in packet)) c.custody;
  refused = counted_if (is_refusal_between hop own (message_in packet)) c.refused;
  heards = counted_if (is_heard_between hop own (message_in packet)) c.heards;
  malformed = counted_if (not (is_answer_between hop own (message_in packet))) c.malformed;
  last = Some moment;
}

-- the counts after a packet was sent to a hop: its Data has a number for the first time if that is above all sent
-- before
abbrev pub hop_after_sent : StationId → StationId → List ℕ → HopCounts → HopCounts
hop_after_sent own hop packet c = record c {
  repeats = counted_if (is_repeat c.sent (data_number own hop (message_in packet))) c.repeats;
  sent = greatest_with c.sent (data_number own hop (message_in packet));
}
