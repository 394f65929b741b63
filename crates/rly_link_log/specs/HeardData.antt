-- The destinations of the Data that a link heard last (docs/COMMANDS.md, "rly serve").
use Rattle.std.specs.Prelude.{ℕ, ◌%◌, ◌==◌, if◌then◌else◌, replicate, set, slice_index_or, Option, None}
use Rattle.rly_link_log.specs.declared.heard_data.HeardData.{HeardData}
use Rattle.rly_link_log.specs.declared.seen.Seen.{Seen}
use Rattle.rly_link_log.specs.declared.seen.Seen.TheVariants.{Custody, Data, Heard, Other, Refused, Strange}
use Rattle.rly_link_log.specs.declared.seen.SeenData.{SeenData}

-- none yet
abbrev pub no_datum : SeenData
no_datum = record { number = 0; length = 0; destination = None }

abbrev pub no_data : HeardData
no_data = record { seats = replicate 64 no_datum }

-- the Data that were heard last, after a message
abbrev pub heard_after : HeardData → Seen → HeardData
heard_after heard (Data datum) = record { seats = set heard.seats (datum.number % 64) datum }
heard_after heard (Custody last) = heard
heard_after heard (Refused number refusal) = heard
heard_after heard (Heard last bits) = heard
heard_after heard (Strange from to) = heard
heard_after heard Other = heard

-- the Data at the seat of a number
abbrev pub seat_at : HeardData → ℕ → SeenData
seat_at heard number = slice_index_or heard.seats (number % 64) no_datum

-- the destination of the Data of a number, if it is there and named one
abbrev pub destination_heard : HeardData → ℕ → Option ℕ
destination_heard heard number =
    if (seat_at heard number).number == number then (seat_at heard number).destination else None
