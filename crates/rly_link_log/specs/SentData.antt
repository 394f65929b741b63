-- A Data that goes out again and again while shorter ones after it arrive (docs/COMMANDS.md, "rly serve").
use Rattle.std.specs.Prelude.{ℕ, ◌+◌, ◌-◌, ◌%◌, ◌==◌, nat_le, nat_lt, if◌then◌else◌, Bool, ◌&&◌, replicate, set, slice_index_or, Option, None, Some}
use Rattle.std.specs.List.{list_any}
use Rattle.rly_hop.specs.HeardBits.{marks}
use Rattle.rly_link_log.specs.declared.seen.Seen.{Seen}
use Rattle.rly_link_log.specs.declared.seen.Seen.TheVariants.{Custody, Data, Heard, Other, Refused, Strange}
use Rattle.rly_link_log.specs.declared.seen.SeenData.{SeenData}
use Rattle.rly_link_log.specs.declared.sent_data.Sending.{Sending}
use Rattle.rly_link_log.specs.declared.sent_data.SentData.{SentData}
use Rattle.rly_station.specs.Warnings.{next_count}
use Rattle.rly_station.specs.declared.link_cause.LinkCause.{LinkCause}
use Rattle.rly_station.specs.declared.link_cause.LinkCause.TheVariants.{Stalled}

-- none yet
abbrev pub no_sending : Sending
no_sending = record { number = 0; length = 0; times = 0 }

abbrev pub none_sent : SentData
none_sent = record { seats = replicate 64 no_sending; last = 0; bits = 0 }

-- after a message of the neighbour: a Heard is kept, and a Data that it refused did arrive
abbrev pub after_message : SentData → Seen → SentData
after_message sent (Heard last bits) = record sent { last = last; bits = bits }
after_message sent (Refused number refusal) = record sent { seats = set sent.seats (number % 64) no_sending }
after_message sent (Data datum) = sent
after_message sent (Custody last) = sent
after_message sent (Strange from to) = sent
after_message sent Other = sent

-- the Data at the seat of a number
abbrev pub sending_at : SentData → ℕ → Sending
sending_at sent number = slice_index_or sent.seats (number % 64) no_sending

-- how many times the Data of a number went out, with one more
abbrev pub times_after : SentData → ℕ → ℕ
times_after sent number =
    if (sending_at sent number).number == number then next_count (sending_at sent number).times else 1

-- after a Data went out
abbrev pub after_sending : SentData → SeenData → SentData
after_sending sent datum = record sent {
  seats = set sent.seats (datum.number % 64) (record {
    number = datum.number;
    length = datum.length;
    times = times_after sent datum.number;
  });
}

-- the neighbour's last Heard says that the Data of a number arrived
abbrev pub is_marked : SentData → ℕ → Bool
is_marked sent number = nat_lt sent.last number && marks sent.bits (number - sent.last - 1)

-- a Data that is shorter arrived
abbrev pub passes_shorter : SentData → ℕ → Bool
passes_shorter sent length = list_any (λ s. nat_lt s.length length && is_marked sent s.number) sent.seats

-- a Data is long enough to be cut, and the first that the neighbour lacks, while a shorter one arrived
abbrev pub is_stalled : SentData → SeenData → Bool
is_stalled sent datum =
    nat_lt 512 datum.length && (datum.number == sent.last + 1) && passes_shorter sent datum.length

-- what it shows that a Data goes out: it does so for the tenth time or a later one, and is lost while a shorter one arrived
abbrev pub stalled_cause : SentData → SeenData → Option LinkCause
stalled_cause sent datum =
    if nat_le 10 (times_after sent datum.number) && is_stalled (after_sending sent datum) datum
    then Some (Stalled datum.number datum.length) else None
