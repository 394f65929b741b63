-- The log of what stops a link to a socket (docs/COMMANDS.md, "rly serve").
use Rattle.std.specs.Prelude.{◌≡◌, ℕ, ◌+◌, min, Bool, List, [], ◌∷◌, ◌++◌, replicate, set, slice_index_or, Option, Some, None}
use Rattle.rly_hop.specs.declared.message.StationId.{StationId}
use Rattle.rly_link.specs.declared.turn.Worker.{Worker}
use Rattle.rly_link_log.specs.HeardData.{destination_heard, heard_after, no_data}
use Rattle.rly_link_log.specs.LinkCauses.{heard_cause}
use Rattle.rly_link_log.specs.Seen.{IsSeen}
use Rattle.rly_link_log.specs.SentData.{after_message, after_sending, none_sent, stalled_cause}
use Rattle.rly_link_log.specs.Silence.{after_data, after_packet, no_silence, silent_cause}
use Rattle.rly_link_log.specs.declared.back_routes.BackRoute.{BackRoute}
use Rattle.rly_link_log.specs.declared.heard_data.HeardData.{HeardData}
use Rattle.rly_link_log.specs.declared.link_log.LinkLog.{LinkLog}
use Rattle.rly_link_log.specs.declared.seen.Seen.{Seen}
use Rattle.rly_link_log.specs.declared.seen.Seen.TheVariants.{Custody, Data, Heard, Other, Refused, Strange}
use Rattle.rly_link_log.specs.declared.sent_data.SentData.{SentData}
use Rattle.rly_link_log.specs.declared.silence.Silence.{Silence}
use Rattle.rly_station.specs.Kinds.{after_one, due_number, no_kind}
use Rattle.rly_station.specs.Warnings.{logged_warnings}
use Rattle.rly_station.specs.declared.kind_count.KindCount.{KindCount}
use Rattle.rly_station.specs.declared.link_cause.LinkCause.{LinkCause}
use Rattle.rly_station.specs.declared.link_cause.LinkCause.TheVariants.{IsRefused, LedBack, OtherAddress, OtherStations, Refuses, Silent, Stalled, Tagged}
use Rattle.rly_station.specs.declared.warning.Warning.{Warning}
use Rattle.rly_station.specs.declared.warning.Warning.TheVariants.{Link}

-- what a log knows: its worker, this station and the neighbour's, whether the link has no key, the routes that lead back, what
-- came of each kind, the Data in flight, those that were heard and sent last, and the warnings
pub record LinkView : Type 0 where
  pub worker : Worker
  pub own : StationId
  pub peer : StationId
  pub is_open : Bool
  pub backs : List BackRoute
  pub kinds : List KindCount
  pub silence : Silence
  pub heard : HeardData
  pub sent : SentData
  pub told : List Warning

abbrev pub link_view : LinkLog → LinkView
link_view log = record {
  worker = log.worker;
  own = log.own;
  peer = log.peer;
  is_open = log.is_open;
  backs = log.backs.routes.items;
  kinds = log.kinds;
  silence = log.silence;
  heard = log.heard;
  sent = log.sent;
  told = logged_warnings log.teller;
}

-- nothing came yet
abbrev pub new_link_view : Worker → (own peer : StationId) → Bool → List BackRoute → LinkView
new_link_view w own peer is_open backs = record {
  worker = w;
  own = own;
  peer = peer;
  is_open = is_open;
  backs = backs;
  kinds = replicate 70 no_kind;
  silence = no_silence;
  heard = no_data;
  sent = none_sent;
  told = [];
}

-- the kind of a cause: each refusal, sent and heard, is one, those above 30 together
abbrev pub kind_of : LinkCause → ℕ
kind_of (Refuses number refusal destination) = min refusal 31
kind_of (IsRefused station number refusal) = 32 + min refusal 31
kind_of (OtherStations from to neighbour own) = 64
kind_of Tagged = 65
kind_of (OtherAddress from remote) = 66
kind_of (Silent in_flight) = 67
kind_of (Stalled number length) = 68
kind_of (LedBack destination station hop number) = 69

-- what came of a kind so far
abbrev pub came_of : List KindCount → ℕ → KindCount
came_of kinds kind = slice_index_or kinds kind no_kind

-- the kinds after a cause at a moment, if one was seen
abbrev pub kinds_after : List KindCount → Option LinkCause → ℕ → List KindCount
kinds_after kinds None now = kinds
kinds_after kinds (Some cause) now = set kinds (kind_of cause) (after_one (came_of kinds (kind_of cause)) now)

-- the warning of it, if it is due
abbrev pub due_warnings : Worker → LinkCause → Option ℕ → List Warning
due_warnings w cause None = []
due_warnings w cause (Some count) = Link w cause count ∷ []

abbrev pub cause_warnings : Worker → List KindCount → Option LinkCause → ℕ → List Warning
cause_warnings w kinds None now = []
cause_warnings w kinds (Some cause) now = due_warnings w cause (due_number (came_of kinds (kind_of cause)) now)

-- a cause was counted, if one was seen, and logged if due
pub record HasCounted (old new : LinkLog) (cause : Option LinkCause) (now : ℕ) : Type 0 where
  pub rest : new ≡ record old { kinds = kinds_after old.kinds cause now; teller = new.teller }
  pub told : logged_warnings new.teller ≡ logged_warnings old.teller ++ cause_warnings old.worker old.kinds cause now

-- the custody in a message that is heard
abbrev pub custody_in : Seen → Option ℕ
custody_in (Custody last) = Some last
custody_in (Data datum) = None
custody_in (Refused number refusal) = None
custody_in (Heard last bits) = None
custody_in (Strange from to) = None
custody_in Other = None

-- a packet was heard at a moment: what it shows is counted
pub record HasNotedHeard (packet : List ℕ) (now : ℕ) (old new : LinkLog) : Type 0 where
  pub seen : Seen
  pub reads : IsSeen old.peer old.own packet seen
  pub counted : HasCounted (record old {
    silence = after_packet old.silence (custody_in seen);
    heard = heard_after old.heard seen;
    sent = after_message old.sent seen;
  }) new (heard_cause old.is_open old.own old.peer old.backs.routes.items packet seen) now

-- a receive, which brought a packet or none
abbrev pub HasNotedReceive : Option (List ℕ) → ℕ → LinkLog → LinkLog → Type 0
HasNotedReceive None now old new = new ≡ old
HasNotedReceive (Some packet) now old new = HasNotedHeard packet now old new

-- what a packet shows that is sent: a refusal, with its datagram's destination, or a minute of silence
abbrev pub first_cause : Silence → HeardData → Seen → (now : ℕ) → Option LinkCause
first_cause s heard (Data datum) now = silent_cause s datum.number now
first_cause s heard (Custody last) now = None
first_cause s heard (Refused number refusal) now = Some (Refuses number refusal (destination_heard heard number))
first_cause s heard (Heard last bits) now = None
first_cause s heard (Strange from to) now = None
first_cause s heard Other now = None

-- and that a Data doesn't arrive while shorter ones do
abbrev pub second_cause : SentData → Seen → Option LinkCause
second_cause sent (Data datum) = stalled_cause sent datum
second_cause sent (Custody last) = None
second_cause sent (Refused number refusal) = None
second_cause sent (Heard last bits) = None
second_cause sent (Strange from to) = None
second_cause sent Other = None

-- the Data in flight, and those that were sent last, after a packet was sent
abbrev pub silence_after : Silence → Seen → (now : ℕ) → Silence
silence_after s (Data datum) now = after_data s datum.number now
silence_after s (Custody last) now = s
silence_after s (Refused number refusal) now = s
silence_after s (Heard last bits) now = s
silence_after s (Strange from to) now = s
silence_after s Other now = s

abbrev pub sent_after : SentData → Seen → SentData
sent_after sent (Data datum) = after_sending sent datum
sent_after sent (Custody last) = sent
sent_after sent (Refused number refusal) = sent
sent_after sent (Heard last bits) = sent
sent_after sent (Strange from to) = sent
sent_after sent Other = sent

-- a packet is sent at a moment: what it shows is counted
pub record HasNotedSent (packet : List ℕ) (now : ℕ) (old new : LinkLog) : Type 0 where
  pub seen : Seen
  pub reads : IsSeen old.own old.peer packet seen
  pub between : LinkLog
  pub first : HasCounted (record old {
    silence = silence_after old.silence seen now;
    sent = sent_after old.sent seen;
  }) between (first_cause old.silence old.heard seen now) now
  pub second : HasCounted between new (second_cause old.sent seen) now
