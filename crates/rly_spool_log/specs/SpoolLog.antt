-- The log of a spool: which datagrams CoDel drops and which expire, and how full it is (docs/COMMANDS.md, "rly serve"). It
-- sees the calls and the answers of each round.
use Rattle.std.specs.Prelude.{ℕ, ◌+◌, ◌-◌, ◌*◌, ◌/◌, ◌^◌, ◌==◌, min, nat_le, nat_lt, Bool, true, false, not, ◌&&◌, ◌||◌, if◌then◌else◌}
use Rattle.std.specs.Prelude.{List, [], ◌∷◌, ◌++◌, drop, length, map, set, slice_get, Option, Some, None}
use Rattle.rly_core.specs.declared.ids.HopId.{HopId}
use Rattle.rly_machine.specs.declared.call.Answer.{Answer}
use Rattle.rly_machine.specs.declared.command.Ask.{Ask}
use Rattle.rly_machine.specs.declared.command.Ask.TheVariants as ask
use Rattle.rly_machine.specs.declared.command.Command.TheVariants as command
use Rattle.rly_machine.specs.State.{State, live_line}
use Rattle.rly_machine.specs.declared.reply.Reply.{Reply}
use Rattle.rly_machine.specs.declared.reply.Reply.TheVariants as reply
use Rattle.rly_plan.specs.ContactPlan.{destination_in}
use Rattle.rly_station.specs.Kinds.{after_one, due_number, no_kind}
use Rattle.rly_station.specs.Warnings.{next_count}
use Rattle.rly_station.specs.declared.spool_warning.Discard.{Discard}
use Rattle.rly_station.specs.declared.spool_warning.Discard.TheVariants.{Dropped, Expired}
use Rattle.rly_station.specs.declared.spool_warning.Load.{Load}
use Rattle.rly_station.specs.declared.spool_warning.Origin.{Origin}
use Rattle.rly_station.specs.declared.spool_warning.SpoolWarning.{SpoolWarning}
use Rattle.rly_station.specs.declared.spool_warning.SpoolWarning.TheVariants.{Crowding, Discarded, Filling, Relieved}
use Rattle.rly_station.specs.declared.warning.Warning.{Warning}
use Rattle.rly_station.specs.declared.warning.Warning.TheVariants.{Spool}
use Rattle.rly_spool_log.specs.declared.asked.Asked.{Asked}
use Rattle.rly_spool_log.specs.declared.asked.Asked.TheVariants.{Pick, Query, Release, Take}
use Rattle.rly_spool_log.specs.declared.hop_log.HopLog.{HopLog}
use Rattle.rly_spool_log.specs.declared.takes.Stored.{Stored}

-- the last stored datagrams, at most `kept` of them
pub record TakesView : Type 0 where
  pub kept : ℕ
  pub items : List Stored

-- what a log knows: the most that the spool may hold, whether it was logged as nearly full, the calls that aren't answered
-- yet, the datagrams stored last, the hops by their numbers, and the warnings logged
pub record SpoolView : Type 0 where
  pub limits : Load
  pub is_full : Bool
  pub asked : List Asked
  pub takes : TakesView
  pub hops : List HopLog
  pub told : List Warning

abbrev pub new_log : Load → List HopLog → SpoolView
new_log limits hops = record {
  limits = limits;
  is_full = false;
  asked = [];
  takes = record { kept = limits.items; items = [] };
  hops = hops;
  told = [];
}

-- a call without its payload
abbrev pub asked_of : Ask → Asked
asked_of (ask.Command (command.Take peer number hop stamp limit payload)) = Take peer hop (destination_in payload) stamp
asked_of (ask.Command (command.Pick hop now)) = Pick hop now
asked_of (ask.Command (command.Release hop number)) = Release hop
asked_of (ask.Query query) = Query

-- one more was stored: the oldest makes room for it
abbrev pub with_stored : TakesView → Stored → TakesView
with_stored takes stored =
    record takes { items = drop (length takes.items + 1 - takes.kept) takes.items ++ stored ∷ [] }

-- the origin of a datagram that was stored, at a moment of its hop's link clock
abbrev pub origin_of : Stored → (now : ℕ) → Origin
origin_of stored now =
    record { peer = stored.peer; destination = stored.destination; waited = now - stored.stamp }

-- the origin of the datagram of an id, if it is among these
abbrev pub origin_in : List Stored → (id now : ℕ) → Option Origin
origin_in [] id now = None
origin_in (stored ∷ more) id now = if stored.id == id then Some (origin_of stored now) else origin_in more id now

-- a hop with so many datagrams
abbrev pub new_hop : ℕ → HopLog
new_hop items = record { dropped = no_kind; expired = no_kind; items = items; is_crowding = false }

-- the hops of a spool as its log knows them first, by their numbers: 0 is none
abbrev pub first_hops : {P : Type 0} → State P → List HopLog
first_hops s = new_hop 0 ∷ map (λ h. new_hop (length (live_line h))) s.hops

-- the log of a spool that was opened
abbrev pub first_log : {P : Type 0} → State P → SpoolView
first_log s = new_log (record { items = s.params.items; bytes = s.params.bytes }) (first_hops s)

-- the number of discards of a cause in the line of one at a moment, if it is logged
abbrev pub discard_number : HopLog → Discard → ℕ → Option ℕ
discard_number hop Dropped now = due_number hop.dropped now
discard_number hop Expired now = due_number hop.expired now

-- a hop of which one more was discarded
abbrev pub with_discarded : HopLog → Discard → ℕ → HopLog
with_discarded hop Dropped now = record hop { dropped = after_one hop.dropped now }
with_discarded hop Expired now = record hop { expired = after_one hop.expired now }

-- the datagrams of a hop, one more, are now more than half of the spool, and that wasn't logged
abbrev pub crowds : HopLog → (limit : ℕ) → Bool
crowds hop limit = not hop.is_crowding && nat_lt (limit / 2) (next_count hop.items)

abbrev pub crowding_number : HopLog → (limit : ℕ) → Option ℕ
crowding_number hop limit = if crowds hop limit then Some (next_count hop.items) else None

-- a hop with one more datagram
abbrev pub with_one : HopLog → (limit : ℕ) → HopLog
with_one hop limit =
    record hop { items = next_count hop.items; is_crowding = hop.is_crowding || crowds hop limit }

-- a hop without so many of its datagrams: once they are at most a quarter of the spool, more than half is logged again
abbrev pub with_gone : HopLog → (count limit : ℕ) → HopLog
with_gone hop count limit = record hop {
  items = hop.items - count;
  is_crowding = hop.is_crowding && nat_lt (limit / 4) (hop.items - count);
}

-- a warning is logged, if there is one
abbrev pub with_warning : SpoolView → SpoolWarning → SpoolView
with_warning v warning = record v { told = v.told ++ Spool warning ∷ [] }

-- the hop of a number, if the spool has it
abbrev pub hop_of : SpoolView → HopId → Option HopLog
hop_of v hop = slice_get v.hops hop.0

abbrev pub with_hop : SpoolView → HopId → HopLog → SpoolView
with_hop v hop log = record v { hops = set v.hops hop.0 log }

-- a discard is logged if it is due
abbrev pub tell_discard : SpoolView → HopId → Discard → (clock id : ℕ) → Option ℕ → SpoolView
tell_discard v hop cause clock id None = v
tell_discard v hop cause clock id (Some count) =
    with_warning v (Discarded hop cause id (origin_in v.takes.items id clock) count)

-- the datagram of an id was discarded: that of the Take that was answered with this id
abbrev pub discard_of : SpoolView → HopId → Discard → (clock id now : ℕ) → Option HopLog → SpoolView
discard_of v hop cause clock id now None = v
discard_of v hop cause clock id now (Some log) =
    tell_discard (with_hop v hop (with_discarded log cause now)) hop cause clock id (discard_number log cause now)

abbrev pub after_discard : SpoolView → HopId → Discard → (clock id now : ℕ) → SpoolView
after_discard v hop cause clock id now = discard_of v hop cause clock id now (hop_of v hop)

abbrev pub after_each : SpoolView → HopId → Discard → (clock : ℕ) → List ℕ → (now : ℕ) → SpoolView
after_each v hop cause clock [] now = v
after_each v hop cause clock (id ∷ ids) now =
    after_each (after_discard v hop cause clock id now) hop cause clock ids now

-- so many datagrams of a hop left the spool
abbrev pub gone_of : SpoolView → HopId → ℕ → Option HopLog → SpoolView
gone_of v hop count None = v
gone_of v hop count (Some log) = with_hop v hop (with_gone log count v.limits.items)

abbrev pub after_gone : SpoolView → HopId → ℕ → SpoolView
after_gone v hop count = gone_of v hop count (hop_of v hop)

-- these datagrams of a hop were discarded, in this order
abbrev pub after_discards : SpoolView → HopId → Discard → (clock : ℕ) → List ℕ → (now : ℕ) → SpoolView
after_discards v hop cause clock ids now = after_gone (after_each v hop cause clock ids now) hop (length ids)

-- a hop is logged that has more than half of the spool
abbrev pub tell_crowding : SpoolView → HopId → Option ℕ → SpoolView
tell_crowding v hop None = v
tell_crowding v hop (Some items) = with_warning v (Crowding hop items v.limits.items)

abbrev pub store_of : SpoolView → HopId → Option HopLog → SpoolView
store_of v hop None = v
store_of v hop (Some log) =
    tell_crowding (with_hop v hop (with_one log v.limits.items)) hop (crowding_number log v.limits.items)

-- a datagram was stored for a hop
abbrev pub after_stored : SpoolView → HopId → Stored → SpoolView
after_stored v hop stored = store_of (record v { takes = with_stored v.takes stored }) hop (hop_of v hop)

-- a call was answered so
abbrev pub after_asked : SpoolView → Asked → Reply → (now : ℕ) → SpoolView
after_asked v (Take peer hop destination stamp) (reply.Taken id) now =
    after_stored v hop (record { id = id; peer = peer; destination = destination; stamp = stamp })
after_asked v (Pick hop clock) (reply.Picked number id expired dropped) now =
    after_discards (after_discards v hop Expired clock expired now) hop Dropped clock dropped now
after_asked v (Pick hop clock) (reply.Nothing expired) now = after_discards v hop Expired clock expired now
after_asked v (Release hop) (reply.Released count) now = after_gone v hop count
after_asked v call other now = v

-- the next of these calls was answered so
abbrev pub after_next : SpoolView → List Asked → Reply → (now : ℕ) → SpoolView
after_next v [] told now = v
after_next v (call ∷ calls) told now = after_asked (record v { asked = calls }) call told now

abbrev pub after_answer : SpoolView → Reply → (now : ℕ) → SpoolView
after_answer v told now = after_next v v.asked told now

-- the calls of a round were answered so, in order
abbrev pub after_answers : SpoolView → List Answer → (now : ℕ) → SpoolView
after_answers v [] now = v
after_answers v (answer ∷ answers) now = after_answers (after_answer v answer.reply now) answers now

-- at least 90 % of the datagrams or bytes are in use
abbrev pub is_filling : (used limits : Load) → Bool
is_filling used limits =
    nat_le (limits.items * 9) (used.items * 10) || nat_le (limits.bytes * 9) (used.bytes * 10)

-- fewer than 80 % of both are
abbrev pub is_relieved : (used limits : Load) → Bool
is_relieved used limits =
    nat_lt (used.items * 10) (limits.items * 8) && nat_lt (used.bytes * 10) (limits.bytes * 8)

-- after a round the spool holds so much: 90 % are logged, and again once it is under 80 %
abbrev pub after_load : SpoolView → Load → SpoolView
after_load v used =
    if not v.is_full && is_filling used v.limits
    then with_warning (record v { is_full = true }) (Filling used v.limits)
    else if v.is_full && is_relieved used v.limits
    then with_warning (record v { is_full = false }) (Relieved used v.limits)
    else v
