-- A worker over its turns: its inputs, and its actions.
use Rattle.std.specs.Prelude.{ℕ, ◌==◌, nat_lt, List, [], ◌∷◌, ◌++◌, length, map, Bool, true}
use Rattle.std.specs.Prelude.{false, if◌then◌else◌, Option, Some, None}
use Rattle.rly_core.specs.declared.ids.HopId.{HopId}
use Rattle.rly_core.specs.declared.refusal.Refusal.{Refusal}
use Rattle.rly_hop.specs.declared.message.Message.{Message}
use Rattle.rly_hop.specs.Spelling.{spelling, write_refusal}
use Rattle.rly_link.specs.declared.link.Sleep.{Sleep}
use Rattle.rly_link.specs.declared.link.Sleep.TheVariants.{No}
use Rattle.rly_link.specs.declared.turn.Go.{Go}
use Rattle.rly_link.specs.declared.turn.Point.TheVariants as point
use Rattle.rly_link.specs.declared.turn.Worker.{Worker}
use Rattle.rly_threads_workers.specs.DeskExchanges.{Asked, BatchOutcome}
use Rattle.rly_link.specs.LinkHistory.{Handed, Hearing, new_hearing}

-- the outcome of the calls that a sending worker submitted together in a turn, if any, and the ticks before and
-- after them
pub record Made : Type 0 where
  pub outcome : BatchOutcome
  pub before : Go
  pub after : Go

-- the inputs of a sending worker in a turn: the tick at its start, the packets received, in order, the tick after
-- its receives, which is the turn's time, and the outcome of its calls
pub record Given : Type 0 where
  pub start : Go
  pub packets : List (List ℕ)
  pub heard : Go
  pub made : Made

-- the effects of a worker: its state, its receives, its asks, its sent packets, its ticks with their points, and the
-- hops whose senders it woke
pub record Done (C : Type 0) : Type 0 where
  pub core : C
  pub heard : List Hearing
  pub asked : List Asked
  pub sent : List (List ℕ)
  pub handed : List Handed
  pub woken : List HopId

-- no effect
abbrev pub nothing_done : {C : Type 0} → C → Done C
nothing_done c = record { core = c; heard = []; asked = []; sent = []; handed = []; woken = [] }

-- these effects, and then those
abbrev pub done_both : {C : Type 0} → Done C → Done C → Done C
done_both d e = record {
  core = e.core;
  heard = d.heard ++ e.heard;
  asked = d.asked ++ e.asked;
  sent = d.sent ++ e.sent;
  handed = d.handed ++ e.handed;
  woken = d.woken ++ e.woken;
}

-- the effects of a list of turns, given those of one
abbrev pub done_in : {C G : Type 0} → (C → G → Done C) → C → List G → Done C
done_in act c [] = nothing_done c
done_in act c (given ∷ turns) = done_both (act c given) (done_in act (act c given).core turns)

-- a packet, unless there is a fault
abbrev pub packet_unless : Option Refusal → List ℕ → List (List ℕ)
packet_unless None packet = packet ∷ []
packet_unless (Some fault) packet = []

-- the packet of a message: none if it can't be encoded
abbrev pub packets_of : Message (List ℕ) → List (List ℕ)
packets_of m = packet_unless (write_refusal m) (spelling m)

-- whether there is at least one
abbrev pub has_some : {A : Type 0} → List A → Bool
has_some [] = false
has_some (first ∷ others) = true

-- the result of each receive of a turn: a worker receives until there is no packet, or until it has 64
abbrev pub receives_of : List (List ℕ) → List (Option (List ℕ))
receives_of packets = map (λ packet. Some packet) packets ++ (if nat_lt (length packets) 64 then None ∷ [] else [])

-- how long the receive at this place in a turn waits at most: only the first one waits
abbrev pub sleep_at : ℕ → Sleep → Sleep
sleep_at place sleep = if place == 0 then sleep else No

-- the first receive waits at most this long, and the others don't wait
abbrev pub hearings_from : Sleep → List (Option (List ℕ)) → List Hearing
hearings_from sleep [] = []
hearings_from sleep (first ∷ others) = new_hearing sleep first ∷ map (λ found. new_hearing No found) others

-- a worker receives these packets, gets the turn's tick, and does this
abbrev pub with_hearings : {C : Type 0} → Worker → Sleep → List (List ℕ) → Go → Done C → Done C
with_hearings worker sleep packets heard d = record {
  core = d.core;
  heard = hearings_from sleep (receives_of packets) ++ d.heard;
  asked = d.asked;
  sent = d.sent;
  handed = (worker, point.Heard, heard) ∷ d.handed;
  woken = d.woken;
}

-- a worker gets the tick at the start of a turn, which lets it continue, and does this
abbrev pub with_start : {C : Type 0} → Worker → Go → Done C → Done C
with_start worker start d = record {
  core = d.core;
  heard = d.heard;
  asked = d.asked;
  sent = d.sent;
  handed = (worker, point.Start, record start { on = true }) ∷ d.handed;
  woken = d.woken;
}

-- the ticks of a worker before its calls and after them
abbrev pub around_call : Worker → Made → List Handed
around_call worker made = (worker, point.Call, made.before) ∷ (worker, point.Answered, made.after) ∷ []

-- the hop whose sender is woken if a datagram was stored for it, and none if none was
abbrev pub woken_if : Bool → HopId → List HopId
woken_if true hop = hop ∷ []
woken_if false hop = []
