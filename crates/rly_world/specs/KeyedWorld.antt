-- Two relays whose links have keys, over a network that may deliver anything (docs/reference/DEFINITIONS.md, "Keys").
use Rattle.std.specs.Prelude.{◌≡◌, ℕ, Bool, true, false, if◌then◌else◌, Option, Some, None, List, [], ◌∷◌, slice_get}
use Rattle.std.specs.Result.{result_ok}
use Rattle.rly_core.specs.declared.ids.HopId.{HopId}
use Rattle.rly_hop.specs.declared.message.Message.{Message}
use Rattle.rly_hop.specs.MessageReads.{message_or_fault}
use Rattle.rly_hop.specs.Spelling.{IsMessage, spelling}
use Rattle.rly_link_auth.specs.Keys.{Keys}
use Rattle.rly_link_auth.specs.Seal.{unsealed_packet}
use Rattle.rly_world.specs.PairWorld.{PairEvent, PairWorld, UpperHears, LowerHears, lower_hears, pair_step, upper_hears}

-- the events: an event of two relays in which no packet arrives; or these bytes arrive at the upper, whose link has
-- these keys at that time; or they arrive at the lower, which passes the message to this core, with this hop and stamp
pub data KeyedEvent : Type 0 where
  Other : (event : PairEvent) → KeyedEvent
  UpperGets : (keys : Keys) (bytes : List ℕ) → KeyedEvent
  LowerGets : (keys : Keys) (bytes : List ℕ) (core : ℕ) (hop : HopId) (stamp : ℕ) → KeyedEvent

-- true if a packet arrives in an event of two relays
abbrev pub is_arrival : PairEvent → Bool
is_arrival (UpperHears packet) = true
is_arrival (LowerHears packet core hop stamp) = true
is_arrival _ = false

-- the message in a packet, if there is one
abbrev pub message_in : Option (List ℕ) → Option (Message (List ℕ))
message_in (Some packet) = result_ok (message_or_fault packet)
message_in None = None

-- the effect of an event on two relays. Bytes without a valid tag change nothing.
abbrev pub keyed_step : PairWorld → KeyedEvent → PairWorld
keyed_step w (Other event) = if is_arrival event then w else pair_step w event
keyed_step w (UpperGets keys bytes) = upper_hears w (message_in (unsealed_packet keys bytes))
keyed_step w (LowerGets keys bytes core hop stamp) =
    lower_hears w core hop stamp (slice_get w.receivers core) (message_in (unsealed_packet keys bytes))

-- two relays after a list of events
abbrev pub keyed_after : PairWorld → List KeyedEvent → PairWorld
keyed_after w [] = w
keyed_after w (event ∷ events) = keyed_after (keyed_step w event) events

-- a packet is a message that an end sent
pub record WasSent (w : PairWorld) (packet : List ℕ) : Type 0 where
  pub message : Message (List ℕ)
  pub place : ℕ
  pub sent : slice_get w.packets place ≡ Some message
  pub written : IsMessage message
  pub spelled : packet ≡ spelling message

-- all bytes with a valid tag were sealed by an end
abbrev pub IsSealedByAnEnd : PairWorld → Keys → List ℕ → Type 0
IsSealedByAnEnd w keys bytes = (packet : List ℕ) → unsealed_packet keys bytes ≡ Some packet → WasSent w packet

abbrev pub IsFromAnEnd : PairWorld → KeyedEvent → Type 0
IsFromAnEnd w (Other event) = Unit {0}
IsFromAnEnd w (UpperGets keys bytes) = IsSealedByAnEnd w keys bytes
IsFromAnEnd w (LowerGets keys bytes core hop stamp) = IsSealedByAnEnd w keys bytes

-- the same in each event of a list
abbrev pub AreFromAnEnd : PairWorld → List KeyedEvent → Type 0
AreFromAnEnd w [] = Unit {0}
AreFromAnEnd w (event ∷ events) = IsFromAnEnd w event × AreFromAnEnd (keyed_step w event) events
