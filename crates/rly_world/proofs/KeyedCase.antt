-- For each list of events of two relays with keys, a list of events of two relays on a lossy link has the same result.
use Rattle.std.proofs.Common.{◌≡◌, ℕ, Bool, true, false, cond, Option, Some, None, List, [], ◌∷◌, ◌++◌, refl, sym, ◌∙◌, ap}
use Rattle.std.specs.Prelude.{slice_get}
use Rattle.std.specs.Result.{result_ok}
use Rattle.rly_core.specs.declared.ids.HopId.{HopId}
use Rattle.rly_hop.specs.Receiver.{Receiver}
use Rattle.rly_hop.specs.MessageReads.{message_or_fault}
use Rattle.rly_hop.proofs.Messages.{reading-spelling}
use Rattle.rly_link_auth.specs.Seal.{unsealed_packet}
use Rattle.rly_world.specs.KeyedWorld.{AreFromAnEnd, IsFromAnEnd, KeyedEvent, Other, UpperGets, LowerGets, WasSent, is_arrival, keyed_after, keyed_step, message_in}
use Rattle.rly_world.specs.PairWorld.{PairEvent, PairWorld, UpperHears, LowerHears, lower_hears, pair_after, pair_step, upper_hears}

-- some list of events of two relays has this result
abbrev pub IsMade : PairWorld → PairWorld → Type 0
IsMade w made = (fewer : List PairEvent) × (made ≡ pair_after w fewer)

pair_after-append : (w : PairWorld) (events more : List PairEvent) → pair_after w (events ++ more) ≡ pair_after (pair_after w events) more
pair_after-append w [] more = refl
pair_after-append w (event ∷ events) more = pair_after-append (pair_step w event) events more

-- a packet that was sent has the message at its index
message_in-sent : (w : PairWorld) (packet : List ℕ) (sent : WasSent w packet) → message_in (Some packet) ≡ slice_get w.packets sent.place
message_in-sent w packet sent =
    ap (λ p. result_ok (message_or_fault p)) sent.spelled ∙ ap result_ok (reading-spelling sent.message sent.written) ∙ sym sent.sent

unless_arrival : (w : PairWorld) (event : PairEvent) (arrives : Bool) → IsMade w (cond arrives w (pair_step w event))
unless_arrival w event true = ([], refl)
unless_arrival w event false = (event ∷ [], refl)

upper_gets : (w : PairWorld) (found : Option (List ℕ)) → ((packet : List ℕ) → found ≡ Some packet → WasSent w packet)
    → IsMade w (upper_hears w (message_in found))
upper_gets w None sent = ([], refl)
upper_gets w (Some packet) sent =
    let was = sent packet refl in
    (UpperHears was.place ∷ [], ap (upper_hears w) (message_in-sent w packet was))

lower_hears-none : (w : PairWorld) (core : ℕ) (hop : HopId) (stamp : ℕ) (r : Option Receiver) → lower_hears w core hop stamp r None ≡ w
lower_hears-none w core hop stamp (Some r) = refl
lower_hears-none w core hop stamp None = refl

lower_gets : (w : PairWorld) (core : ℕ) (hop : HopId) (stamp : ℕ) (found : Option (List ℕ))
    → ((packet : List ℕ) → found ≡ Some packet → WasSent w packet)
    → IsMade w (lower_hears w core hop stamp (slice_get w.receivers core) (message_in found))
lower_gets w core hop stamp None sent = ([], lower_hears-none w core hop stamp (slice_get w.receivers core))
lower_gets w core hop stamp (Some packet) sent =
    let was = sent packet refl in (
      LowerHears was.place core hop stamp ∷ [],
      ap (lower_hears w core hop stamp (slice_get w.receivers core)) (message_in-sent w packet was),
    )

event_case : (w : PairWorld) (event : KeyedEvent) → IsFromAnEnd w event → IsMade w (keyed_step w event)
event_case w (Other event) h = unless_arrival w event (is_arrival event)
event_case w (UpperGets keys bytes) h = upper_gets w (unsealed_packet keys bytes) h
event_case w (LowerGets keys bytes core hop stamp) h = lower_gets w core hop stamp (unsealed_packet keys bytes) h

pub keyed_case : (w : PairWorld) (events : List KeyedEvent) → AreFromAnEnd w events → IsMade w (keyed_after w events)
keyed_case w [] h = ([], refl)
keyed_case w (event ∷ events) h =
    let first = event_case w event h.0 in
    let rest = keyed_case (keyed_step w event) events h.1 in (
      first.0 ++ rest.0,
      rest.1 ∙ ap (λ (v : PairWorld). pair_after v rest.0) first.1 ∙ sym (pair_after-append w first.0 rest.0),
    )
