-- A worked exchange of two relays: three datagrams, the second of which arrives first, a duplicate, a crash of the
-- lower before its reply, and a crash of the upper.
use Rattle.std.specs.Prelude.{ℕ, ◌*◌, true, List, [], ◌∷◌, ◌++◌}
use Rattle.rly_core.specs.declared.params.Params.{Params}
use Rattle.rly_hop.specs.declared.message.Message.{Message}
use Rattle.rly_hop.specs.declared.message.Message.TheVariants.{Custody, Data}
use Rattle.rly_machine.specs.declared.command.Ask.TheVariants.{Command}
use Rattle.rly_machine.specs.declared.command.Command.TheVariants.{Take}
use Rattle.rly_world.specs.PairEnd.{Done}
use Rattle.rly_world.specs.PairPayloads.{Numbered}
use Rattle.rly_world.specs.PairWorld.{PairEvent, PairSetup, PairWorld, pair_after, pair_start}
use Rattle.rly_world.specs.PairWorld.{Turns, UpperHears, LowerHears, UpperMakes, LowerMakes}
use Rattle.rly_world.specs.PairWorld.{UpperAnswers, LowerAnswers, UpperServes, UpperCrashes, LowerCrashes}

-- small spools with CoDel's defaults, stations 1 and 2, one receiving core
abbrev pub small_params : Params
small_params = record {
  hops = 1;
  peers = 1;
  window = 8;
  items = 16;
  bytes = 4096;
  maxpacket = 1500;
  target = 5000;
  interval = 100000;
  payload = 1200;
}

abbrev pub exchange_setup : PairSetup
exchange_setup = record {
  upper_params = small_params;
  lower_params = small_params;
  upper = record { 0 = 1 };
  lower = record { 0 = 2 };
  hop = record { 0 = 1 };
  window = 8;
  peer = record { 0 = 1 };
  receivers = 1;
}

-- the upper takes a datagram of one byte, with a limit of its own, from its own peer
abbrev pub comes_in : ℕ → PairEvent
comes_in n = UpperServes (Command (Take (record { 0 = 1 }) n (record { 0 = 1 }) 0 (1000 * n) (n ∷ []))) Done true

-- the sending core makes a request, and gets its reply
abbrev pub one_call : List PairEvent
one_call = Turns true 0 ∷ UpperMakes Done ∷ UpperAnswers true ∷ []

-- a packet arrives at the lower, and its Take is made
abbrev pub arrival_events : ℕ → List PairEvent
arrival_events packet = LowerHears packet 0 (record { 0 = 1 }) 0 ∷ LowerMakes Done ∷ []

abbrev pub arrives_answered : ℕ → List PairEvent
arrives_answered packet = arrival_events packet ++ LowerAnswers true ∷ []

-- Three datagrams come in, and are sent as packets 0 to 2. Data 2 arrives, then Data 1, then Data 1 again; their
-- replies are packets 3 to 5. The upper releases 1.
abbrev pub exchange_begins : List PairEvent
exchange_begins =
    comes_in 1 ∷ comes_in 2 ∷ comes_in 3 ∷ one_call
    ++ one_call ++ one_call ++ one_call ++ one_call ++ one_call ++ one_call
    ++ arrives_answered 1 ++ UpperHears 3 ∷ arrives_answered 0 ++ arrives_answered 0
    ++ UpperHears 4 ∷ one_call ++ UpperHears 5 ∷ []

-- The lower crashes before its reply to Data 2, and keeps the given number of commands. Data 2 arrives again, with the
-- reply in packet 6. The upper releases 2, crashes, and queries its window.
abbrev pub exchange_ends : ℕ → List PairEvent
exchange_ends kept =
    arrival_events 1 ++ LowerCrashes kept true ∷ arrives_answered 1
    ++ UpperHears 6 ∷ one_call ++ UpperCrashes 8 true ∷ one_call

-- the two relays after it
abbrev pub world_after_exchange : ℕ → PairWorld
world_after_exchange kept = pair_after (pair_start exchange_setup) (exchange_begins ++ exchange_ends kept)

-- a datagram of the exchange
abbrev pub datagram : ℕ → Numbered (List ℕ)
datagram n = record { number = n; limit = 1000 * n; payload = n ∷ [] }

-- the packets of the exchange
abbrev pub data_packet : ℕ → Message (List ℕ)
data_packet n = Data (record { 0 = 1 }) (record { 0 = 2 }) n (1000 * n) (n ∷ [])

abbrev pub custody_packet : ℕ → Message (List ℕ)
custody_packet last = Custody (record { 0 = 2 }) (record { 0 = 1 }) last

abbrev pub exchange_packets : List (Message (List ℕ))
exchange_packets =
    data_packet 1 ∷ data_packet 2 ∷ data_packet 3
    ∷ custody_packet 0 ∷ custody_packet 1 ∷ custody_packet 1 ∷ custody_packet 2 ∷ []
