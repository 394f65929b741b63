-- The datagrams through a spool, from the replies to its commands: those taken from a peer, and those that went into a
-- hop's flight.
use Rattle.std.specs.Prelude.{ℕ, ◌+◌, ◌==◌, ◌≡◌, if◌then◌else◌, Some}
use Rattle.std.specs.Prelude.{List, [], ◌∷◌, ◌++◌, length, map, take, drop, slice_get}
use Rattle.rly_core.specs.declared.ids.HopId.{HopId}
use Rattle.rly_core.specs.declared.ids.PeerId.{PeerId}
use Rattle.rly_machine.specs.declared.command.Command.{Command}
use Rattle.rly_machine.specs.declared.command.Command.TheVariants.{Take, Pick}
use Rattle.rly_machine.specs.declared.hop.Item.{Item}
use Rattle.rly_machine.specs.declared.reply.Reply.{Reply}
use Rattle.rly_machine.specs.declared.reply.Reply.TheVariants.{Taken, Picked}
use Rattle.rly_machine.specs.State.{State, HopState, hop_at}
use Rattle.rly_machine.specs.Step.{step}

-- a payload and its limit under its custody number
pub record Numbered (P : Type 0) : Type 0 where
  pub number : ℕ
  pub limit : ℕ
  pub payload : P

-- the payloads of items, each with its limit
abbrev pub borne_by : {P : Type 0} → List (Item P) → List (ℕ × P)
borne_by items = map (λ item. (item.limit, item.payload)) items

abbrev pub number_and_payload : {P : Type 0} → Numbered P → ℕ × P
number_and_payload one = (one.limit, one.payload)

-- the datagram that a command took from a peer, by its reply
abbrev pub taken_by : {P : Type 0} → PeerId → Command P → Reply → List (Numbered P)
taken_by peer (Take from number to stamp limit payload) (Taken id) =
    if from.0 == peer.0 then (record { number = number; limit = limit; payload = payload }) ∷ [] else []
taken_by peer _ _ = []

-- the datagrams that the accepted Takes of a list of commands took from a peer, in order
abbrev pub taken_payloads : {P : Type 0} → (P → ℕ) → PeerId → State P → List (Command P) → List (Numbered P)
taken_payloads len peer s [] = []
taken_payloads len peer s (command ∷ commands) =
    taken_by peer command (step len s command).1 ++ taken_payloads len peer (step len s command).0 commands

-- the datagram that a command put into the flight of a hop, by its reply: the first waiting one after the expired and
-- dropped ones
abbrev pub picked_by : {P : Type 0} → HopId → HopState P → Command P → Reply → List (Numbered P)
picked_by hop h (Pick to now) (Picked number id expired dropped) =
    if to.0 == hop.0
    then map (λ item. record { number = number; limit = item.limit; payload = item.payload })
    (take 1 (drop (length dropped) (drop (length expired) h.queue)))
    else []
picked_by hop h _ _ = []

-- the datagrams that the accepted Picks of a list of commands put into the flight of a hop, in order
abbrev pub picked_payloads : {P : Type 0} → (P → ℕ) → HopId → State P → List (Command P) → List (Numbered P)
picked_payloads len hop s [] = []
picked_payloads len hop s (command ∷ commands) =
    picked_by hop (hop_at s hop) command (step len s command).1
    ++ picked_payloads len hop (step len s command).0 commands

-- payloads numbered 1, 2, 3, ..
abbrev pub AreNumbered : {P : Type 0} → List (Numbered P) → Type 0
AreNumbered xs = (k : ℕ) (x : Numbered _) → slice_get xs k ≡ Some x → x.number ≡ k + 1

-- a list is a prefix of another
abbrev pub IsPrefix : {X : Type 0} → List X → List X → Type 0
IsPrefix {X} xs ys = (rest : List X) × (ys ≡ xs ++ rest)
