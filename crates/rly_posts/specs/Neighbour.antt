-- The link to a neighbour, by its kind: its ghost history, and what it counts. A folder's link records no history.
use Rattle.std.specs.Prelude.{◌≡◌, ℕ, Bool, true, false, List, [], ◌∷◌, ◌++◌, Option, None, Some}
use Rattle.rly_link.specs.LinkHistory.{Hearing}
use Rattle.rly_link_auth.specs.StationLink.{keys_over, wrong_tags}
use Rattle.rly_link_udp.specs.SocketLink.{socket_failed, socket_heard, socket_sent}
use Rattle.rly_link_udp.specs.WrongTags.{tag_warnings}
use Rattle.rly_station.specs.Warnings.{logged_warnings}
use Rattle.rly_station.specs.declared.address_fault.EndFault.{EndFault}
use Rattle.rly_posts.specs.declared.neighbour_link.NeighbourLink.{NeighbourLink}
use Rattle.rly_posts.specs.declared.neighbour_link.NeighbourLink.TheVariants.{Incoming, Outgoing, Socket}

-- what it returned and what was passed to it, if it records that
abbrev pub neighbour_heard : {C : Type 0} → NeighbourLink C → Option (List Hearing)
neighbour_heard (Socket l) = socket_heard l
neighbour_heard (Incoming l) = None
neighbour_heard (Outgoing l) = None

abbrev pub neighbour_sent : {C : Type 0} → NeighbourLink C → Option (List (List ℕ))
neighbour_sent (Socket l) = socket_sent l
neighbour_sent (Incoming l) = None
neighbour_sent (Outgoing l) = None

-- how many of its calls failed: of a folder's link, those of its bell
abbrev pub neighbour_failed : {C : Type 0} → NeighbourLink C → ℕ
neighbour_failed (Socket l) = socket_failed l
neighbour_failed (Incoming l) = l.link.bell.failures
neighbour_failed (Outgoing l) = l.link.bell.failures

-- the packets that it dropped for a wrong tag, and the Heards that it sent by itself
abbrev pub neighbour_wrong_tags : {C : Type 0} → NeighbourLink C → ℕ
neighbour_wrong_tags (Socket l) = wrong_tags l.link.link
neighbour_wrong_tags (Incoming l) = 0
neighbour_wrong_tags (Outgoing l) = 0

abbrev pub neighbour_heards : {C : Type 0} → NeighbourLink C → ℕ
neighbour_heards (Socket l) = l.link.heards
neighbour_heards (Incoming l) = 0
neighbour_heards (Outgoing l) = 0

-- the bytes of its receive buffer, if they are known
abbrev pub buffer_of : {C : Type 0} → NeighbourLink C → Option ℕ
buffer_of (Socket l) = l.buffer
buffer_of (Incoming l) = None
buffer_of (Outgoing l) = None

-- why it wasn't open at the start, if it wasn't: a folder is
abbrev pub refusal_of : {C : Type 0} → NeighbourLink C → Option EndFault
refusal_of (Socket l) = l.refused
refusal_of (Incoming l) = None
refusal_of (Outgoing l) = None

-- one of the links was open at the start
abbrev pub has_open : List (Option EndFault) → Bool
has_open [] = false
has_open (None ∷ later) = true
has_open (Some fault ∷ later) = has_open later

-- a socket without a key
abbrev pub IsOpen : {C : Type 0} → NeighbourLink C → Type 0
IsOpen (Socket l) = keys_over l.link.link ≡ None
IsOpen (Incoming l) = ⊥
IsOpen (Outgoing l) = ⊥
