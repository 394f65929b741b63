-- The ghost history of a link with a reorder buffer, and the Heards that it sends (docs/reference/DEFINITIONS.md, "What comes
-- ahead of a gap").
use Rattle.std.specs.Prelude.{◌≡◌, ℕ, ◌+◌, ◌-◌, ◌^◌, min, List, [], ◌∷◌, ◌++◌, Bool, ◌&&◌, is_some}
use Rattle.std.specs.Prelude.{if◌then◌else◌, Option, Some, None}
use Rattle.rly_link_reorder.specs.ReorderBuffer.{ReorderView, BufferedData, reorder_after_custody, after_data}
use Rattle.rly_link_reorder.specs.ReorderBuffer.{after_giving, after_heard, after_refusal, due_data, heard_bits}
use Rattle.rly_link_reorder.specs.ReorderBuffer.{is_heard_due}
use Rattle.rly_hop.specs.declared.message.StationId.{StationId}
use Rattle.rly_hop.specs.FixedBytes.{custody_number, data_number, heard_packet, refused_number}
use Rattle.rly_link.specs.LinkHistory.{Hearing, TellsMore, new_hearing, message_in}
use Rattle.rly_link.specs.declared.link.Sleep.{Sleep}

-- the link below, this station and the peer, the reorder buffer, the packets delivered, those that were passed to it
-- to be sent, and the count of Heards that it sent
pub record ReorderedView (L : Type 0) : Type 0 where
  pub link : L
  pub own : StationId
  pub peer : StationId
  pub early : ReorderView
  pub given : List Hearing
  pub passed : List (List ℕ)
  pub heards : ℕ

-- a link with a reorder buffer, before its first call
abbrev pub new_reordered : {L : Type 0} → L → StationId → StationId → ReorderView → ReorderedView L
new_reordered link own peer early =
    record { link = link; own = own; peer = peer; early = early; given = []; passed = []; heards = 0 }

-- It received the packets that it delivered, now or again, and sent those that were passed to it: the Heards that the
-- link below sends are its own. The count of failed calls is that of the link below.
abbrev pub reordered_heard : {L : Type 0} → ReorderedView L → Option (List Hearing)
reordered_heard a = Some a.given

abbrev pub reordered_sent : {L : Type 0} → ReorderedView L → Option (List (List ℕ))
reordered_sent a = Some a.passed

abbrev pub reordered_failures : {L : Type 0} → (L → ℕ) → ReorderedView L → ℕ
reordered_failures failed a = failed a.link

-- the reorder buffer after a packet with the Data of this number, if it has one
abbrev pub after_data_if : ReorderView → List ℕ → Option ℕ → ReorderView
after_data_if e packet None = e
after_data_if e packet (Some number) = after_data e number packet

-- the reorder buffer after a receive of the link below
abbrev pub after_hearing : StationId → StationId → ReorderView → Option (List ℕ) → ReorderView
after_hearing own peer e None = e
after_hearing own peer e (Some packet) = after_data_if e packet (data_number peer own (message_in (Some packet)))

-- the reorder buffer after a receive, into a buffer of this many bytes: one that was due, or one received below
abbrev pub after_receive : {L : Type 0} → ReorderedView L → ℕ → Option (List ℕ) → ReorderView
after_receive a room given =
    if is_some (due_data a.early room) then after_giving a.early room else after_hearing a.own a.peer a.early given

-- the reorder buffer after custody was sent, if it was
abbrev pub after_custody_if : ReorderView → Option ℕ → ReorderView
after_custody_if e None = e
after_custody_if e (Some last) = reorder_after_custody e last

-- the reorder buffer after a refusal was sent, if it was
abbrev pub after_refusal_if : ReorderView → Option ℕ → ReorderView
after_refusal_if e None = e
after_refusal_if e (Some number) = after_refusal e number

-- the reorder buffer after a packet was passed on
abbrev pub after_passing : {L : Type 0} → ReorderedView L → List ℕ → ReorderView
after_passing a packet =
    after_refusal_if (after_custody_if a.early (custody_number a.own a.peer (message_in (Some packet))))
    (refused_number a.own a.peer (message_in (Some packet)))

-- whether a Heard is due after a packet was passed on: only after a custody
abbrev pub says_heard : {L : Type 0} → ReorderedView L → List ℕ → Bool
says_heard a packet =
    is_some (custody_number a.own a.peer (message_in (Some packet))) && is_heard_due (after_passing a packet)

-- the reorder buffer after a packet was passed on, and the Heard after it
abbrev pub after_sending : {L : Type 0} → ReorderedView L → List ℕ → ReorderView
after_sending a packet =
    if is_some (custody_number a.own a.peer (message_in (Some packet))) then after_heard (after_passing a packet)
    else after_passing a packet

-- the packets of an option
abbrev pub packet_list : Option (List ℕ) → List (List ℕ)
packet_list None = []
packet_list (Some packet) = packet ∷ []

-- the Heard after a packet, if one is due: the number that custody covers, and a bit for each of the 64 after it
abbrev pub heards_after : {L : Type 0} → ReorderedView L → List ℕ → List (List ℕ)
heards_after a packet =
    if says_heard a packet
    then packet_list (heard_packet a.own a.peer (after_passing a packet).covered (heard_bits (after_passing a packet)))
    else []

-- the count of Heards after these more: it stops at its last value of 64 bits
abbrev pub heard_count : ℕ → List (List ℕ) → ℕ
heard_count count [] = count
heard_count count (heard ∷ heards) = min (heard_count count heards + 1) (2 ^ 64 - 1)

-- a packet was passed to the link below, and after it these Heards, which were counted
abbrev pub HasSent : {L : Type 0} → (L → Option (List (List ℕ))) → ReorderedView L → ReorderedView L → List ℕ
    → List (List ℕ) → Type 0
HasSent sent old new packet heards =
    TellsMore (sent old.link) (sent new.link) (packet ∷ heards) × (new.heards ≡ heard_count old.heards heards)

-- the packets delivered, with the stored packet that was due, if any
abbrev pub given_again : Sleep → Option BufferedData → List Hearing → List Hearing
given_again sleep None given = given
given_again sleep (Some k) given = given ++ new_hearing sleep (Some k.packet) ∷ []
