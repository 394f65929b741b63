-- The neighbour station of a hop, played by a folder: its answers to packets.
use Rattle.std.specs.Prelude.{◌≡◌, ◌≢◌, ◌⊎◌, ◌≤◌, ◌+◌, ◌&&◌, ◌||◌, ◌==◌, ℕ, Bool, true, false, if◌then◌else◌, List, Option, None, Some, is_some, ⊤}
use Rattle.std.specs.Option.{option_map}
use Rattle.rly_folder.specs.FolderModel.{File, file_with, FolderState}
use Rattle.rly_hop.specs.declared.message.Message.{Message}
use Rattle.rly_hop.specs.declared.message.Message.TheVariants as message
use Rattle.rly_hop.specs.declared.receiving.event.InAction.{InAction}
use Rattle.rly_hop.specs.declared.receiving.event.InAction.TheVariants.{Take, Send}
use Rattle.rly_hop.specs.declared.receiving.event.TakeAnswer.{TakeAnswer}
use Rattle.rly_hop.specs.declared.receiving.event.TakeAnswer.TheVariants as answer
use Rattle.rly_hop.specs.Receiver.{Receiver}
use Rattle.rly_hop.specs.Receiving.{take_reply}
use Rattle.rly_hop.specs.Spelling.{spelling}
use Rattle.rly_link.specs.LinkHistory.{message_in}
use Rattle.rly_link_folder.specs.Outbox.{FindsRoom, Takes, folder_of, greatest_after, greatest_of, most_of, spare_of}
use Rattle.rly_link_folder.specs.OutboxCalls.{FailsToList}
use Rattle.rly_link_folder.specs.declared.hop_neighbour.Replies.{Replies}
use Rattle.rly_link_folder.specs.declared.outbox.Outbox.{Outbox}

-- the model: the stations, the outbox, and the messages that wait to be sent
pub record Neighbour (F : Type 0) : Type 0 where
  pub core : Receiver
  pub outbox : Outbox F
  pub replies : Replies

-- a Data of the hop's station for this one: its number, and the file of its payload and its limit
abbrev pub data_of : Receiver → Option (Message (List ℕ)) → Option (ℕ × File)
data_of r None = None
data_of r (Some (message.Data from to number limit payload)) =
    if (from.0 == r.peer.0) && (to.0 == r.own.0) then Some (number, file_with payload limit) else None
data_of r (Some (message.Custody from to last)) = None
data_of r (Some (message.Refused from to number refusal)) = None
data_of r (Some (message.Heard from to last bits)) = None

-- an answer to the Data of a number, and what it made of the outbox
pub record Answers {F : Type 0} (state : F → FolderState) (number : ℕ) (file : File) (given : TakeAnswer) (old new : Outbox F)
    : Type 0 where
  pub next : number ≡ greatest_of old + 1
      → Takes state (most_of old) (spare_of old) (spare_of new) (greatest_of old) number file given
      (folder_of old) (folder_of new)
  pub other : number ≢ greatest_of old + 1 → given ≡ answer.Already (greatest_of old)
  pub untouched : number ≢ greatest_of old + 1 → new ≡ old
  pub greatest : greatest_of new ≡ greatest_after (greatest_of old) number given
  pub most : most_of new ≡ most_of old

-- the message of an action, if it sends one
abbrev pub reply_of : Option (InAction (List ℕ)) → Option (Message (List ℕ))
reply_of None = None
reply_of (Some (Send message)) = Some message
reply_of (Some (Take number limit payload)) = None

-- the messages that wait, with this one: a later Custody says more than one before it
abbrev pub with_custody : Replies → ℕ → Replies
with_custody replies last = record replies { custody = Some last }

abbrev pub with_refused : Replies → ℕ → ℕ → Replies
with_refused replies number refusal =
    record replies { refused = Some (number, refusal); full = replies.full || (refusal == 6) }

-- the room of the folder is offered: a Custody that nobody asked for
abbrev pub offered : Replies → ℕ → Replies
offered replies last = record replies { custody = Some last; full = false }

abbrev pub with_reply : Replies → Option (Message (List ℕ)) → Replies
with_reply replies None = replies
with_reply replies (Some (message.Data from to number limit payload)) = replies
with_reply replies (Some (message.Custody from to last)) = with_custody replies last
with_reply replies (Some (message.Refused from to number refusal)) = with_refused replies number refusal
with_reply replies (Some (message.Heard from to last bits)) = replies

-- what became of a packet: a Data is answered by the outbox, and anything else changes nothing
abbrev pub Handles : {F : Type 0} → (F → FolderState) → Option (ℕ × File) → Neighbour F → Neighbour F → Type 0
Handles state None old new = new ≡ old
Handles state (Some taken) old new = (given : TakeAnswer) × Answers state taken.0 taken.1 given old.outbox new.outbox
    × (new.core ≡ old.core) × (new.replies ≡ with_reply old.replies (reply_of (take_reply old.core taken.0 given)))

-- the message that is sent next: a refusal, or else a Custody
abbrev pub custody_reply : Receiver → Option ℕ → Option (Message (List ℕ))
custody_reply r None = None
custody_reply r (Some last) = Some (message.Custody r.own r.peer last)

abbrev pub refusal_or : Receiver → Option (ℕ × ℕ) → Option (Message (List ℕ)) → Option (Message (List ℕ))
refusal_or r None other = other
refusal_or r (Some refused) other = Some (message.Refused r.own r.peer refused.0 refused.1)

abbrev pub next_reply : Receiver → Replies → Option (Message (List ℕ))
next_reply r replies = refusal_or r replies.refused (custody_reply r replies.custody)

-- the messages that wait then
abbrev pub after_reply : Replies → Replies
after_reply replies =
    record { custody = if is_some replies.refused then replies.custody else None; refused = None; full = replies.full }

-- these messages wait after a look for room
pub record IsListed {F : Type 0} (replies : Replies) (old new : Neighbour F) : Type 0 where
  pub greatest : greatest_of new.outbox ≡ greatest_of old.outbox
  pub most : most_of new.outbox ≡ most_of old.outbox
  pub rest : new ≡ record old { outbox = new.outbox; replies = replies }

-- if a Data was refused since room was last offered, as the folder was full: once there is room, a Custody of the greatest
-- number waits, whatever was answered in between
abbrev pub OffersIf : Bool → {F : Type 0} → (F → FolderState) → Neighbour F → Neighbour F → Type 0
OffersIf false state old new = new ≡ old
OffersIf true state old new =
    (FindsRoom state old.outbox new.outbox × (1 ≤ spare_of new.outbox)
    × IsListed (offered old.replies (greatest_of old.outbox)) old new)
    ⊎ (FindsRoom state old.outbox new.outbox × (spare_of new.outbox ≡ 0) × IsListed old.replies old new)
    ⊎ (FailsToList state (spare_of old.outbox) (folder_of old.outbox) (folder_of new.outbox)
    × (spare_of new.outbox ≡ 0) × IsListed old.replies old new)

abbrev pub Offers : {F : Type 0} → (F → FolderState) → Neighbour F → Neighbour F → Type 0
Offers state old new = OffersIf old.replies.full state old new

-- a Custody is of numbers whose files are durable
abbrev pub IsDurable : Option ℕ → ℕ → Type 0
IsDurable None greatest = ⊤
IsDurable (Some last) greatest = last ≤ greatest

-- what a link makes of it: a packet comes, or one is wanted
abbrev pub HearsPacket : {F : Type 0} → (F → FolderState) → List ℕ → Neighbour F → Neighbour F → Type 0
HearsPacket state packet old new = Handles state (data_of old.core (message_in (Some packet))) old new

abbrev pub GivesReply : {F : Type 0} → Option (List ℕ) → Neighbour F → Neighbour F → Type 0
GivesReply packet old new = (packet ≡ option_map spelling (next_reply old.core old.replies))
    × (new ≡ record old { replies = after_reply old.replies })
