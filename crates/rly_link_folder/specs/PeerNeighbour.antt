-- The neighbour station of a peer, played by a folder: its packets, and what it makes of the station's.
use Rattle.std.specs.Prelude.{◌≡◌, ◌⊎◌, ◌≤◌, ◌<◌, ◌+◌, ◌-◌, ◌&&◌, ◌||◌, ◌==◌, ℕ, Bool, true, false, not, if◌then◌else◌, nat_le, nat_lt, max}
use Rattle.std.specs.Prelude.{List, [], ◌∷◌, ◌++◌, length, Option, None, Some}
use Rattle.std.specs.Option.{option_to_list}
use Rattle.rly_folder.specs.FolderCalls.{Did, Faulted, ListNames, Makes, ReadFile}
use Rattle.rly_folder.specs.FolderModel.{File, FolderState, IsListing}
use Rattle.rly_folder.specs.Names.{name_of}
use Rattle.rly_folder.specs.declared.name.Area.TheVariants.{New, Sent}
use Rattle.rly_hop.specs.Spelling.{spelling}
use Rattle.rly_hop.specs.declared.message.Message.{Message}
use Rattle.rly_hop.specs.declared.message.Message.TheVariants as message
use Rattle.rly_hop.specs.declared.message.StationId.{StationId}
use Rattle.rly_link.specs.LinkHistory.{message_in}
use Rattle.rly_link_folder.specs.Inbox.{Enters, FailsToEnter, custody_of, inbox_folder, last_after, last_of, payload_in}
use Rattle.rly_link_folder.specs.InboxCalls.{FailsToJoin, FailsToRelease, Joins, Reads, Releases, destination_bytes}
use Rattle.rly_link_folder.specs.declared.admission.Admission.{Admission}
use Rattle.rly_link_folder.specs.declared.inbox.Entry.{Entry}
use Rattle.rly_link_folder.specs.declared.inbox.Entry.TheVariants as entry
use Rattle.rly_link_folder.specs.declared.inbox.Inbox.{Inbox}
use Rattle.rly_link_folder.specs.declared.inbox_calls.Joined.TheVariants as joined
use Rattle.rly_link_folder.specs.declared.peer_neighbour.News.{News}
use Rattle.rly_link_folder.specs.declared.peer_neighbour.News.TheVariants as news
use Rattle.rly_link_folder.specs.declared.phase.Phase.{Phase}
use Rattle.rly_link_folder.specs.declared.phase.Phase.TheVariants.{Apart, Asked, Asking, Failed, QuestionRefused, Refused, Serving}

-- the model
pub record Peer (F : Type 0) : Type 0 where
  pub own : StationId
  pub station : StationId
  pub rules : Admission
  -- so many Data may be on their way
  pub window : ℕ
  -- the age limit in the Data of a file that has none of its own, in microseconds; 0 = none
  pub limit : ℕ
  -- the destination in a Data 0
  pub probe : ℕ
  pub inbox : Inbox F
  -- the files of `new/` that were listed and not looked at yet
  pub places : List ℕ
  pub phase : Phase
  -- the last number on its way, the station's if none is
  pub sent : ℕ

-- what is on its way follows the station's number, and has files
pub record IsInOrder (custody sent last : ℕ) : Type 0 where
  pub above : custody ≤ sent
  pub durable : sent ≤ last

abbrev pub is_serving : Phase → Bool
is_serving Serving = true
is_serving Failed = false
is_serving Asking = false
is_serving Asked = false
is_serving (QuestionRefused refusal) = false
is_serving (Apart custody least greatest) = false
is_serving (Refused number refusal) = false

-- the calls of the folder changed no number
pub record HasSameNumbers {F : Type 0} (old new : Inbox F) : Type 0 where
  pub custody : custody_of new ≡ custody_of old
  pub last : last_of new ≡ last_of old

-- a call of the folder failed: it stays so until it is to try again
pub record HasFailed {F : Type 0} (old new : Peer F) : Type 0 where
  pub numbers : HasSameNumbers old.inbox new.inbox
  pub rest : new ≡ record old { inbox = new.inbox; places = new.places; phase = Failed }

-- what a packet says to this station: only what is from the one station to the other counts
abbrev pub news_if : StationId → StationId → StationId → StationId → News → Option News
news_if own station from to said = if (from.0 == station.0) && (to.0 == own.0) then Some said else None

abbrev pub news_of : StationId → StationId → Option (Message (List ℕ)) → Option News
news_of own station None = None
news_of own station (Some (message.Data from to number limit payload)) = None
news_of own station (Some (message.Custody from to last)) = news_if own station from to (news.Custody last)
news_of own station (Some (message.Refused from to number refusal)) =
    news_if own station from to (news.Refused number refusal)
news_of own station (Some (message.Heard from to last bits)) = None

-- a number is on its way
abbrev pub is_on_its_way : {F : Type 0} → Peer F → ℕ → Bool
is_on_its_way peer number = nat_lt (custody_of peer.inbox) number && nat_le number peer.sent

-- a Refused of a number that is on its way ends the giving, and one of 0 the asking
abbrev pub phase_refused : Phase → {F : Type 0} → Peer F → ℕ → ℕ → Phase
phase_refused Serving peer number refusal = if is_on_its_way peer number then Refused number refusal else Serving
phase_refused Asked peer number refusal = if number == 0 then QuestionRefused refusal else Asked
phase_refused Failed peer number refusal = Failed
phase_refused Asking peer number refusal = Asking
phase_refused (QuestionRefused earlier) peer number refusal = QuestionRefused earlier
phase_refused (Apart custody least greatest) peer number refusal = Apart custody least greatest
phase_refused (Refused earlier cause) peer number refusal = Refused earlier cause

-- a Custody of the refused number, or of a later one, ends the refusal
abbrev pub phase_covered : Phase → ℕ → Phase
phase_covered Serving custody = Serving
phase_covered Failed custody = Failed
phase_covered Asking custody = Asking
phase_covered Asked custody = Asked
phase_covered (QuestionRefused refusal) custody = QuestionRefused refusal
phase_covered (Apart station least greatest) custody = Apart station least greatest
phase_covered (Refused number refusal) custody = if nat_le number custody then Serving else Refused number refusal

-- the station's number rises to this one
pub record IsCovered {F : Type 0} (custody : ℕ) (phase : Phase) (old new : Peer F) : Type 0 where
  pub custody_is : custody_of new.inbox ≡ custody
  pub last : last_of new.inbox ≡ last_of old.inbox
  pub rest : new ≡ record old { inbox = new.inbox; phase = phase; sent = max old.sent custody }

-- the files up to the station's new number are removed, unless a call failed
abbrev pub CoversTo : {F : Type 0} → (F → FolderState) → ℕ → Peer F → Peer F → Type 0
CoversTo state custody old new =
    (Releases state custody true (inbox_folder old.inbox) (inbox_folder new.inbox)
    × IsCovered custody (phase_covered old.phase custody) old new)
    ⊎ (FailsToRelease state custody (inbox_folder old.inbox) (inbox_folder new.inbox) × IsCovered custody Failed old new)

-- a Custody goes on from the station's number to one that a file has
abbrev pub is_further : {F : Type 0} → Peer F → ℕ → Bool
is_further peer custody = nat_lt (custody_of peer.inbox) custody && nat_le custody (last_of peer.inbox)

-- any other Custody changes nothing
abbrev pub CoversIf : Bool → {F : Type 0} → (F → FolderState) → ℕ → Peer F → Peer F → Type 0
CoversIf true state custody old new = CoversTo state custody old new
CoversIf false state custody old new = new ≡ old

-- the folder is open to the station's number, and nothing is on its way or was listed
pub record IsOpen {F : Type 0} (state : F → FolderState) (custody : ℕ) (old new : Peer F) : Type 0 where
  pub joins : Joins state custody (joined.To (last_of new.inbox)) (inbox_folder old.inbox) (inbox_folder new.inbox)
  pub custody_is : custody_of new.inbox ≡ custody
  pub rest : new ≡ record old { inbox = new.inbox; places = []; phase = Serving; sent = custody }

-- `sent/` doesn't go on from the station's number
pub record IsApart {F : Type 0} (state : F → FolderState) (custody : ℕ) (old new : Peer F) : Type 0 where
  pub least : ℕ
  pub greatest : ℕ
  pub joins : Joins state custody (joined.Apart least greatest) (inbox_folder old.inbox) (inbox_folder new.inbox)
  pub numbers : HasSameNumbers old.inbox new.inbox
  pub rest : new ≡ record old { inbox = new.inbox; phase = Apart custody least greatest }

-- the answer to a Data 0: the folder opens to the station's number, and the files up to it are removed
abbrev pub Opens : {F : Type 0} → (F → FolderState) → ℕ → Peer F → Peer F → Type 0
Opens {F} state custody old new =
    ((opened : Peer F) × IsOpen state custody old opened × CoversTo state custody opened new)
    ⊎ IsApart state custody old new
    ⊎ (FailsToJoin state (inbox_folder old.inbox) (inbox_folder new.inbox) × HasFailed old new)

-- what became of a Custody
abbrev pub HearsCustody : Phase → {F : Type 0} → (F → FolderState) → ℕ → Peer F → Peer F → Type 0
HearsCustody Asked state custody old new = Opens state custody old new
HearsCustody Serving state custody old new = CoversIf (is_further old custody) state custody old new
HearsCustody (Refused number refusal) state custody old new = CoversIf (is_further old custody) state custody old new
HearsCustody Failed state custody old new = new ≡ old
HearsCustody Asking state custody old new = new ≡ old
HearsCustody (QuestionRefused refusal) state custody old new = new ≡ old
HearsCustody (Apart station least greatest) state custody old new = new ≡ old

-- what became of a packet
abbrev pub Hears : {F : Type 0} → (F → FolderState) → Option News → Peer F → Peer F → Type 0
Hears state None old new = new ≡ old
Hears state (Some (news.Custody custody)) old new = HearsCustody old.phase state custody old new
Hears state (Some (news.Refused number refusal)) old new =
    new ≡ record old { phase = phase_refused old.phase old number refusal }

-- a Data of this station
abbrev pub data_with : {F : Type 0} → Peer F → ℕ → ℕ → List ℕ → Message (List ℕ)
data_with peer number limit payload = message.Data peer.own peer.station number limit payload

-- Data 0 asks for the station's last number
abbrev pub question : {F : Type 0} → Peer F → Message (List ℕ)
question peer = data_with peer 0 0 (destination_bytes peer.probe)

-- the payload of a file with these bytes
abbrev pub payload_with : {F : Type 0} → Peer F → List ℕ → List ℕ
payload_with peer bytes = payload_in peer.rules bytes

-- the age limit of a file's Data: the file's own, or that of all files if it has none
abbrev pub limit_with : {F : Type 0} → Peer F → ℕ → ℕ
limit_with peer limit = if limit == 0 then peer.limit else limit

-- the Data of a file under a number
abbrev pub file_data : {F : Type 0} → Peer F → ℕ → File → Message (List ℕ)
file_data peer number file = data_with peer number (limit_with peer file.limit) (payload_with peer file.bytes)

-- one more may be on its way
abbrev pub has_window : {F : Type 0} → Peer F → Bool
has_window peer = nat_lt (peer.sent - custody_of peer.inbox) peer.window

-- a file that was listed is looked at next
abbrev pub has_more : {F : Type 0} → Peer F → Bool
has_more peer = is_serving peer.phase && has_window peer && nat_lt 0 (length peer.places)

-- after the file of the next number was read: a payload that no message holds is as one that the station refuses, and a
-- file that is gone as a call that failed
abbrev pub packet_read : {F : Type 0} → Peer F → Option File → Option (List ℕ)
packet_read peer None = None
packet_read peer (Some file) =
    if nat_lt 8192 (length (payload_with peer file.bytes)) then None
    else Some (spelling (file_data peer (peer.sent + 1) file))

abbrev pub phase_read : {F : Type 0} → Peer F → Option File → Phase
phase_read peer None = Failed
phase_read peer (Some file) =
    if nat_lt 8192 (length (payload_with peer file.bytes)) then Refused (peer.sent + 1) 5 else peer.phase

abbrev pub sent_read : {F : Type 0} → Peer F → Option File → ℕ
sent_read peer None = peer.sent
sent_read peer (Some file) = if nat_lt 8192 (length (payload_with peer file.bytes)) then peer.sent else peer.sent + 1

-- the Data of the next number, with its whole file, which is durable under that number and isn't in the station's custody
pub record GivesFile {F : Type 0} (state : F → FolderState) (packet : Option (List ℕ)) (old new : Peer F) : Type 0 where
  pub above : custody_of old.inbox < old.sent + 1
  pub durable : old.sent + 1 ≤ last_of old.inbox
  pub found : Option File
  pub reads : Reads state (name_of Sent (old.sent + 1)) 8193 found (inbox_folder old.inbox) (inbox_folder new.inbox)
  pub packet_is : packet ≡ packet_read old found
  pub numbers : HasSameNumbers old.inbox new.inbox
  pub rest : new ≡ record old { inbox = new.inbox; phase = phase_read old found; sent = sent_read old found }

-- it couldn't be read
pub record FailsToGive {F : Type 0} (state : F → FolderState) (packet : Option (List ℕ)) (old new : Peer F) : Type 0 where
  pub makes : Makes state (ReadFile (name_of Sent (old.sent + 1))) Faulted (inbox_folder old.inbox) (inbox_folder new.inbox)
  pub none : packet ≡ None
  pub failed : HasFailed old new

abbrev pub GivesNumber : {F : Type 0} → (F → FolderState) → Option (List ℕ) → Peer F → Peer F → Type 0
GivesNumber state packet old new = GivesFile state packet old new ⊎ FailsToGive state packet old new

-- `new/` was listed: this is its first file, and the others wait
pub record Lists {F : Type 0} (state : F → FolderState) (place : Option ℕ) (old new : Peer F) : Type 0 where
  pub makes : Makes state (ListNames New) Did (inbox_folder old.inbox) (inbox_folder new.inbox)
  pub listing : (state (inbox_folder old.inbox)).honest
      → IsListing New (state (inbox_folder new.inbox)).seen.files (option_to_list place ++ new.places)
  pub numbers : HasSameNumbers old.inbox new.inbox
  pub rest : new ≡ record old { inbox = new.inbox; places = new.places }

-- the next file of `new/`, by the last listing, or else by a new one
abbrev pub FindsIn : List ℕ → {F : Type 0} → (F → FolderState) → Option ℕ → Peer F → Peer F → Type 0
FindsIn [] state place old new = Lists state place old new
FindsIn (first ∷ others) state place old new = (place ≡ Some first) × (new ≡ record old { places = others })

-- it couldn't be listed
abbrev pub FailsToFind : List ℕ → {F : Type 0} → (F → FolderState) → Peer F → Peer F → Type 0
FailsToFind [] state old new = Makes state (ListNames New) Faulted (inbox_folder old.inbox) (inbox_folder new.inbox)
FailsToFind (first ∷ others) state old new = ⊥

abbrev pub number_in : Entry → Option ℕ
number_in (entry.Numbered number) = Some number
number_in (entry.Refused area) = None
number_in entry.Gone = None

-- a file of `new/` got the next number, or went aside, or was gone
pub record EntersPlace {F : Type 0} (state : F → FolderState) (place : ℕ) (number : Option ℕ) (old new : Peer F)
    : Type 0 where
  pub became : Entry
  pub enters : Enters state old.rules (last_of old.inbox) place became (inbox_folder old.inbox) (inbox_folder new.inbox)
  pub number_is : number ≡ number_in became
  pub last : last_of new.inbox ≡ last_after (last_of old.inbox) became
  pub custody : custody_of new.inbox ≡ custody_of old.inbox
  pub rest : new ≡ record old { inbox = new.inbox }

-- a call for it failed
pub record FailsAtPlace {F : Type 0} (state : F → FolderState) (place : ℕ) (old new : Peer F) : Type 0 where
  pub calls : FailsToEnter state old.rules (last_of old.inbox) place (inbox_folder old.inbox) (inbox_folder new.inbox)
  pub failed : HasFailed old new

-- the next file of `new/`, if there is one, and its number, if it got one
abbrev pub EntersNext : {F : Type 0} → (F → FolderState) → Option ℕ → Peer F → Peer F → Type 0
EntersNext {F} state number old new =
    ((found : Peer F) × (place : ℕ) × FindsIn old.places state (Some place) old found
    × (EntersPlace state place number found new ⊎ ((number ≡ None) × FailsAtPlace state place found new)))
    ⊎ ((number ≡ None) × FindsIn old.places state None old new)
    ⊎ ((number ≡ None) × FailsToFind old.places state old new × HasFailed old new)

-- if all that has a number is on its way, the next file gets one and is given
abbrev pub EntersAndGives : {F : Type 0} → (F → FolderState) → Option (List ℕ) → Peer F → Peer F → Type 0
EntersAndGives {F} state packet old new =
    ((number : ℕ) × (entered : Peer F) × EntersNext state (Some number) old entered
    × GivesNumber state packet entered new)
    ⊎ ((packet ≡ None) × EntersNext state None old new)

abbrev pub GivesIf : Bool → {F : Type 0} → (F → FolderState) → Option (List ℕ) → Peer F → Peer F → Type 0
GivesIf true state packet old new = GivesNumber state packet old new
GivesIf false state packet old new = EntersAndGives state packet old new

-- nothing is given beyond the window
abbrev pub ServesIf : Bool → {F : Type 0} → (F → FolderState) → Option (List ℕ) → Peer F → Peer F → Type 0
ServesIf true state packet old new = GivesIf (nat_lt old.sent (last_of old.inbox)) state packet old new
ServesIf false state packet old new = (packet ≡ None) × (new ≡ old)

-- the next packet for the station, if there is one: Data 0, or the Data of the next number
abbrev pub Gives : Phase → {F : Type 0} → (F → FolderState) → Option (List ℕ) → Peer F → Peer F → Type 0
Gives Asking state packet old new = (packet ≡ Some (spelling (question old))) × (new ≡ record old { phase = Asked })
Gives Serving state packet old new = ServesIf (has_window old) state packet old new
Gives Failed state packet old new = (packet ≡ None) × (new ≡ old)
Gives Asked state packet old new = (packet ≡ None) × (new ≡ old)
Gives (QuestionRefused refusal) state packet old new = (packet ≡ None) × (new ≡ old)
Gives (Apart custody least greatest) state packet old new = (packet ≡ None) × (new ≡ old)
Gives (Refused number refusal) state packet old new = (packet ≡ None) × (new ≡ old)

-- these refusals last until the plan changes: no route, a moment out of range, too long
abbrev pub is_for_good : ℕ → Bool
is_for_good refusal = (refusal == 2) || (refusal == 3) || (refusal == 5)

-- what isn't in the station's custody is given again, from its number on
abbrev pub from_custody : {F : Type 0} → Peer F → Peer F
from_custody peer = record peer { phase = Serving; sent = custody_of peer.inbox }

abbrev pub tried_again : Phase → {F : Type 0} → Peer F → Peer F
tried_again Failed peer = record peer { phase = Asking }
tried_again Asking peer = peer
tried_again Asked peer = record peer { phase = Asking }
tried_again (QuestionRefused refusal) peer = if is_for_good refusal then peer else record peer { phase = Asking }
tried_again Serving peer = from_custody peer
tried_again (Apart custody least greatest) peer = peer
tried_again (Refused number refusal) peer = if is_for_good refusal then peer else from_custody peer

-- whether that changes anything: a call failed, there is no answer, or something isn't in custody that may be given again
abbrev pub pending_in : Phase → {F : Type 0} → Peer F → Bool
pending_in Failed peer = true
pending_in Asking peer = false
pending_in Asked peer = true
pending_in (QuestionRefused refusal) peer = not (is_for_good refusal)
pending_in Serving peer = nat_lt (custody_of peer.inbox) peer.sent
pending_in (Apart custody least greatest) peer = false
pending_in (Refused number refusal) peer = not (is_for_good refusal)

abbrev pub is_pending : {F : Type 0} → Peer F → Bool
is_pending peer = pending_in peer.phase peer

-- what a link makes of it: a packet comes, one is wanted, another program changed the folder, nothing came for a while
abbrev pub HearsPacket : {F : Type 0} → (F → FolderState) → List ℕ → Peer F → Peer F → Type 0
HearsPacket state packet old new = Hears state (news_of old.own old.station (message_in (Some packet))) old new

abbrev pub GivesPacket : {F : Type 0} → (F → FolderState) → Option (List ℕ) → Peer F → Peer F → Type 0
GivesPacket state packet old new = Gives old.phase state packet old new

abbrev pub IsSame : {F : Type 0} → Peer F → Peer F → Type 0
IsSame old new = new ≡ old

abbrev pub IsTriedAgain : {F : Type 0} → Peer F → Peer F → Type 0
IsTriedAgain old new = new ≡ tried_again old.phase old
