-- The state of an inbox in contracts, and what became of a file of `new/`.
use Rattle.std.specs.Prelude.{◌≡◌, ◌⊎◌, ◌+◌, ◌≤◌, ◌<◌, ℕ, Bool, List, Option, None, Some}
use Rattle.rly_folder.specs.declared.name.Area.{Area}
use Rattle.rly_folder.specs.FolderModel.{File, FolderState}
use Rattle.rly_folder.specs.Names.{name_of}
use Rattle.rly_folder.specs.declared.name.Area.TheVariants.{New, Sent}
use Rattle.rly_link_folder.specs.InboxCalls.{FailsToJoin, FailsToMove, FailsToRefuse, Joins, Moves, payload_of, Reads, reason_of, Refuses}
use Rattle.rly_link_folder.specs.declared.admission.Admission.{Admission}
use Rattle.rly_folder.specs.FolderCalls.{Faulted, Makes, ReadFile}
use Rattle.rly_link_folder.specs.declared.inbox_calls.Joined.{Joined}
use Rattle.rly_link_folder.specs.declared.inbox_calls.Joined.TheVariants as joined
use Rattle.rly_link_folder.specs.declared.inbox_calls.Judged.{Judged}
use Rattle.rly_link_folder.specs.declared.inbox_calls.Judged.TheVariants as judged
use Rattle.rly_link_folder.specs.declared.inbox.Entry.{Entry}
use Rattle.rly_link_folder.specs.declared.inbox.Entry.TheVariants.{Gone, Numbered, Refused}
use Rattle.rly_link_folder.specs.declared.inbox.Inbox.{Inbox}
use Rattle.rly_link_folder.specs.declared.inbox.NotOpen.{NotOpen}
use Rattle.rly_link_folder.specs.declared.inbox.NotOpen.TheVariants.{Apart, Failed}

abbrev pub inbox_folder : {F : Type 0} → Inbox F → F
inbox_folder inbox = inbox.folder

-- the station's last number
abbrev pub custody_of : {F : Type 0} → Inbox F → ℕ
custody_of inbox = inbox.custody

-- the last number that a file has durably
abbrev pub last_of : {F : Type 0} → Inbox F → ℕ
last_of inbox = inbox.last

abbrev pub routes_of : Admission → List ℕ
routes_of rules = rules.routes.items

-- it takes also what no route leads
abbrev pub takes_rest : Admission → Bool
takes_rest rules = rules.rest

abbrev pub longest_of : Admission → ℕ
longest_of rules = rules.longest

-- the destination of all files, if they have one
abbrev pub destination_of : Admission → Option ℕ
destination_of rules = rules.destination

-- the payload of a file's datagram
abbrev pub payload_in : Admission → List ℕ → List ℕ
payload_in rules file = payload_of (destination_of rules) file

-- the reason for which a station with these rules refuses the datagram of a file for good
abbrev pub reason_in : Admission → List ℕ → Option Area
reason_in rules file = reason_of (routes_of rules) (takes_rest rules) (longest_of rules) (payload_in rules file)

-- a file of `new/` was read, and a station with these rules refuses its datagram for this reason, or for none
pub record Judges {D : Type 0} (state : D → FolderState) (rules : Admission) (place : ℕ) (reason : Option Area) (old new : D)
    : Type 0 where
  pub found : File
  pub reads : Reads state (name_of New place) (longest_of rules + 2) (Some found) old new
  pub is_reason : reason ≡ reason_in rules found.bytes

abbrev pub IsJudged : {D : Type 0} → (D → FolderState) → Admission → ℕ → Judged → D → D → Type 0
IsJudged state rules place judged.Gone old new = Reads state (name_of New place) (longest_of rules + 2) None old new
IsJudged state rules place judged.Fits old new = Judges state rules place None old new
IsJudged state rules place (judged.Refused area) old new = Judges state rules place (Some area) old new

-- the calls for a file of `new/` that the station takes: it gets the next number of `sent/`, unless it is gone by then
pub record Numbers {D : Type 0} (state : D → FolderState) (rules : Admission) (last place : ℕ) (number : Option ℕ)
    (old new : D) : Type 0 where
  pub read : D
  pub judges : Judges state rules place None old read
  pub moves : Moves state (name_of New place) Sent last number read new

-- and for one that it refuses for good
pub record SetsAside {D : Type 0} (state : D → FolderState) (rules : Admission) (place : ℕ) (area : Area)
    (number : Option ℕ) (old new : D) : Type 0 where
  pub read : D
  pub judges : Judges state rules place (Some area) old read
  pub refuses : Refuses state (name_of New place) area number read new

-- the calls for a file of `new/`, and what became of it
abbrev pub Enters : {D : Type 0} → (D → FolderState) → Admission → ℕ → ℕ → Entry → D → D → Type 0
Enters state rules last place (Numbered number) old new = Numbers state rules last place (Some number) old new
Enters state rules last place (Refused area) old new =
    (number : ℕ) × SetsAside state rules place area (Some number) old new
Enters state rules last place Gone old new =
    Reads state (name_of New place) (longest_of rules + 2) None old new
    ⊎ Numbers state rules last place None old new
    ⊎ ((area : Area) × SetsAside state rules place area None old new)

-- a call for a file of `new/` failed
pub data FailsToEnter {D : Type 0} (state : D → FolderState) (rules : Admission) (last place : ℕ) (old new : D) : Type 0 where
  AtRead : Makes state (ReadFile (name_of New place)) Faulted old new → FailsToEnter state rules last place old new
  AtNumber : (read : D) → Judges state rules place None old read → FailsToMove state (name_of New place) Sent last read new
      → FailsToEnter state rules last place old new
  AtRefusal : (read : D) (area : Area) → Judges state rules place (Some area) old read
      → FailsToRefuse state (name_of New place) area read new → FailsToEnter state rules last place old new

-- the last number after it
abbrev pub last_after : ℕ → Entry → ℕ
last_after last (Numbered number) = number
last_after last (Refused area) = last
last_after last Gone = last

-- a number that a file has durably, and that isn't in the station's custody
abbrev pub IsToGive : {F : Type 0} → Inbox F → ℕ → Type 0
IsToGive inbox number = (custody_of inbox < number) × (number ≤ last_of inbox)

-- a number that the station's custody may go on to
abbrev pub IsToRelease : {F : Type 0} → Inbox F → ℕ → Type 0
IsToRelease inbox custody = (custody_of inbox ≤ custody) × (custody ≤ last_of inbox)

-- the numbers of an inbox after an opening: if `sent/` goes on they are the station's and the last one of it, else as before
abbrev pub HasNumbers : {F : Type 0} → ℕ → Joined → Inbox F → Inbox F → Type 0
HasNumbers custody (joined.To last) old new = (custody_of new ≡ custody) × (last_of new ≡ last) × (custody ≤ last)
HasNumbers custody (joined.Apart least greatest) old new =
    (custody_of new ≡ custody_of old) × (last_of new ≡ last_of old)

-- the calls of an opening that didn't open the folder
abbrev pub IsNotOpen : {F : Type 0} → (F → FolderState) → ℕ → NotOpen F → F → Type 0
IsNotOpen state custody (Failed left) folder = FailsToJoin state folder left
IsNotOpen state custody (Apart left) folder =
    (least : ℕ) × (greatest : ℕ) × Joins state custody (joined.Apart least greatest) folder left
