-- The Data that a peer's neighbour gives.
use Rattle.std.specs.Prelude.{◌≡◌, ◌≤◌, ◌<◌, ◌+◌, ℕ, List, Some, length}
use Rattle.rly_folder.specs.FolderModel.{File, FolderState}
use Rattle.rly_folder.specs.Names.{name_of}
use Rattle.rly_folder.specs.declared.name.Area.TheVariants.{Sent}
use Rattle.rly_hop.specs.Spelling.{spelling}
use Rattle.rly_link_folder.specs.Inbox.{custody_of, inbox_folder, last_of}
use Rattle.rly_link_folder.specs.InboxCalls.{Reads}
use Rattle.rly_link_folder.specs.PeerNeighbour.{Peer, file_data, payload_with}

-- a packet that is the Data of the next number: its file is durable under that number, the number isn't in the station's
-- custody and not further from it than the window. Its payload is that whole file, behind the destination of all files if
-- there is one, and its limit is the file's own, or that of all files if it has none
pub record IsNumbered {F : Type 0} (state : F → FolderState) (packet : List ℕ) (old new : Peer F) : Type 0 where
  pub file : File
  pub spelled : packet ≡ spelling (file_data old (old.sent + 1) file)
  pub above : custody_of new.inbox < old.sent + 1
  pub durable : old.sent + 1 ≤ last_of new.inbox
  pub within : old.sent + 1 ≤ custody_of old.inbox + old.window
  pub before : F
  pub reads : Reads state (name_of Sent (old.sent + 1)) 8193 (Some file) before (inbox_folder new.inbox)
  pub whole : length (payload_with old file.bytes) ≤ 8192
  pub next : new.sent ≡ old.sent + 1
