-- The far end of a neighbour's link: a station at a socket, or a folder.
use Rattle.std.specs.Prelude.{ℕ, List, Option, Some, None, option_map}
use Rattle.rly_plan_syntax.specs.Endpoints.{Endpoints}
use Rattle.rly_plan_syntax.specs.declared.far_end.FarEndDraft.{FarEndDraft}
use Rattle.rly_plan_syntax.specs.declared.far_end.FarEndDraft.TheVariants as draft
use Rattle.rly_plan_syntax.specs.declared.far_end.FolderDraft.{FolderDraft}
use Rattle.rly_plan.specs.Numbers.{number_16, number_32}
use Rattle.rly_plan.specs.declared.far_end.FarEnd.{FarEnd}
use Rattle.rly_plan.specs.declared.far_end.FarEnd.TheVariants.{Folder, Socket}
use Rattle.rly_plan.specs.declared.far_end.FolderEnd.{FolderEnd}

-- the addresses and the key file of a socket, and the folder
abbrev pub addresses_at : FarEnd → Option Endpoints
addresses_at (Socket socket) = Some socket.addresses
addresses_at (Folder folder) = None

abbrev pub key_at : FarEnd → Option (List ℕ)
key_at (Socket socket) = socket.key
key_at (Folder folder) = None

abbrev pub folder_at : FarEnd → Option FolderEnd
folder_at (Socket socket) = None
folder_at (Folder folder) = Some folder

-- the far end of a draft
abbrev pub folder_from : FolderDraft → FolderEnd
folder_from f = record {
  path = f.path;
  destination = option_map number_16 f.destination;
  limit = option_map number_32 f.limit;
  most = number_32 f.most;
}

abbrev pub far_end_from : FarEndDraft → FarEnd
far_end_from (draft.Socket socket) = Socket socket
far_end_from (draft.Folder folder) = Folder (folder_from folder)
