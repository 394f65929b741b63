-- A document that has all its keys, with values of their types, as a draft: its numbers aren't checked yet.
use Rattle.std.specs.Prelude.{ℕ, ℤ, pos, List, [], ◌∷◌, codes, Option, Some, None, option_and_then, if◌then◌else◌}
use Rattle.std.specs.Str.{bytes_eq}
use Rattle.toml.specs.Data.{Data, string, integer, as_integer, as_str, as_array, as_table, Items, no_items, item, Members, get_member}
use Rattle.rly_core.specs.declared.limits.TheConstants.{DEFAULT_RESEND}
use Rattle.rly_plan_syntax.specs.declared.draft.ContactDraft.{ContactDraft}
use Rattle.rly_plan_syntax.specs.declared.draft.NeighbourDraft.{NeighbourDraft}
use Rattle.rly_plan_syntax.specs.declared.far_end.FarEndDraft.{FarEndDraft}
use Rattle.rly_plan_syntax.specs.declared.far_end.FarEndDraft.TheVariants.{Folder, Socket}
use Rattle.rly_plan_syntax.specs.declared.route.DestinationDraft.{DestinationDraft}
use Rattle.rly_plan_syntax.specs.declared.route.DestinationDraft.TheVariants.{Rest, Station}
use Rattle.rly_plan_syntax.specs.declared.route.RouteDraft.{RouteDraft}
use Rattle.rly_plan_syntax.specs.Keys.{has_folder}

-- a [[hop]] table
pub record HopText : Type 0 where
  pub neighbour : NeighbourDraft
  pub resend : ℤ
  pub rate : Option ℤ
  pub lead : ℤ
  pub contacts : List ContactDraft

-- a whole plan
pub record PlanText : Type 0 where
  pub station : ℤ
  pub peers : List NeighbourDraft
  pub hops : List HopText
  pub routes : List RouteDraft

infixl 10 ◌>>=◌
abbrev ◌>>=◌ : {A B : Type 0} → Option A → (A → Option B) → Option B
o >>= f = option_and_then f o

-- the whole number, and the text, at a key
abbrev pub integer_at : List ℕ → Members → Option ℤ
integer_at key ms = get_member key ms >>= as_integer

abbrev pub text_at : List ℕ → Members → Option (List ℕ)
text_at key ms = get_member key ms >>= as_str

-- each item of an array, each read by this function
abbrev pub each_item : {A : Type 0} → (Data → Option A) → Items → Option (List A)
each_item read no_items = Some []
each_item read (item value rest) = do
  x ← read value
  xs ← each_item read rest
  Some (x ∷ xs)

-- the items of an array
abbrev pub items_at : {A : Type 0} → (Data → Option A) → Option Data → Option (List A)
items_at read found = found >>= as_array >>= each_item read

-- two whole numbers
abbrev pub pair_of : Items → Option ContactDraft
pair_of (item begin (item end no_items)) = do
  b ← as_integer begin
  e ← as_integer end
  Some (record { begin = b; end = e })
pair_of _ = None

abbrev pub contact_draft_of : Data → Option ContactDraft
contact_draft_of value = as_array value >>= pair_of

-- the text of an optional key: Some None if it is omitted
abbrev pub optional_text : Option Data → Option (Option (List ℕ))
optional_text None = Some None
optional_text (Some value) = do
  text ← as_str value
  Some (Some text)

-- the whole number of an optional key: Some None if it is omitted
abbrev pub optional_number : Option Data → Option (Option ℤ)
optional_number None = Some None
optional_number (Some value) = do
  number ← as_integer value
  Some (Some number)

-- the whole number of an optional key: another one if it is omitted
abbrev pub number_or : ℤ → Option Data → Option ℤ
number_or other None = Some other
number_or other (Some value) = as_integer value

abbrev pub socket_of : Members → Option FarEndDraft
socket_of ms = do
  listen ← text_at (codes "listen") ms
  remote ← text_at (codes "remote") ms
  key ← optional_text (get_member (codes "key") ms)
  Some (Socket (record { addresses = record { listen = listen; remote = remote }; key = key }))

-- a folder; `most` is 1,024 if it is omitted
abbrev pub folder_of : Members → Option FarEndDraft
folder_of ms = do
  path ← text_at (codes "folder") ms
  destination ← optional_number (get_member (codes "destination") ms)
  limit ← optional_number (get_member (codes "limit") ms)
  most ← number_or (pos 1024) (get_member (codes "most") ms)
  Some (Folder (record { path = path; destination = destination; limit = limit; most = most }))

abbrev pub far_end_of : Members → Option FarEndDraft
far_end_of ms = if has_folder ms then folder_of ms else socket_of ms

abbrev pub neighbour_of : Members → Option NeighbourDraft
neighbour_of ms = do
  id ← integer_at (codes "id") ms
  station ← integer_at (codes "station") ms
  far ← far_end_of ms
  Some (record { id = id; station = station; far = far })

abbrev pub peer_draft_of : Data → Option NeighbourDraft
peer_draft_of value = as_table value >>= neighbour_of

abbrev pub hop_in : Members → Option HopText
hop_in ms = do
  neighbour ← neighbour_of ms
  resend ← number_or (pos DEFAULT_RESEND) (get_member (codes "resend") ms)
  rate ← optional_number (get_member (codes "rate") ms)
  lead ← number_or (pos 0) (get_member (codes "lead") ms)
  contacts ← items_at contact_draft_of (get_member (codes "contacts") ms)
  Some (record { neighbour = neighbour; resend = resend; rate = rate; lead = lead; contacts = contacts })

abbrev pub hop_draft_of : Data → Option HopText
hop_draft_of value = as_table value >>= hop_in

-- a route's destination: a station's number, or the text "rest"
abbrev pub destination_draft_of : Data → Option DestinationDraft
destination_draft_of (integer number) = Some (Station number)
destination_draft_of (string text) = if bytes_eq text (codes "rest") then Some Rest else None
destination_draft_of _ = None

abbrev pub destination_in : Members → Option DestinationDraft
destination_in ms = get_member (codes "destination") ms >>= destination_draft_of

abbrev pub route_in : Members → Option RouteDraft
route_in ms = do
  destination ← destination_in ms
  hop ← integer_at (codes "hop") ms
  Some (record { destination = destination; hop = hop })

abbrev pub route_draft_of : Data → Option RouteDraft
route_draft_of value = as_table value >>= route_in

-- `route` (optional)
abbrev pub routes_at : Option Data → Option (List RouteDraft)
routes_at None = Some []
routes_at (Some value) = items_at route_draft_of (Some value)

abbrev pub draft_of : Members → Option PlanText
draft_of ms = do
  station ← integer_at (codes "station") ms
  peers ← items_at peer_draft_of (get_member (codes "peer") ms)
  hops ← items_at hop_draft_of (get_member (codes "hop") ms)
  routes ← routes_at (get_member (codes "route") ms)
  Some (record { station = station; peers = peers; hops = hops; routes = routes })
