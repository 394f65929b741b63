-- The text of a plan at a moment (docs/COMMANDS.md, "rly plan"): the moment and the station, and then each peer,
-- each hop and each route.
use Rattle.std.specs.Prelude.{ℕ, ◌==◌, Bool, true, false, List, [], ◌∷◌, ◌++◌, codes, length, Option, Some, None}
use Rattle.std.specs.Prelude.{if◌then◌else◌}
use Rattle.std.specs.Fmt.{decimal}
use Rattle.std.specs.List.{enumerate_from, flat_map}
use Rattle.rly_core.specs.declared.limits.TheConstants.{MOMENT_LIMIT}
use Rattle.rly_plan.specs.Changes.{change_after}
use Rattle.rly_plan.specs.ContactPlan.{ContactPlan}
use Rattle.rly_plan.specs.LinkClock.{lies_in_any, open_moments}
use Rattle.rly_plan.specs.declared.far_end.FarEnd.{FarEnd}
use Rattle.rly_plan.specs.declared.far_end.FarEnd.TheVariants.{Folder, Socket}
use Rattle.rly_plan.specs.declared.far_end.FolderEnd.{FolderEnd}
use Rattle.rly_plan.specs.declared.neighbour.Neighbour.{Neighbour}
use Rattle.rly_plan.specs.declared.plan.NextHop.{NextHop}
use Rattle.rly_plan.specs.declared.route.Destination.{Destination}
use Rattle.rly_plan.specs.declared.route.Destination.TheVariants.{Rest, Station}
use Rattle.rly_plan.specs.declared.route.Route.{Route}
use Rattle.rly_plan_show.specs.Utc.{utc_text}
use Rattle.rly_plan_syntax.specs.declared.far_end.SocketEnd.{SocketEnd}

-- a moment, as a date and as microseconds
abbrev pub moment_text : ℕ → List ℕ
moment_text moment = codes " " ++ utc_text moment ++ codes " " ++ decimal moment

-- at DATE MOMENT
abbrev pub at_line : ℕ → List ℕ
at_line moment = codes "at" ++ moment_text moment ++ 10 ∷ []

-- station S
abbrev pub station_line : ℕ → List ℕ
station_line station = codes "station " ++ decimal station ++ 10 ∷ []

-- the file of a link's key, if it has one
abbrev pub key_text : Option (List ℕ) → List ℕ
key_text None = []
key_text (Some path) = codes " key " ++ path

-- listen ADDRESS remote ADDRESS, and the key
abbrev pub socket_text : SocketEnd → List ℕ
socket_text s =
    codes " listen " ++ s.addresses.listen ++ codes " remote " ++ s.addresses.remote ++ key_text s.key

-- the destination of a folder's files, and their age limit in milliseconds, if it has them
abbrev pub destination_text : Option ℕ → List ℕ
destination_text None = []
destination_text (Some destination) = codes " destination " ++ decimal destination

abbrev pub limit_text : Option ℕ → List ℕ
limit_text None = []
limit_text (Some limit) = codes " limit " ++ decimal limit

-- folder PATH destination D limit L
abbrev pub folder_text : FolderEnd → List ℕ
folder_text f = codes " folder " ++ f.path ++ destination_text f.destination ++ limit_text f.limit

abbrev pub far_text : FarEnd → List ℕ
far_text (Socket socket) = socket_text socket
far_text (Folder folder) = folder_text folder

-- station S, and the far end of the link
abbrev pub neighbour_text : Neighbour → List ℕ
neighbour_text n = codes " station " ++ decimal n.station ++ far_text n.far ++ 10 ∷ []

-- peer P, and the neighbour
abbrev pub peer_line : ℕ × Neighbour → List ℕ
peer_line (id, peer) = codes "peer " ++ decimal id ++ neighbour_text peer

-- the name of a link's state
abbrev pub state_text : Bool → List ℕ
state_text true = codes "open"
state_text false = codes "closed"

-- the end of the state, if it has one
abbrev pub until_text : Option ℕ → List ℕ
until_text None = []
until_text (Some change) = codes " until" ++ moment_text change

-- hop H, and the neighbour
abbrev pub hop_line : ℕ × NextHop → List ℕ
hop_line (id, hop) = codes "hop " ++ decimal id ++ neighbour_text hop.neighbour

-- the rate limit in bytes a second, if there is one
abbrev pub rate_text : Option ℕ → List ℕ
rate_text None = []
rate_text (Some rate) = codes " rate " ++ decimal rate

-- the seconds by which openings are announced, unless it is 0
abbrev pub lead_text : ℕ → List ℕ
lead_text lead = if lead == 0 then [] else codes " lead " ++ decimal lead

-- the number of files at which a folder is full
abbrev pub most_text : FarEnd → List ℕ
most_text (Socket socket) = []
most_text (Folder folder) = codes " most " ++ decimal folder.most

-- all three, where there are any
abbrev pub bounds_text : NextHop → List ℕ
bounds_text hop = rate_text hop.rate ++ lead_text hop.lead ++ most_text hop.neighbour.far

-- hop H resend R rate B lead L most M contacts N open T: milliseconds, bytes a second, seconds, files, the number of
-- contacts, and the microseconds in all of them
abbrev pub times_line : ℕ × NextHop → List ℕ
times_line (id, hop) =
    codes "hop " ++ decimal id ++ codes " resend " ++ decimal hop.resend ++ bounds_text hop
    ++ codes " contacts " ++ decimal (length hop.contacts)
    ++ codes " open " ++ decimal (open_moments hop.contacts MOMENT_LIMIT) ++ 10 ∷ []

-- hop H contact open until DATE MOMENT
abbrev pub state_line : ℕ → ℕ × NextHop → List ℕ
state_line moment (id, hop) =
    codes "hop " ++ decimal id ++ codes " contact " ++ state_text (lies_in_any hop.contacts moment)
    ++ until_text (change_after hop.contacts moment) ++ 10 ∷ []

-- the lines of a hop
abbrev pub hop_lines : ℕ → ℕ × NextHop → List ℕ
hop_lines moment numbered = hop_line numbered ++ times_line numbered ++ state_line moment numbered

-- route D hop H, or route rest hop H
abbrev pub route_name : Destination → List ℕ
route_name (Station station) = decimal station
route_name Rest = codes "rest"

abbrev pub route_line : Route → List ℕ
route_line route = codes "route " ++ route_name route.destination ++ codes " hop " ++ decimal route.hop.0 ++ 10 ∷ []

-- the peers, hops and routes, each peer and hop with its id
abbrev pub peers_text : List Neighbour → List ℕ
peers_text peers = flat_map peer_line (enumerate_from 1 peers)

abbrev pub hops_text : ℕ → List NextHop → List ℕ
hops_text moment hops = flat_map (hop_lines moment) (enumerate_from 1 hops)

abbrev pub routes_text : List Route → List ℕ
routes_text routes = flat_map route_line routes

-- the whole text
abbrev pub text_for_plan : ContactPlan → ℕ → List ℕ
text_for_plan plan moment =
    at_line moment ++ station_line plan.station ++ peers_text plan.peers ++ hops_text moment plan.hops
    ++ routes_text plan.routes
