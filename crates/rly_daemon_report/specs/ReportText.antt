-- The text of a report (docs/reference/DEFINITIONS.md, "Reports"): the moment, then each hop, each peer and the device.
use Rattle.std.specs.Prelude.{ℕ, ◌-◌, ◌/◌, Bool, true, false, List, [], ◌∷◌, ◌++◌}
use Rattle.std.specs.Prelude.{codes, Option, Some, None, Result, Ok, Err}
use Rattle.std.specs.Fmt.{decimal}
use Rattle.std.specs.List.{flat_map}
use Rattle.rly_core.specs.Refusals.{refusal_line}
use Rattle.rly_core.specs.declared.ids.HopId.{HopId}
use Rattle.rly_core.specs.declared.refusal.Refusal.{Refusal}
use Rattle.rly_machine.specs.declared.reply.HopStatus.{HopStatus}
use Rattle.rly_daemon_report.specs.declared.link_counts.LinkReport.{LinkReport}
use Rattle.rly_daemon_report.specs.declared.report.DeviceReport.{DeviceReport}
use Rattle.rly_daemon_report.specs.declared.report.HopReport.{HopReport}
use Rattle.rly_daemon_report.specs.declared.report.PeerReport.{PeerReport}
use Rattle.rly_daemon_reply.specs.Replies.{status_text}

-- report MOMENT
abbrev pub moment_line : ℕ → List ℕ
moment_line moment = codes "report " ++ decimal moment ++ 10 ∷ []

-- the answer to a hop's Show: its numbers, as `show` prints them, or the refusal
abbrev pub answer_text : HopId → Result HopStatus Refusal → List ℕ
answer_text hop (Ok status) = status_text hop status
answer_text hop (Err refusal) = codes "hop " ++ decimal hop.0 ++ codes " " ++ refusal_line refusal

-- the name of a contact's state
abbrev pub state_text : Bool → List ℕ
state_text true = codes "open"
state_text false = codes "closed"

-- the end of the state, if it has one
abbrev pub until_text : Option ℕ → List ℕ
until_text None = []
until_text (Some change) = codes " until " ++ decimal change

-- heard N custody N refused N malformed N
unfoldable pub packets_text : LinkReport → List ℕ
packets_text l =
    codes " heard " ++ decimal l.heard
    ++ codes " custody " ++ decimal l.custody
    ++ codes " refused " ++ decimal l.refused
    ++ codes " malformed " ++ decimal l.malformed

-- wrong N
abbrev pub wrong_text : LinkReport → List ℕ
wrong_text l = codes " wrong " ++ decimal l.wrong

-- repeats N heards N
abbrev pub repeats_text : LinkReport → List ℕ
repeats_text l = codes " repeats " ++ decimal l.repeats ++ codes " heards " ++ decimal l.heards

-- the whole seconds since a neighbour was last received from, if it was
abbrev pub last_text : ℕ → Option ℕ → List ℕ
last_text moment None = []
last_text moment (Some heard) = codes " last " ++ decimal ((moment - heard) / 1000000)

-- hop H .. contact open until MOMENT wrong N heard N .. last SECONDS
abbrev pub hop_line : ℕ → HopReport → List ℕ
hop_line moment h =
    answer_text h.hop h.answer ++ codes " contact " ++ state_text h.is_open ++ until_text h.change
    ++ wrong_text h.link ++ packets_text h.link ++ repeats_text h.link ++ last_text moment h.link.last ++ 10 ∷ []

-- peer P heard N .. wrong N .. last SECONDS
abbrev pub peer_line : ℕ → PeerReport → List ℕ
peer_line moment p =
    codes "peer " ++ decimal p.peer.0 ++ packets_text p.link ++ wrong_text p.link ++ repeats_text p.link
    ++ last_text moment p.link.last ++ 10 ∷ []

-- device seq N rounds N segments N
abbrev pub device_line : DeviceReport → List ℕ
device_line d =
    codes "device seq " ++ decimal d.seq ++ codes " rounds " ++ decimal d.rounds
    ++ codes " segments " ++ decimal d.segments ++ 10 ∷ []

-- the hops and the peers
abbrev pub hops_text : ℕ → List HopReport → List ℕ
hops_text moment hops = flat_map (hop_line moment) hops

abbrev pub peers_text : ℕ → List PeerReport → List ℕ
peers_text moment peers = flat_map (peer_line moment) peers

-- the whole text
abbrev pub text_for_report : ℕ → List HopReport → List PeerReport → DeviceReport → List ℕ
text_for_report moment hops peers device =
    moment_line moment ++ hops_text moment hops ++ peers_text moment peers ++ device_line device
