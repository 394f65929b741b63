-- The ghost history of the link to a neighbour at a socket: all packets that it returned, first or from its reorder buffer, and
-- those that were passed to it to be sent.
use Rattle.std.specs.Prelude.{ℕ, List, Option}
use Rattle.rly_link_reorder.specs.ReorderedLink.{reordered_failures, reordered_heard, reordered_sent}
use Rattle.rly_link_udp.specs.PatientLink.{patient_failed}
use Rattle.rly_link_udp.specs.declared.socket_link.SocketLink.{SocketLink}
use Rattle.rly_link_auth.specs.StationLink.{station_failed}
use Rattle.rly_link.specs.LinkHistory.{Hearing}

abbrev pub socket_heard : {C : Type 0} → SocketLink C → Option (List Hearing)
socket_heard l = reordered_heard l.link

abbrev pub socket_sent : {C : Type 0} → SocketLink C → Option (List (List ℕ))
socket_sent l = reordered_sent l.link

-- how many of its calls failed
abbrev pub socket_failed : {C : Type 0} → SocketLink C → ℕ
socket_failed l = reordered_failures (station_failed (patient_failed (λ below. below.failures))) l.link
