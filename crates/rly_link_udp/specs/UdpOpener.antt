-- What opens the socket of a worker's link: its calls, and what it keeps for the link.
use Rattle.std.specs.Prelude.{List, map, Option}
use Rattle.std.specs.Option.{option_map}
use Rattle.rly_plan_syntax.specs.Endpoints.{Endpoints}
use Rattle.rly_link_udp.specs.declared.opener.OpenerCall.{OpenerCall}
use Rattle.rly_link_udp.specs.declared.patient_link.PatientLink.{PatientLink}
use Rattle.rly_link_udp.specs.declared.patient_link.PatientState.{PatientState}
use Rattle.rly_link_udp.specs.declared.patient_link.PatientState.TheVariants.{Closed, Open}
use Rattle.rly_link_udp.specs.declared.udp_link.UdpLink.{UdpLink}
use Rattle.rly_link_udp.specs.declared.udp_opener.UdpOpener.{UdpOpener}
use Rattle.rly_station.specs.Warnings.{KnownFailures, known_of}

abbrev pub opener_calls : {C : Type 0} → UdpOpener C → List OpenerCall
opener_calls o = map (λ e. e.0) o.calls.items

-- the addresses and the failed sends of the link that it will open: none once it has opened one
abbrev pub addresses_kept : {C : Type 0} → UdpOpener C → Option Endpoints
addresses_kept o = option_map (λ p. p.addresses.value) o.parts

abbrev pub failures_kept : {C : Type 0} → UdpOpener C → Option KnownFailures
failures_kept o = option_map (λ p. known_of p.failed_sends) o.parts

-- the addresses at which a link was opened: none of a bell
abbrev pub link_addresses : {C : Type 0} → UdpLink C → Option Endpoints
link_addresses link = option_map (λ a. a.value) link.addresses

-- the link of a worker to a socket, open or not
abbrev pub UdpPatient : Type 0 → Type 0
UdpPatient C = PatientLink (UdpLink C) (UdpOpener C)

-- its addresses, and its failed sends so far: those of the link that is open, or that will be
abbrev pub addresses_in : {C : Type 0} → PatientState (UdpLink C) → UdpOpener C → Option Endpoints
addresses_in (Open link) o = link_addresses link
addresses_in (Closed r) o = addresses_kept o

abbrev pub patient_addresses : {C : Type 0} → UdpPatient C → Option Endpoints
patient_addresses l = addresses_in l.state l.opener

abbrev pub failures_in : {C : Type 0} → PatientState (UdpLink C) → UdpOpener C → Option KnownFailures
failures_in (Open link) o = option_map known_of link.failed_sends
failures_in (Closed r) o = failures_kept o

abbrev pub patient_failures : {C : Type 0} → UdpPatient C → Option KnownFailures
patient_failures l = failures_in l.state l.opener
