-- A link over UDP, and one to a neighbour at a socket, are Send if their clock is.
use denote.RattleType.{RattleType}
use denote.Param.Send.{AllSend, EachSend, IsSend, enum_send, recorded_send, sendable, struct_send, view_send}
use denote.Struct.Declared.{Declared, shape}
use denote.Struct.Field.{rows}
use denote.Struct.Struct.{Struct}
use denote.Enum.Declared as E
use denote.Enum.Enum.{Enum}
use Rattle.std.proofs.Crossing.{crosses}
use Rattle.http_server.proofs.log.Log.TheSendSync.{the_send}
use Rattle.std.specs.declared.time.Clock as Clock
use Rattle.rly_link_udp.specs.declared.sockets.Sockets as Sockets
use Rattle.rly_link.specs.declared.link.Link as Link
use Rattle.rly_link_reorder.specs.contracts.reordered_link.ReorderedLink as Ahead
use Rattle.rly_link_reorder.specs.contracts.reordered_link.ReorderedLink.TheInside as AheadInside
use Rattle.rly_link_reorder.specs.contracts.reorder_buffer.ReorderBuffer as Early
use Rattle.rly_link_reorder.specs.contracts.reorder_buffer.ReorderBuffer.TheInside as EarlyInside
use Rattle.rly_link_reorder.specs.contracts.reorder_slot.ReorderSlot as Place
use Rattle.rly_link_reorder.specs.contracts.reorder_slot.ReorderSlot.TheInside as PlaceInside
use Rattle.rly_link_auth.specs.contracts.key.Key as Key
use Rattle.rly_link_auth.specs.contracts.key.Key.TheInside as KeyInside
use Rattle.rly_link_auth.specs.contracts.sealed.Sealed as Sealed
use Rattle.rly_link_auth.specs.contracts.sealed.Sealed.TheInside as Inside
use Rattle.rly_link_auth.specs.contracts.station_link.StationLink as Station
use Rattle.rly_link_auth.specs.contracts.station_link.StationLinkLink.TheImpl as StationImpl
use Rattle.rly_station.specs.contracts.address_fault.EndFault as EndFault
use Rattle.rly_station.specs.contracts.failed_calls.FailedCalls as FailedCalls
use Rattle.rly_link_log.specs.contracts.back_routes.BackRoutes as BackRoutes
use Rattle.rly_link_log.specs.contracts.link_log.LinkLog as LinkLog
use Rattle.rly_link_log.specs.contracts.source_log.SourceLog as SourceLog
use Rattle.rly_link_udp.specs.contracts.socket_link.SocketLink as SocketLink
use Rattle.rly_link_udp.specs.contracts.patient_link.PatientLink as PatientLink
use Rattle.rly_link_udp.specs.contracts.patient_link.PatientLinkLink.TheImpl as Impl
use Rattle.rly_link_udp.specs.contracts.patient_link.PatientState as PatientState
use Rattle.rly_link_udp.specs.contracts.patient_link.Refusals as Refusals
use Rattle.rly_link_udp.specs.contracts.udp_link.UdpLink as UdpLink
use Rattle.rly_link_udp.specs.contracts.udp_link.UdpLinkLink.TheImpl as UdpImpl
use Rattle.rly_link_udp.specs.contracts.udp_opener.UdpOpener as UdpOpener
use Rattle.rly_link_udp.specs.contracts.udp_opener.UdpOpenerOpenerUdpLink.TheImpl as OpenerImpl
use Rattle.rly_link_udp.specs.contracts.udp_opener.UdpParts as UdpParts
use Rattle.rly_link_udp.specs.contracts.unsent.Unsent as Unsent
use Rattle.rly_link_udp.specs.contracts.wrong_tags.WrongTags as WrongTags

sends_send : IsSend FailedCalls.the_field.row
sends_send = search (sendable, crosses, the_send) depth 30

tags_send : IsSend WrongTags.the_field.row
tags_send = search (sendable, crosses, the_send) depth 30

backs_send : IsSend BackRoutes.the_field.row
backs_send = search (sendable, crosses) depth 60

log_send : IsSend LinkLog.the_field.row
log_send =
    let log : Declared = LinkLog.the_type in
    let fields : AllSend (rows log.parts) = (search sendable depth 20, (search sendable depth 20, (search sendable depth 20, (search sendable depth 20, (backs_send, (search sendable depth 30, (search sendable depth 30, (search sendable depth 40, (search sendable depth 40, (search (sendable, crosses, the_send) depth 30, tt)))))))))) in
    struct_send (shape log) fields

sources_send : IsSend SourceLog.the_field.row
sources_send = search (sendable, crosses, the_send) depth 40

unsent_send : IsSend Unsent.the_field.row
unsent_send = search (sendable, crosses, the_send) depth 30

pub udp_send : (C : RattleType) → IsSend C → IsSend (UdpLink.the_row C)
udp_send C c =
    let udp : Declared = UdpLink.the_type C in
    let fields : AllSend (rows udp.parts) =
    (search (sendable, crosses) depth 20, (search (sendable, crosses) depth 20, (search (sendable, c) depth 20, (search sendable depth 20, (search (sendable, crosses) depth 20, (search sendable depth 20, (search (sendable, crosses, sends_send) depth 20, (search (sendable, crosses) depth 60, (search (sendable, crosses) depth 20, (search (sendable, crosses) depth 20, (search (sendable, crosses, unsent_send) depth 20, (search (sendable, crosses) depth 20, (search (sendable, crosses, sources_send) depth 20, tt))))))))))))) in
    recorded_send (Struct (shape udp)) udp.D udp.to udp.to_one (struct_send (shape udp) fields)

key_send : IsSend Key.the_row
key_send =
    let inside : Declared = KeyInside.the_type in
    let fields : AllSend (rows inside.parts) = (search sendable depth 20, (search (sendable, crosses) depth 20, tt)) in
    view_send KeyInside.the_row _ _ _ _ (recorded_send (Struct (shape inside)) inside.D inside.to inside.to_one (struct_send (shape inside) fields))

sealed_send : (L : RattleType) (g : Link.Ghosts L.Denot) → IsSend L → IsSend (Sealed.the_row L g)
sealed_send L g l =
    let inside : Declared = Inside.the_type L g in
    let fields : AllSend (rows inside.parts) = (l, (key_send, (search sendable depth 20, (search (sendable, the_send) depth 20, (search sendable depth 20, (search sendable depth 20, tt)))))) in
    view_send (Inside.the_row L g) _ _ _ _ (recorded_send (Struct (shape inside)) inside.D inside.to inside.to_one (struct_send (shape inside) fields))

station_send : (L : RattleType) (g : Link.Ghosts L.Denot) → IsSend L → IsSend (Station.the_row L g)
station_send L g l =
    let link : E.Declared = Station.the_type L g in
    let each : EachSend (E.shape link).variants = ((l, tt), ((sealed_send L g l, tt), tt)) in
    recorded_send (Enum (E.shape link)) link.D link.to link.to_one (enum_send (E.shape link) each)

place_send : IsSend Place.the_row
place_send =
    let inside : Declared = PlaceInside.the_type in
    let fields : AllSend (rows inside.parts) = (search (sendable, crosses) depth 20, (search (sendable, crosses) depth 20, tt)) in
    view_send PlaceInside.the_row _ _ _ _ (recorded_send (Struct (shape inside)) inside.D inside.to inside.to_one (struct_send (shape inside) fields))

early_send : IsSend Early.the_row
early_send =
    let inside : Declared = EarlyInside.the_type in
    let fields : AllSend (rows inside.parts) = (search sendable depth 20, (search sendable depth 20, (search sendable depth 20, (search (sendable, crosses, place_send) depth 40, (search (sendable, crosses) depth 40, (search sendable depth 20, tt)))))) in
    view_send EarlyInside.the_row _ _ _ _ (recorded_send (Struct (shape inside)) inside.D inside.to inside.to_one (struct_send (shape inside) fields))

ahead_send : (L : RattleType) (g : Link.Ghosts L.Denot) → IsSend L → IsSend (Ahead.the_row L g)
ahead_send L g l =
    let inside : Declared = AheadInside.the_type L g in
    let fields : AllSend (rows inside.parts) = (
      l,
      (
        search (sendable, crosses) depth 20,
        (
          search (sendable, crosses) depth 20,
          (early_send, (search (sendable, the_send) depth 20, (search (sendable, the_send) depth 20, (search sendable depth 20, tt)))),
        ),
      ),
    ) in
    view_send (AheadInside.the_row L g) _ _ _ _ (recorded_send (Struct (shape inside)) inside.D inside.to inside.to_one (struct_send (shape inside) fields))

parts_send : (C : RattleType) → IsSend C → IsSend (UdpParts.the_field C).row
parts_send C c =
    let kept : Declared = UdpParts.the_type C in
    let fields : AllSend (rows kept.parts) =
    (c, (search (sendable, crosses) depth 20, (search (sendable, crosses) depth 60, (sends_send, (search (sendable, crosses, the_send) depth 40, (search (sendable, crosses, unsent_send) depth 20, tt)))))) in
    struct_send (shape kept) fields

opener_send : (C : RattleType) → IsSend C → IsSend (UdpOpener.the_row C)
opener_send C c =
    let own : Declared = UdpOpener.the_type C in
    let kept = parts_send C c in
    let fields : AllSend (rows own.parts) =
    (c, (search sendable depth 20, (search (sendable, crosses) depth 40, (search (sendable, crosses) depth 40, (search (sendable, crosses) depth 60, (search (sendable, crosses) depth 60, (search (sendable, crosses) depth 20, (search (sendable, crosses) depth 20, (search (sendable, crosses) depth 20, (search (sendable, crosses, kept) depth 20, (search (sendable, the_send) depth 20, tt))))))))))) in
    recorded_send (Struct (shape own)) own.D own.to own.to_one (struct_send (shape own) fields)

fault_send : IsSend EndFault.the_row
fault_send = search (sendable, crosses) depth 30

refusals_send : IsSend Refusals.the_field.row
refusals_send = search (sendable, crosses) depth 30

state_send : (L : RattleType) → IsSend L → IsSend (PatientState.the_field L).row
state_send L l =
    let state : E.Declared = PatientState.the_type L in
    let each : EachSend (E.shape state).variants = ((refusals_send, tt), ((l, tt), tt)) in
    enum_send (E.shape state) each

patient_send : (L O : RattleType) → IsSend L → IsSend O → IsSend (PatientLink.the_row L O)
patient_send L O l o =
    let link : Declared = PatientLink.the_type L O in
    let fields : AllSend (rows link.parts) = (o, (state_send L l, tt)) in
    recorded_send (Struct (shape link)) link.D link.to link.to_one (struct_send (shape link) fields)

pub socket_send : (C : RattleType) (g : Clock.Ghosts C.Denot) (s : Sockets.Ghosts C.Denot) → IsSend C → IsSend (SocketLink.the_field C g s).row
socket_send C g s c =
    let link : Declared = SocketLink.the_type C g s in
    let udp = UdpLink.the_row C in
    let own = UdpOpener.the_row C in
    let socket = PatientLink.the_row udp own in
    let below = UdpImpl.ghosts C g UdpImpl.no_dict UdpImpl.no_dict in
    let opens = OpenerImpl.ghosts C g OpenerImpl.no_dict s OpenerImpl.no_dict OpenerImpl.no_dict in
    let told = Impl.ghosts udp own below Impl.no_dict opens Impl.no_dict Impl.no_dict in
    let station = station_send socket told (patient_send udp own (udp_send C c) (opener_send C c)) in
    let ahead = ahead_send (Station.the_row socket told) (StationImpl.ghosts socket told StationImpl.no_dict) station in
    let fields : AllSend (rows link.parts) =
    (ahead, (tags_send, (log_send, (c, (search sendable depth 20, (search (sendable, crosses, fault_send) depth 60, tt)))))) in
    struct_send (shape link) fields
