-- The link to a neighbour is Send if what it asks of the system is.
use denote.RattleType.{RattleType}
use denote.Param.Send.{AllSend, EachSend, IsSend, enum_send, recorded_send, sendable, struct_send, view_send}
use denote.Struct.Declared.{Declared, shape}
use denote.Struct.Field.{rows}
use denote.Struct.Struct.{Struct}
use denote.Enum.Declared as E
use denote.Enum.Enum.{Enum}
use Rattle.std.proofs.Crossing.{crosses}
use Rattle.std.specs.declared.time.Clock as Clock
use Rattle.http_server.proofs.log.Log.TheSendSync.{the_send}
use Rattle.rly_folder_file.proofs.Sending.{file_folder_send}
use Rattle.rly_folder_file.specs.contracts.file_folder.FileFolder as FileFolder
use Rattle.rly_hop.specs.contracts.receiving.Receiving as Receiving
use Rattle.rly_hop.specs.contracts.receiving.Receiving.TheInside as ReceivingInside
use Rattle.rly_link_folder.specs.contracts.admission.Admission as Admission
use Rattle.rly_link_folder.specs.contracts.folder_link.FolderLink as FolderLink
use Rattle.rly_link_folder.specs.contracts.hop_neighbour.HopNeighbour as Hop
use Rattle.rly_link_folder.specs.contracts.hop_neighbour.HopNeighbour.TheInside as HopInside
use Rattle.rly_link_folder.specs.contracts.inbox.Inbox as Inbox
use Rattle.rly_link_folder.specs.contracts.outbox.Outbox as Outbox
use Rattle.rly_link_folder.specs.contracts.peer_neighbour.PeerNeighbour as Peer
use Rattle.rly_link_folder.specs.contracts.peer_neighbour.PeerNeighbour.TheInside as PeerInside
use Rattle.rly_link_udp.proofs.Sending.{socket_send, udp_send}
use Rattle.rly_link_udp.specs.contracts.udp_link.UdpLink as UdpLink
use Rattle.rly_link_udp.specs.declared.sockets.Sockets as Sockets
use Rattle.rly_posts.specs.contracts.folder_log.FolderLog as FolderLog
use Rattle.rly_posts.specs.contracts.incoming_link.IncomingLink as Incoming
use Rattle.rly_posts.specs.contracts.neighbour_link.NeighbourLink as NeighbourLink
use Rattle.rly_posts.specs.contracts.outgoing_link.OutgoingLink as Outgoing

admission_send : IsSend Admission.the_field.row
admission_send = search (sendable, crosses) depth 40

inbox_send : (F : RattleType) → IsSend F → IsSend (Inbox.the_field F).row
inbox_send F f =
    let inbox : Declared = Inbox.the_type F in
    let fields : AllSend (rows inbox.parts) = (f, (search sendable depth 20, (search sendable depth 20, tt))) in
    struct_send (shape inbox) fields

outbox_send : (F : RattleType) → IsSend F → IsSend (Outbox.the_field F).row
outbox_send F f =
    let outbox : Declared = Outbox.the_type F in
    let fields : AllSend (rows outbox.parts) =
    (f, (search sendable depth 20, (search sendable depth 20, (search sendable depth 20, tt)))) in
    struct_send (shape outbox) fields

peer_send : (F : RattleType) → IsSend F → IsSend (Peer.the_row F)
peer_send F f =
    let inside : Declared = PeerInside.the_type F in
    let fields : AllSend (rows inside.parts) = (
      search (sendable, crosses) depth 20,
      (
        search (sendable, crosses) depth 20,
        (admission_send, (search sendable depth 20, (search sendable depth 20, (search sendable depth 20, (inbox_send F f, (search (sendable, crosses) depth 40, (search (sendable, crosses) depth 40, (search sendable depth 20, tt)))))))),
      ),
    ) in
    view_send (PeerInside.the_row F) _ _ _ _ (recorded_send (Struct (shape inside)) inside.D inside.to inside.to_one (struct_send (shape inside) fields))

receiving_send : IsSend Receiving.the_row
receiving_send =
    let inside : Declared = ReceivingInside.the_type in
    let fields : AllSend (rows inside.parts) = (search (sendable, crosses) depth 20, (search (sendable, crosses) depth 20, (search (sendable, crosses) depth 20, tt))) in
    view_send ReceivingInside.the_row _ _ _ _ (recorded_send (Struct (shape inside)) inside.D inside.to inside.to_one (struct_send (shape inside) fields))

hop_send : (F : RattleType) → IsSend F → IsSend (Hop.the_row F)
hop_send F f =
    let inside : Declared = HopInside.the_type F in
    let fields : AllSend (rows inside.parts) = (
      search (sendable, crosses) depth 20,
      (search (sendable, crosses) depth 20, (receiving_send, (outbox_send F f, (search (sendable, crosses) depth 40, tt)))),
    ) in
    view_send (HopInside.the_row F) _ _ _ _ (recorded_send (Struct (shape inside)) inside.D inside.to inside.to_one (struct_send (shape inside) fields))

log_send : IsSend FolderLog.the_field.row
log_send = search (sendable, crosses, the_send) depth 40

folder_link_send : (N L : RattleType) → IsSend N → IsSend L → IsSend (FolderLink.the_field N L).row
folder_link_send N L n l =
    let link : Declared = FolderLink.the_type N L in
    let fields : AllSend (rows link.parts) = (n, (l, tt)) in
    struct_send (shape link) fields

incoming_send : (C : RattleType) → IsSend C → IsSend (Incoming.the_field C).row
incoming_send C c =
    let link : Declared = Incoming.the_type C in
    let folder = FileFolder.the_row C in
    let peer = peer_send folder (file_folder_send C c) in
    let fields : AllSend (rows link.parts) = (folder_link_send (Peer.the_row folder) (UdpLink.the_row C) peer (udp_send C c), (search (sendable, crosses) depth 20, (log_send, tt))) in
    struct_send (shape link) fields

outgoing_send : (C : RattleType) → IsSend C → IsSend (Outgoing.the_field C).row
outgoing_send C c =
    let link : Declared = Outgoing.the_type C in
    let folder = FileFolder.the_row C in
    let hop = hop_send folder (file_folder_send C c) in
    let fields : AllSend (rows link.parts) = (folder_link_send (Hop.the_row folder) (UdpLink.the_row C) hop (udp_send C c), (search (sendable, crosses) depth 20, (log_send, tt))) in
    struct_send (shape link) fields

pub neighbour_send : (C : RattleType) (g : Clock.Ghosts C.Denot) (s : Sockets.Ghosts C.Denot) → IsSend C → IsSend (NeighbourLink.the_row C g s)
neighbour_send C g s c =
    let link : E.Declared = NeighbourLink.the_type C g s in
    let each : EachSend (E.shape link).variants = ((socket_send C g s c, tt), ((incoming_send C c, tt), ((outgoing_send C c, tt), tt))) in
    recorded_send (Enum (E.shape link)) link.D link.to link.to_one (enum_send (E.shape link) each)
