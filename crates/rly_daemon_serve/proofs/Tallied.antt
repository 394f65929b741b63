-- A link that publishes its counts is Send if the link below and the clock are.
use denote.RattleType.{RattleType}
use denote.Param.Send.{AllSend, IsSend, IsSync, recorded_send, sendable, struct_send, view_send}
use denote.Struct.Declared.{Declared, shape}
use denote.Struct.Field.{rows}
use denote.Struct.Struct.{Struct}
use Rattle.std.specs.Prelude.{None}
use Rattle.std.proofs.Crossing.{Arc-send, crosses}
use Rattle.http_server.proofs.log.Log.TheSendSync.{the_send}
use Rattle.rly_link.specs.declared.link.Link as Link
use Rattle.rly_daemon_reporter.specs.contracts.counted_link.CountedLink as Counted
use Rattle.rly_daemon_reporter.specs.contracts.counted_link.CountedLink.TheInside as Inside
use Rattle.rly_daemon_reporter.specs.contracts.tallied_link.TalliedLink as Tallied
use Rattle.rly_daemon_reporter.specs.contracts.tally.Tally as Tally

counted_send : (L C : RattleType) (g : Link.Ghosts L.Denot) → IsSend L → IsSend C → IsSend (Counted.the_row L C g)
counted_send L C g l c =
    let inside : Declared = Inside.the_type L C g in
    let fields : AllSend (rows inside.parts) = (
      l,
      (
        search (sendable, crosses) depth 20,
        (
          search (sendable, crosses) depth 20,
          (
            search (sendable, crosses) depth 20,
            (
              search (sendable, crosses) depth 60,
              (c, (search (sendable, the_send) depth 20, tt)),
            ),
          ),
        ),
      ),
    ) in
    view_send (Inside.the_row L C g) _ _ _ _ (recorded_send (Struct (shape inside)) inside.D inside.to inside.to_one (struct_send (shape inside) fields))

tally_send : IsSend Tally.the_row
tally_send = search (sendable, crosses) depth 80

tally_sync : IsSync Tally.the_row
tally_sync = search (sendable, crosses) depth 80

-- no histories of a link: whether it is Send has nothing to do with them
pub no_ghosts : (L : RattleType) → Link.Ghosts L.Denot
no_ghosts L = record { heard = λ l. None; sent = λ l. None; failed = λ l. 0 }

pub tallied_send : (L C : RattleType) → IsSend L → IsSend C → IsSend (Tallied.the_row L C (no_ghosts L))
tallied_send L C l c =
    let link : Declared = Tallied.the_type L C (no_ghosts L) in
    let tally = Arc-send Tally.the_row tally_send tally_sync in
    let fields : AllSend (rows link.parts) = (counted_send L C (no_ghosts L) l c, (tally, tt)) in
    recorded_send (Struct (shape link)) link.D link.to link.to_one (struct_send (shape link) fields)
