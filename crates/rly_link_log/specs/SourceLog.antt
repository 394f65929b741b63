-- Warnings of packets that come from another address than `remote` (docs/COMMANDS.md, "rly serve").
use Rattle.std.specs.Prelude.{◌≡◌, ◌≢◌, ℕ, ◌++◌}
use Rattle.std.specs.declared.net.socket_addr.SocketAddr.{SocketAddr}
use Rattle.rly_link_log.specs.LinkLog.{due_warnings}
use Rattle.rly_link_log.specs.declared.source_log.SourceLog.{SourceLog}
use Rattle.rly_station.specs.Kinds.{after_one, due_number}
use Rattle.rly_station.specs.Warnings.{logged_warnings}
use Rattle.rly_station.specs.declared.link_cause.LinkCause.TheVariants.{OtherAddress}

-- a packet came from an address at a moment: it is counted if that isn't the link's, and logged if due
pub record HasNotedSource (from : SocketAddr) (now : ℕ) (old new : SourceLog) : Type 0 where
  pub same : from ≡ old.remote → new ≡ old
  pub rest : from ≢ old.remote → new ≡ record old { kind = after_one old.kind now; teller = new.teller }
  pub told : from ≢ old.remote → logged_warnings new.teller
      ≡ logged_warnings old.teller ++ due_warnings old.worker (OtherAddress from old.remote) (due_number old.kind now)
