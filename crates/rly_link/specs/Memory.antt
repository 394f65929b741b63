-- The ghost history of a link, a clock and a waker in memory.
use Rattle.std.specs.Prelude.{ℕ, List, map, Option}
use Rattle.std.specs.Option.{option_map}
use Rattle.http_server.specs.declared.log.Log.{Log}
use Rattle.rly_core.specs.declared.ids.HopId.{HopId}
use Rattle.rly_link.specs.declared.link.Sleep.{Sleep}
use Rattle.rly_link.specs.declared.turn.Go.{Go}
use Rattle.rly_link.specs.declared.turn.Point.{Point}
use Rattle.rly_link.specs.declared.turn.Worker.{Worker}
use Rattle.rly_link.specs.LinkHistory.{Handed, Hearing, new_hearing}

-- the bytes in a log
abbrev pub log_bytes : Log ℕ (Unit {0}) → List ℕ
log_bytes log = map (λ e. e.0) log.items

-- the packets in a log
abbrev pub sent_of : Log (Log ℕ (Unit {0})) (Unit {0}) → List (List ℕ)
sent_of log = map (λ e. log_bytes e.0) log.items

-- how long receives might wait, and the packets that they returned
abbrev pub heard_of : Log Sleep (Option (Log ℕ (Unit {0}))) → List Hearing
heard_of log = map (λ e. new_hearing e.0 (option_map log_bytes e.1)) log.items

-- the ticks, with their worker and point
abbrev pub handed_of : Log (Worker × Point) Go → List Handed
handed_of log = map (λ e. (e.0.0, e.0.1, e.1)) log.items

-- the hops whose senders were woken
abbrev pub woken_of : Log HopId (Unit {0}) → List HopId
woken_of log = map (λ e. e.0) log.items
