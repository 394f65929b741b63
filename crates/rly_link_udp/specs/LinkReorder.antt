-- The reorder buffer of a worker's link.
use Rattle.std.specs.Prelude.{ℕ, ⊤}
use Rattle.rly_hop.specs.declared.message.StationId.{StationId}
use Rattle.rly_link_udp.specs.declared.link_reorder.LinkReorder.{LinkReorder}
use Rattle.rly_link_reorder.specs.ReorderBuffer.{ReorderView, new_reorder}
use Rattle.rly_link.specs.declared.turn.Worker.{Worker}
use Rattle.rly_link.specs.declared.turn.Worker.TheVariants as worker

-- for a peer up to 64 Data in packets of at most this many bytes, and for a hop none
abbrev pub early_for : ℕ → Worker → ReorderView
early_for longest (worker.Receiver peer) = new_reorder 64 longest
early_for longest (worker.Sender hop) = new_reorder 0 0

-- the buffer, between this station and a neighbour
abbrev pub reorder_for : (own peer : StationId) → (longest : ℕ) → Worker → LinkReorder
reorder_for own peer longest w = record { own = own; peer = peer; early = early_for longest w }

-- the worker of a peer
abbrev pub IsPeer : Worker → Type 0
IsPeer (worker.Receiver peer) = ⊤
IsPeer (worker.Sender hop) = ⊥
