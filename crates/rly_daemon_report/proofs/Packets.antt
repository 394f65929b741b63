-- The decoding of a packet.
use Rattle.std.proofs.Common.{◌≡◌, ℕ, List, ap, sym}
use Rattle.std.specs.Prelude.{Some, Err}
use Rattle.rly_core.specs.declared.refusal.Refusal.{Refusal}
use Rattle.rly_hop.specs.MessageReads.{first_fault, found_unless, kind_of, message_at, message_or_fault}

-- a packet with a fault is no message
pub faulty : (packet : List ℕ) (fault : Refusal) → Some fault ≡ first_fault packet → message_or_fault packet ≡ Err fault
unfolding message_or_fault
faulty packet fault told = ap (λ f. found_unless f (message_at (kind_of packet) packet)) (sym told)
