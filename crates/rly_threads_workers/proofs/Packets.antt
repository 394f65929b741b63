-- The decoding of a packet.
use Rattle.std.proofs.Common.{◌≡◌, ◌∙◌, ◌++◌, ◌∷◌, [], ℕ, List, ap, length, sym, take}
use Rattle.std.specs.Prelude.{Some, None, Err}
use Rattle.std.proofs.Math.Seq.{take-append_seam}
use Rattle.rly_core.specs.declared.refusal.Refusal.{Refusal}
use Rattle.rly_hop.specs.declared.message.Message.{Message}
use Rattle.rly_hop.specs.Spelling.{spelling, write_refusal}
use Rattle.rly_threads_workers.specs.Turns.{packet_unless, packets_of}
use Rattle.rly_hop.specs.MessageReads.{first_fault, found_unless, kind_of, message_at, message_or_fault}

-- a packet with a fault is no message
pub faulty : (packet : List ℕ) (fault : Refusal) → Some fault ≡ first_fault packet → message_or_fault packet ≡ Err fault
unfolding message_or_fault
faulty packet fault told = ap (λ f. found_unless f (message_at (kind_of packet) packet)) (sym told)

-- the bytes written for a message are its packet
pub written_packet : (m : Message (List ℕ)) (out rest : List ℕ) (count : ℕ) → None ≡ write_refusal m → out ≡ spelling m ++ rest → count ≡ length (spelling m)
    → take count out ∷ [] ≡ packets_of m
written_packet m out rest count fine written long =
    (λ i. take (long i) (written i) ∷ []) ∙ ap (λ p. p ∷ []) (take-append_seam (spelling m) rest) ∙ ap (λ f. packet_unless f (spelling m)) fine

-- a message that can't be written has no packet
pub no_packet : (m : Message (List ℕ)) (fault : Refusal) → Some fault ≡ write_refusal m → [] ≡ packets_of m
no_packet m fault is = ap (λ f. packet_unless f (spelling m)) is
