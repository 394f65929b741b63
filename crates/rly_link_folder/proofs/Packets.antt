-- The decoding of a packet, and the message on an answer.
use Rattle.std.proofs.Common.{◌≡◌, ℕ, List, ap, refl, sym}
use Rattle.std.specs.Prelude.{Option, Some, Err}
use Rattle.rly_core.specs.declared.refusal.Refusal.{Refusal}
use Rattle.rly_core.specs.declared.refusal.Refusal.TheVariants.{Gap}
use Rattle.rly_hop.specs.declared.receiving.event.TakeAnswer.{TakeAnswer}
use Rattle.rly_hop.specs.declared.receiving.event.TakeAnswer.TheVariants as answer
use Rattle.rly_hop.specs.Receiver.{Receiver}
use Rattle.rly_hop.specs.Receiving.{take_reply}
use Rattle.rly_hop.specs.MessageReads.{first_fault, found_unless, kind_of, message_at, message_or_fault}

-- a packet with a fault is no message
pub faulty : (packet : List ℕ) (fault : Refusal) → Some fault ≡ first_fault packet → message_or_fault packet ≡ Err fault
unfolding message_or_fault
faulty packet fault told = ap (λ f. found_unless f (message_at (kind_of packet) packet)) (sym told)

-- the message on an answer doesn't go by what is pending
pub reply_same : (r : Receiver) (pending : Option ℕ) (number : ℕ) (given : TakeAnswer)
    → take_reply (record r { pending = pending }) number given ≡ take_reply r number given
reply_same r pending number answer.Taken = refl
reply_same r pending number (answer.Already last) = refl
reply_same r pending number (answer.Refused (Gap expected)) = refl
reply_same r pending number (answer.Refused refusal) = refl
reply_same r pending number answer.Other = refl
