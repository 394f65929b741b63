-- Helpers of the queue's invariant. No public contract cites them.
use Rattle.std.specs.Prelude.{ℕ, ◌≡◌, ◌+◌, ◌%◌, ◌^◌, List, [], ◌∷◌, map}
use Rattle.rly_machine.specs.declared.hop.Item.{Item}
use Rattle.rly_machine.specs.declared.queue.Queued.{Queued}
use Rattle.rly_machine.specs.State.{bytes_of}

-- the queued items, without the totals
abbrev pub items_of : {P : Type 0} → List (Queued P) → List (Item P)
items_of queued = map (λ q. q.item) queued

-- the total at each item plus the payload bytes after it is the queue's total
abbrev pub AddUp : {P : Type 0} → (P → ℕ) → ℕ → List (Queued P) → Type 0
AddUp len total [] = Unit {0}
AddUp len total (q ∷ behind) =
    ((q.total + bytes_of len (items_of behind)) % 2 ^ 64 ≡ total) × AddUp len total behind
