-- Reads of headers and heads, and no other calls.
use Rattle.rly_segment.proofs.Common.{[], ◌+◌, ◌∷◌, ◌≡◌, arith, Bool, DiskState, head_reads, header_reads, Makes, makes_joined, nat_tests, OnlyReads, Read}
use Rattle.rly_segment.proofs.Common.{reads_of, Some, true, ℕ}

pub header_only : {D : Type 0} (state : D → DiskState) {a b : D} {whole : Bool} (size : ℕ) → Makes state (header_reads size) whole a b
    → OnlyReads state whole a b
header_only state size made = reads_of state (header_reads size) (grind (arith, nat_tests)) made

-- a head's generation and length, and then its body
pub head_made : {D : Type 0} {state : D → DiskState} {a b e : D} {whole : Bool} {p place n : ℕ} → p ≡ place → Makes state (Read (p + 1) 12 ∷ []) true e a
    → Makes state (Read (p + 13) n ∷ []) whole a b → Makes state (head_reads place (Some n)) whole e b
head_made {state = state} {whole = whole} is first second = rw is at (makes_joined state _ _ whole first second)
