-- Reads of a group, and their consequences.
use Rattle.rly_gate.proofs.Common.{[], arith, Bool, cases_Bool, Consistent, DiskState, Err, false, group_reads, group_reads_succeeded, length_reads, Makes, makes_front}
use Rattle.rly_gate.proofs.Common.{makes_joined, makes_later, nat_le, OnlyRead, OnlyReads, Option, quiet_settled, Read, reads_new, reads_quiet, refl, true, Vec}
use Rattle.rly_gate.proofs.Common.{ℕ, ◌+◌, ◌∷◌, ◌≡◌}
use Rattle.rly_gate.specs.declared.read.GroupFault.TheVariants.{OutOfMemory, Damaged, Device}

-- a disk that was only read
pub only_read : {D : Type 0} (state : D → DiskState) {a b : D} {whole : Bool} → ((disk : D) → (state disk).honest → Consistent (state disk))
    → OnlyReads state whole a b → OnlyRead (state a) (state b)
only_read state facts only = search (reads_new _ only, quiet_settled _ only.makes (reads_quiet only.calls only.reads), makes_later _ only.makes, facts)

-- the gate is open, and the read of the length failed, or the group doesn't fit
pub group_cut : {D : Type 0} {state : D → DiskState} {a b e : D} (A : Type 0) {at : ℕ} (end : ℕ) (fault : _) → (fault ≡ OutOfMemory → ⊥)
    → Makes state (Read at 1 ∷ []) true a b → Makes state (length_reads at end) (group_reads_succeeded {A = Option (Vec ℕ A)} (Err fault)) b e
    → (n : ℕ) × Makes state (group_reads {A = A} at end n (Err fault)) (group_reads_succeeded {A = Option (Vec ℕ A)} (Err fault)) a e
group_cut {state = state} A end Damaged told first second = (0, makes_joined state _ _ true first second)
group_cut A end OutOfMemory told first second = absurd (told refl)
group_cut {state = state} {a} {e = e} A {at} end Device told first second =
    let made = makes_joined state (Read at 1 ∷ []) (length_reads at end) false first second in
    let room = makes_front state {a = a} {b = e} (Read at 1 ∷ Read (at + 1) 4 ∷ []) (Read (at + 5) 0 ∷ []) in
    let none = makes_front state {a = a} {b = e} (Read at 1 ∷ []) (Read (at + 1) 4 ∷ Read (at + 5) 0 ∷ []) in
    (0, grind (arith, cases_Bool (nat_le (at + 6) end), made, room, none))
