-- The composition of lists of calls of a disk.
use Rattle.rly_disk.proofs.Common.{arith, Consistent, DiskState, HasFailed, inl, Later, LeavesOnly, List, Settled, ℕ, ◌⊎◌}

-- before the first call, on an honest disk
pub started : (a : DiskState) (P : List ℕ → Type 0) → Consistent a → ((c : List ℕ) → a.images c → P c) → LeavesOnly a a P
started a P facts here = search (arith, here, facts.only_now, inl)

-- before the first call, with no write pending
pub started_settled : (a : DiskState) (P : List ℕ → Type 0) → Settled a → P a.seen → LeavesOnly a a P
started_settled a P settled here = started a P settled.consistent (λ c image. rw (settled.only c image) here)

-- two lists of calls in order
pub joined : {a b e : DiskState} (P Q : List ℕ → Type 0) → LeavesOnly a b P → LeavesOnly b e Q → LeavesOnly a e (λ c. P c ⊎ Q c)
joined P Q first second = search (arith, first.each, first.before, second.before)

-- P implies Q
pub weaker : {a b : DiskState} (P Q : List ℕ → Type 0) → ((c : List ℕ) → P c → Q c) → LeavesOnly a b P → LeavesOnly a b Q
weaker P Q more leaves = search (arith, more, leaves.each, leaves.before)

-- at the end, the images of that moment have it too
pub at_exit : {a b : DiskState} (P : List ℕ → Type 0) → LeavesOnly a b P → Consistent b → (c : List ℕ) → b.images c → P c
at_exit {a} P leaves facts c image = leaves.each c (facts.counts_now a.moment c leaves.later image)

-- a rise is also one from an earlier state, and to a later one
pub rose_earlier : {a b : DiskState} (e : DiskState) → Later a b → HasFailed b e → HasFailed a e
rose_earlier e first rose = grind (arith, first.failures)

pub rose_later : (a : DiskState) {b e : DiskState} → HasFailed a b → Later b e → HasFailed a e
rose_later a rose second = grind (arith, second.failures, second.calls)

pub later_again : {a b e : DiskState} → Later a b → Later b e → Later a e
later_again first second = search (arith, first.honest.0, first.honest.1, second.honest.0, second.honest.1)
