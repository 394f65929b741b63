-- The state of a disk in contracts, and the effect of its calls (docs/reference/DEFINITIONS.md, "The disk model").
use Rattle.std.specs.Prelude.{◌≡◌, ◌⊎◌, ◌↔◌, ◌<◌, ◌≤◌, ◌+◌, ◌-◌, ◌^◌, ℕ, List, ◌++◌, length, take, drop, slice_index}

-- the state of a disk in contracts
pub record DiskState : Type 1 where
  -- its number of bytes, which never changes
  pub size : ℕ
  -- the bytes that a read returns
  pub seen : List ℕ
  -- the crash images of this moment: the bytes that a crash now may leave
  pub images : List ℕ → Type 0
  -- the number of this moment, which doesn't fall
  pub moment : ℕ
  -- the crash images of any moment since that number, within a call too
  pub since : ℕ → List ℕ → Type 0
  -- it keeps to the disk model
  pub honest : Type 0
  -- the number of calls of `read_at`, `write_at` and `sync`, and of these the failed ones, the syncs, and the failed
  -- reads
  pub calls : ℕ
  pub failures : ℕ
  pub syncs : ℕ
  pub failed_reads : ℕ

-- the same bytes, except n of them from an offset on
pub record SameOutside (place n : ℕ) (old new : List ℕ) : Type 0 where
  pub same_length : length new ≡ length old
  pub each : (i : ℕ) → (i < place) ⊎ (place + n ≤ i) → slice_index new i ≡ slice_index old i

-- the list with these bytes from an offset on
abbrev pub bytes_after_write : ℕ → List ℕ → List ℕ → List ℕ
bytes_after_write place bytes old = take place old ++ bytes ++ drop (place + length bytes) old

-- an image from before a write of n bytes at an offset, with any bytes in that range
abbrev pub IsTorn : ℕ → ℕ → (List ℕ → Type 0) → List ℕ → Type 0
IsTorn place n before image = (d : List ℕ) × before d × SameOutside place n d image

-- the effect of a write, done or failed: a crash during or after it may leave any bytes in its range, and the rest as
-- before
pub record IsWritten (place n : ℕ) (old new : DiskState) : Type 0 where
  pub honest : new.honest
  pub outside : SameOutside place n old.seen new.seen
  pub images : (c : List ℕ) → new.images c → IsTorn place n old.images c
  pub later : old.moment ≤ new.moment
  pub since : (t : ℕ) (c : List ℕ) → t ≤ old.moment → new.since t c → old.since t c ⊎ IsTorn place n old.images c
  pub keeps : (t : ℕ) (c : List ℕ) → t ≤ old.moment → old.since t c → new.since t c

-- the effect of a read or a sync, done or failed: no crash image that wasn't possible before it
pub record NothingNew (old new : DiskState) : Type 0 where
  pub honest : new.honest
  pub seen : new.seen ≡ old.seen
  pub images : (c : List ℕ) → new.images c → old.images c
  pub later : old.moment ≤ new.moment
  pub since : (t : ℕ) (c : List ℕ) → t ≤ old.moment → new.since t c → old.since t c
  pub keeps : (t : ℕ) (c : List ℕ) → t ≤ old.moment → old.since t c → new.since t c

-- every crash image from before is still possible: a read and a failed sync make nothing durable
abbrev pub SettlesNothing : DiskState → DiskState → Type 0
SettlesNothing old new = (c : List ℕ) → old.images c → new.images c

-- the invariant of an honest disk
pub record Consistent (disk : DiskState) : Type 0 where
  pub seen_size : length disk.seen ≡ disk.size
  pub image_size : (c : List ℕ) → disk.images c → length c ≡ disk.size
  -- a crash may leave the bytes that a read returns
  pub seen_is_image : disk.images disk.seen
  -- the images of this moment are among those since an earlier one
  pub counts_now : (t : ℕ) (c : List ℕ) → t ≤ disk.moment → disk.images c → disk.since t c
  -- since this moment there are no other images
  pub only_now : (c : List ℕ) → disk.since disk.moment c → disk.images c

-- no write is pending: the disk is honest, and its only image is the bytes that a read returns
pub record Settled (disk : DiskState) : Type 0 where
  pub honest : disk.honest
  pub consistent : Consistent disk
  pub only : (c : List ℕ) → disk.images c → c ≡ disk.seen

-- the number of calls has the maximum value of 64 bits, which no other counter exceeds: each call fails and changes
-- nothing
abbrev pub IsSpent : DiskState → Type 0
IsSpent disk = 2 ^ 64 - 1 ≤ disk.calls

-- a call failed: `failures` rose. Counters at their maximum value also count as a rise
abbrev pub HasFailed : DiskState → DiskState → Type 0
HasFailed old new = (old.failures < new.failures) ⊎ IsSpent new

-- one more call, with this many failures, syncs and failed reads in it
pub record Counted (failures syncs failed_reads : ℕ) (old new : DiskState) : Type 0 where
  pub calls : new.calls ≡ old.calls + 1
  pub failures_more : new.failures ≡ old.failures + failures
  pub syncs_more : new.syncs ≡ old.syncs + syncs
  pub failed_reads_more : new.failed_reads ≡ old.failed_reads + failed_reads

-- the invariants of any list of calls, on any disk: its size, whether it is honest, and counters that don't fall
pub record Later (old new : DiskState) : Type 0 where
  pub size : new.size ≡ old.size
  pub honest : new.honest ↔ old.honest
  pub calls : old.calls ≤ new.calls
  pub failures : old.failures ≤ new.failures
  pub syncs : old.syncs ≤ new.syncs
  pub failed_reads : old.failed_reads ≤ new.failed_reads

-- a crash at any moment of a call that led from old to new leaves an image with P
pub record LeavesOnly (old new : DiskState) (P : List ℕ → Type 0) : Type 0 where
  pub later : old.moment ≤ new.moment
  pub each : (c : List ℕ) → new.since old.moment c → P c
  -- for a list of calls that began earlier
  pub before : (t : ℕ) (c : List ℕ) → t ≤ old.moment → new.since t c → old.since t c ⊎ P c
