-- The effect of a list of calls on a disk, as one list of events, and the laws of such lists.
use Rattle.std.specs.Prelude.{◌≡◌, ◌⊎◌, ◌↔◌, ◌≤◌, ◌+◌, ◌-◌, ◌^◌, ℕ, zero, suc, Bool, true, false, nat_le, if◌then◌else◌}
use Rattle.std.specs.Prelude.{List, [], ◌∷◌, ◌++◌, length, take}
use Rattle.rly_disk.specs.DiskModel.{DiskState, IsTorn, bytes_after_write}

-- a call of a disk, done or failed
pub data DeviceEvent : Type 0 where
  -- this many bytes were read at an offset
  Read : (place count : ℕ) → DeviceEvent
  FailedRead : (place count : ℕ) → DeviceEvent
  -- these bytes were written at an offset
  Write : (place : ℕ) (bytes : List ℕ) → DeviceEvent
  -- the write of these bytes failed; in their range a read now returns the bytes `left`, which end within that range
  FailedWrite : (place : ℕ) (bytes left : List ℕ) → DeviceEvent
  Sync : DeviceEvent
  FailedSync : DeviceEvent

abbrev pub is_failed_call : DeviceEvent → Bool
is_failed_call (Read place count) = false
is_failed_call (FailedRead place count) = true
is_failed_call (Write place bytes) = false
is_failed_call (FailedWrite place bytes left) = true
is_failed_call Sync = false
is_failed_call FailedSync = true

abbrev pub is_sync_call : DeviceEvent → Bool
is_sync_call (Read place count) = false
is_sync_call (FailedRead place count) = false
is_sync_call (Write place bytes) = false
is_sync_call (FailedWrite place bytes left) = false
is_sync_call Sync = true
is_sync_call FailedSync = true

abbrev pub is_failed_read : DeviceEvent → Bool
is_failed_read (Read place count) = false
is_failed_read (FailedRead place count) = true
is_failed_read (Write place bytes) = false
is_failed_read (FailedWrite place bytes left) = false
is_failed_read Sync = false
is_failed_read FailedSync = false

-- the number of events of this kind
abbrev pub count_of : (DeviceEvent → Bool) → List DeviceEvent → ℕ
count_of kind [] = 0
count_of kind (event ∷ events) = (if kind event then 1 else 0) + count_of kind events

-- the bytes that a read returns after an event, from those before it
abbrev pub seen_after : DeviceEvent → List ℕ → List ℕ
seen_after (Read place count) seen = seen
seen_after (FailedRead place count) seen = seen
seen_after (Write place bytes) seen = bytes_after_write place bytes seen
seen_after (FailedWrite place bytes left) seen = bytes_after_write place (take (length bytes) left) seen
seen_after Sync seen = seen
seen_after FailedSync seen = seen

-- the crash images after an event, from the bytes that a read returned and the images before it. A write allows any
-- bytes in its range, from its first moment on; a sync leaves the bytes that a read returns; a read and a failed sync
-- change nothing
abbrev pub images_after : DeviceEvent → List ℕ → (List ℕ → Type 0) → List ℕ → Type 0
images_after (Read place count) seen images = images
images_after (FailedRead place count) seen images = images
images_after (Write place bytes) seen images = IsTorn place (length bytes) images
images_after (FailedWrite place bytes left) seen images = IsTorn place (length bytes) images
images_after Sync seen images = λ image. image ≡ seen
images_after FailedSync seen images = images

-- the same after a list of events
abbrev pub seen_at_end : List DeviceEvent → List ℕ → List ℕ
seen_at_end [] seen = seen
seen_at_end (event ∷ events) seen = seen_at_end events (seen_after event seen)

abbrev pub images_at_end : List DeviceEvent → List ℕ → (List ℕ → Type 0) → List ℕ → Type 0
images_at_end [] seen images = images
images_at_end (event ∷ events) seen images =
    images_at_end events (seen_after event seen) (images_after event seen images)

-- the images of any moment of a list of events: before an event, within it or after it
abbrev pub images_within : List DeviceEvent → List ℕ → (List ℕ → Type 0) → List ℕ → Type 0
images_within [] seen images image = images image
images_within (event ∷ events) seen images image =
    images image ⊎ images_within events (seen_after event seen) (images_after event seen images) image

-- the events are reads and failed syncs: they make nothing durable
abbrev pub is_still : List DeviceEvent → Bool
is_still [] = true
is_still (Read place count ∷ events) = is_still events
is_still (FailedRead place count ∷ events) = is_still events
is_still (Write place bytes ∷ events) = false
is_still (FailedWrite place bytes left ∷ events) = false
is_still (Sync ∷ events) = false
is_still (FailedSync ∷ events) = is_still events

-- the effect of the events on an honest disk
pub record Follows (events : List DeviceEvent) (old new : DiskState) : Type 0 where
  pub seen : new.seen ≡ seen_at_end events old.seen
  pub images : (c : List ℕ) → new.images c → images_at_end events old.seen old.images c
  pub still : is_still events ≡ true → (c : List ℕ) → old.images c → new.images c
  pub later : old.moment ≤ new.moment
  pub since : (t : ℕ) (c : List ℕ) → t ≤ old.moment
      → new.since t c → old.since t c ⊎ images_within events old.seen old.images c
  pub keeps : (t : ℕ) (c : List ℕ) → t ≤ old.moment → old.since t c → new.since t c

-- exactly these events lead from one state of a disk to another: on any disk they account for its counters, on an
-- honest one also for its bytes and its crash images
pub record Leads (events : List DeviceEvent) (old new : DiskState) : Type 0 where
  pub calls : new.calls ≡ old.calls + length events
  pub failures : new.failures ≡ old.failures + count_of is_failed_call events
  pub syncs : new.syncs ≡ old.syncs + count_of is_sync_call events
  pub failed_reads : new.failed_reads ≡ old.failed_reads + count_of is_failed_read events
  pub size : new.size ≡ old.size
  pub honest : new.honest ↔ old.honest
  pub follows : old.honest → Follows events old new

-- the event is this call, failed
abbrev pub IsFailed : DeviceEvent → DeviceEvent → Type 0
IsFailed (Read place count) event = event ≡ FailedRead place count
IsFailed (Write place bytes) event = (left : List ℕ) × (event ≡ FailedWrite place bytes left)
IsFailed Sync event = event ≡ FailedSync
IsFailed (FailedRead place count) event = ⊥
IsFailed (FailedWrite place bytes left) event = ⊥
IsFailed FailedSync event = ⊥

-- the number of calls has its maximum value
abbrev pub is_spent : DiskState → Bool
is_spent disk = nat_le (2 ^ 64 - 1) disk.calls

-- the calls of a list up to one were made, and that one failed: it is the last event, and isn't retried
pub record EndsAtFailure (calls events : List DeviceEvent) : Type 0 where
  pub done : List DeviceEvent
  pub call : DeviceEvent
  pub rest : List DeviceEvent
  pub last : DeviceEvent
  pub calls_are : calls ≡ done ++ call ∷ rest
  pub failed : IsFailed call last
  pub events_are : events ≡ done ++ last ∷ []

-- the calls of a list before one were made; that one wasn't counted, because the number of calls has its maximum value
pub record EndsUncounted (calls events : List DeviceEvent) : Type 0 where
  pub call : DeviceEvent
  pub rest : List DeviceEvent
  pub calls_are : calls ≡ events ++ call ∷ rest

abbrev pub IsCut : Bool → List DeviceEvent → List DeviceEvent → Type 0
IsCut spent calls events = EndsAtFailure calls events ⊎ ((spent ≡ true) × EndsUncounted calls events)

-- the calls of a list were made: all of them without failure, or those up to the first failure
abbrev pub IsMade : Bool → Bool → List DeviceEvent → List DeviceEvent → Type 0
IsMade true spent calls events = events ≡ calls
IsMade false spent calls events = IsCut spent calls events

-- the calls for each number below another, in order
abbrev pub each_below : (ℕ → List DeviceEvent) → ℕ → List DeviceEvent
each_below calls zero = []
each_below calls (suc n) = each_below calls n ++ calls n

-- the calls are reads and syncs
abbrev pub are_quiet : List DeviceEvent → Bool
are_quiet [] = true
are_quiet (Read place count ∷ calls) = are_quiet calls
are_quiet (FailedRead place count ∷ calls) = false
are_quiet (Write place bytes ∷ calls) = false
are_quiet (FailedWrite place bytes left ∷ calls) = false
are_quiet (Sync ∷ calls) = are_quiet calls
are_quiet (FailedSync ∷ calls) = false

-- the calls are reads
abbrev pub are_reads : List DeviceEvent → Bool
are_reads [] = true
are_reads (Read place count ∷ calls) = are_reads calls
are_reads (FailedRead place count ∷ calls) = false
are_reads (Write place bytes ∷ calls) = false
are_reads (FailedWrite place bytes left ∷ calls) = false
are_reads (Sync ∷ calls) = false
are_reads (FailedSync ∷ calls) = false

-- the range of each write, an offset and a length, has a property
abbrev pub AllWrites : (ℕ → ℕ → Type 0) → List DeviceEvent → Type 0
AllWrites IsRange [] = Unit {0}
AllWrites IsRange (Read place count ∷ calls) = AllWrites IsRange calls
AllWrites IsRange (FailedRead place count ∷ calls) = AllWrites IsRange calls
AllWrites IsRange (Write place bytes ∷ calls) = IsRange place (length bytes) × AllWrites IsRange calls
AllWrites IsRange (FailedWrite place bytes left ∷ calls) = IsRange place (length bytes) × AllWrites IsRange calls
AllWrites IsRange (Sync ∷ calls) = AllWrites IsRange calls
AllWrites IsRange (FailedSync ∷ calls) = AllWrites IsRange calls

-- each write lies in a range of n bytes
abbrev pub WritesWithin : ℕ → ℕ → List DeviceEvent → Type 0
WritesWithin place n calls = AllWrites (λ at count. (place ≤ at) × (at + count ≤ place + n)) calls

-- exactly the calls of a list were made on a disk, all or up to the first failure; if none was made the disk is
-- unchanged
pub record Makes {D : Type 0} (state : D → DiskState) (calls : List DeviceEvent) (whole : Bool) (old new : D)
    : Type 0 where
  pub events : List DeviceEvent
  pub leads : Leads events (state old) (state new)
  pub made : IsMade whole (is_spent (state new)) calls events
  pub untouched : events ≡ [] → new ≡ old

-- exactly a prefix of a list of calls was made, all of it or up to the first failure
pub record MakesFront {D : Type 0} (state : D → DiskState) (calls : List DeviceEvent) (whole : Bool) (old new : D)
    : Type 0 where
  pub front : List DeviceEvent
  pub rest : List DeviceEvent
  pub calls_are : calls ≡ front ++ rest
  pub makes : Makes state front whole old new

-- only reads were made, all of them or up to the first failure
pub record OnlyReads {D : Type 0} (state : D → DiskState) (whole : Bool) (old new : D) : Type 0 where
  pub calls : List DeviceEvent
  pub reads : are_reads calls ≡ true
  pub makes : Makes state calls whole old new
