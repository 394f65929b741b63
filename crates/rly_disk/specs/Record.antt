-- The images of a disk in memory, from its record.
use Rattle.std.specs.Prelude.{◌≡◌, ◌==◌, ◌+◌, ◌-◌, ◌≤◌, ◌&&◌, ℕ, suc, min, Bool, true}
use Rattle.std.specs.Prelude.{false, not, List, [], ◌∷◌, length, take, drop, slice_index, nat_le, nat_lt, if◌then◌else◌}
use Rattle.std.specs.List.{list_any}
use Rattle.rly_disk.specs.DiskModel.{bytes_after_write}
use Rattle.rly_disk.specs.declared.record.Event.{Event}
use Rattle.rly_disk.specs.declared.record.Event.TheVariants.{Written, Synced}

abbrev pub is_sync : Event → Bool
is_sync (Written place replaced) = false
is_sync Synced = true

-- the number of events up to and including the last sync
abbrev pub synced_events : List Event → ℕ
synced_events [] = 0
synced_events (event ∷ events) =
    if not (is_sync event) && (synced_events events == 0) then 0 else suc (synced_events events)

-- the events after the last sync
abbrev pub events_since_sync : List Event → List Event
events_since_sync events = drop (synced_events events) events

-- the event wrote the byte at this offset
abbrev pub writes_byte_at : Event → ℕ → Bool
writes_byte_at (Written place replaced) at = nat_le place at && nat_lt at (place + length replaced.items)
writes_byte_at Synced at = false

-- one of these events wrote the byte at this offset
abbrev pub is_covered : List Event → ℕ → Bool
is_covered events at = list_any (λ event. writes_byte_at event at) events

-- the bytes that a read returned before these events, if it returns these bytes after them
abbrev pub bytes_before : List Event → List ℕ → List ℕ
bytes_before [] bytes = bytes
bytes_before (Written place replaced ∷ events) bytes = bytes_after_write place replaced.items
    (bytes_before events bytes)
bytes_before (Synced ∷ events) bytes = bytes_before events bytes

-- the same, except that the first bytes which the events wrote, up to a number, are kept
abbrev pub before_but : ℕ → List Event → List ℕ → List ℕ
before_but kept [] bytes = bytes
before_but kept (Written place replaced ∷ events) bytes =
    bytes_after_write (place + min kept (length replaced.items)) (drop kept replaced.items)
    (before_but (kept - length replaced.items) events bytes)
before_but kept (Synced ∷ events) bytes = before_but kept events bytes

-- an image after these events: any bytes where a write is pending, elsewhere the bytes that a read returns
pub record IsImage (events : List Event) (bytes image : List ℕ) : Type 0 where
  pub same_length : length image ≡ length bytes
  pub each : (i : ℕ) → is_covered (events_since_sync events) i ≡ false → slice_index image i ≡ slice_index bytes i

-- an image of some moment since the first t events
abbrev pub WasImage : List Event → List ℕ → ℕ → List ℕ → Type 0
WasImage events bytes t image =
    (k : ℕ) × (t ≤ k) × (k ≤ length events) × IsImage (take k events) (bytes_before (drop k events) bytes) image

-- each byte that these events wrote has this value, and the others are unchanged
pub record IsFilled (events : List Event) (byte : ℕ) (old new : List ℕ) : Type 0 where
  pub same_length : length new ≡ length old
  pub filled : (i : ℕ) → is_covered events i ≡ true → slice_index new i ≡ byte
  pub others : (i : ℕ) → is_covered events i ≡ false → slice_index new i ≡ slice_index old i
