-- Helpers of the record's functions and of the proofs about a disk in memory. No public contract cites them.
use Rattle.std.specs.Prelude.{◌≡◌, ◌≤◌, ◌+◌, ℕ, Bool, true, List, [], length, take, drop, nat_le, refl}
use Rattle.std.proofs.Common.{arith, subst, sym}
use Rattle.std.proofs.lemmas.List.{take_all, drop_all}
use Rattle.rly_disk.specs.Record.{IsImage, WasImage, bytes_before}
use Rattle.rly_disk.specs.declared.record.Event.{Event}
use Rattle.rly_disk.specs.declared.record.Event.TheVariants.{Written, Synced}

-- the event wrote nothing past this size
abbrev pub is_event_within : ℕ → Event → Bool
is_event_within size (Written place replaced) = nat_le (place + length replaced.items) size
is_event_within size Synced = true

-- the number of bytes that the event wrote
abbrev pub put_len : Event → ℕ
put_len (Written place replaced) = length replaced.items
put_len Synced = 0

-- the bytes that a read returns are an image
pub seen_is_image : (events : List Event) (bytes : List ℕ) → IsImage events bytes bytes
seen_is_image events bytes = record { same_length = refl; each = λ i free. refl }

module _ (events : List Event) (bytes : List ℕ) (k : ℕ) (all : length events ≤ k) where
  whole : take k events ≡ events
  whole = take_all k events all

  none : drop k events ≡ []
  none = drop_all k events all

  pub from_last : (c : List ℕ) → IsImage (take k events) (bytes_before (drop k events) bytes) c → IsImage events bytes c
  from_last c image =
      subst (λ es. IsImage es bytes c) whole
      (subst (λ es. IsImage (take k events) (bytes_before es bytes) c) none image)

  pub to_last : (c : List ℕ) → IsImage events bytes c → IsImage (take k events) (bytes_before (drop k events) bytes) c
  to_last c image =
      subst (λ es. IsImage (take k events) (bytes_before es bytes) c) (sym none)
      (subst (λ es. IsImage es bytes c) (sym whole) image)

-- the images of this moment are among those since an earlier one
pub counts_now : (events : List Event) (bytes : List ℕ) (t : ℕ) (c : List ℕ)
    → t ≤ length events → IsImage events bytes c → WasImage events bytes t c
counts_now events bytes t c le image =
    (length events, le, omega arith, to_last events bytes (length events) (omega arith) c image)

-- since this moment there are no other images
pub only_now : (events : List Event) (bytes c : List ℕ)
    → WasImage events bytes (length events) c → IsImage events bytes c
only_now events bytes c was = from_last events bytes was.0 was.1 c was.3
