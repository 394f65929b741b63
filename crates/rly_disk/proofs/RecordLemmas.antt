-- The images of a record from event to event, and the effect of a write, a sync and a crash on them.
use Rattle.rly_disk.proofs.Common.{[], and_from, and_parts, ap, arith, bytes_before, before_but, cases_lt, consistent_of, counts_now, drop, drop-append-le, drop_all}
use Rattle.rly_disk.proofs.Common.{Event, ext_get_or, false, from_last, get_or, Global, if◌then◌else◌, inl, inr, is_covered, is_event_within, is_sync, IsImage}
use Rattle.rly_disk.proofs.Common.{IsLeft, IsTorn, IsWritten, le-leb, leb-true, length, length-append, length-drop, length-take, length_push, List, list_all}
use Rattle.rly_disk.proofs.Common.{list_all-append, list_any-append, nat_tests, NothingNew, bytes_after_write, overwritten_in, overwritten_outside}
use Rattle.rly_disk.proofs.Common.{overwritten_within, events_since_sync, places, recorded_state, refl, SameOutside, seen_is_image, Settled, slice_range, suc, Synced}
use Rattle.rly_disk.proofs.Common.{synced_events, take, take-append-drop, take-append-le, take_rest, true, turned, Vec, WasImage, with_items_is, Written}
use Rattle.rly_disk.proofs.Common.{written_over, ℕ, ⊎_elim, ◌++◌, ◌+◌, ◌-◌, ◌<◌, ◌↔◌, ◌∷◌, ◌≡◌, ◌≤◌, ◌⊎◌}

pub synced_events_le : (events : List Event) → synced_events events ≤ length events
synced_events_le [] = omega arith
synced_events_le (event ∷ events) = let below = synced_events_le events in grind (arith, nat_tests)

-- a sync makes all durable, and a write nothing
pub synced_events-push : (events : List Event) (event : Event)
    → synced_events (events ++ event ∷ []) ≡ (if is_sync event then suc (length events) else synced_events events)
synced_events-push [] event = grind (arith, nat_tests)
synced_events-push (first ∷ events) event = let more = synced_events-push events event in grind (arith, nat_tests)

pub before-append : (xs ys : List Event) (bytes : List ℕ) → bytes_before (xs ++ ys) bytes ≡ bytes_before xs (bytes_before ys bytes)
before-append [] ys bytes = refl
before-append (event ∷ xs) ys bytes = let more = before-append xs ys bytes in grind arith

pub pending-write : (events : List Event) (event : Event) → is_sync event ≡ false → events_since_sync (events ++ event ∷ []) ≡ events_since_sync events ++ event ∷ []
pending-write events event is = rw (synced_events-push, is) (drop-append-le (synced_events events) events (event ∷ []) (synced_events_le events))

pub pending-sync : (events : List Event) → events_since_sync (events ++ Synced ∷ []) ≡ []
pending-sync events = drop_all _ (events ++ Synced ∷ []) (omega (arith, synced_events-push events Synced, length_push events Synced))

-- the pending events lie within the bounds of all
pub pending-within : (size : ℕ) (events : List Event) → list_all (is_event_within size) events ≡ true → list_all (is_event_within size) (events_since_sync events) ≡ true
pending-within size events all = (and_parts _ _ (rw (← take-append-drop (synced_events events) events, list_all-append) at all)).1

-- so does the part of the record from the synced events on
pub part-within : (size : ℕ) (part : List Event) (synced : ℕ) → list_all (is_event_within size) part ≡ true → synced ≡ synced_events part
    → list_all (is_event_within size) (take (length part - synced) (drop synced part)) ≡ true
part-within size part synced all is = rw (is, take_rest part (synced_events part)) (pending-within size part all)

-- if no byte is kept, all writes are undone
pub before_but_none : (events : List Event) (bytes : List ℕ) → before_but 0 events bytes ≡ bytes_before events bytes
before_but_none [] bytes = refl
before_but_none (event ∷ events) bytes = let more = before_but_none events bytes in grind arith

pub ruleset of_record = (synced_events_le, before_but_none, take_rest, with_items_is)

-- undoing writes changes only the bytes that they wrote
pub before_but-outside : (kept : ℕ) (events : List Event) (bytes : List ℕ) → list_all (is_event_within (length bytes)) events ≡ true
    → (length (before_but kept events bytes) ≡ length bytes)
    × ((i : ℕ) → is_covered events i ≡ false → get_or (before_but kept events bytes) i 0 ≡ get_or bytes i 0)
before_but-outside kept [] bytes within = (refl, λ i free. refl)
before_but-outside kept (Synced ∷ events) bytes within = before_but-outside kept events bytes within
before_but-outside kept (Written place replaced ∷ events) bytes within =
    let parts = and_parts _ _ within in
    let fits : place + length replaced.items ≤ length bytes = leb-true _ _ parts.0 in
    let rest = before_but-outside (kept - length replaced.items) events bytes parts.1 in
    (simp (length-append, length-take, length-drop) (omega (arith, fits, rest.0)), λ i free. grind (arith, places, nat_tests, rest.0, rest.1 i))

-- ---- a write and a sync

-- the moments before the last event are unchanged
module _ (events then_events : List Event) (event : Event) (old new : List ℕ) (recorded : then_events ≡ events ++ event ∷ [])
    (undone : bytes_before (event ∷ []) new ≡ old) where
  same : (k : ℕ) → k ≤ length events → (take k then_events ≡ take k events) × (bytes_before (drop k then_events) new ≡ bytes_before (drop k events) old)
  same k le = rw (recorded, take-append-le k events (event ∷ []) le, drop-append-le k events (event ∷ []) le, before-append, undone) (refl, refl)

  -- an image of a moment since t is one of before the event, or of this moment
  was : (P : List ℕ → Type 0) → ((c : List ℕ) → IsImage then_events new c → P c) → (t : ℕ) (c : List ℕ) → WasImage then_events new t c
      → WasImage events old t c ⊎ P c
  was P here t c image = elim (cases_lt (length events) image.0) [
    | inl last ↦ inr (here c (from_last then_events new image.0 (omega (arith, ap length recorded, length_push events event)) c image.3))
    | inr first ↦ inl (image.0, image.1, first, let is = same image.0 first in rw (is.0, is.1) at image.3)
  ]

  keeps : (t : ℕ) (c : List ℕ) → WasImage events old t c → WasImage then_events new t c
  keeps t c image = let is = same image.0 image.2 in (image.0, image.1, omega (arith, ap length recorded, length_push events event), rw (is.0, is.1) image.3)

-- a write that was recorded and made
module _ (events then_events : List Event) (place : ℕ) (new old then_bytes : List ℕ) (fits : place + length new ≤ length old)
    (recorded : (v : Vec ℕ Global) × (v.items ≡ slice_range old place (place + length new)) × (then_events ≡ events ++ Written place v ∷ []))
    (made : then_bytes ≡ bytes_after_write place new old) where
  abbrev write : Event
  write = Written place recorded.0

  abbrev replaced : List ℕ
  replaced = recorded.0.items

  long : length replaced ≡ length new
  long = rw recorded.1 (simp (length-take, length-drop) (omega arith))

  over : SameOutside place (length new) old then_bytes
  over = rw made (overwritten_outside place new old fits)

  undone : bytes_before (write ∷ []) then_bytes ≡ old
  undone = rw recorded.1 (written_over place (length new) (omega (arith, fits, over.same_length)) (turned place (length new) over))

  -- no pending write wrote a byte that none wrote before, and that lies outside the range
  free_now : (i : ℕ) → (is_covered (events_since_sync then_events) i ≡ false) ↔ ((is_covered (events_since_sync events) i ≡ false) × ((i < place) ⊎ (place + length new ≤ i)))
  free_now i = rw (recorded.2, pending-write events write refl, list_any-append, ← long) (grind (arith, nat_tests))

  -- each image after the write is one from before it, torn in the range
  torn : (c : List ℕ) → IsImage then_events then_bytes c → IsTorn place (length new) (IsImage events old) c
  torn c image =
      let room : place + length replaced ≤ length c = omega (arith, long, image.same_length, over.same_length) in
      let back = overwritten_within place (length new) replaced c (omega (arith, long)) (omega (arith, long, room)) in
      let same = λ (i : ℕ). overwritten_in place replaced c room i in
      (_, grind (arith, places, back.same_length, back.each, image.each, free_now, over.each, same, long), turned place (length new) back)

  -- and each such is an image
  pub write_exact : (c : List ℕ) → IsTorn place (length new) (IsImage events old) c → IsImage then_events then_bytes c
  write_exact c torn = grind (arith, torn.2.same_length, torn.1.same_length, over.same_length, free_now, torn.2.each, torn.1.each, over.each)

  pub write_leaves : (now after_it : _) → IsWritten place (length new) (recorded_state events old now) (recorded_state then_events then_bytes after_it)
  write_leaves now after_it =
      let since = was _ _ _ _ _ recorded.2 undone _ torn in
      let kept = keeps _ _ _ _ _ recorded.2 undone in search (arith, over, torn, ap length recorded.2, length_push events write, since, kept)

  pub write_within : list_all (is_event_within (length old)) events ≡ true → list_all (is_event_within (length then_bytes)) then_events ≡ true
  write_within all = rw (recorded.2, over.same_length, list_all-append) (and_from _ _ all (and_from _ _ (le-leb _ _ (omega (arith, long))) refl))

  pub write_synced : synced_events then_events ≡ synced_events events
  write_synced = rw recorded.2 (synced_events-push events write)

  pub write_as_synced : bytes_before (events_since_sync then_events) then_bytes ≡ bytes_before (events_since_sync events) old
  write_as_synced = rw (recorded.2, pending-write events write refl, before-append, undone)

-- a sync that was recorded
module _ (events then_events : List Event) (bytes : List ℕ) (recorded : then_events ≡ events ++ Synced ∷ []) where
  -- after it there is one image
  only_seen : (c : List ℕ) → IsImage then_events bytes c → c ≡ bytes
  only_seen c image = ext_get_or 0 c bytes image.same_length (λ i h. image.each i (rw (recorded, pending-sync events)))

  was_image : (c : List ℕ) → IsImage then_events bytes c → IsImage events bytes c
  was_image c image = rw (only_seen c image) (seen_is_image events bytes)

  pub sync_settled : (now : _) → Settled (recorded_state then_events bytes now)
  sync_settled now = record { honest = tt; consistent = consistent_of then_events bytes now; only = only_seen }

  pub sync_leaves : (now after_it : _) → NothingNew (recorded_state events bytes now) (recorded_state then_events bytes after_it)
  sync_leaves now after_it =
      let since : (t : ℕ) (c : List ℕ) → t ≤ length events → WasImage then_events bytes t c → WasImage events bytes t c = λ t c le image.
      ⊎_elim (λ earlier. earlier) (counts_now events bytes t c le) (was events then_events Synced bytes bytes recorded refl _ was_image t c image) in
      let kept = keeps events then_events Synced bytes bytes recorded refl in search (arith, ap length recorded, length_push events Synced, was_image, kept)

  pub sync_within : list_all (is_event_within (length bytes)) events ≡ true → list_all (is_event_within (length bytes)) then_events ≡ true
  sync_within all = rw (recorded, list_all-append) (and_from _ _ all refl)

pub sync_synced : (events then_events : List Event) → then_events ≡ events ++ Synced ∷ [] → length then_events ≡ synced_events then_events
sync_synced events then_events recorded = rw (recorded, synced_events-push events Synced) (omega (arith, length_push events Synced))

-- ---- a crash

-- it leaves an image
pub left_image : (torn : _) (disk : _) (c : List ℕ) → IsLeft torn disk c → IsImage disk.events.items disk.bytes.items c
left_image torn disk c left =
    let all = pending-within (length disk.bytes.items) disk.events.items disk.within in
    let same = λ (kept : ℕ). before_but-outside kept (events_since_sync disk.events.items) disk.bytes.items all in grind (arith, same 0, same, before_but_none)
