-- The files and images of a record from event to event.
use Rattle.std.proofs.Common.{[], length-append, length-drop, take_all, zero, ext_get_or, arith, get_or, length-take, Bool, drop, false, if◌then◌else◌, inl, inr, length, List, refl, suc, take, take-append-drop, true, ℕ, ◌++◌, ◌<◌, ◌⊎◌, subst}
use Rattle.std.proofs.Common.{◌+◌, ◌↔◌, ◌∷◌, ◌≡◌, ◌≤◌}
use Rattle.std.proofs.lemmas.Bool.{and_parts}
use Rattle.std.proofs.lemmas.Bool.Decides.{nat_tests}
use Rattle.std.proofs.lemmas.List.{take-append-le, take_more}
use Rattle.std.specs.List.{list_all}
use Rattle.std.specs.Prelude.{◌&&◌, not}
use Rattle.rly_folder.specs.FolderModel.{Files}
use Rattle.rly_folder.specs.HelpersFolder.{seen_is_image}
use Rattle.rly_folder.specs.Record.{after_crash, events_since_sync, files_from, files_left, files_of, files_with, images_from, images_with, is_sync, IsImage}
use Rattle.rly_folder.specs.Record.{no_files, standing, synced_events, synced_with}
use Rattle.rly_folder.specs.declared.record.Event.{Event}
use Rattle.rly_folder.specs.declared.record.Event.TheVariants.{Moved, Put, Synced, Taken, Undone}

pub files-append : (xs ys : List Event) (files : Files) → files_from (xs ++ ys) files ≡ files_from ys (files_from xs files)
files-append [] ys files = refl
files-append (event ∷ xs) ys files = files-append xs ys (files_with event files)

pub images-append : (xs ys : List Event) (files : Files) (images : Files → Type 0) (c : Files)
    → images_from (xs ++ ys) files images c ↔ images_from ys (files_from xs files) (images_from xs files images) c
images-append [] ys files images c = (λ h. h, λ h. h)
images-append (event ∷ xs) ys files images c = images-append xs ys (files_with event files) (images_with event files images) c

pub synced_events_le : (events : List Event) → synced_events events ≤ length events
synced_events_le [] = omega arith
synced_events_le (event ∷ events) = synced_with_le (is_sync event) _ _ (synced_events_le events)
  where
    synced_with_le : (sync : Bool) (n l : ℕ) → n ≤ l → synced_with sync n ≤ suc l
    synced_with_le sync n l le = grind (arith, nat_tests)

push_step : (sync first : Bool) (n s l : ℕ) → s ≡ (if sync then l + 1 else n) → synced_with first s ≡ (if sync then suc l + 1 else synced_with first n)
push_step true first n s l is = grind (arith, nat_tests)
push_step false first n s l is = grind (arith, nat_tests)

push_first : (sync : Bool) → synced_with sync 0 ≡ (if sync then 1 else 0)
push_first sync = grind (arith, nat_tests)

pub synced_events-push : (events : List Event) (event : Event)
    → synced_events (events ++ event ∷ []) ≡ (if is_sync event then length events + 1 else synced_events events)
synced_events-push [] event = push_first (is_sync event)
synced_events-push (first ∷ events) event = push_step (is_sync event) (is_sync first) _ _ _ (synced_events-push events event)

abbrev no_syncs : List Event → Bool
no_syncs events = list_all (λ event. not (is_sync event)) events

-- after the last sync there is none
none_step : (sync more : Bool) (n : ℕ) → synced_with sync n ≡ 0 → (n ≡ 0 → more ≡ true) → (not sync && more) ≡ true
none_step sync more n none rest = grind (arith, nat_tests)

none_synced : (events : List Event) → synced_events events ≡ 0 → no_syncs events ≡ true
none_synced [] none = refl
none_synced (event ∷ events) none = none_step (is_sync event) (no_syncs events) (synced_events events) none (none_synced events)

pub pending_unsynced : (events : List Event) → no_syncs (events_since_sync events) ≡ true
pending_unsynced [] = refl
pending_unsynced (event ∷ events) = elim (zero_or_more (synced_with (is_sync event) (synced_events events))) [
  | inl none ↦ rw none (none_synced (event ∷ events) none)
  | inr more ↦ rw (with_more (is_sync event) (synced_events events) more) (pending_unsynced events)
]
  where
    zero_or_more : (n : ℕ) → (n ≡ 0) ⊎ (0 < n)
    zero_or_more n = grind arith

    with_more : (sync : Bool) (n : ℕ) → 0 < synced_with sync n → synced_with sync n ≡ suc n
    with_more sync n more = grind (arith, nat_tests)

-- a pending change, made or not, of an image gives an image
standing_step : (event : Event) → not (is_sync event) ≡ true → (stand : Bool) (files d : Files) (images : Files → Type 0) → images d
    → images_with event files images (files_with (if stand then event else Undone) d)
standing_step (Put name file) is true files d images here = inr (d, here, refl)
standing_step (Taken name) is true files d images here = inr (d, here, refl)
standing_step (Moved from to file) is true files d images here = inr (d, here, refl)
standing_step (Put name file) is false files d images here = inl here
standing_step (Taken name) is false files d images here = inl here
standing_step (Moved from to file) is false files d images here = inl here
standing_step Synced is stand files d images here = cc
standing_step Undone is true files d images here = here
standing_step Undone is false files d images here = here

pub standing_is_image : (events : List Event) → no_syncs events ≡ true → (stands : List Bool) (files d : Files)
    (images : Files → Type 0) → images d → images_from events files images (files_from (standing stands events) d)
standing_is_image [] unsynced stands files d images here = here
standing_is_image (event ∷ events) unsynced [] files d images here = let parts = and_parts _ _ unsynced in
    standing_is_image events parts.1 [] (files_with event files) d (images_with event files images) (standing_step event parts.0 false files d images here)
standing_is_image (event ∷ events) unsynced (stand ∷ stands) files d images here = let parts = and_parts _ _ unsynced in
    standing_is_image events parts.1 stands (files_with event files) _ (images_with event files images) (standing_step event parts.0 stand files d images here)

-- what a crash leaves is an image
pub left_is_image : (stands : List Bool) (events : List Event) → IsImage events (files_left stands events)
left_is_image stands events =
    let n = synced_events events in let start : Files → Type 0 = λ image. image ≡ no_files in
    let durable = seen_is_image (take n events) no_files start refl in
    let pending = standing_is_image (drop n events) (pending_unsynced events) stands (files_of (take n events)) _ (IsImage (take n events)) durable in
    rw (files-append (take n events) (standing stands (drop n events)) no_files) (subst (λ es. IsImage es (files_from (standing stands (drop n events)) (files_of (take n events))))
    (take-append-drop n events) ((images-append (take n events) (drop n events) no_files start _).1 pending))

-- ---- steps of loops

pub files_more : (events : List Event) (i : ℕ) (d : Event) → i < length events → files_of (take (i + 1) events) ≡ files_with (get_or events i d) (files_of (take i events))
files_more events i d below = rw (take_more events i d below) (files-append (take i events) (get_or events i d ∷ []) no_files)

pub synced_more : (events : List Event) (i : ℕ) (d : Event) → i < length events
    → synced_events (take (i + 1) events) ≡ (if is_sync (get_or events i d) then i + 1 else synced_events (take i events))
synced_more events i d below = let long : length (take i events) ≡ i = simp length-take (omega arith) in
    rw (take_more events i d below, synced_events-push, long) refl

pub synced_step : (events : List Event) (i : ℕ) (event : Event) (old new : ℕ) → i < length events → event ≡ get_or events i event
    → old ≡ synced_events (take i events) → new ≡ (if is_sync event then i + 1 else old) → new ≡ synced_events (take (i + 1) events)
synced_step events i event old new below at is more = rw (synced_more events i event below, ← at, ← is) more

-- ---- the changes that stand, by their places

length-standing : (stands : List Bool) (events : List Event) → length (standing stands events) ≡ length events
length-standing stands [] = refl
length-standing [] (event ∷ events) = omega (arith, length-standing [] events)
length-standing (stand ∷ stands) (event ∷ events) = omega (arith, length-standing stands events)

standing_at : (stands : List Bool) (events : List Event) (k : ℕ) (d : Event) → k < length events
    → get_or (standing stands events) k d ≡ (if get_or stands k false then get_or events k d else Undone)
standing_at stands [] k d below = absurd (omega (arith, below))
standing_at [] (event ∷ events) zero d below = refl
standing_at [] (event ∷ events) (suc k) d below = standing_at [] events k d (omega (arith, below))
standing_at (stand ∷ stands) (event ∷ events) zero d below = refl
standing_at (stand ∷ stands) (event ∷ events) (suc k) d below = standing_at stands events k d (omega (arith, below))

-- up to a place the changes stand as said, from there on all do
pub record AreKept (stands : List Bool) (at : ℕ) (old new : List Event) : Type 0 where
  pub same_length : length new ≡ length old
  pub kept : (k : ℕ) (d : Event) → k < at → k < length old → get_or new k d ≡ (if get_or stands k false then get_or old k d else Undone)
  pub others : (k : ℕ) (d : Event) → at ≤ k → get_or new k d ≡ get_or old k d

pub kept_all : (stands : List Bool) (at : ℕ) (old new : List Event) → length old ≤ at → AreKept stands at old new → new ≡ standing stands old
kept_all stands at old new all are = ext_get_or Undone new (standing stands old) (omega (arith, are.same_length, length-standing stands old))
    (λ k below. let inside : k < length old = omega (arith, below, are.same_length) in
    rw (are.kept k Undone (omega (arith, inside, all)) inside, standing_at stands old k Undone inside) refl)

-- ---- a crash

length-after : (stands : List Bool) (events : List Event) → length (after_crash stands events) ≡ length events
length-after stands events = let n = synced_events events in
    omega (
      arith,
      length-append (take n events) (standing stands (drop n events)),
      length-take n events,
      length-standing stands (drop n events),
      length-drop n events,
      synced_events_le events,
    )

pub items_crashed : (stands : List Bool) (events after then_events : List Event) (n : ℕ) → n ≡ length events → after ≡ after_crash stands events
    → then_events ≡ take n (after ++ drop (length after) events) ++ Synced ∷ [] → then_events ≡ after_crash stands events ++ Synced ∷ []
items_crashed stands events after then_events n long is made =
    let all : length after ≡ n = rw (is, long) (length-after stands events) in
    let same : take n (after ++ drop (length after) events) ≡ after =
    rw (take-append-le n after (drop (length after) events) (omega (arith, all))) (take_all n after (omega (arith, all))) in
    rw made (rw same (rw is refl))

pub files_synced : (events : List Event) → files_of (events ++ Synced ∷ []) ≡ files_of events
files_synced events = files-append events (Synced ∷ []) no_files
