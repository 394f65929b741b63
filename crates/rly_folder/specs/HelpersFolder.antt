-- Helpers: the proof that `MemFolder` is a `Folder`. They claim nothing beyond the contract of `Folder`.
use Rattle.std.specs.Prelude.{◌≡◌, ◌≤◌, ℕ, List, [], ◌∷◌, length, take, refl, Option, option_map}
use Rattle.std.proofs.Common.{arith, inr, subst, sym}
use Rattle.std.proofs.lemmas.List.{take_all}
use Rattle.rly_folder.specs.FolderModel.{Consistent, File, Files, as_file}
use Rattle.rly_folder.specs.MemFolder.{mem_state, recorded_state}
use Rattle.rly_folder.specs.Record.{IsImage, WasImage, files_from, files_with, images_from, images_with, no_files}
use Rattle.rly_folder.specs.declared.counts.Counts.{Counts}
use Rattle.rly_folder.specs.declared.mem.MemFolder.{MemFolder}
use Rattle.rly_folder.specs.declared.record.Event.{Event}
use Rattle.rly_folder.specs.declared.record.Event.TheVariants.{Moved, Put, Synced, Taken, Undone}

-- an event made of an image gives an image, and of the files that are seen those seen after it
pub image_with : (event : Event) (files : Files) (images : Files → Type 0) → images files
    → images_with event files images (files_with event files)
image_with (Put name file) files images here = inr (files, here, refl)
image_with (Taken name) files images here = inr (files, here, refl)
image_with (Moved from to file) files images here = inr (files, here, refl)
image_with Synced files images here = refl
image_with Undone files images here = here

pub seen_is_image : (events : List Event) (files : Files) (images : Files → Type 0) → images files
    → images_from events files images (files_from events files)
seen_is_image [] files images here = here
seen_is_image (event ∷ events) files images here =
    seen_is_image events (files_with event files) (images_with event files images) (image_with event files images here)

module _ (events : List Event) (k : ℕ) (all : length events ≤ k) where
  pub from_last : (c : Files) → IsImage (take k events) c → IsImage events c
  from_last c image = subst (λ es. IsImage es c) (take_all k events all) image

  pub to_last : (c : Files) → IsImage events c → IsImage (take k events) c
  to_last c image = subst (λ es. IsImage es c) (sym (take_all k events all)) image

pub counts_now : (events : List Event) (t : ℕ) (c : Files) → t ≤ length events → IsImage events c → WasImage events t c
counts_now events t c le image =
    (length events, le, omega arith, to_last events (length events) (omega arith) c image)

pub only_now : (events : List Event) (c : Files) → WasImage events (length events) c → IsImage events c
only_now events c was = from_last events was.0 was.1 c was.3

pub consistent_of : (events : List Event) (hidden : Option File) (counts : Counts)
    → Consistent (recorded_state events hidden counts)
consistent_of events hidden counts = record {
  seen_is_image = seen_is_image events no_files (λ image. image ≡ no_files) refl;
  counts_now = counts_now events;
  only_now = only_now events;
}

pub mem_consistent : (folder : MemFolder) → Consistent (mem_state folder)
mem_consistent folder =
    consistent_of folder.events.items (option_map as_file folder.hidden) folder.counts

pub mem_calls_lead : (folder : MemFolder)
    → (folder.counts.failures ≤ folder.counts.calls) × (folder.counts.syncs ≤ folder.counts.calls)
mem_calls_lead folder = (folder.counts.failures_are_calls, folder.counts.syncs_are_calls)
