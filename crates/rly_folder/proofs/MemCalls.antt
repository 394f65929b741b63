-- The calls of a folder in memory, from its record.
use Rattle.std.proofs.Common.{[], arith, Bool, Err, false, if◌then◌else◌, inl, inr, length, List, None, option_map, Ok, Option, refl, Some, subst, sym}
use Rattle.std.proofs.Common.{is_none, is_ok, is_some, OnErr, OnOk, Result, ◌||◌, take, true, ℕ, ⊎_elim, ◌++◌, ◌+◌, ◌∷◌, ◌≡◌, ◌≤◌, ◌⊎◌, ◌↔◌}
use Rattle.std.proofs.lemmas.Bool.{cases_lt}
use Rattle.std.proofs.lemmas.List.{length_push, take-append-le}
use Rattle.rly_folder.specs.FolderCalls.{contents_after, Declined, Done, Failed, Faulted, FolderCall, FolderEvent, Follows, images_after, is_call, is_declined, Did, Link, Refrained, Remove, Rename, Sync, WriteHidden}
use Rattle.rly_folder.specs.FolderCalls.{is_failed_call, is_possible, is_sync, is_sync_call, Leads, Makes, MayBeMade, Other, outcome_if}
use Rattle.rly_folder.specs.FolderModel.{as_file, Contents, File, Files, FolderState, Settled, with_file}
use Rattle.rly_folder.specs.HelpersFolder.{consistent_of, from_last}
use Rattle.rly_folder.specs.MemFolder.{mem_state, recorded_state}
use Rattle.rly_folder.specs.Record.{files_of, files_with, images_with, IsImage, no_files, WasImage}
use Rattle.rly_folder.specs.declared.counts.Counts.{Counts}
use Rattle.rly_folder.specs.declared.folder_file.FolderFile.{FolderFile}
use Rattle.rly_folder.specs.declared.mem.MemFolder.{MemFolder}
use Rattle.rly_folder.specs.declared.name.Name.{Name}
use Rattle.rly_folder.specs.declared.record.Event.{Event}
use Rattle.rly_folder.specs.declared.record.Event.TheVariants.{Moved, Put, Synced, Taken}
use Rattle.rly_folder.proofs.Events.{makes_one}
use Rattle.rly_folder.proofs.RecordLemmas.{files-append, images-append}

abbrev pub held : List Event → Option File → Contents
held events hidden = record { files = files_of events; hidden = hidden }

-- ---- one more event

module _ (events : List Event) (event : Event) where
  abbrev more : List Event
  more = events ++ event ∷ []

  front : (k : ℕ) → k ≤ length events → take k more ≡ take k events
  front k le = take-append-le k events (event ∷ []) le

  was_more : (t : ℕ) (c : Files) → WasImage more t c → WasImage events t c ⊎ IsImage more c
  was_more t c was = elim (cases_lt (length events) was.0) [
    | inl last ↦ inr (from_last more was.0 (omega (arith, length_push events event)) c was.3)
    | inr first ↦ inl (was.0, was.1, first, subst (λ es. IsImage es c) (front was.0 first) was.3)
  ]

  keeps_more : (t : ℕ) (c : Files) → WasImage events t c → WasImage more t c
  keeps_more t c was = (was.0, was.1, omega (arith, was.2, length_push events event), subst (λ es. IsImage es c) (sym (front was.0 was.2)) was.3)

  image_more : (c : Files) → IsImage more c → images_with event (files_of events) (IsImage events) c
  image_more c = (images-append events (event ∷ []) no_files (λ image. image ≡ no_files) c).0

  more_image : (c : Files) → images_with event (files_of events) (IsImage events) c → IsImage more c
  more_image c = (images-append events (event ∷ []) no_files (λ image. image ≡ no_files) c).1

  files_more : files_of more ≡ files_with event (files_of events)
  files_more = files-append events (event ∷ []) no_files

-- ---- one event of the folder

-- nothing was recorded
pub follows_same : (events then_events : List Event) (hidden then_hidden : Option File) (counts then_counts : Counts) (event : FolderEvent)
    → then_events ≡ events → is_possible event (held events hidden) ≡ true → held events then_hidden ≡ contents_after event (held events hidden)
    → ((c : Files) → IsImage events c → images_after event (held events hidden) (IsImage events) c)
    → Follows (event ∷ []) (recorded_state events hidden counts) (recorded_state then_events then_hidden then_counts)
follows_same events then_events hidden then_hidden counts then_counts event same possible after images =
    rw same (record {
      possible = rw possible refl;
      seen = after;
      images = images;
      later = omega arith;
      since = λ t c le image. inl image;
      keeps = λ t c le image. image;
    })

-- a change was recorded
pub follows_more : (events then_events : List Event) (change : Event) (hidden then_hidden : Option File) (counts then_counts : Counts) (event : FolderEvent)
    → then_events ≡ events ++ change ∷ [] → is_possible event (held events hidden) ≡ true
    → (let seen : Contents = record { files = files_with change (files_of events); hidden = then_hidden } in seen ≡ contents_after event (held events hidden))
    → ((c : Files) → images_with change (files_of events) (IsImage events) c → images_after event (held events hidden) (IsImage events) c)
    → Follows (event ∷ []) (recorded_state events hidden counts) (recorded_state then_events then_hidden then_counts)
follows_more events then_events change hidden then_hidden counts then_counts event same possible after images =
    let whole : Follows (event ∷ []) (recorded_state events hidden counts) (recorded_state (more events change) then_hidden then_counts) = record {
      possible = rw possible refl;
      seen = rw (files_more events change) after;
      images = λ c image. images c (image_more events change c image);
      later = omega (arith, length_push events change);
      since = λ t c le was. ⊎_elim (λ before. inl before) (λ now. inr (inr (images c (image_more events change c now)))) (was_more events change t c was);
      keeps = λ t c le was. keeps_more events change t c was;
    } in rw same whole

leads_one : {a b : FolderState} (event : FolderEvent) → b.calls ≡ a.calls + (if is_call event then 1 else 0)
    → b.failures ≡ a.failures + (if is_failed_call event then 1 else 0) → b.syncs ≡ a.syncs + (if is_sync_call event then 1 else 0)
    → b.honest ↔ a.honest → (a.honest → Follows (event ∷ []) a b) → Leads (event ∷ []) a b
leads_one event calls failures syncs honest follows = record {
  calls = omega (arith, calls);
  failures = omega (arith, failures);
  syncs = omega (arith, syncs);
  honest = honest;
  follows = follows;
}

abbrev hidden_of : MemFolder → Option File
hidden_of folder = option_map as_file folder.hidden

-- the counters after a call
pub record Tallied (sync failed : Bool) (a b : MemFolder) : Type 0 where
  pub calls : b.counts.calls ≡ a.counts.calls + 1
  pub failures : b.counts.failures ≡ a.counts.failures + (if failed then 1 else 0)
  pub syncs : b.counts.syncs ≡ a.counts.syncs + (if sync then 1 else 0)

module _ (a b : MemFolder) where
  abbrev seen : Contents
  seen = held a.events.items (hidden_of a)

  -- a call that failed and recorded nothing
  pub mem_failed : (call : FolderCall) → b.events.items ≡ a.events.items → Tallied (is_sync call) true a b → Makes mem_state call Faulted a b
  mem_failed call same tallied =
      makes_one mem_state call Faulted (Failed call false (hidden_of b)) (false, hidden_of b, refl)
      (leads_one (Failed call false (hidden_of b)) tallied.calls tallied.failures tallied.syncs (λ h. h, λ h. h)
      (λ honest. follows_same a.events.items b.events.items (hidden_of a) (hidden_of b) a.counts b.counts (Failed call false (hidden_of b)) same refl refl (λ c image. inl image)))

  -- one that was declined
  pub mem_declined : (call : FolderCall) → b.events.items ≡ a.events.items → hidden_of b ≡ hidden_of a → is_declined call seen ≡ true
      → Tallied (is_sync call) false a b → Makes mem_state call Refrained a b
  mem_declined call same hidden declined tallied =
      makes_one mem_state call Refrained (Declined call) refl
      (leads_one (Declined call) tallied.calls tallied.failures tallied.syncs (λ h. h, λ h. h)
      (λ honest. follows_same a.events.items b.events.items (hidden_of a) (hidden_of b) a.counts b.counts (Declined call) same declined (rw hidden refl) (λ c image. image)))

  -- one that was done and recorded nothing
  pub mem_done : (call : FolderCall) → b.events.items ≡ a.events.items → is_declined call seen ≡ false
      → held a.events.items (hidden_of b) ≡ contents_after (Done call) seen
      → ((c : Files) → IsImage a.events.items c → images_after (Done call) seen (IsImage a.events.items) c)
      → Tallied (is_sync call) false a b → Makes mem_state call Did a b
  mem_done call same possible after images tallied =
      makes_one mem_state call Did (Done call) refl
      (leads_one (Done call) tallied.calls tallied.failures tallied.syncs (λ h. h, λ h. h)
      (λ honest. follows_same a.events.items b.events.items (hidden_of a) (hidden_of b) a.counts b.counts (Done call) same (rw possible refl) after images))

  -- one that was done and recorded a change
  pub mem_changed : (call : FolderCall) (change : Event) → b.events.items ≡ a.events.items ++ change ∷ [] → is_declined call seen ≡ false
      → (let then_seen : Contents = record { files = files_with change (files_of a.events.items); hidden = hidden_of b } in
      then_seen ≡ contents_after (Done call) seen)
      → ((c : Files) → images_with change (files_of a.events.items) (IsImage a.events.items) c → images_after (Done call) seen (IsImage a.events.items) c)
      → Tallied (is_sync call) false a b → Makes mem_state call Did a b
  mem_changed call change same possible after images tallied =
      makes_one mem_state call Did (Done call) refl
      (leads_one (Done call) tallied.calls tallied.failures tallied.syncs (λ h. h, λ h. h)
      (λ honest. follows_more a.events.items b.events.items change (hidden_of a) (hidden_of b) a.counts b.counts (Done call) same (rw possible refl) after images))

  -- another program's change
  pub mem_other : (change : Event) (name : _) (file : Option File) → b.events.items ≡ a.events.items ++ change ∷ [] → hidden_of b ≡ hidden_of a
      → b.counts ≡ a.counts → ((files : Files) → files_with change files ≡ with_file name file files)
      → ((c : Files) → images_with change (files_of a.events.items) (IsImage a.events.items) c → MayBeMade (with_file name file) (IsImage a.events.items) c)
      → Leads (Other name file ∷ []) (mem_state a) (mem_state b)
  mem_other change name file same hidden counts changes images =
      leads_one (Other name file) (rw counts (omega arith)) (rw counts (omega arith)) (rw counts (omega arith)) (λ h. h, λ h. h)
      (λ honest. follows_more a.events.items b.events.items change (hidden_of a) (hidden_of b) a.counts b.counts (Other name file) same refl (rw (hidden, changes (files_of a.events.items)) refl) images)

  pub mem_linked : (to : Name) (file : FolderFile) → a.hidden ≡ Some file → is_some (files_of a.events.items to) ≡ false
      → b.events.items ≡ a.events.items ++ Put to file ∷ [] → b.hidden ≡ None → Tallied false false a b → Makes mem_state (Link to) Did a b
  mem_linked to file had free same left tallied =
      let hidden : hidden_of a ≡ Some (as_file file) = rw had refl in
      mem_changed (Link to) (Put to file) same (rw (hidden, free) refl) (rw (hidden, left) refl) (λ c image. rw hidden image) tallied

  pub mem_renamed : (from to : Name) (file : FolderFile) → Some (as_file file) ≡ files_of a.events.items from
      → b.events.items ≡ a.events.items ++ Moved from to file ∷ [] → b.hidden ≡ a.hidden → Tallied false false a b → Makes mem_state (Rename from to) Did a b
  mem_renamed from to file had same left tallied =
      mem_changed (Rename from to) (Moved from to file) same (rw (← had) refl) (rw (left, ← had) refl) (λ c image. rw (← had) image) tallied

  pub mem_removed : (name : Name) → is_some (files_of a.events.items name) ≡ true
      → b.events.items ≡ a.events.items ++ Taken name ∷ [] → b.hidden ≡ a.hidden → Tallied false false a b → Makes mem_state (Remove name) Did a b
  mem_removed name had same left tallied =
      mem_changed (Remove name) (Taken name) same (rw had refl) (rw left refl) (λ c image. image) tallied

  pub mem_synced : b.events.items ≡ a.events.items ++ Synced ∷ [] → b.hidden ≡ a.hidden → Tallied true false a b → Makes mem_state Sync Did a b
  mem_synced same left tallied = mem_changed Sync Synced same refl (rw left refl) (λ c image. image) tallied

  -- from what the call that records it returned
  pub mem_sync : {E : Type 0} (result : Result (Unit {0}) E) → OnOk result (b.events.items ≡ a.events.items ++ Synced ∷ [])
      → OnErr result (b.events.items ≡ a.events.items) → b.hidden ≡ a.hidden → b.counts.calls ≡ a.counts.calls + 1
      → b.counts.failures ≡ a.counts.failures + (if is_ok result then 0 else 1) → b.counts.syncs ≡ a.counts.syncs + 1
      → Makes mem_state Sync (outcome_if (is_ok result)) a b
  mem_sync (Ok done) pushed same left calls failures syncs = mem_synced pushed left (record { calls = calls; failures = failures; syncs = syncs })
  mem_sync (Err fault) pushed same left calls failures syncs = mem_failed Sync same (record { calls = calls; failures = failures; syncs = syncs })

  abbrev pub is_known : File → Type 0
  is_known file = hidden_of b ≡ Some file

  pub mem_written : (file : File) → is_known file → b.events.items ≡ a.events.items → Tallied false false a b
      → Makes mem_state (WriteHidden file) Did a b
  mem_written file known same tallied = mem_done (WriteHidden file) same refl (rw known refl) (λ c image. image) tallied

  pub link_taken : (to : Name) → is_some (files_of a.events.items to) ≡ true → b.events.items ≡ a.events.items → b.hidden ≡ a.hidden
      → Tallied false false a b → Makes mem_state (Link to) Refrained a b
  link_taken to taken same left tallied = mem_declined (Link to) same (rw left refl) (either (is_none (hidden_of a)) _ taken) tallied
    where
      either : (none some : Bool) → some ≡ true → (none || some) ≡ true
      either none some is = grind arith

  pub link_none : (to : Name) → a.hidden ≡ None → b.events.items ≡ a.events.items → b.hidden ≡ None
      → Tallied false false a b → Makes mem_state (Link to) Refrained a b
  link_none to none same left tallied = mem_declined (Link to) same (rw (left, none) refl) (rw none refl) tallied

  pub not_there : (call : FolderCall) (name : Name) → is_declined call seen ≡ is_none (files_of a.events.items name) → is_some (files_of a.events.items name) ≡ false
      → b.events.items ≡ a.events.items → b.hidden ≡ a.hidden → Tallied (is_sync call) false a b → Makes mem_state call Refrained a b
  not_there call name declined absent same left tallied = mem_declined call same (rw left refl) (rw (declined, absent) refl) tallied

  -- the images after a change are all that the model allows
  pub exact : (change : Event) → b.events.items ≡ a.events.items ++ change ∷ [] → (c : Files)
      → images_with change (files_of a.events.items) (IsImage a.events.items) c → IsImage b.events.items c
  exact change same c image = rw same (more_image a.events.items change c image)

  pub link_exact : (to : Name) (file : FolderFile) → a.hidden ≡ Some file → b.events.items ≡ a.events.items ++ Put to file ∷ [] → (c : Files)
      → images_after (Done (Link to)) seen (IsImage a.events.items) c → IsImage b.events.items c
  link_exact to file had same c image = exact (Put to file) same c
      (let hidden : hidden_of a ≡ Some (as_file file) = rw had refl in rw hidden at image)

  pub rename_exact : (from to : Name) (file : FolderFile) → Some (as_file file) ≡ files_of a.events.items from
      → b.events.items ≡ a.events.items ++ Moved from to file ∷ [] → (c : Files)
      → images_after (Done (Rename from to)) seen (IsImage a.events.items) c → IsImage b.events.items c
  rename_exact from to file had same c image = exact (Moved from to file) same c (rw (← had) at image)

-- ---- a crash

-- after a sync at the record's end there is one image
pub one_image : (events : List Event) (c : Files) → IsImage (events ++ Synced ∷ []) c → c ≡ files_of (events ++ Synced ∷ [])
one_image events c image = rw (files_more events Synced) (image_more events Synced c image)

pub crash_settled : (events then_events : List Event) (counts : Counts) → then_events ≡ events ++ Synced ∷ [] → Settled (recorded_state then_events None counts)
crash_settled events then_events counts made = record {
  honest = tt;
  consistent = consistent_of then_events None counts;
  only = rw made (one_image events);
}
