-- The calls of a folder, the changes that other programs make between them, and the effect of both.
use Rattle.std.specs.Prelude.{◌≡◌, ◌⊎◌, ◌↔◌, ◌≤◌, ◌+◌, ◌||◌, ◌&&◌, ℕ, Bool, true, false, not, if◌then◌else◌}
use Rattle.std.specs.Prelude.{List, [], ◌∷◌, ◌++◌, Option, None, Some, is_none, is_some, Result, Ok, Err}
use Rattle.std.specs.List.{list_all}
use Rattle.rly_folder.specs.FolderModel.{Contents, File, Files, FolderState, IsSpent, with_file}
use Rattle.rly_folder.specs.declared.name.Area.{Area}
use Rattle.rly_folder.specs.declared.name.Name.{Name}

-- a call of the station
pub data FolderCall : Type 0 where
  ListNames : (area : Area) → FolderCall
  ReadFile : (name : Name) → FolderCall
  -- the hidden file is this one, and replaces an earlier one
  WriteHidden : (file : File) → FolderCall
  -- the hidden file gets a name
  Link : (to : Name) → FolderCall
  Rename : (from to : Name) → FolderCall
  Remove : (name : Name) → FolderCall
  Sync : FolderCall

-- a call is declined if its name is taken, or its file isn't there
abbrev pub is_declined : FolderCall → Contents → Bool
is_declined (ListNames area) contents = false
is_declined (ReadFile name) contents = false
is_declined (WriteHidden file) contents = false
is_declined (Link to) contents = is_none contents.hidden || is_some (contents.files to)
is_declined (Rename from to) contents = is_none (contents.files from)
is_declined (Remove name) contents = is_none (contents.files name)
is_declined Sync contents = false

-- what a call makes of some files, those seen or a crash image, given what the station sees
abbrev pub files_after : FolderCall → Contents → Files → Files
files_after (ListNames area) contents files = files
files_after (ReadFile name) contents files = files
files_after (WriteHidden file) contents files = files
files_after (Link to) contents files = with_file to contents.hidden files
files_after (Rename from to) contents files = with_file to (contents.files from) (with_file from None files)
files_after (Remove name) contents files = with_file name None files
files_after Sync contents files = files

abbrev pub hidden_after : FolderCall → Option File → Option File
hidden_after (ListNames area) hidden = hidden
hidden_after (ReadFile name) hidden = hidden
hidden_after (WriteHidden file) hidden = Some file
hidden_after (Link to) hidden = None
hidden_after (Rename from to) hidden = hidden
hidden_after (Remove name) hidden = hidden
hidden_after Sync hidden = hidden

-- what happens to a folder
pub data FolderEvent : Type 0 where
  Done : (call : FolderCall) → FolderEvent
  -- nothing was changed
  Declined : (call : FolderCall) → FolderEvent
  -- the call failed: the station sees its change done or not, not done if it had to be declined, and has to write the
  -- hidden file again
  Failed : (call : FolderCall) (done : Bool) (hidden : Option File) → FolderEvent
  -- another program put this file under a name, or removed the name's file
  Other : (name : Name) (file : Option File) → FolderEvent

abbrev pub contents_after : FolderEvent → Contents → Contents
contents_after (Done call) contents =
    record { files = files_after call contents contents.files; hidden = hidden_after call contents.hidden }
contents_after (Declined call) contents = contents
contents_after (Failed call done hidden) contents =
    record { files = if done then files_after call contents contents.files else contents.files; hidden = hidden }
contents_after (Other name file) contents =
    record { files = with_file name file contents.files; hidden = contents.hidden }

-- an image from before a change, with the change or without it
abbrev pub MayBeMade : (Files → Files) → (Files → Type 0) → Files → Type 0
MayBeMade change before image = before image ⊎ ((d : Files) × before d × (image ≡ change d))

-- the crash images after an event: each change is made or not, whatever became of the others, until a sync
abbrev pub images_after_call : FolderCall → Contents → (Files → Type 0) → Files → Type 0
images_after_call (ListNames area) contents before = before
images_after_call (ReadFile name) contents before = before
images_after_call (WriteHidden file) contents before = before
images_after_call (Link to) contents before = MayBeMade (files_after (Link to) contents) before
images_after_call (Rename from to) contents before = MayBeMade (files_after (Rename from to) contents) before
images_after_call (Remove name) contents before = MayBeMade (files_after (Remove name) contents) before
images_after_call Sync contents before = λ image. image ≡ contents.files

-- after a call that failed: with its change, unless it had to be declined, or without it
abbrev pub FailedImages : FolderCall → Contents → (Files → Type 0) → Files → Type 0
FailedImages call contents before image = before image
    ⊎ ((is_declined call contents ≡ false) × MayBeMade (files_after call contents) before image)

abbrev pub images_after : FolderEvent → Contents → (Files → Type 0) → Files → Type 0
images_after (Done call) contents before = images_after_call call contents before
images_after (Declined call) contents before = before
images_after (Failed call done hidden) contents before = FailedImages call contents before
images_after (Other name file) contents before = MayBeMade (with_file name file) before

-- a call is done only if the model doesn't decline it, and declined only if it does
abbrev pub is_possible : FolderEvent → Contents → Bool
is_possible (Done call) contents = not (is_declined call contents)
is_possible (Declined call) contents = is_declined call contents
is_possible (Failed call done hidden) contents = not (done && is_declined call contents)
is_possible (Other name file) contents = true

-- the same for a list of events
abbrev pub contents_at_end : List FolderEvent → Contents → Contents
contents_at_end [] contents = contents
contents_at_end (event ∷ events) contents = contents_at_end events (contents_after event contents)

abbrev pub images_at_end : List FolderEvent → Contents → (Files → Type 0) → Files → Type 0
images_at_end [] contents images = images
images_at_end (event ∷ events) contents images =
    images_at_end events (contents_after event contents) (images_after event contents images)

-- the images of any moment of a list of events
abbrev pub images_within : List FolderEvent → Contents → (Files → Type 0) → Files → Type 0
images_within [] contents images image = images image
images_within (event ∷ events) contents images image = images image
    ⊎ images_within events (contents_after event contents) (images_after event contents images) image

abbrev pub are_possible : List FolderEvent → Contents → Bool
are_possible [] contents = true
are_possible (event ∷ events) contents =
    is_possible event contents && are_possible events (contents_after event contents)

-- the kinds of events that are counted
abbrev pub is_call : FolderEvent → Bool
is_call (Done call) = true
is_call (Declined call) = true
is_call (Failed call done hidden) = true
is_call (Other name file) = false

abbrev pub is_failed_call : FolderEvent → Bool
is_failed_call (Done call) = false
is_failed_call (Declined call) = false
is_failed_call (Failed call done hidden) = true
is_failed_call (Other name file) = false

abbrev pub is_sync : FolderCall → Bool
is_sync (ListNames area) = false
is_sync (ReadFile name) = false
is_sync (WriteHidden file) = false
is_sync (Link to) = false
is_sync (Rename from to) = false
is_sync (Remove name) = false
is_sync Sync = true

abbrev pub is_sync_call : FolderEvent → Bool
is_sync_call (Done call) = is_sync call
is_sync_call (Declined call) = is_sync call
is_sync_call (Failed call done hidden) = is_sync call
is_sync_call (Other name file) = false

-- the number of events of this kind
abbrev pub count_of : (FolderEvent → Bool) → List FolderEvent → ℕ
count_of kind [] = 0
count_of kind (event ∷ events) = (if kind event then 1 else 0) + count_of kind events

-- the effect of the events on an honest folder
pub record Follows (events : List FolderEvent) (old new : FolderState) : Type 0 where
  pub possible : are_possible events old.seen ≡ true
  pub seen : new.seen ≡ contents_at_end events old.seen
  pub images : (c : Files) → new.images c → images_at_end events old.seen old.images c
  pub later : old.moment ≤ new.moment
  pub since : (t : ℕ) (c : Files) → t ≤ old.moment
      → new.since t c → old.since t c ⊎ images_within events old.seen old.images c
  pub keeps : (t : ℕ) (c : Files) → t ≤ old.moment → old.since t c → new.since t c

-- exactly these events lead from one state of a folder to another: on any folder they account for its counters, on an
-- honest one also for its files and its crash images
pub record Leads (events : List FolderEvent) (old new : FolderState) : Type 0 where
  pub calls : new.calls ≡ old.calls + count_of is_call events
  pub failures : new.failures ≡ old.failures + count_of is_failed_call events
  pub syncs : new.syncs ≡ old.syncs + count_of is_sync_call events
  pub honest : new.honest ↔ old.honest
  pub follows : old.honest → Follows events old new

-- how a call returned
pub data Outcome : Type 0 where
  Did : Outcome
  Refrained : Outcome
  Faulted : Outcome

abbrev pub is_faulted : Outcome → Bool
is_faulted Did = false
is_faulted Refrained = false
is_faulted Faulted = true

-- of a call that can't be declined, from whether it returned `Ok`
abbrev pub outcome_if : Bool → Outcome
outcome_if ok = if ok then Did else Faulted

-- of a call that returns whether it changed anything
abbrev pub outcome_of : {E : Type 0} → Result Bool E → Outcome
outcome_of (Ok changed) = if changed then Did else Refrained
outcome_of (Err fault) = Faulted

-- the event of a call that returned so
abbrev pub IsOwn : FolderCall → Outcome → FolderEvent → Type 0
IsOwn call Did event = event ≡ Done call
IsOwn call Refrained event = event ≡ Declined call
IsOwn call Faulted event = (done : Bool) × (hidden : Option File) × (event ≡ Failed call done hidden)

abbrev pub is_other : FolderEvent → Bool
is_other event = not (is_call event)

-- other programs changed what they changed, and then the call was made
pub record IsOneCall (call : FolderCall) (outcome : Outcome) (events : List FolderEvent) : Type 0 where
  pub others : List FolderEvent
  pub own : FolderEvent
  pub events_are : events ≡ others ++ own ∷ []
  pub are_others : list_all is_other others ≡ true
  pub is_own : IsOwn call outcome own

-- one call of a folder, which returned so. It isn't counted, and fails, if the number of calls has its maximum value
pub record Makes {D : Type 0} (state : D → FolderState) (call : FolderCall) (outcome : Outcome) (old new : D)
    : Type 0 where
  pub events : List FolderEvent
  pub leads : Leads events (state old) (state new)
  pub made : IsOneCall call outcome events
      ⊎ ((events ≡ []) × (outcome ≡ Faulted) × IsSpent (state old) × (new ≡ old))
