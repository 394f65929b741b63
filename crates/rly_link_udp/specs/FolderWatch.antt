-- The watch of the folders that play a station's neighbours (docs/COMMANDS.md, "rly serve").
use Rattle.std.specs.Prelude.{◌≡◌, ℕ, ◌+◌, ◌==◌, ◌||◌, nat_le, nat_lt, not, Bool, true, false, is_some, List, map, filter, Option, Some, None, ◌++◌, string_bytes}
use Rattle.http_server.specs.declared.log.Log.{Log}
use Rattle.rly_link.specs.declared.turn.Worker.{Worker}
use Rattle.rly_link_udp.specs.declared.folder_watch.FolderPath.{FolderPath}
use Rattle.rly_link_udp.specs.declared.folder_watch.FolderWatch.{FolderWatch}
use Rattle.rly_link_udp.specs.declared.folder_watch.WatchedFolder.{WatchedFolder}

-- whether a time is another one
abbrev pub is_other : ℕ → Option ℕ → Bool
is_other time None = true
is_other time (Some before) = not (time == before)

-- Whether a folder may have been changed, at a moment of the wall clock, by the times of two looks, in microseconds: they
-- differ, or the last time is less than two seconds old, or can't be read though the one before could.
abbrev pub is_changed : (now : ℕ) → (before seen : Option ℕ) → Bool
is_changed now before (Some time) = is_other time before || nat_lt now (time + 2000000)
is_changed now before None = is_some before

-- the workers of those folders
abbrev pub woken_in : (now : ℕ) → List WatchedFolder → List Worker
woken_in now folders = map (λ f. f.worker) (filter (λ f. is_changed now f.before f.seen) folders)

-- a second after the last look it is time for the next one
abbrev pub is_due : (looked : Option ℕ) → (since : ℕ) → Bool
is_due None since = true
is_due (Some looked) since = nat_le (looked + 1000000) since

-- where a worker has to look
abbrev pub path_of : FolderPath → Worker × List ℕ
path_of f = (f.worker, string_bytes f.path)

-- a folder with the times of both looks; with that of the last one; and with that of the one before
abbrev pub seen_of : WatchedFolder → Worker × List ℕ × Option ℕ × Option ℕ
seen_of f = (f.worker, string_bytes f.path, f.before, f.seen)

abbrev pub asked_of : WatchedFolder → Worker × List ℕ × Option ℕ
asked_of f = (f.worker, string_bytes f.path, f.seen)

abbrev pub kept_of : WatchedFolder → Worker × List ℕ × Option ℕ
kept_of f = (f.worker, string_bytes f.path, f.before)

-- at which nobody looked
abbrev pub unseen : Worker × List ℕ → Worker × List ℕ × Option ℕ × Option ℕ
unseen path = (path.0, path.1, None, None)

-- the workers that a watch woke
abbrev pub rung_of : Log Worker (Unit {0}) → List Worker
rung_of log = map (λ e. e.0) log.items

-- all folders were looked at, and the workers of those that may have been changed were woken
pub record Looks (old new : FolderWatch) (now since : ℕ) : Type 0 where
  pub looked : new.looked ≡ Some since
  pub kept : map kept_of new.folders.items ≡ map asked_of old.folders.items
  pub rung : rung_of new.rung ≡ rung_of old.rung ++ woken_in now new.folders.items

abbrev pub LooksIf : Bool → FolderWatch → FolderWatch → (now since : ℕ) → Type 0
LooksIf true old new now since = Looks old new now since
LooksIf false old new now since = new ≡ old

-- the clocks were read once more
abbrev pub HasLooked : FolderWatch → FolderWatch → (now since : ℕ) → Type 0
HasLooked old new now since = LooksIf (is_due old.looked since) old new now since

-- the same of a clock that watches folders, if it does
abbrev pub HasLookedIf : Option FolderWatch → Option FolderWatch → (now since : ℕ) → Type 0
HasLookedIf None new now since = new ≡ None
HasLookedIf (Some old) None now since = ⊥
HasLookedIf (Some old) (Some new) now since = HasLooked old new now since
