-- A call of a folder of the file system, from its counters.
use Rattle.std.proofs.Common.{[], arith, Bool, false, true, if◌then◌else◌, is_ok, None, refl, ℕ, ◌+◌, ◌∷◌, ◌≡◌}
use Rattle.std.specs.Prelude.{Err, Ok, Result}
use Rattle.rly_folder.specs.FolderCalls.{Declined, Did, Done, Failed, Faulted, FolderCall, FolderEvent, is_call, is_failed_call, is_sync, is_sync_call, Leads, Makes, outcome_if, outcome_of, Refrained}
use Rattle.rly_folder.proofs.Events.{makes_one}
use Rattle.rly_folder_file.specs.FileFolder.{file_state}
use Rattle.rly_folder_file.specs.declared.file_folder.FileFolder.{FileFolder}

module _ {H : Type 0} (a b : FileFolder H) (call : FolderCall) (calls : b.counts.calls ≡ a.counts.calls + 1)
    (syncs : b.counts.syncs ≡ a.counts.syncs + (if is_sync call then 1 else 0)) where
  one : (event : FolderEvent) (fails : ℕ) → is_call event ≡ true → is_sync_call event ≡ is_sync call → (if is_failed_call event then 1 else 0) ≡ fails
      → b.counts.failures ≡ a.counts.failures + fails → Leads (event ∷ []) (file_state a) (file_state b)
  one event fails own sync failed failures = record {
    calls = rw own (omega (arith, calls));
    failures = rw failed (omega (arith, failures));
    syncs = rw sync (omega (arith, syncs));
    honest = (λ h. h, λ h. h);
    follows = λ h. absurd h;
  }

  pub made_if : (ok : Bool) → b.counts.failures ≡ a.counts.failures + (if ok then 0 else 1) → Makes file_state call (outcome_if ok) a b
  made_if true failures = makes_one file_state call Did (Done call) refl (one (Done call) 0 refl refl refl failures)
  made_if false failures = makes_one file_state call Faulted (Failed call false None) (false, None, refl) (one (Failed call false None) 1 refl refl refl failures)

  pub made_of : {E : Type 0} (result : Result Bool E) → b.counts.failures ≡ a.counts.failures + (if is_ok result then 0 else 1) → Makes file_state call (outcome_of result) a b
  made_of (Ok true) failures = makes_one file_state call Did (Done call) refl (one (Done call) 0 refl refl refl failures)
  made_of (Ok false) failures = makes_one file_state call Refrained (Declined call) refl (one (Declined call) 0 refl refl refl failures)
  made_of (Err fault) failures = makes_one file_state call Faulted (Failed call false None) (false, None, refl) (one (Failed call false None) 1 refl refl refl failures)
