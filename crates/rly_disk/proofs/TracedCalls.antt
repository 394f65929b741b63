-- The calls of a disk that records them, and those of the disk inside.
use Rattle.rly_disk.proofs.Common.{[], append-nil, arith, Bool, DeviceEvent, DiskState, false, if◌then◌else◌, inl, inr, length, List, Makes, map, refl, true}
use Rattle.rly_disk.proofs.Common.{◌++◌, ◌<◌, ◌∷◌, ◌≡◌, ◌≤◌, ◌⊎◌}
use Rattle.rly_disk.specs.TracedDisk.{Traces, most_of, traced_calls, traced_call_of}
use Rattle.rly_disk.specs.declared.traced_disk.TracedDisk.{TracedDisk}
use Rattle.rly_disk.proofs.Making.{Row, Done, Failed, Uncounted, Whole, made_row}

-- the record of a counted call: whether it failed
told_row : {whole spent : Bool} {call : DeviceEvent} {events : List DeviceEvent} → Row whole spent (call ∷ []) events
    → record (traced_call_of call) { failed = false } ≡ traced_call_of call
    → ((length events ≡ 1) × (map traced_call_of events ≡ record (traced_call_of call) { failed = if whole then false else true } ∷ [])) ⊎ (events ≡ [])
told_row (Done Whole) sound = inl (refl, rw sound)
told_row Uncounted sound = inr refl
told_row (Failed failed) sound = inl (refl, grind arith)

module _ {D : Type 0} (state : D → DiskState) (old new : TracedDisk D) where
  -- one call of the disk inside, which is recorded if it was counted
  pub watched_tells : {call : DeviceEvent} {whole : Bool} {inner : D} → Makes state (call ∷ []) whole old.inner inner → new.inner ≡ inner
      → ((state old.inner).calls < (state inner).calls → length (traced_calls old) < most_of old
      → traced_calls new ≡ traced_calls old ++ record (traced_call_of call) { failed = if whole then false else true } ∷ []) → ((state inner).calls ≤ (state old.inner).calls
      → traced_calls new ≡ traced_calls old) → record (traced_call_of call) { failed = false } ≡ traced_call_of call → Traces state old new
  watched_tells made inside noted same sound room =
      (made.events, rw inside made.leads, grind (arith, told_row (made_row made) sound, noted, same, append-nil, made.leads.calls))
