-- Re-exports the names that several proofs of this crate cite.
pub use Rattle.rly_disk.proofs.Overwritten.{overwritten_in, overwritten_outside, overwritten_within, written_over}
pub use Rattle.rly_disk.proofs.Ranges.{same_outside_again, turned, wider}
pub use Rattle.rly_disk.specs.DiskModel.{Consistent, Counted, DiskState, HasFailed, IsSpent, IsTorn, IsWritten, Later, LeavesOnly, NothingNew, bytes_after_write}
pub use Rattle.rly_disk.specs.DiskModel.{SameOutside, Settled, SettlesNothing}
pub use Rattle.rly_disk.specs.FaultDisk.{fault_state}
pub use Rattle.rly_disk.specs.HelpersMemDisk.{consistent_of, mem_consistent}
pub use Rattle.rly_disk.specs.HelpersRecord.{counts_now, from_last, is_event_within, seen_is_image}
pub use Rattle.rly_disk.specs.MemDisk.{IsLeft, mem_state, recorded_state}
pub use Rattle.rly_disk.specs.Record.{bytes_before, before_but, is_covered, is_sync, IsFilled, IsImage, events_since_sync, synced_events, WasImage}
pub use Rattle.rly_disk.specs.Trace.{AllWrites, are_quiet, are_reads, count_of, DeviceEvent, each_below, FailedRead, FailedSync, FailedWrite, Follows}
pub use Rattle.rly_disk.specs.Trace.{images_after, images_at_end, images_within, is_failed_call, is_failed_read, is_spent, is_still, is_sync_call, IsCut}
pub use Rattle.rly_disk.specs.Trace.{IsFailed, IsMade, Leads, Makes, OnlyReads, Read, seen_after, seen_at_end, Sync, Write}
pub use Rattle.rly_disk.specs.declared.record.Event.{Event}
pub use Rattle.rly_disk.specs.declared.record.Event.TheVariants.{Synced, Written}
pub use Rattle.std.proofs.Common.{[], add-one, ap, append-nil, append_assoc, arith, Bool, drop, Err, ext_get_or, false, get_or, Global, if◌then◌else◌, inl, inr}
pub use Rattle.std.proofs.Common.{is_ok, IsErr, length, length-append, length-drop, length-take, List, map, Ok, OnErr, OnOk, refl, Result, rules, slice_range}
pub use Rattle.std.proofs.Common.{suc, take, take-append-drop, take_all, true, Vec, zero, ℕ, ⊎_elim, ◌++◌, ◌+◌, ◌-◌, ◌<◌, ◌^◌, ◌↔◌, ◌∙◌, ◌∷◌, ◌≡◌, ◌≤◌, ◌⊎◌}
pub use Rattle.std.proofs.lemmas.Bool.{and_from, and_parts, cases_eq, cases_lt, false≢true, le-leb, leb-true}
pub use Rattle.std.proofs.lemmas.Bool.Decides.{nat_tests}
pub use Rattle.std.proofs.lemmas.List.{drop-append-le, drop_all, length_push, nil_from_length, places, take-append-le, take_min, take_rest, with_items_is}
pub use Rattle.std.proofs.lemmas.List.Folds.{list_all-append, list_any-append}
pub use Rattle.std.specs.List.{list_all}
