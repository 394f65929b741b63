-- Re-exports the names that several proofs of this crate cite.
pub use Rattle.byteorder.specs.Endian.{big_bytes, big_number}
pub use Rattle.rly_disk.proofs.Common.{AllWrites, Consistent, count_of, DeviceEvent, DiskState, images_within, is_failed_call, is_sync_call, IsTorn, Makes}
pub use Rattle.rly_disk.proofs.Common.{OnlyReads, bytes_after_write, overwritten_outside, Read, SameOutside, seen_at_end, Settled, Sync, Write}
pub use Rattle.rly_disk.proofs.Making.{AreSynced, cut_short, is_read_call, makes_later, makes_leaves, makes_seen, makes_settled, quiet_new, quiet_settled}
pub use Rattle.rly_disk.proofs.Making.{reads_new, reads_quiet, synced_behind}
pub use Rattle.rly_disk.proofs.Traces.{count_joined, makes_front, makes_joined}
pub use Rattle.rly_gate.specs.Calls.{append_calls, group_reads, group_reads_succeeded, length_reads, settle_calls}
pub use Rattle.rly_gate.specs.Group.{body_in, frame_of, group_of, IsAppended, IsClosed, IsOpen, open_gate, StandsAt}
pub use Rattle.rly_gate.specs.GroupReads.{HoldsGroup, HoldsNone, OnlyRead}
pub use Rattle.std.proofs.Common.{[], ap, arith, Bool, drop, Err, false, get_or, inr, le-leb, length, length-append, List, nat_le, Option, refl, rules, set}
pub use Rattle.std.proofs.Common.{suc, sym, take, take-add, true, Vec, vec_capacity, vec_len, ℕ, ⊎_elim, ◌++◌, ◌+◌, ◌-◌, ◌<◌, ◌^◌, ◌∙◌, ◌∷◌, ◌≡◌, ◌≤◌, ◌⊎◌}
pub use Rattle.std.proofs.lemmas.Bool.{cases_Bool, cases_eq, not-false}
pub use Rattle.std.proofs.lemmas.List.{append-nil, drop-drop, drop-take, drop_at, drop_more, get_or-set_same, length-drop, length-set, length-take, places}
pub use Rattle.std.proofs.lemmas.List.{same_lists, take-append-drop, take-take, take_at}
