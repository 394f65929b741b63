-- Re-exports the names that several proofs of this crate cite.
pub use Rattle.rly_segment_checkpoint.proofs.Sizes.{length-numbers, length-parts}
pub use Rattle.rly_segment_checkpoint.specs.Checkpoint.{checkpoint_of, inline_form, IsOfForm, Spelled, spelled_by}
unfoldable pub use Rattle.rly_segment_checkpoint.specs.Checkpoint.{codel_of, entry_spelled, hop_spelled, state_spelled}
pub use Rattle.rly_segment_checkpoint.specs.Forms.{HaveForms}
pub use Rattle.rly_segment_checkpoint.specs.Stored.{IsStorable, payload_in, state_in, stored_form_of, stored_length, stored_spelled}
pub use Rattle.rly_segment_checkpoint.specs.Widths.{entry_width, hop_width, mark_of}
pub use Rattle.rly_segment_checkpoint.specs.declared.head_form.HeadForm.{HeadForm}
pub use Rattle.rly_segment_checkpoint.specs.declared.head_form.HeadForm.TheVariants.{First, Second}
pub use Rattle.rly_segment_checkpoint.specs.declared.stored.Stored.{Stored}
pub use Rattle.rly_segment_checkpoint.specs.declared.stored.Stored.TheVariants.{Inline, Placed}
pub use Rattle.rly_core.specs.Bounds.{IsIn}
pub use Rattle.rly_core.specs.declared.params.Geometry.{Geometry}
pub use Rattle.rly_core.specs.declared.params.Params.{Params}
pub use Rattle.rly_disk.proofs.Common.{AllWrites, DeviceEvent, DiskState, images_within, LeavesOnly, Makes, OnlyReads, bytes_after_write, overwritten_in}
pub use Rattle.rly_disk.proofs.Common.{overwritten_outside, Read, SameOutside, seen_at_end, Settled}
pub use Rattle.rly_disk.proofs.Making.{AreSynced, cut_short, each_failed, each_next, each_reads, makes_leaves, makes_seen, makes_settled, quiet_new, reads_new}
pub use Rattle.rly_disk.proofs.Making.{reads_of, synced_behind, synced_then}
pub use Rattle.rly_disk.proofs.Ranges.{behind, front, part, part-overwritten, same_outside_again, same_range, wider}
pub use Rattle.rly_disk.proofs.Traces.{makes_front, makes_joined, makes_nothing, seen_joined}
pub use Rattle.rly_gate.proofs.Appending.{AreWrites, gate_opened, opening_image, same_bytes, settling_all, settling_last, settling_on, settling_synced}
pub use Rattle.rly_gate.proofs.Appending.{settling_then, settling_writes, writes_joined}
pub use Rattle.rly_gate.proofs.Common.{big_bytes, big_number, IsClosed, IsOpen, open_gate, settle_calls, StandsAt}
pub use Rattle.rly_gate.proofs.Frames.{gate_and_frame, stands_back, stands_both, stands_front}
pub use Rattle.rly_machine.specs.Map.{map_hop, map_item, map_state, payloads_of}
pub use Rattle.rly_machine.specs.Sound.{IsSound}
pub use Rattle.rly_machine.specs.State.{HopState, live_line, new_hop, new_state, State}
pub use Rattle.rly_reclaim.specs.Placed.{IsPlaced, LiesElsewhere}
pub use Rattle.rly_segment.specs.Answers.{AreClosed, IsReadHeadOf}
pub use Rattle.rly_segment.specs.Calls.{close_calls, closing_gates, fill_calls, whole_format_calls, generation_reads, head_reads, header_reads, new_head, replace_calls}
pub use Rattle.rly_segment.specs.Device.{device_length, device_text, IsDevice, IsLayout, number_in, version_in}
unfoldable pub use Rattle.rly_segment.specs.Device.{geometry_in, header_of}
pub use Rattle.rly_segment.specs.Heads.{generation_in, HoldsHeadOf, IsHeadOf, IsLastOfTie, IsNewest, IsOpeningOf, opened_spelled, segment_end, segment_place}
unfoldable pub use Rattle.rly_segment.specs.Heads.{head_spelled}
pub use Rattle.rly_segment.specs.HelpersNewest.{IsFound, IsGreatest, IsReadGate}
pub use Rattle.rly_segment.specs.HelpersWriting.{Formats, IsClosing, IsUnopened, limits_of, shape_of}
pub use Rattle.std.proofs.Common.{[], ⊎_elim, ◌*◌, ◌++◌, ◌+◌, ◌-◌, ◌<◌, ◌^◌, ◌↔◌, ◌∙◌, ◌∷◌, ◌≡◌, ◌≤◌, ◌⊎◌, All, ap, arith, below_more, Bool, drop, eqb, Err}
pub use Rattle.std.proofs.Common.{false, flat_map, get_or, IfSome, inl, inr, is_some, IsTrue, leb, length, length-append, length-drop, length-take, List, map}
pub use Rattle.std.proofs.Common.{None, not, Option, refl, replicate, rules, set, slice_range, Some, subst, suc, sym, take, true, zero, ℕ}
pub use Rattle.std.proofs.lemmas.Bool.{cases_eq, eqb-false, eqb-true, iff_false, leb-true, not-false}
pub use Rattle.std.proofs.lemmas.Bool.Decides.{Decides-eqb, Decides-not, nat_tests}
pub use Rattle.std.proofs.lemmas.List.{append-nil, ext_get_or, get_or-set_same, length-replicate, places}
