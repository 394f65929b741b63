-- Re-exports the names that proofs of this crate cite.
pub use Rattle.rly_segment_checkpoint.specs.Checkpoint.{state_spelled}
pub use Rattle.rly_segment_checkpoint.specs.Stored.{IsStorable, payload_in, state_in, stored_form, stored_form_of, stored_length, stored_spelled}
pub use Rattle.rly_segment_checkpoint.specs.declared.head_form.HeadForm.{HeadForm}
pub use Rattle.rly_segment_checkpoint.specs.declared.head_form.HeadForm.TheVariants.{Second}
pub use Rattle.rly_segment_checkpoint.specs.declared.stored.DeviceAddress.{DeviceAddress}
pub use Rattle.rly_segment_checkpoint.specs.declared.stored.Stored.{Stored}
pub use Rattle.rly_segment_checkpoint.specs.declared.stored.Stored.TheVariants.{Inline, Placed}
pub use Rattle.rly_core.specs.Bounds.{IsIn}
pub use Rattle.rly_core.specs.declared.params.Geometry.{Geometry}
pub use Rattle.rly_core.specs.declared.refusal.Refusal.{Refusal}
pub use Rattle.rly_core.specs.declared.refusal.Refusal.TheVariants.{Broken, DeviceRead, OutOfMemory, Unsure}
pub use Rattle.rly_disk.proofs.Composition.{joined, later_again, rose_earlier, rose_later, started_settled, weaker}
pub use Rattle.rly_disk.proofs.Making.{makes_failed, makes_later, makes_leaves, makes_syncs, reads_sound, row_of}
pub use Rattle.rly_disk.proofs.Ranges.{part-overwritten, wider}
pub use Rattle.rly_disk.proofs.Traces.{count_joined, cut_behind, makes_joined, makes_nothing, one_if}
pub use Rattle.rly_disk.specs.DiskModel.{Consistent, DiskState, Later, LeavesOnly, bytes_after_write, SameOutside, Settled}
pub use Rattle.rly_disk.specs.Trace.{are_reads, count_of, DeviceEvent, is_failed_call, is_failed_read, is_spent, is_sync_call, Makes, MakesFront, Read}
pub use Rattle.rly_journal_relocate.proofs.Blank.{blank_length, same_inline, same_moved, same_sound, same_spelled}
pub use Rattle.rly_journal_relocate.proofs.Rows.{all_are_reads}
pub use Rattle.rly_journal_relocate.specs.Collection.{blank_payload, blank_state, bytes_at, IsSameButForBytes}
pub use Rattle.rly_journal_fetch.proofs.Answered.{all_reads}
pub use Rattle.rly_disk.proofs.TriedReads.{tried_new, tried_settled, tried_syncs}
pub use Rattle.rly_disk.proofs.TriedRows.{nothing_tried, row_tried, tries_joined, tries_later}
pub use Rattle.rly_journal_fetch.specs.FetchReads.{AreAnswersOf, fetch_tries, IsAnswerOf, IsFetched, IsLean, IsThere, IsThereFor, stored_at_address, refused_as, reply_of, row_for}
pub use Rattle.rly_journal_fetch.specs.FetchReads.{rows_for}
pub use Rattle.rly_disk.specs.Trials.{AreReads, AreTried, Tries, Try}
pub use Rattle.rly_journal_fetch.specs.declared.outcome.Outcome.{Outcome}
pub use Rattle.rly_journal_fetch.specs.declared.outcome.Outcome.TheVariants.{Answered, Wanted}
pub use Rattle.rly_gate.proofs.Frames.{length-frame}
pub use Rattle.rly_gate.specs.Calls.{append_calls}
pub use Rattle.rly_gate.specs.Group.{group_of, IsClosed, StandsAt}
pub use Rattle.rly_gate.specs.GroupReads.{HoldsGroup, OnlyRead}
pub use Rattle.rly_journal.proofs.Brought.{group_fits, grouped_outside, grouped_stands, not_due, placed_brought}
pub use Rattle.rly_journal.proofs.Gathered.{body_size, gathered_kept}
pub use Rattle.rly_journal.proofs.Records.{holds_body, holds_have, holds_more, holds_most, holds_none, inline_alike, next_place, place_after, placed_alike}
pub use Rattle.rly_journal.proofs.Records.{placed_joined, placed_told, records_size}
pub use Rattle.rly_journal.specs.Groups.{empty_group, frame_room, group_body, GroupState, Holds, record_place}
pub use Rattle.rly_journal.specs.GroupAddresses.{Commands, stored_at, placed_at, placed_from, placed_group}
pub use Rattle.rly_journal_index.specs.Index.{HoldsIndex, IndexState, IsAt, used_after}
pub use Rattle.rly_journal.specs.RoundCalls.{victim_reads_for, head_calls, IsRenewal, MayRenew, Renewal, tail_after_renewal, renewal_calls, round_tries, failed_head_tries}
pub use Rattle.rly_journal.specs.OpenFaults.{IsRefused}
pub use Rattle.rly_journal.specs.Fetches.{AreFetching, IsFetchedAs, IsLostRead}
pub use Rattle.rly_journal.specs.HelpersJournal.{IsAtEnd, IsLoggedFor, IsReplayedFor, IsShaped, IsSoundJournal, IsTagged, IsTaggedIn, length_and_live_bytes}
pub use Rattle.rly_journal.specs.HelpersOutcomes.{AreOutcomes, IsEvaluated, IsGrouping, IsKnown, IsLeft, IsOutcomeOf, IsTaken, IsTakenOrLeft, IsAnswerTo}
pub use Rattle.rly_journal.specs.HelpersOutcomes.{IsWanted, command_accepted, taken_of}
pub use Rattle.rly_journal.specs.HelpersReplay.{IsGivenUp, IsReading, IsRecovered, IsRedone}
pub use Rattle.rly_journal.specs.HelpersReady.{IsReadied, HasOpenedIfDue, IsServed}
pub use Rattle.rly_journal.specs.Journal.{HasFailedRead, holds_command, is_command, IsDueFor, IsRound, JournalState, MakesRound, MakesShut, OnlyReadsFailed}
pub use Rattle.rly_journal.specs.Rounds.{AreFetches, AreLostWhereWanted, AreReadsOf, AreServed, AreUnreadWhere, MayWantBytes, MayWantMemory, MayWantRoom}
pub use Rattle.rly_journal.specs.Rounds.{OnlyLost, refusal_of, refusals}
pub use Rattle.rly_journal.specs.ShownState.{shown_in, shown_state}
pub use Rattle.rly_journal_index.proofs.Images.{maps_held, whole, written}
pub use Rattle.rly_journal_index.proofs.Lying.{all_there, astray, between_other, elsewhere_apart, LiesApart, none_there, not_astray_there, there_not_astray}
pub use Rattle.rly_journal_index.proofs.Stepping.{alike_after, same_reply, step_none}
pub use Rattle.rly_journal_index.specs.IndexRelation.{IsAlike, IsBrought, StandsForBytes, LiesBetween}
pub use Rattle.rly_machine.proofs.Alike.{bytes_alike, sound_alike}
pub use Rattle.rly_machine.proofs.Folding.{accepted_parts, accepted_push, fold_append, fold_push, params_fold, seq_fold}
pub use Rattle.rly_machine.proofs.Lifting.{fold_map, state_twice}
pub use Rattle.rly_machine.proofs.RealReplies.{counted, harmless, real_query, real_reply, real_step, unaccepted}
pub use Rattle.rly_machine.specs.Accepted.{is_accepted}
pub use Rattle.rly_machine.specs.Fold.{AllAccepted, fold}
pub use Rattle.rly_machine.specs.History.{accepted_of, Entry, next_state}
pub use Rattle.rly_machine.specs.Map.{map_command, map_state, payload_of, payloads_of}
pub use Rattle.rly_machine.specs.Query.{fetch_reply, HasBytes, item_of, query_reply}
pub use Rattle.rly_machine.specs.State.{has_hop, hop_at, HopState, new_hop, Spool, State}
pub use Rattle.rly_machine.specs.Step.{NeedsRoom, step}
pub use Rattle.rly_machine.specs.declared.call.Answer.{Answer}
pub use Rattle.rly_machine.specs.declared.call.Call.{Call}
pub use Rattle.rly_machine.specs.declared.call.SeatId.{SeatId}
pub use Rattle.rly_machine.specs.declared.command.Command.{Command}
pub use Rattle.rly_machine.specs.declared.hop.Item.{Item}
pub use Rattle.rly_machine.specs.declared.reply.Reply.{Reply}
pub use Rattle.rly_machine.specs.declared.reply.Reply.TheVariants.{Bytes, Refused}
pub use Rattle.rly_journal_relocate.specs.Relocation.{LiesThere, MayMove, relocated_state, zeros_at}
pub use Rattle.rly_reclaim.proofs.Emptying.{in_segment, may_open, none_each, payloads_sum}
pub use Rattle.rly_reclaim.proofs.Placing.{of_items, segment_once}
pub use Rattle.rly_reclaim.proofs.Weights.{maps_same}
pub use Rattle.rly_reclaim.specs.Placed.{IsPlaced, LiesElsewhere}
pub use Rattle.rly_reclaim.specs.LiveRoom.{collected_payload, collected_state, HasRoomFor, inline_length}
pub use Rattle.rly_reclaim.specs.Room.{IsDue}
pub use Rattle.rly_record.proofs.Bodies.{body_small, record_length-short, recordable_short}
pub use Rattle.rly_record.specs.Spelling.{body_of, HasRecord, HaveBody, IsRecordable, IsShort, longest_record, record_length, record_of}
pub use Rattle.rly_segment.proofs.Replacing.{end_of_opening, image_of_opening, replacing_synced, replacing_writes}
pub use Rattle.rly_segment.proofs.Segments.{segment_within}
pub use Rattle.rly_segment.proofs.HeadAddresses.{maps_settled, settled_stands}
pub use Rattle.rly_segment.specs.Answers.{IsReadHeader, IsReadNewest}
pub use Rattle.rly_segment.specs.Device.{device_length, IsLayout}
pub use Rattle.rly_segment.specs.Heads.{gate_after, head_spelled, IsAmbiguous, IsHeadOf, opened_spelled, segment_end, segment_place}
pub use Rattle.rly_segment.specs.HeadAddresses.{stored_in_head, state_in_head}
pub use Rattle.rly_journal.proofs.Appending.{append_image, append_logged, appended_tail, logged_within}
pub use Rattle.rly_journal.proofs.Following.{before_quiet, broken_only, broken_settled, front_all, gate_scan, gates_broken, gates_made, gates_quiet}
pub use Rattle.rly_journal.proofs.Following.{group_broken, head_scanned, head_unread, header_broken, only_made, opening_broken, opening_only, opening_settled}
pub use Rattle.rly_journal.proofs.Following.{past_body, read_all, read_broken, scan_broken, scanned_all, scanned_group, sync_broken, told_when}
pub use Rattle.rly_journal.proofs.Frame.{gate_above, length-spelled}
pub use Rattle.rly_journal.proofs.Growing.{accepted-more, appended, gate_behind-more, groups-more, replayed-more, stored-more, with_group}
pub use Rattle.rly_journal.proofs.Once.{standing_once}
pub use Rattle.rly_journal.proofs.ScanEnds.{broken_body, broken_commands, head_tail, read_again, with_gate}
pub use Rattle.rly_journal.specs.OpenCalls.{group_scan, log_calls, open_calls_succeeded}
pub use Rattle.rly_journal.specs.Faults.{IsBroken, IsOfImage}
pub use Rattle.rly_journal.specs.Log.{EndsAt, IsDurable, IsFull, IsLogged, IsSameHead}
pub use Rattle.rly_journal.specs.Recovery.{first_of, gate_of, IsScanned, IsRecovery, Recovery, recovery_end, Stands, stored_after, stored_commands, stored_in}
pub use Rattle.rly_journal.specs.declared.open_fault.OpenFault.{OpenFault}
pub use Rattle.rly_journal.specs.declared.tail.Tail.{Tail}
pub use Rattle.std.proofs.Common.{[], ap, append_assoc, arith, Bool, eqb, false, get_or, inl, inr, length, length-append, length-take, List, map, refl, rules}
pub use Rattle.std.proofs.Common.{subst, suc, sym, true, vec_capacity, vec_len, ℕ, ⊎_elim, ◌++◌, ◌+◌, ◌-◌, ◌<◌, ◌^◌, ◌↔◌, ◌∙◌, ◌∷◌, ◌≡◌, ◌≢◌, ◌≤◌, ◌⊎◌}
pub use Rattle.std.proofs.lemmas.Bool.{cases_Bool, cases_eq, false≢true, iff_false, or_left, or_right}
pub use Rattle.std.proofs.lemmas.Bool.Decides.{nat_tests}
pub use Rattle.std.proofs.lemmas.List.{append-nil, flat_map_more, get_or-set_other, get_or-set_same, get_or_append_left, length-replicate, map_push}
pub use Rattle.std.proofs.lemmas.List.{nil_from_length, take_all, take_at}
pub use Rattle.std.proofs.lemmas.List.Concat.{flat_map-cons}
pub use Rattle.std.proofs.lemmas.List.Elements.{All-cons, All-head, All-nil}
pub use Rattle.std.proofs.lemmas.Result.{err_from_is_err_and}
pub use Rattle.std.specs.List.{AllByRecursion, flat_map, zip}
pub use Rattle.std.specs.Prelude.{All, Err, if◌then◌else◌, None, not, Ok, Option, replicate, slice_get, slice_index_or, Some}
pub use Rattle.std_alloc.specs.Vec.Iter.{drain_items, into_iter_items}
