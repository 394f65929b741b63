-- The device calls of a round; payloads stay on the device.
use Rattle.std.specs.Prelude.{◌≡◌, ◌+◌, ℕ, List, [], ◌∷◌, ◌++◌, Bool, false, true}
use Rattle.std.specs.Prelude.{Option, None, Some, All, set, slice_index_or}
use Rattle.rly_disk.specs.DiskModel.{DiskState}
use Rattle.rly_disk.specs.Trace.{DeviceEvent, seen_at_end}
use Rattle.rly_machine.specs.Map.{payloads_of}
use Rattle.rly_machine.specs.State.{State}
use Rattle.rly_reclaim.specs.SegmentChoice.{IsFree, IsVictim}
use Rattle.rly_segment_checkpoint.specs.Stored.{stored_form, stored_length}
use Rattle.rly_segment_checkpoint.specs.declared.stored.Stored.{Stored}
use Rattle.rly_reclaim.specs.Placed.{LiesElsewhere}
use Rattle.rly_reclaim.specs.Places.{live_by_segment}
use Rattle.rly_reclaim.specs.LiveRoom.{collected_state, inline_bytes}
use Rattle.rly_segment.specs.Calls.{replace_calls}
use Rattle.rly_segment.specs.Heads.{gate_after, head_spelled, segment_place}
use Rattle.rly_journal_relocate.specs.Relocation.{LiesThere, zeros_at}
use Rattle.rly_journal_relocate.specs.Collection.{IsSameButForBytes, bytes_at, victim_reads}
use Rattle.rly_journal_index.specs.IndexRelation.{StandsForBytes}
use Rattle.rly_journal.specs.GroupAddresses.{Commands}
use Rattle.rly_disk.specs.Trials.{Try, row_of}
use Rattle.rly_journal.specs.declared.tail.Tail.{Tail}
use Rattle.rly_journal.specs.OpenCalls.{log_calls}
use Rattle.rly_journal.specs.UntouchedBytes.{IsHeadFor}
use Rattle.rly_journal.specs.Log.{IsFull, IsLogged}
use Rattle.rly_journal.specs.Recovery.{IsRecovery, Recovery, stored_in}

-- the next segment as it is opened: the spool of device addresses before it, the segment, the victim (the segment to
-- clean), and the state of its head
pub record Renewal : Type 0 where
  pub places : State Stored
  pub target : ℕ
  pub victim : ℕ
  pub copy : State Stored

-- the properties of a renewal for a state on a disk
pub record IsRenewal (disk : DiskState) (tail : Tail) (s : State (List ℕ)) (r : Renewal) : Type 0 where
  pub kept : StandsForBytes disk r.places s
  pub there : All (LiesThere tail.geometry) (payloads_of r.places)
  -- no payload with bytes is inline
  pub inline : inline_bytes r.places ≡ 0
  pub target : IsFree (live_by_segment tail.geometry r.places) tail.segment r.target
  -- no live payload lies in that segment, by the bytes that the device reads
  pub free : disk.honest → (x : Recovery) → IsRecovery disk.seen x
      → All (LiesElsewhere x.geometry r.target) (payloads_of (stored_in x))
  pub victim : IsVictim (live_by_segment tail.geometry r.places) r.target r.victim
  pub copy : IsSameButForBytes r.copy (collected_state tail.geometry r.victim zeros_at r.places)
  pub bytes : disk.honest → r.copy ≡ collected_state tail.geometry r.victim (bytes_at disk.seen) r.places

-- the end of the journal after the new head
abbrev pub tail_after_renewal : Tail → Renewal → Tail
tail_after_renewal tail r = record {
  geometry = tail.geometry;
  segment = r.target;
  generation = tail.generation + 1;
  gate = gate_after stored_length stored_form tail.geometry r.target r.copy;
  closed = set tail.closed r.target false;
}

-- the reads of the victim's payloads
abbrev pub victim_reads_for : Tail → Renewal → List DeviceEvent
victim_reads_for tail r = victim_reads tail.geometry r.victim r.places

-- the calls that write the head
abbrev pub head_calls : Tail → Renewal → List DeviceEvent
head_calls tail r =
    replace_calls (segment_place tail.geometry r.target) (slice_index_or tail.closed r.target false)
    (head_spelled stored_length stored_form (tail.generation + 1) r.copy ++ 0 ∷ [])

-- the calls that open a segment: those reads, and then those of the head
abbrev pub renewal_calls : Tail → Renewal → List DeviceEvent
renewal_calls tail r = victim_reads_for tail r ++ head_calls tail r

-- an image allows this renewal: its head may be written; the image then recovers to the same state, with the end of the
-- journal after the new head; and the largest group has room there
pub record MayRenew (image : List ℕ) (tail : Tail) (s : State (List ℕ)) (r : Renewal) : Type 0 where
  pub head : (x : Recovery) → IsRecovery image x → IsHeadFor image x r.target r.copy
  pub logged : IsLogged (seen_at_end (renewal_calls tail r) image) (tail_after_renewal tail r) s
  pub room : IsFull (tail_after_renewal tail r) → ⊥

-- the calls of a round before its Fetches: a segment is opened or not, and then its accepted commands are logged, all
-- calls or up to a failed one
abbrev pub round_tries : Tail → Option Renewal → Commands → Bool → List Try
round_tries tail None commands whole = row_of (log_calls tail.gate commands) whole ∷ []
round_tries tail (Some r) commands whole =
    row_of (renewal_calls tail r) true ∷ row_of (log_calls (tail_after_renewal tail r).gate commands) whole ∷ []

-- all reads were made, and then a write or a sync of the head failed
abbrev pub failed_head_tries : Tail → Renewal → List Try
failed_head_tries tail r = row_of (victim_reads_for tail r) true ∷ row_of (head_calls tail r) false ∷ []
