-- The calls of a round: the number of syncs; if the journal isn't broken only reads failed; and the signs of a failed
-- read.
use Rattle.rly_journal.proofs.Common.{[], all_are_reads, AllByRecursion, append-nil, are_reads, AreReads, AreTried, arith, Bool, Commands, count_joined}
use Rattle.rly_journal.proofs.Common.{count_of, cut_behind, DeviceEvent, DiskState, victim_reads_for, false, head_spelled, head_calls, is_failed_call, is_failed_read}
use Rattle.rly_journal.proofs.Common.{is_spent, is_sync_call, List, log_calls, Makes, MakesFront, None, one_if, OnlyReadsFailed, Option, payloads_of, refl}
use Rattle.rly_journal.proofs.Common.{Renewal, renewal_calls, replacing_writes, round_tries, row_tried, segment_place, slice_index_or, Some, stored_form, stored_length}
use Rattle.rly_journal.proofs.Common.{Tail, tried_syncs, Tries, tries_joined, true, Try, failed_head_tries, ℕ, ◌++◌, ◌+◌, ◌∷◌, ◌≡◌, ◌≤◌}
use Rattle.rly_disk.proofs.Making.{Done, Failed, makes_syncs, reads_sound, Row, row_of}
use Rattle.rly_disk.specs.Trials.{row_of as try_of}

-- ---- a list of calls that was made completely, and another one after it

module _ {D : Type 0} (state : D → DiskState) {a b : D} where
  pub two_tried : {m : D} (first second : List DeviceEvent) (whole : Bool) → Makes state first true a m → Makes state second whole m b
      → Tries state (try_of first true ∷ try_of second whole ∷ []) a b
  two_tried first second whole one two = tries_joined state _ _ (row_tried state first true one) (row_tried state second whole two)

  -- both as one list
  pub unheaded_made : (tail : Tail) (r : Renewal) → Tries state (failed_head_tries tail r) a b → Makes state (renewal_calls tail r) false a b
  unheaded_made tail r tries =
      let u = tries.tried.4 in
      let all : tries.events ≡ victim_reads_for tail r ++ u.0 = grind (arith, tries.tried.2, tries.tried.3, u.2, u.4, append-nil u.0) in
      let made = rw (← all) at (cut_behind (is_spent (state b)) (victim_reads_for tail r) (head_calls tail r) u.0 u.3) in
      search tries

-- ---- lists of reads

abbrev AreAlone : List DeviceEvent → Type 0
AreAlone events = count_of is_failed_call events ≡ count_of is_failed_read events

-- a read failed among the events, or one wasn't counted
abbrev pub IsUnread : Bool → List DeviceEvent → Type 0
IsUnread spent events = 1 ≤ count_of is_failed_read events + one_if spent

abbrev IsSoundRow : Try → Type 0
IsSoundRow row = (count_of is_failed_call row.calls ≡ 0) × (row.whole ≡ false → are_reads row.calls ≡ true)

-- in a list of calls that is made completely, or has only reads, only reads fail; if it was cut, one failed or wasn't
-- counted
pub row_alone : {whole spent : Bool} {calls events : List DeviceEvent} → Row whole spent calls events → IsSoundRow (record { calls = calls; whole = whole })
    → AreAlone events × (whole ≡ false → IsUnread spent events)
row_alone (Done {call = call} row) sound = let more = row_alone row in grind (arith, more, sound.0, sound.1)
row_alone (Failed failed) sound = let reads = sound.1 in grind (arith, reads)
row_alone row sound = let reads = sound.1 in grind (arith, reads)

rows_alone : (spent : Bool) (rows : List Try) (events : List DeviceEvent) → AreTried spent rows events → AllByRecursion IsSoundRow rows → AreAlone events
rows_alone spent [] events tried sound = rw tried refl
rows_alone spent (row ∷ rows) events tried sound =
    let first = (row_alone (row_of row.whole spent row.calls tried.0 tried.3) sound.0).0 in
    rw tried.2 (omega (arith, count_joined, first, rows_alone spent rows tried.1 tried.4 sound.1))

reads_rows : (rows : List Try) → AreReads rows → AllByRecursion IsSoundRow rows
reads_rows [] reads = tt
reads_rows (row ∷ rows) reads = ((reads_sound row.calls reads.0, λ _. reads.0), reads_rows rows reads.1)

-- ---- the calls of a round

pub drawing_reads : (tail : Tail) (r : Renewal) → are_reads (victim_reads_for tail r) ≡ true
drawing_reads tail r = all_are_reads tail.geometry r.victim (payloads_of r.places)

reads_front : (done rest : List DeviceEvent) → are_reads (done ++ rest) ≡ true → are_reads done ≡ true
reads_front [] rest reads = refl
reads_front (call ∷ done) rest reads = let more = reads_front done rest in grind (arith, more)

reads_sync : (calls : List DeviceEvent) → are_reads calls ≡ true → count_of is_sync_call calls ≡ 0
reads_sync [] reads = refl
reads_sync (call ∷ calls) reads = let more = reads_sync calls in grind (arith, more)

abbrev AreSound : ℕ → List DeviceEvent → Type 0
AreSound syncs calls = (count_of is_sync_call calls ≤ syncs) × (count_of is_failed_call calls ≡ 0)

pub logging_sound : (gate : ℕ) (commands : Commands) → AreSound 2 (log_calls gate commands)
logging_sound gate [] = omega arith
logging_sound gate (command ∷ commands) = omega arith

renewing_sound : (tail : Tail) (r : Renewal) → AreSound 3 (renewal_calls tail r)
renewing_sound tail r =
    let text : List ℕ = head_spelled stored_length stored_form (tail.generation + 1) r.copy ++ 0 ∷ [] in
    let head = replacing_writes (segment_place tail.geometry r.target) (slice_index_or tail.closed r.target false) text in
    omega (arith, head, reads_sync (victim_reads_for tail r) (drawing_reads tail r), reads_sound (victim_reads_for tail r) (drawing_reads tail r), count_joined)

-- ---- on a disk

module _ {D : Type 0} (state : D → DiskState) {a b : D} where
  tried_alone : (rows : List Try) → Tries state rows a b → AllByRecursion IsSoundRow rows → OnlyReadsFailed (state a) (state b)
  tried_alone rows tries sound =
      omega (arith, tries.leads.failures, tries.leads.failed_reads, rows_alone (is_spent (state b)) rows tries.events tries.tried sound)

  -- if the journal isn't broken, only reads failed
  pub round_alone : (tail : Tail) (opened : Option Renewal) (commands : Commands) (fetches : List Try)
      → Tries state (round_tries tail opened commands true ++ fetches) a b → AreReads fetches → OnlyReadsFailed (state a) (state b)
  round_alone tail None commands fetches tries reads = tried_alone _ tries (((logging_sound tail.gate commands).1, λ never. cc), reads_rows fetches reads)
  round_alone tail (Some r) commands fetches tries reads =
      tried_alone _ tries (((renewing_sound tail r).1, λ never. cc), (((logging_sound _ commands).1, λ never. cc), reads_rows fetches reads))

  pub renewing_syncs : (tail : Tail) (r : Renewal) {whole : Bool} → Makes state (renewal_calls tail r) whole a b → (state b).syncs ≤ (state a).syncs + 3
  renewing_syncs tail r made = omega (arith, makes_syncs state made, (renewing_sound tail r).0)

  -- the victim's payloads were read, and no other call was made
  module _ (tail : Tail) (r : Renewal) {whole : Bool} (made : MakesFront state (victim_reads_for tail r) whole a b) where
    pub drawn_counts : OnlyReadsFailed (state a) (state b) × ((state b).syncs ≤ (state a).syncs + 3)
    drawn_counts =
        let tries = row_tried state made.front whole made.makes in
        let rows : List Try = record { calls = made.front; whole = whole } ∷ [] in
        let reads : AreReads rows = (reads_front made.front made.rest (rw made.calls_are at (drawing_reads tail r)), tt) in
        (tried_alone rows tries (reads_rows rows reads), omega (arith, tried_syncs state rows tries reads))
