-- A round whose calls were evaluated, and whose accepted commands are made durable before the replies.
use Rattle.rly_journal.proofs.Common.{[], All, All-cons, All-nil, AllAccepted, ap, append-nil, append_image, append_logged, appended_tail, append_calls}
use Rattle.rly_journal.proofs.Common.{AreOutcomes, arith, body_of, body_small, Bool, Call, Commands, Consistent, DiskState, empty_group, eqb, false, fold}
use Rattle.rly_journal.proofs.Common.{gathered_kept, Geometry, group_body, group_fits, group_of, grouped_outside, grouped_stands, GroupState, HaveBody, Holds}
use Rattle.rly_journal.proofs.Common.{holds_body, holds_have, HoldsIndex, IndexState, IsAlike, IsAtEnd, IsClosed, IsDueFor, IsDurable, IsEvaluated, IsIn}
use Rattle.rly_journal.proofs.Common.{StandsForBytes, IsLayout, IsShaped, IsSoundJournal, IsTaggedIn, IsThereFor, JournalState, LeavesOnly, length, length-append, List}
use Rattle.rly_journal.proofs.Common.{logged_within, log_calls, Makes, makes_later, makes_leaves, makes_nothing, nat_tests, nil_from_length, OnlyRead, Outcome}
use Rattle.rly_journal.proofs.Common.{bytes_after_write, place_after, placed_group, segment_end, segment_within, Stands, State, Stored, stored_length, sym, Tail}
use Rattle.rly_journal.proofs.Common.{command_accepted, taken_of, true, written, zip, ℕ, ◌++◌, ◌+◌, ◌∙◌, ◌∷◌, ◌≡◌, ◌≤◌, ◌⊎◌}
use Rattle.rly_journal.proofs.Reading.{IsGoing, sound_read}
use Rattle.rly_journal.proofs.Evaluating.{few_taken}
use Rattle.rly_journal.proofs.Fetching.{lies_within}
use Rattle.rly_journal.proofs.Recovering.{shape_after}
use Rattle.rly_journal.proofs.Redone.{alike_commands}
use Rattle.rly_gate.proofs.Appending.{appending_image, appending_seen, appending_settled}
use Rattle.rly_journal.proofs.Tagging.{tagged_appended}

-- ---- a group was appended at the end of the journal

module _ {D : Type 0} (state : D → DiskState) {a : D} {tail : Tail} {group : GroupState} {commands : Commands} {s : State (List ℕ)}
    (durable : IsDurable (state a) tail s) (holds : Holds commands group) (count : IsIn 1 64 group.count) (accepted : AllAccepted length s commands)
    (room : tail.gate + 6 + length (group_body group) ≤ segment_end tail.geometry tail.segment) where
  have : HaveBody commands
  have = holds_have commands group holds (omega (arith, holds.count, count.0), omega (arith, holds.count, count.1))

  fits : tail.gate + 6 + length (body_of commands) ≤ segment_end tail.geometry tail.segment
  fits = omega (arith, ap length (holds_body commands group holds), room)

  within : tail.gate + 6 + length (body_of commands) ≤ length (state a).seen
  within = omega (arith, fits, logged_within (state a).seen tail s durable.logged)

  -- a crash at any moment leaves an image that recovers to the state before the group or after it
  pub append_leaves : {b : D} {whole : Bool} → Makes state (append_calls tail.gate (group_body group)) whole a b
      → LeavesOnly (state a) (state b) (λ image. Stands image s ⊎ Stands image (fold length s commands))
  append_leaves made =
      let shut : IsClosed (state a).seen tail.gate = rw durable.logged.ends.gate durable.logged.stands.closed in
      makes_leaves state _ (rw (holds.count, holds.records) at made) durable.settled
      (λ c image. append_image tail commands s have accepted (body_small commands have) fits (state a).seen c durable.logged
      (appending_image tail.gate (body_of commands) (state a).seen c shut within image))

  module _ {b : D} (made : Makes state (append_calls tail.gate (group_body group)) true a b) where
    then_seen : (state b).seen ≡ bytes_after_write tail.gate (group_of (body_of commands)) (state a).seen
    then_seen = appending_seen state tail.gate (body_of commands) (rw (holds.count, holds.records) at made) durable.settled.honest (omega (arith, within))

    pub append_durable : ((state b).honest → Consistent (state b)) → IsDurable (state b) (appended_tail tail (group_body group)) (fold length s commands)
    append_durable facts = record {
      settled = appending_settled state tail.gate (group_body group) made durable.settled.honest facts;
      logged = rw holds.records
          (append_logged tail commands s have accepted (body_small commands have) fits (state a).seen (state b).seen durable.logged then_seen);
    }

    pub append_tagged : (places : State Stored) → IsTaggedIn (state a).seen places
        → IsTaggedIn (state b).seen (fold stored_length places (placed_group tail.gate commands))
    append_tagged places before = tagged_appended commands places durable.logged have accepted (body_small commands have) fits then_seen before

-- ---- device addresses that are requested

-- each address lies on the device
module _ (g : Geometry) (size gate : ℕ) (s : State Stored) (t : State (List ℕ)) (layout : IsLayout g size) where
  outcomes_there : (done : Commands) (calls : List Call) (outcomes : List Outcome) → length outcomes ≡ length calls
      → AreOutcomes g gate s t done (zip calls outcomes) → All (IsThereFor size) outcomes
  outcomes_there done calls [] count came = All-nil (IsThereFor size)
  outcomes_there done [] (outcome ∷ outcomes) count came = absurd (omega (arith, count))
  outcomes_there done (call ∷ calls) (outcome ∷ outcomes) count came =
      let rest = outcomes_there (done ++ command_accepted call outcome) calls outcomes (omega (arith, count)) came.1 in
      All-cons (IsThereFor size) outcome outcomes (grind (arith, came.0, lies_within)) rest

-- ---- the calls were evaluated

-- the calls of a round were evaluated by a journal that isn't broken, and no segment that they need is missing
pub record IsServing {D : Type 0} (state : D → DiskState) (old : JournalState D) (x y : IndexState) (group : GroupState) (now : State (List ℕ))
    (calls : List Call) (outcomes : List Outcome) : Type 0 where
  pub going : IsGoing state old x
  pub holds : HoldsIndex x.geometry x.segment x.used x.spool.state
  pub few : length calls ≤ 64
  pub ready : IsDueFor old calls → ⊥
  pub before : Commands
  pub after : Commands
  pub done : IsEvaluated old.tail.gate x y group before after calls outcomes
  -- the state that the journal shows from then on
  pub shows : now ≡ fold length old.state (taken_of (zip calls outcomes))

module _ {D : Type 0} {state : D → DiskState} {old : JournalState D} {x y : IndexState} {group : GroupState} {now : State (List ℕ)} {calls : List Call}
    {outcomes : List Outcome} (e : IsServing state old x y group now calls outcomes) where
  abbrev commands : Commands
  commands = taken_of (zip calls outcomes)

  pub came : AreOutcomes old.tail.geometry old.tail.gate x.spool.state old.state [] (zip calls outcomes)
  came = rw e.going.ends.geometry at (e.done.each old.state e.going.sound.alike)

  pub wanted_there : All (IsThereFor (state old.disk).size) outcomes
  wanted_there = outcomes_there _ _ _ x.spool.state old.state e.going.sound.shaped.geometry [] calls outcomes e.done.count came

  pub alike_front : (front : Commands) → IsAlike (fold stored_length x.spool.state (placed_group old.tail.gate front)) (fold length old.state front)
  alike_front front = (alike_commands (old.tail.gate + 7) front x.spool.state old.state e.going.sound.alike).0

  pub alike_now : IsAlike y.spool.state now
  alike_now = rw (e.shows, e.done.state) (alike_front commands)

  pub bytes_accepted : AllAccepted length old.state commands
  bytes_accepted = (alike_commands (old.tail.gate + 7) commands x.spool.state old.state e.going.sound.alike).1.0 e.done.accepted

  -- the group has the spool's payload limit
  pub longest_there : group.most ≡ old.tail.geometry.params.payload
  longest_there = e.done.longest ∙ ap (λ (g : Geometry). g.params.payload) e.going.ends.geometry

  ends_at : {gate : ℕ} → y.used ≡ gate → IsAtEnd (record old.tail { gate = gate }) y
  ends_at used = record { geometry = e.done.geometry ∙ e.going.ends.geometry; segment = e.done.segment ∙ e.going.ends.segment; used = used }

  shaped : IsShaped (state old.disk).size old.tail x
  shaped = e.going.sound.shaped

  -- if it was not written
  pub shape_kept : IsShaped (state old.disk).size old.tail y
  shape_kept = shape_after commands shaped e.done.accepted e.done.state old.tail.gate (omega arith) shaped.within (λ full. omega (arith, shaped.full full))

  -- no command was accepted
  module _ (none : eqb group.count 0 ≡ true) where
    nothing_taken : commands ≡ []
    nothing_taken = nil_from_length commands (grind (arith, nat_tests, e.done.holds.count, none))

    pub still : now ≡ old.state
    still = e.shows ∙ ap (fold length old.state) nothing_taken

    pub group_none : group ≡ empty_group old.tail.geometry.params.payload
    group_none = let holds = rw nothing_taken at e.done.holds in grind (arith, longest_there, holds.records, holds.count, holds.staged)

    -- the front of its commands too
    pub front_kept : (front back : Commands) → commands ≡ front ++ back
        → StandsForBytes (state old.disk) (fold stored_length x.spool.state (placed_group old.tail.gate front)) (fold length old.state front)
    front_kept front back is = rw (nil_from_length front (omega (arith, length-append front back, ap length (sym nothing_taken ∙ is)))) e.going.kept

    pub logging_none : Makes state (log_calls old.tail.gate commands) true old.disk old.disk
    logging_none = rw nothing_taken (makes_nothing state old.disk)

    -- and so the journal is unchanged
    pub none_sound : {b : D} → OnlyRead (state old.disk) (state b) → IsSoundJournal (state b) old.tail y now old.position old.broken
    none_sound only =
        let same = rw nothing_taken at e.done.state in
        let ends : IsAtEnd old.tail y = ends_at (omega (arith, e.done.used, e.done.holds.count, ap length nothing_taken)) in
        sound_read only (rw still (search (same, shape_kept, ends, rw (← same) at e.going.tagged, e.going)))

  -- some were
  module _ (some : eqb group.count 0 ≡ false) where
    pub group_there : IsIn 1 64 group.count
    group_there = (grind (arith, nat_tests), omega (arith, e.done.holds.count, (few_taken calls outcomes).0, e.few))

    count_there : IsIn 1 64 (length commands)
    count_there = rw (← e.done.holds.count) group_there

    -- so there is a segment for them
    pub group_room : old.tail.gate + 6 + length (group_body group) ≤ segment_end old.tail.geometry old.tail.segment
    group_room =
        group_fits old.tail.geometry old.tail.segment old.tail.gate commands group longest_there (omega (arith, shaped.above))
        (λ full. e.ready ((few_taken calls outcomes).1 count_there.0, full)) e.done.holds count_there.1

    pub logging_group : {b : D} {whole : Bool} → Makes state (append_calls old.tail.gate (group_body group)) whole old.disk b
        → Makes state (log_calls old.tail.gate commands) whole old.disk b
    logging_group made = let same : log_calls old.tail.gate commands ≡ _ = grind (arith, holds_body commands group e.done.holds, count_there.0) in rw same made

    -- a crash while it is written leaves an image that recovers to the state before it or after it
    pub crash_group : {b : D} {whole : Bool} → Makes state (append_calls old.tail.gate (group_body group)) whole old.disk b → (state old.disk).honest
        → LeavesOnly (state old.disk) (state b) (λ image. Stands image old.state ⊎ Stands image now)
    crash_group made honest = rw e.shows (append_leaves state (e.going.durable honest) e.done.holds group_there bytes_accepted group_room made)

    -- it was written
    module _ (facts : (disk : D) → (state disk).honest → Consistent (state disk)) {b : D}
        (made : Makes state (append_calls old.tail.gate (group_body group)) true old.disk b) where
      before_it : (state b).honest → (state old.disk).honest
      before_it = (makes_later state made).honest.0

      room : old.tail.gate + 6 + length (group_body group) ≤ (state old.disk).size
      room = omega (arith, group_room, segment_within old.tail.geometry old.tail.segment (state old.disk).size shaped.geometry shaped.segment)

      -- each of its commands is applied from there
      pub front_written : (front back : Commands) → commands ≡ front ++ back
          → StandsForBytes (state b) (fold stored_length x.spool.state (placed_group old.tail.gate front)) (fold length old.state front)
      front_written front back is =
          let end : ℕ = segment_end old.tail.geometry old.tail.segment in
          let index = rw (e.going.ends.geometry, e.going.ends.segment, e.going.ends.used) at e.holds.index in
          -- the previous invariant holds, as no payload lies in the range of the group
          let bytes = λ (honest : (state b).honest). let was = before_it honest in
          written old.tail.geometry old.tail.segment old.tail.gate (6 + length (group_body group)) x.spool.state index (omega (arith, group_room))
          (grouped_outside state old.tail.gate commands group e.done.holds count_there made was (facts old.disk was) room) ∙ e.going.kept.bytes was in
          let kept : StandsForBytes (state b) x.spool.state old.state = search (e.going.kept, bytes) in
          let size_of = ap length (holds_body commands group e.done.holds ∙ ap body_of is) in
          gathered_kept (state b) old.tail.geometry old.tail.segment old.tail.gate end front back x.spool.state old.state (facts b)
          (rw (makes_later state made).size shaped.geometry) shaped.segment (omega (arith, shaped.above)) (omega arith) (omega (arith, group_room, size_of))
          (λ honest.
          let was = before_it honest in
          rw is at (grouped_stands state old.tail.gate commands group e.done.holds count_there made was (facts old.disk was) room end group_room))
          index kept

      -- and so the journal continues after them
      pub written_sound : {end : Tail} {counted : ℕ} → end ≡ record old.tail { gate = old.tail.gate + (5 + length (group_body group)) }
          → counted ≡ y.spool.state.seq → IsSoundJournal (state b) end y now counted old.broken
      written_sound is counts =
          let gate : ℕ = old.tail.gate + (5 + length (group_body group)) in
          let shape = shape_after {y = y} commands shaped e.done.accepted e.done.state gate (omega arith) (omega (arith, group_room))
          (λ full. omega (arith, shaped.generation, count_there.0)) in
          let ends : IsAtEnd (record old.tail { gate = gate }) y = ends_at (grind (arith, e.done.used, count_there.0, place_after old.tail.gate group)) in
          let kept = rw (← e.shows, ← e.done.state) at (front_written commands [] (sym (append-nil commands))) in
          let durable = λ (honest : (state b).honest). let was = e.going.durable (before_it honest) in
          rw (← e.shows) at (append_durable state was e.done.holds group_there bytes_accepted group_room made (facts b)) in
          let tagged = λ (honest : (state b).honest). let was = before_it honest in
          rw (← e.done.state) at
          (append_tagged state (e.going.durable was) e.done.holds group_there bytes_accepted group_room made x.spool.state (e.going.tagged was)) in
          let counted = counts ∙ ap (λ (m : State ℕ). m.seq) alike_now in
          rw is (search ((makes_later state made).size, shape, durable, tagged))
