-- The reading of a device, group by group; payloads stay there.
use Rattle.rly_journal.proofs.Common.{[], accepted-more, AllAccepted, ap, append-nil, arith, before_quiet, body_of, broken_commands, Commands, Consistent}
use Rattle.rly_journal.proofs.Common.{DiskState, EndsAt, first_of, fold, front_all, gate_after, gate_behind-more, gate_scan, gates_quiet, gathered_kept}
use Rattle.rly_journal.proofs.Common.{Geometry, group_scan, groups-more, HaveBody, head_scanned, head_tail, head_unread, HoldsGroup, HoldsIndex, IndexState}
use Rattle.rly_journal.proofs.Common.{inl, inr, IsAlike, IsAt, IsBroken, IsClosed, IsFull, IsGivenUp, IsHeadOf, IsLayout, IsReadHeader, IsReading, IsReadNewest}
use Rattle.rly_journal.proofs.Common.{IsRecovered, IsRedone, IsRefused, IsReplayedFor, IsShaped, IsRecovery, length, length-frame, List, Makes, MakesFront, Ok}
use Rattle.rly_journal.proofs.Common.{only_made, OnlyRead, OpenFault, Option, params_fold, past_body, placed_group, Read, read_again, refl, replayed-more}
use Rattle.rly_journal.proofs.Common.{scan_broken, scanned_all, scanned_group, segment_end, segment_place, seq_fold, settled_stands, state_in_head, Some}
use Rattle.rly_journal.proofs.Common.{Recovery, standing_once, State, state_in, state_spelled, Stored, stored_length, stored_spelled, subst, sym, Tail, open_calls_succeeded}
use Rattle.rly_journal.proofs.Common.{true, with_gate, with_group, ℕ, ◌+◌, ◌<◌, ◌∙◌, ◌∷◌, ◌≡◌, ◌≤◌}
use Rattle.rly_segment.specs.declared.generations.NewestHead.{NewestHead}
use Rattle.rly_segment.specs.declared.heads.Head.{Head}
use Rattle.rly_segment.specs.Calls.{head_reads}
use Rattle.rly_segment.specs.PlacedHeads.{HoldsNonePlaced, HoldsPlaced, IsReadPlaced}
use Rattle.rly_journal.specs.declared.open_fault.OpenFault.TheVariants.{Damaged, OutOfMemory}
use Rattle.rly_journal.proofs.Opening.{index_there, shown_alike, shown_there}
use Rattle.rly_journal.proofs.Redone.{alike_commands, placed_count}
use Rattle.rly_journal.proofs.Tagging.{head_tagged, tagged_more}

-- accepted commands keep the shape, with a gate that is later or the same
pub shape_after : {size : ℕ} {tail : Tail} {x y : IndexState} (commands : Commands) → IsShaped size tail x
    → AllAccepted stored_length x.spool.state (placed_group tail.gate commands)
    → y.spool.state ≡ fold stored_length x.spool.state (placed_group tail.gate commands) → (gate : ℕ) → tail.gate ≤ gate
    → gate < segment_end tail.geometry tail.segment → (IsFull (with_gate tail gate) → tail.generation ≤ x.spool.state.seq + length commands)
    → IsShaped size (with_gate tail gate) y
shape_after {tail = tail} {x} commands shaped accepted state gate on within full =
    let counted = seq_fold stored_length x.spool.state (placed_group tail.gate commands) accepted in
    let same = ap (λ (m : State Stored). m.seq) state in let seq = placed_count (tail.gate + 7) commands in
    let params = ap (λ (m : State Stored). m.params) state ∙ params_fold stored_length x.spool.state (placed_group tail.gate commands) ∙ shaped.params in
    search arith

-- ---- the newest head

-- the header was read, and the generation of each segment
pub record IsLooked {D : Type 0} (state : D → DiskState) (g : Geometry) (found : NewestHead) (old new : D) : Type 0 where
  pub layout : IsLayout g (state old).size
  pub there : found.segment < g.segments
  pub header : (state old).honest → IsReadHeader (state old).seen (Ok g)
  pub newest : (state old).honest → IsReadNewest (state old).seen g (Ok found)
  pub made : Makes state (gate_scan g) true old new

module _ {D : Type 0} {state : D → DiskState} (facts : (disk : D) → (state disk).honest → Consistent (state disk)) {start now : D} where
  module _ {g : Geometry} {found : NewestHead} (looked : IsLooked state g found start now) where
    only_looked : OnlyRead (state start) (state now)
    only_looked = only_made state facts (gates_quiet g) looked.made

    -- the allocation for the head failed
    pub head_starved : {next : D} (body : Option ℕ) → Makes state (head_reads (segment_place g found.segment) body) true now next
        → IsGivenUp state OutOfMemory start next
    head_starved body made = record {
      refused = λ honest.
          let header = looked.header honest in let fits = rw header.1 at header.2 in
          let newest = rw header.1 at (looked.newest honest).0 in search;
      trace = head_unread g found.segment body looked.made made;
    }

    -- it holds no state
    pub headless : {next : D} {place : ℕ} (body : Option ℕ) → place ≡ segment_place g found.segment
        → Makes state (head_reads (segment_place g found.segment) body) true now next
        → ((state now).honest → HoldsNonePlaced (state now).seen g found.segment) → IsGivenUp state (Damaged place) start next
    headless body at made read = record {
      refused = λ honest.
          let header = looked.header honest in
          let none = read_again (λ image. HoldsNonePlaced image g found.segment) only_looked read honest in
          rw (← header.1) (header.0, header.2, inr (inl (record { segment = found.segment; newest = (looked.newest honest).0; none = none; at = at })));
      trace = head_unread g found.segment body looked.made made;
    }

    -- it holds one
    pub head_read : {next : D} (held : Head Stored) {x : IndexState} {body : Option ℕ} → let s = held.machine.state in let form = stored_spelled held.form in
        IsHeadOf stored_length form g found.segment held.generation s → held.gate ≡ gate_after stored_length form g found.segment s
        → ((state now).honest → IsReadPlaced (state now).seen g found.segment (Ok held)) → body ≡ Some (length (state_spelled stored_length form s))
        → x.spool.state ≡ state_in_head held.form g found.segment s → IsAt g found.segment held.gate x
        → Makes state (head_reads (segment_place g found.segment) body) true now next
        → IsReading state (head_tail g found.segment held.generation held.gate found.closed) x start next
    head_read held {x} head gate read spelled settled at made =
        let s : State Stored = held.machine.state in let seen : List ℕ = (state start).seen in
        let tail : Tail = head_tail g found.segment held.generation held.gate found.closed in
        let z : Recovery =
        record { geometry = g; segment = found.segment; generation = held.generation; form = held.form; head = s; checkpoint = state_in seen s; groups = [] } in
        let scanned = head_scanned tail _ gate looked.made (rw spelled at made) in
        let params = ap (λ (m : State Stored). m.params) settled ∙ head.params in let seq = ap (λ (m : State Stored). m.seq) settled in
        let shaped : IsShaped (state start).size tail x = search arith in
        record {
          shaped = rw scanned.2.leads.size shaped;
          ends = at;
          replayed = λ honest.
              let header = looked.header honest in let newest = looked.newest honest in
              let holds = read_again (λ i. HoldsPlaced held.form i g found.segment held.generation s) only_looked read honest in
              let ends : EndsAt tail z = record { geometry = refl; segment = refl; generation = refl; gate = gate } in
              let is = ap (state_in seen) settled ∙ settled_stands held.form seen g found.segment held.generation s holds.head in
              record {
                read = record { x = z; scanned = search; ends = ends; state = is; gates = newest.1 };
                tagged = rw settled (λ t other. head_tagged g found.segment t other held.form s (omega (arith, head.room)));
              };
          scanned = scanned;
        }

  -- ---- one more group

  module _ {tail : Tail} {x : IndexState} (so_far : IsReading state tail x start now) where
    only_so_far : OnlyRead (state start) (state now)
    only_so_far = only_made state facts (before_quiet so_far.scanned.0) so_far.scanned.2

    replayed_now : (state now).honest → IsReplayedFor (state now).seen tail x
    replayed_now honest =
        let was = only_so_far.later.honest.0 honest in rw (only_so_far.crash was).seen (so_far.replayed was)

    -- reading ends before the group is replayed
    pub given_up : {next : D} {why : OpenFault} → ((state now).honest → IsRefused (state now).seen why)
        → (n : ℕ) × MakesFront state (group_scan tail.gate n) (open_calls_succeeded why) now next → IsGivenUp state why start next
    given_up {why} refused cut =
        record { refused = read_again (λ image. IsRefused image why) only_so_far refused; trace = scan_broken so_far.scanned cut }

    -- there is a newest head, so an allocation may fail
    pub starved : {next : D} → (n : ℕ) × MakesFront state (group_scan tail.gate n) true now next → IsGivenUp state OutOfMemory start next
    starved = given_up (λ honest.
        let scanned = (replayed_now honest).read.scanned in
        let fits = rw scanned.geometry at scanned.fits in let newest = rw scanned.geometry at scanned.newest in search)

    -- no group can lie there
    pub damaged : {next : D} → ((state now).honest → IsReplayedFor (state now).seen tail x → IsBroken (state now).seen tail.gate)
        → (n : ℕ) × MakesFront state (group_scan tail.gate n) true now next → IsGivenUp state (Damaged tail.gate) start next
    damaged broken = given_up (λ honest.
        let was = replayed_now honest in
        let scanned = was.read.scanned in (scanned.device, rw scanned.geometry at scanned.fits, inr (inr (broken honest was))))

    -- the gate after the part that was read is closed, so that is all
    pub all_read : {next : D} → ((state now).honest → IsClosed (state now).seen tail.gate) → Makes state (Read tail.gate 1 ∷ []) true now next
        → IsRecovered state tail x start next
    all_read shut made = record {
      shaped = rw made.leads.size so_far.shaped;
      ends = so_far.ends;
      logged = λ honest.
          let was = so_far.replayed honest in let read = was.read in
          let closed = read_again (λ image. IsClosed image tail.gate) only_so_far shut honest in
          let stands : IsRecovery (state start).seen read.x = record { scanned = read.scanned; closed = rw read.ends.gate at closed } in
          record { read = search; tagged = λ y reads. rw (standing_once read.x y stands reads) at was.tagged };
      trace = scanned_all so_far.scanned made;
    }

    -- ---- the body of a group lies there

    module _ (holds : HoldsIndex x.geometry x.segment x.used x.spool.state) where
      alike_now : (state now).honest → IsAlike x.spool.state (state_in (state now).seen x.spool.state)
      alike_now honest =
          subst (IsAlike x.spool.state) (sym (shown_there (facts now) so_far.shaped so_far.ends holds honest)) (shown_alike (state now).seen x.spool.state)

      -- it encodes no commands that are all accepted
      pub unaccepted : {next : D} (body : List ℕ) → ((state now).honest → HoldsGroup (state now).seen tail.gate (segment_end tail.geometry tail.segment) body)
          → ((commands : Commands) → HaveBody commands → body ≡ body_of commands
          → AllAccepted stored_length x.spool.state (placed_group tail.gate commands) → ⊥)
          → Makes state (group_scan tail.gate (length body)) true now next → IsGivenUp state (Damaged tail.gate) start next
      unaccepted body held none made =
          damaged (λ honest was. broken_commands _ tail body _ was.read (held honest) (λ commands have spelled accepted.
          none commands have spelled ((alike_commands (tail.gate + 7) commands _ _ (alike_now honest)).1.1 accepted))) (_, front_all state made)

      module _ {y : IndexState} (commands : Commands) (have : HaveBody commands)
          (room : tail.gate + 6 + length (body_of commands) ≤ segment_end tail.geometry tail.segment)
          (held : (state now).honest → HoldsGroup (state now).seen tail.gate (segment_end tail.geometry tail.segment) (body_of commands))
          (redone : IsRedone x tail.gate commands y) where
        -- the part that was read then has one more group
        replayed_next : (state now).honest → IsReplayedFor (state now).seen tail x
            → IsReplayedFor (state now).seen (past_body tail (length (body_of commands))) y
        replayed_next honest was =
            let s : State Stored = x.spool.state in
            let read = was.read in let z : Recovery = read.x in
            let alike = alike_now honest in let group = held honest in
            let accepted = rw read.state at ((alike_commands (tail.gate + 7) commands s _ alike).1.0 redone.accepted) in
            let there = rw (read.ends.gate, read.ends.geometry, read.ends.segment) at group in
            let kept =
            gathered_kept (state now) tail.geometry tail.segment tail.gate (segment_end tail.geometry tail.segment) commands [] s _ (facts now)
            so_far.shaped.geometry so_far.shaped.segment (omega (arith, so_far.shaped.above)) (omega arith) (rw (append-nil commands) room)
            (λ _. rw (append-nil commands) group) (index_there tail x so_far.ends holds).index (record { alike = alike; bytes = λ _. refl }) in
            record {
              read = record {
                x = with_group z commands;
                scanned = search (groups-more, accepted-more);
                ends = let gate = ap (λ n. n + 5 + length (body_of commands)) read.ends.gate ∙ sym (gate_behind-more (first_of z) z.groups commands) in search;
                state = grind (arith, redone.state, kept.bytes honest, read.state, replayed-more z.checkpoint z.groups commands);
                gates = read.gates;
              };
              tagged = rw redone.state
                  (tagged_more z s tail.gate commands read.scanned read.ends.gate (omega (arith, read.ends.gate, there.room, length-frame (body_of commands)))
                  was.tagged);
            }

        pub read_on : {next : D} → Makes state (group_scan tail.gate (length (body_of commands))) true now next
            → IsReading state (past_body tail (length (body_of commands))) y start next
        read_on made =
            let gate : ℕ = tail.gate + 5 + length (body_of commands) in
            record {
              shaped = rw made.leads.size (shape_after commands so_far.shaped redone.accepted redone.state gate (omega arith) (omega (arith, room))
                  (λ full. omega (arith, so_far.shaped.generation, have.0)));
              ends = rw (so_far.ends.geometry, so_far.ends.segment) at redone.at;
              replayed = read_again (λ image. IsReplayedFor image (past_body tail (length (body_of commands))) y) only_so_far
                  (λ honest. replayed_next honest (replayed_now honest));
              scanned = scanned_group so_far.scanned (length (body_of commands)) made;
            }
