-- The opening of the next segment with a head of the collected copy: the choice and the copy, the calls, and their
-- images at the end and at any moment.
use Rattle.rly_journal.proofs.Common.{[], All, ap, arith, blank_payload, Bool, bytes_at, Call, cases_eq, Consistent, device_length, DiskState, victim_reads_for, collected_payload}
use Rattle.rly_journal.proofs.Common.{collected_state, end_of_opening, Err, false, Geometry, get_or-set_other, get_or-set_same, HasRoomFor, head_spelled, head_calls}
use Rattle.rly_journal.proofs.Common.{holds_command, image_of_opening, IndexState, inl, Inline, inr, IsAlike, IsAtEnd, IsDueFor, IsDurable, IsFull, IsHeadOf}
use Rattle.rly_journal.proofs.Common.{StandsForBytes, IsLayout, IsLogged, IsPlaced, IsReadied, HasOpenedIfDue, IsRenewal, IsSameButForBytes, IsShaped, IsSoundJournal}
use Rattle.rly_journal.proofs.Common.{IsStorable, IsTaggedIn, JournalState, LeavesOnly, length, length-append, length-replicate, length-spelled, LiesElsewhere}
use Rattle.rly_journal.proofs.Common.{LiesThere, List, Makes, makes_nothing, MakesFront, maps_held, maps_same, may_open, MayMove, MayRenew, relocated_state, None}
use Rattle.rly_journal.proofs.Common.{Ok, opened_spelled, bytes_after_write, payloads_of, DeviceAddress, Placed, refl, Renewal, tail_after_renewal, renewal_calls, replacing_synced}
use Rattle.rly_journal.proofs.Common.{row_tried, same_inline, same_moved, same_sound, SameOutside, Second, segment_place, segment_within, shown_in, Some}
use Rattle.rly_journal.proofs.Common.{sound_alike, standing_once, StandsAt, State, state_in, state_spelled, state_twice, Stored, stored_form, stored_in}
use Rattle.rly_journal.proofs.Common.{stored_length, sym, Tail, Tries, true, failed_head_tries, zeros_at, whole, wider, ℕ, ⊎_elim, ◌++◌, ◌+◌, ◌<◌, ◌∙◌, ◌∷◌, ◌≡◌, ◌≤◌, ◌⊎◌}
use Rattle.rly_disk.specs.Trace.{are_reads, DeviceEvent, images_within, seen_at_end}
use Rattle.rly_machine.specs.Sound.{IsSound}
use Rattle.rly_reclaim.specs.SegmentChoice.{IsFree, IsVictim}
use Rattle.rly_segment_checkpoint.specs.Forms.{HaveForms}
use Rattle.rly_reclaim.specs.Places.{live_by_segment}
use Rattle.rly_reclaim.proofs.Collection.{drawn_empty, drawn_inline, drawn_sound, drawn_stands}
use Rattle.rly_reclaim.proofs.Placing.{holds_none}
use Rattle.rly_reclaim.proofs.LiveRooms.{has_room_for, live_length}
use Rattle.rly_journal_relocate.proofs.Moves.{may_move}
use Rattle.rly_journal_relocate.proofs.Storable.{drawn_storable, same_storable}
use Rattle.rly_journal_index.proofs.Opened.{drawn_all_apart, moved_lengths, opened_stands}
use Rattle.rly_journal.specs.UntouchedBytes.{IsHeadFor}
use Rattle.rly_journal.proofs.Agreeing.{other_bytes}
use Rattle.rly_journal.proofs.UntouchedBytes.{opening_law}
use Rattle.rly_journal.proofs.Growing.{opened_with, with_head}
use Rattle.rly_journal.proofs.Inlining.{elsewhere_still}
use Rattle.rly_journal.proofs.Counted.{drawing_reads, drawn_counts, renewing_syncs, two_tried, unheaded_made}
use Rattle.rly_journal.proofs.Reading.{broken_sound, IsGoing, leaves_durable, leaves_read, sound_read}
use Rattle.rly_journal.proofs.Tagging.{apart_elsewhere, moved_tagged, same_at, standing_at, standing_there, tagged_free, written_there}
use Rattle.rly_journal.proofs.Opening.{shown_length, shown_whole}
use Rattle.rly_disk.proofs.Making.{makes_later, makes_leaves, makes_seen, makes_settled, reads_quiet, synced_behind}
use Rattle.rly_journal.proofs.Following.{front_all, only_front}
use Rattle.rly_journal.specs.HelpersRounds.{IsRenewing}
use Rattle.rly_journal.specs.Recovery.{state_in as standing_state, Recovery, IsRecovery, Stands}
use Rattle.rly_journal.specs.declared.next_segment.RenewFault.TheVariants as fault

-- ---- the choice, on a disk of this size, and the copy

pub record IsChosen (size : ℕ) (tail : Tail) (places : State Stored) (target victim : ℕ) : Type 0 where
  pub layout : IsLayout tail.geometry size
  pub sound : IsSound stored_length places
  pub params : places.params ≡ tail.geometry.params
  pub few : tail.generation ≤ places.seq
  pub free : IsFree (live_by_segment tail.geometry places) tail.segment target
  pub moves : IsVictim (live_by_segment tail.geometry places) target victim
  pub may : MayMove tail.geometry target victim places
  pub room : HasRoomFor tail.geometry places victim

pub record IsDrawn (disk : DiskState) (tail : Tail) (r : Renewal) : Type 0 where
  pub chosen : IsChosen disk.size tail r.places r.target r.victim
  pub copy : IsSameButForBytes r.copy (collected_state tail.geometry r.victim zeros_at r.places)
  pub bytes : disk.honest → r.copy ≡ collected_state tail.geometry r.victim (bytes_at disk.seen) r.places

module _ {size : ℕ} {tail : Tail} {places : State Stored} {target victim : ℕ} (chosen : IsChosen size tail places target victim) where
  pub victim_there : victim < tail.geometry.segments
  victim_there = omega (arith, chosen.moves.there, live_length tail.geometry places)

  -- the payloads by device address of the copy lie in other segments
  drawn_placed : (read : DeviceAddress → List ℕ) → IsPlaced tail.geometry target (collected_state tail.geometry victim read places)
  drawn_placed read =
      let copy : State Stored = collected_state tail.geometry victim read places in
      let elsewhere : All (LiesElsewhere tail.geometry target) (payloads_of copy) =
      λ k d lt. apart_elsewhere tail.geometry target _ (drawn_all_apart tail.geometry target victim places chosen.may read k d lt) in
      let may = may_open tail.geometry target victim copy victim_there chosen.may.other (drawn_empty tail.geometry victim read places) in
      record { elsewhere = elsewhere; left = (victim, holds_none tail.geometry target victim copy elsewhere may) }

-- ---- the content of the head

module _ {disk : DiskState} {tail : Tail} {r : Renewal} (d : IsDrawn disk tail r) where
  abbrev zeros : State Stored
  zeros = collected_state tail.geometry r.victim zeros_at r.places

  pub copy_sound : IsSound stored_length r.copy
  copy_sound = same_sound zeros r.copy (sym d.copy) (drawn_sound tail.geometry r.victim zeros_at r.places (λ p. length-replicate p.length 0) d.chosen.sound)

  -- it has as many inline bytes as the victim had
  pub copy_head : IsHeadOf stored_length stored_form tail.geometry r.target (tail.generation + 1) r.copy
  copy_head =
      let params : r.copy.params ≡ tail.geometry.params = ap (λ (t : State Stored). t.params) d.copy ∙ d.chosen.params in
      let collected_payload = drawn_inline tail.geometry r.victim zeros_at r.places (λ p. length-replicate p.length 0) in
      let room = d.chosen.room.head r.copy copy_sound params (omega (arith, same_inline r.copy zeros d.copy, collected_payload, d.chosen.may.inline)) in
      search (arith, params, d.chosen.few, ap (λ (t : State Stored). t.seq) d.copy, room)

  pub copy_forms : All (HaveForms (IsStorable Second)) r.copy.hops
  copy_forms = same_storable Second zeros r.copy (sym d.copy) (drawn_storable Second _ disk.size r.victim r.places d.chosen.layout d.chosen.may.lies)

  -- ---- the end of the journal after it

  pub renew_room : IsFull (tail_after_renewal tail r) → ⊥
  renew_room full = omega (arith, copy_head.room, full)

  pub renew_shape : {new : ℕ} {y : IndexState} → new ≡ disk.size → y.spool.state ≡ relocated_state tail.geometry r.target r.victim r.places
      → IsShaped new (tail_after_renewal tail r) y
  renew_shape same moved =
      let full = λ (full : IsFull (tail_after_renewal tail r)). absurd {A = tail.generation + 1 ≤ r.places.seq} (renew_room full) in
      rw (same, moved) (search (arith, d.chosen, d.chosen.may.there, copy_head.room, full))

-- ---- the segment in the clauses

-- if the payloads weren't read, it has those of the image
module _ {disk : DiskState} {tail : Tail} {places : State Stored} {target victim : ℕ} (facts : disk.honest → Consistent disk)
    (chosen : IsChosen disk.size tail places target victim) where
  abbrev shown : DeviceAddress → List ℕ
  shown place = shown_in disk.seen (Placed place)

  shown_blank : (p : Stored) → blank_payload (collected_payload tail.geometry victim shown p) ≡ blank_payload (collected_payload tail.geometry victim zeros_at p)
  shown_blank (Inline payload) = refl
  shown_blank (Placed place) = let long = shown_length disk.seen (Placed place) in grind (arith, length-replicate {A = ℕ})

  shown_read : disk.honest → (p : Stored) → LiesThere tail.geometry p → collected_payload tail.geometry victim shown p ≡ collected_payload tail.geometry victim (bytes_at disk.seen) p
  shown_read honest p lies =
      let long : device_length tail.geometry ≤ length disk.seen = omega (arith, chosen.layout.room, (facts honest).seen_size) in
      let same = shown_whole disk.seen p (whole disk.seen tail.geometry long p lies) in grind arith

  pub undrawn : IsDrawn disk tail (record { places = places; target = target; victim = victim; copy = collected_state tail.geometry victim shown places })
  undrawn = record {
    chosen = chosen;
    copy = state_twice blank_payload _ places ∙ maps_same _ _ shown_blank places ∙ sym (state_twice blank_payload _ places);
    bytes = λ honest. maps_held _ _ places (λ k e lt. shown_read honest _ (chosen.may.lies k e lt));
  }

-- ---- reads before other calls

-- a crash within reads and the calls after them
reads_then : (reads rest : List DeviceEvent) → are_reads reads ≡ true → (seen : List ℕ) (I : List ℕ → Type 0) (c : List ℕ)
    → images_within (reads ++ rest) seen I c → I c ⊎ images_within rest seen I c
reads_then [] rest only seen I c image = inr image
reads_then (call ∷ reads) rest only seen I c image = let more = λ (read : are_reads reads ≡ true). reads_then reads rest read seen I c in grind (arith, more)

reads_seen : (reads rest : List DeviceEvent) → are_reads reads ≡ true → (seen : List ℕ) → seen_at_end (reads ++ rest) seen ≡ seen_at_end rest seen
reads_seen [] rest only seen = refl
reads_seen (call ∷ reads) rest only seen = let more = λ (read : are_reads reads ≡ true). reads_seen reads rest read seen in grind (arith, more)

-- ---- the content after the head was written, and the end of the journal

module _ {disk : DiskState} {tail : Tail} {s : State (List ℕ)} {r : Renewal} (d : IsDrawn disk tail r)
    (renewal : IsRenewal disk tail s r) (durable : IsDurable disk tail s) where
  abbrev place : ℕ
  place = segment_place tail.geometry r.target

  abbrev opened : List ℕ
  opened = opened_spelled stored_length stored_form (tail.generation + 1) r.copy

  abbrev new : List ℕ
  new = seen_at_end (renewal_calls tail r) disk.seen

  abbrev x : Recovery
  x = standing_at tail durable.logged.x

  abbrev y : Recovery
  y = with_head x r.target r.copy (state_in new r.copy)

  written : SameOutside place tail.geometry.length disk.seen new × StandsAt new place opened
  written =
      let text : List ℕ = head_spelled stored_length stored_form (tail.generation + 1) r.copy in
      let count : length opened ≡ 14 + length (state_spelled stored_length stored_form r.copy) =
      omega (arith, length-append text (0 ∷ []), length-spelled stored_length stored_form (tail.generation + 1) r.copy) in
      let within = segment_within tail.geometry r.target disk.size d.chosen.layout d.chosen.may.there in
      let fits : place + length opened ≤ length disk.seen = omega (arith, within, count, (copy_head d).room, durable.settled.consistent.seen_size) in
      let same : new ≡ bytes_after_write place opened disk.seen =
      reads_seen (victim_reads_for tail r) (head_calls tail r) (drawing_reads tail r) disk.seen
      ∙ end_of_opening stored_length stored_form tail.geometry r.target (tail.generation + 1) r.copy _ disk.seen (omega (arith, fits, count)) in
      let there = written_there place opened same fits in
      (wider place tail.geometry.length place (length opened) (omega arith) (omega (arith, count, (copy_head d).room)) there.0, there.1)

  there : IsRecovery disk.seen x
  there = standing_there durable.logged

  state : s ≡ standing_state x
  state = durable.logged.state ∙ ap standing_state (same_at durable.logged)

  placed : IsPlaced tail.geometry r.target r.copy
  placed = rw (d.bytes durable.settled.honest) (drawn_placed d.chosen (bytes_at disk.seen))

  same : state_in disk.seen r.copy ≡ s
  same = rw (d.bytes durable.settled.honest) (drawn_stands tail.geometry r.victim disk.seen r.places ∙ renewal.kept.bytes durable.settled.honest)

  grown : IsRecovery new y
  grown =
      opened_with x r.target r.copy (state_in new r.copy) there d.chosen.may.there d.chosen.free.may_open.other (copy_sound d) (copy_head d) placed
      (omega (arith, d.chosen.few, d.chosen.sound.seq)) refl written.0 written.1

  pub renewed_logged : length tail.closed ≡ 256 → IsLogged new (tail_after_renewal tail r) s
  renewed_logged wide = record {
    x = y;
    stands = grown;
    ends = record { geometry = refl; segment = refl; generation = refl; gate = refl };
    state = sym (elsewhere_still tail.geometry r.target r.copy placed.elsewhere written.0 ∙ same);
    gates = λ u small. elim (cases_eq u r.target) [
      | inl same ↦
          let below : r.target < length tail.closed = omega (arith, wide, d.chosen.may.there, d.chosen.layout.segments.1) in
          rw (same, get_or-set_same tail.closed r.target false false below) ((λ yes. cc), λ shut. absurd (shut grown.scanned.newest.gate))
      | inr differs ↦
          let bytes = other_bytes tail.geometry u r.target (λ e. differs (sym e)) written.0 in
          let byte = bytes.each (segment_place tail.geometry u) (omega arith) (omega (arith, d.chosen.layout.fits)) in
          rw (get_or-set_other tail.closed r.target u false false differs, byte) (durable.logged.gates u small)
    ];
  }

  -- the content has the new head, with the payloads at the addresses of the index
  pub renewed_tagged : IsTaggedIn new (relocated_state tail.geometry r.target r.victim r.places)
  renewed_tagged z reads = rw (← standing_once y z grown reads) (moved_tagged tail.geometry r.target r.victim r.places r.copy d.chosen.may d.copy)

  -- and the index recovers to the same state as before
  pub renewed_bytes : state_in new (relocated_state tail.geometry r.target r.victim r.places) ≡ s
  renewed_bytes =
      opened_stands tail.geometry r.target r.victim r.places d.chosen.may disk.seen new (tail.generation + 1) r.copy (d.bytes durable.settled.honest)
      (same_moved tail.geometry r.target r.victim r.places r.copy d.copy) grown.scanned.head.head written.0 ∙ renewal.kept.bytes durable.settled.honest

  -- the head may be written
  may_write : IsHeadFor disk.seen x r.target r.copy
  may_write =
      search (arith, d, d.chosen.few, d.chosen.sound.seq, renewal.free durable.settled.honest x there, copy_sound d, copy_head d, placed, same ∙ state)

  pub may_renew : length tail.closed ≡ 256 → MayRenew disk.seen tail s r
  may_renew wide = record { head = λ z stands. rw (← standing_once x z there stands) may_write; logged = renewed_logged wide; room = renew_room d }

  -- a crash at any moment
  pub crash : (c : List ℕ) → images_within (renewal_calls tail r) disk.seen (λ i. i ≡ disk.seen) c → Stands c s
  crash c image =
      ⊎_elim (λ before. rw before (durable.logged.x, durable.logged.stands, durable.logged.state))
      (λ within. rw state (opening_law disk.seen c x r.target r.copy there may_write
      (image_of_opening stored_length stored_form tail.geometry r.target (tail.generation + 1) r.copy _ disk.seen c
      (rw durable.settled.consistent.seen_size d.chosen.layout) d.chosen.may.there (copy_head d) (durable.logged.gates r.target d.chosen.may.there) within)))
      (reads_then (victim_reads_for tail r) (head_calls tail r) (drawing_reads tail r) disk.seen (λ i. i ≡ disk.seen) c image)

-- ---- a segment that is due may be opened so

pub renewing_law : {D : Type 0} {state : D → DiskState} {j : JournalState D} {x : IndexState} → IsGoing state j x → IsSound length j.state
    → length j.tail.closed ≡ 256 → (state j.disk).honest → IsFull j.tail → (r : Renewal) → IsRenewal (state j.disk) j.tail j.state r
    → MayRenew (state j.disk).seen j.tail j.state r
renewing_law {state = state} {j} here sound wide honest full r renewal =
    let g : Geometry = j.tail.geometry in
    let layout = here.sound.shaped.geometry in
    let sound_places : IsSound stored_length r.places = sound_alike length stored_length j.state r.places (sym renewal.kept.alike) sound in
    let places = renewal.kept.alike ∙ sym here.sound.alike in
    let params : r.places.params ≡ g.params = ap (λ (t : State ℕ). t.params) places ∙ here.sound.shaped.params in
    let few : j.tail.generation ≤ r.places.seq = omega (arith, here.sound.shaped.full full, ap (λ (t : State ℕ). t.seq) places) in
    let may = may_move g j.tail.segment r.target r.victim r.places layout.segments layout.fits sound_places params renewal.target renewal.victim
    renewal.inline renewal.there in
    let room = has_room_for g r.places j.tail.segment r.target r.victim layout.segments layout.fits sound_places params renewal.target renewal.victim in
    let collected_payload : IsDrawn (state j.disk) j.tail r = search (layout, sound_places, params, few, may, room, renewal, renewal.bytes) in
    may_renew collected_payload renewal (here.durable honest) wide

-- ---- the results of making room for a round: no segment was due; or the next one was, and was opened or not

-- no segment was due
pub calm_ready : {A D : Type 0} {done : A} {state : D → DiskState} {old : JournalState D} {x : IndexState} {calls : List Call} → IsGoing state old x
    → (IsDueFor old calls → ⊥) → IsReadied state old old calls (Ok done)
calm_ready {state = state} {old} {calls = calls} j none =
    let ready : HasOpenedIfDue state old old calls = record {
      opened = None;
      renewal = tt;
      due = λ some. cc;
      unless = λ _. none;
      calm = λ _. refl;
      next = λ due. absurd (none due);
      logs = λ commands whole last made. row_tried state _ whole made;
    } in
    let leaves = λ (honest : (state old.disk).honest). leaves_durable (j.durable honest) in
    search (arith, j.whole, none, ready, leaves, makes_later state (makes_nothing state old.disk))

-- a segment was due
module _ {D : Type 0} {state : D → DiskState} {a : D} {tail : Tail} {x : IndexState} {s : State (List ℕ)} {position target victim : ℕ} {copy : State Stored}
    (facts : (disk : D) → (state disk).honest → Consistent (state disk)) (sound : IsSoundJournal (state a) tail x s position false)
    (d : IsDrawn (state a) tail (record { places = x.spool.state; target = target; victim = victim; copy = copy })) where
  abbrev r : Renewal
  r = record { places = x.spool.state; target = target; victim = victim; copy = copy }

  renewal : IsRenewal (state a) tail s r
  renewal =
      -- the device has no live payload in a segment if the index has none
      let free : (state a).honest → (z : Recovery) → IsRecovery (state a).seen z → All (LiesElsewhere z.geometry target) (payloads_of (stored_in z)) =
      λ honest z stands. let there = standing_there (sound.durable refl honest).logged in
      rw (← standing_once _ z there stands)
      (tagged_free _ r.places target there.scanned (sound.tagged refl honest _ there) d.chosen.free.may_open.other d.chosen.may.empty) in
      search (sound.kept refl, d, d.bytes, free)

  -- some of the victim's payloads were read, or all of them
  only_kept : {b : D} {whole : Bool} → MakesFront state (victim_reads_for tail r) whole a b → IsSoundJournal (state b) tail x s position false
      × ((state a).honest → LeavesOnly (state a) (state b) (λ image. Stands image s)) × ((state b).syncs ≤ (state a).syncs + 3)
  only_kept made =
      let only = only_front state facts (reads_quiet (victim_reads_for tail r) (drawing_reads tail r)) made in
      (sound_read only sound, (λ honest. leaves_read (leaves_durable (sound.durable refl honest)) only honest), (drawn_counts state tail r made).1)

  leaves : {b : D} {done : Bool} → Makes state (renewal_calls tail r) done a b → (state a).honest → LeavesOnly (state a) (state b) (λ image. Stands image s)
  leaves made honest =
      let durable = sound.durable refl honest in makes_leaves state (λ image. Stands image s) made durable.settled (crash d renewal durable)

  module _ {A : Type 0} {b : D} {calls : List Call} (due : (holds_command calls ≡ true) × IsFull tail) where
    -- the allocation for its head, or for the copy, failed
    pub starved : MakesFront state (victim_reads_for tail r) true a b → IsRenewing {A = A} state tail tail x s position calls (Err fault.OutOfMemory) a b
    starved made =
        let kept = only_kept made in search (arith, inl, due, renewal, made, kept.0, kept.1, kept.2, makes_later state made.makes)

    -- a read of them failed
    pub unread_front : Makes state (victim_reads_for tail r) false a b → IsRenewing {A = A} state tail tail x s position calls (Err fault.Read) a b
    unread_front made =
        let kept = only_kept (front_all state made) in search (arith, inl, inr, due, renewal, made, kept.0, kept.1, kept.2, makes_later state made)

    -- its head wasn't written
    pub headless : Tries state (failed_head_tries tail r) a b → IsRenewing {A = A} state tail tail x s position calls (Err fault.Device) a b
    headless tries =
        let made = unheaded_made state tail r tries in
        let kept : IsSoundJournal (state b) tail x s position true = broken_sound (rw (makes_later state made).size sound.shaped) sound.alike in
        search (arith, inr, due, renewal, tries, kept, leaves made, renewing_syncs state tail r made, makes_later state made)

    -- it was opened
    pub opened_renewing : {done : A} {end : Tail} {y : IndexState} → Makes state (renewal_calls tail r) true a b → end ≡ tail_after_renewal tail r
        → y.spool.state ≡ relocated_state tail.geometry target victim x.spool.state → IsAtEnd end y → length tail.closed ≡ 256
        → IsRenewing state tail end y s position calls (Ok done) a b
    opened_renewing {end = end} {y} made is moved ends wide =
        let later = makes_later state made in
        let seen = λ (honest : (state b).honest). makes_seen state made (later.honest.0 honest) in
        let before = λ (honest : (state b).honest). sound.durable refl (later.honest.0 honest) in
        let synced = synced_behind (victim_reads_for tail r) (head_calls tail r) (replacing_synced (segment_place tail.geometry target) _ _) in
        let room = λ (again : (holds_command calls ≡ true) × IsFull end). renew_room d (rw is at again.1) in
        let alike : IsAlike y.spool.state s = rw moved (moved_lengths tail.geometry target victim x.spool.state d.chosen.may ∙ sound.alike) in
        let kept : StandsForBytes (state b) y.spool.state s = record { alike = alike; bytes = λ h. rw (moved, seen h) (renewed_bytes d renewal (before h)) } in
        let ready : HasOpenedIfDue state (record { disk = a; tail = tail; state = s; position = position; broken = false })
        (record { disk = b; tail = end; state = s; position = position; broken = false }) calls = record {
          opened = Some r;
          renewal = renewal;
          due = λ _. due;
          unless = λ none. cc;
          calm = λ none. absurd (none due);
          next = λ _. ap (λ (t : Tail). t.generation) is;
          logs = λ commands whole last logged. two_tried state (renewal_calls tail r) _ whole made (rw is at logged);
        } in
        let shaped : IsShaped (state b).size end y = rw is (renew_shape d later.size moved) in
        let durable : (state b).honest → IsDurable (state b) end s = λ honest.
        let logged : IsLogged (state b).seen end s = rw (is, seen honest) (renewed_logged d renewal (before honest) wide) in
        record { settled = makes_settled state made synced (later.honest.0 honest) (facts b); logged = logged } in
        let tagged : (state b).honest → IsTaggedIn (state b).seen y.spool.state =
        λ honest. rw (moved, seen honest) (renewed_tagged d renewal (before honest)) in
        let here : IsSoundJournal (state b) end y s position false = search (shaped, kept, ends, durable, tagged, sound.counted) in
        search (ap (λ (t : Tail). t.geometry) is, here, room, ready, leaves made, renewing_syncs state tail r made, later)
