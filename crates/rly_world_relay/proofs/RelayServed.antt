-- The effect of a journal's round, in the model of a relay.
use Rattle.std.proofs.Common.{ℕ, ◌≡◌, ◌⊎◌, ◌++◌, ◌∙◌, Bool, true, false, not, List, [], Option, None, Some, length, ap, refl, sym, subst, inl, inr, append_assoc}
use Rattle.std.specs.List.{zip}
use Rattle.std.specs.Prelude.{Err, IfSome, IsOk, IsSome, Ok, OnOk, Result}
use Rattle.std.proofs.lemmas.Bool.{true≢false}
use Rattle.std.proofs.lemmas.List.{append-nil, length-map}
use Rattle.rly_core.specs.declared.refusal.Refusal.{Refusal}
use Rattle.rly_core.specs.declared.refusal.Refusal.TheVariants.{Broken, DeviceRead, OutOfMemory, Unsure}
use Rattle.rly_disk.specs.FaultDisk.{fault_state}
use Rattle.rly_disk.specs.MemDisk.{mem_state}
use Rattle.rly_disk.specs.Trace.{DeviceEvent, are_reads, is_spent}
use Rattle.rly_disk.specs.Trace as trace
use Rattle.rly_disk.proofs.Traces.{cut_behind}
use Rattle.rly_machine.specs.declared.call.Answer.{Answer}
use Rattle.rly_machine.specs.declared.call.Call.{Call}
use Rattle.rly_machine.specs.History.{accepted_of}
use Rattle.rly_machine.specs.State.{State}
use Rattle.rly_disk.specs.Trials.{AreTried}
use Rattle.rly_journal.specs.OpenCalls.{log_calls}
use Rattle.rly_journal.specs.Journal.{IsDueFor, IsRound, JournalState, MakesRound, MakesShut}
use Rattle.rly_journal.specs.Log.{IsDurable, IsFull}
use Rattle.rly_journal.specs.Rounds.{refusal_of, refusals}
use Rattle.rly_journal.specs.Recovery.{Commands}
use Rattle.rly_journal.specs.RoundCalls.{IsRenewal, MayRenew, Renewal, victim_reads_for, head_calls, tail_after_renewal, renewal_calls, round_tries}
use Rattle.rly_world.specs.RelayWorld.{Batch, Round, Seal, World, Writing, calls_of}
use Rattle.rly_world_relay.specs.HelpersRounds.{IsWorldOf, Served, Serves, round_of_batches}
use Rattle.rly_world_relay.specs.Relay.{IsDeviceOf, IsReached}
use Rattle.rly_world_relay.proofs.RelayDisks.{Came, device_goes_on}
use Rattle.rly_world_relay.proofs.RelayEnds.{broken_served, refused_served, shut_served, whole_served}
use Rattle.rly_world_relay.proofs.RelayFetches.{events_of, events_reading, fetches_read, tried_parts, tried_reading}
use Rattle.rly_world_relay.proofs.RelayLogs.{IsOver}
use Rattle.rly_world_relay.proofs.RelayReads.{AreReading, all_reading, came_reads, fails_at, fails_by, reads_before, reads_front}
use Rattle.rly_world_relay.proofs.RelayRows.{came_broken, came_over, drawing_reads, drawn, drawn_broken, drawn_device, drawn_over, drawn_reached, drawn_world, headed, one_row, two_rows}
use Rattle.rly_world_relay.proofs.RelayServes.{IsPart, IsReadied, in_hand}
use Rattle.rly_world_relay.proofs.RelayTurns.{TheDisk, answered, begun, calm_walk, heading_writes, logging_writes, opened_walk, opening_writes, renew_walk, served_state}
use Rattle.rly_world_relay.proofs.RelayWalks.{Broke, Known, asked_all}

-- any segment that is opened if one is due may be opened
abbrev pub RenewsWell : JournalState TheDisk → Type 0
RenewsWell old = IsFull old.tail → (r : Renewal) → IsRenewal (fault_state mem_state old.disk) old.tail old.state r
    → MayRenew (fault_state mem_state old.disk).seen old.tail old.state r

module _ (old new : JournalState TheDisk) (w : World) (batches : List Batch) (answers : List Answer) (whole : old.broken ≡ false)
    (reached : IsReached (begun w batches)) (world : IsWorldOf old (begun w batches))
    (tail : IsDurable (fault_state mem_state old.disk) old.tail old.state) (renews : RenewsWell old)
    (counted : new.broken ≡ false → new.position ≡ new.state.seq)
    (unsure : new.broken ≡ true → (new.position ≡ old.position) × (answers ≡ refusals Unsure old.position (calls_of batches))) where
  same : IsDeviceOf (fault_state mem_state old.disk) w.device
  same = record { seen = world.device.seen; images = world.device.images }

  there : (events : List DeviceEvent) → trace.Leads events (fault_state mem_state old.disk) (fault_state mem_state new.disk)
      → IsDeviceOf (fault_state mem_state new.disk) (asked_all w.device events)
  there events leads = device_goes_on (fault_state mem_state old.disk) (fault_state mem_state new.disk) w.device events tt leads same

  -- the model state after the victim was read
  module _ (r : Renewal) where
    abbrev reads : List DeviceEvent
    reads = victim_reads_for old.tail r

    reached_drawn : IsReached (begun (drawn w reads) batches)
    reached_drawn = drawn_reached w batches reads (drawing_reads old.tail r) reached

    world_drawn : IsWorldOf old (begun (drawn w reads) batches)
    world_drawn =
        let device = drawn_world (fault_state mem_state old.disk) w reads (drawing_reads old.tail r) same in
        record { device = record { seen = device.seen; images = device.images }; spool = world.spool }

  -- ---- it broke

  went_broken : new.broken ≡ true → Came (begun w batches) (fault_state mem_state new.disk) (Broke (IsPart w batches)) → Served new batches answers (begun w batches)
  went_broken broken came = broken_served old new w batches answers whole reached world tail broken (unsure broken).0 (unsure broken).1 came

  -- ---- its calls were served

  module _ (made : MakesRound (fault_state mem_state) old new (calls_of batches) [] answers) where
    abbrev commands : Commands
    commands = accepted_of (zip (calls_of batches) made.given)

    abbrev events : List DeviceEvent
    events = made.makes.events

    -- if the journal isn't broken its Fetches were read
    went_well : new.broken ≡ false
        → Came (begun w batches) (fault_state mem_state new.disk)
        (IsOver w (record (answered batches made.given) { read_failed = fails_by false (events_of made.fetches) }) (w.accepted ++ commands))
        → Served new batches answers (begun w batches)
    went_well fine came =
        whole_served old new w batches answers whole reached world tail made.given (fails_by false (events_of made.fetches)) fine (counted fine) (made.told fine)
        (served_state old w batches whole tail reached world made.given new.state made.served made.wanted)
        (fetches_read old.state (calls_of batches) made.given made.fetches made.served.count (made.read fine) made.wanted).told came

    -- by cases: a segment was opened or not, and the journal is broken or not
    by_opened : (opened : Option Renewal) (b : Bool) → new.broken ≡ b → IfSome opened (IsRenewal (fault_state mem_state old.disk) old.tail old.state)
        → (IsSome opened → IsDueFor old (calls_of batches)) → (opened ≡ None → IsDueFor old (calls_of batches) → ⊥) → (one two : List DeviceEvent)
        → made.makes.events ≡ one ++ two → AreTried (is_spent (fault_state mem_state new.disk)) (round_tries old.tail opened commands (not b)) one
        → AreTried (is_spent (fault_state mem_state new.disk)) made.fetches two → Served new batches answers (begun w batches)
    by_opened None false fine renewal due unless one two is tried fetched =
        let row : List DeviceEvent = log_calls old.tail.gate commands in
        let all : one ≡ row = one_row true (is_spent (fault_state mem_state new.disk)) row one tried in
        let read = fetches_read old.state (calls_of batches) made.given made.fetches made.served.count (made.read fine) made.wanted in
        went_well fine
        (came_over (fault_state mem_state new.disk) w batches made.given (w.accepted ++ commands) row two (events_of made.fetches)
        (tried_reading (is_spent (fault_state mem_state new.disk)) made.fetches two read.reads fetched) (events_reading made.fetches read.reads)
        (subst (λ l. IsDeviceOf (fault_state mem_state new.disk) (asked_all w.device l)) (is ∙ ap (λ l. l ++ two) all) (there events made.makes.leads))
        (calm_walk old w batches whole tail reached world made.given new.state made.served made.wanted (unless refl)))
    by_opened None true broken renewal due unless one two is tried fetched =
        let row : List DeviceEvent = log_calls old.tail.gate commands in
        let none : two ≡ [] = subst (λ rows. AreTried (is_spent (fault_state mem_state new.disk)) rows two) (made.unread broken) fetched in
        went_broken broken
        (came_broken (fault_state mem_state new.disk) w batches (is_spent (fault_state mem_state new.disk)) row one
        (IsOver w (answered batches made.given) (w.accepted ++ commands)) (logging_writes old.tail.gate commands)
        (one_row false (is_spent (fault_state mem_state new.disk)) row one tried)
        (subst (λ l. IsDeviceOf (fault_state mem_state new.disk) (asked_all w.device l)) (is ∙ ap (λ l. one ++ l) none ∙ append-nil one) (there events made.makes.leads))
        (calm_walk old w batches whole tail reached world made.given new.state made.served made.wanted (unless refl)))
    by_opened (Some r) false fine renewal due unless one two is tried fetched =
        let drawing : List DeviceEvent = victim_reads_for old.tail r in
        let head : List DeviceEvent = head_calls old.tail r in
        let log : List DeviceEvent = log_calls (tail_after_renewal old.tail r).gate commands in
        let behind = two_rows true (is_spent (fault_state mem_state new.disk)) (renewal_calls old.tail r) log one tried in
        let whole_is : made.makes.events ≡ drawing ++ ((head ++ log) ++ two) =
        is ∙ ap (λ l. l ++ two) (behind.events_are ∙ ap (λ l. renewal_calls old.tail r ++ l) behind.made ∙ append_assoc drawing head log)
        ∙ append_assoc drawing (head ++ log) two in
        let read = fetches_read old.state (calls_of batches) made.given made.fetches made.served.count (made.read fine) made.wanted in
        let may = renews (due refl).1 r renewal in
        went_well fine
        (drawn_over (fault_state mem_state new.disk) w batches drawing (drawing_reads old.tail r)
        (record (answered batches made.given) { read_failed = fails_by false (events_of made.fetches) }) (w.accepted ++ commands)
        (came_over (fault_state mem_state new.disk) (drawn w drawing) batches made.given (w.accepted ++ commands) (head ++ log) two (events_of made.fetches)
        (tried_reading (is_spent (fault_state mem_state new.disk)) made.fetches two read.reads fetched) (events_reading made.fetches read.reads)
        (drawn_device (fault_state mem_state new.disk) w batches drawing (drawing_reads old.tail r) ((head ++ log) ++ two)
        (subst (λ l. IsDeviceOf (fault_state mem_state new.disk) (asked_all w.device l)) whole_is (there events made.makes.leads)))
        (opened_walk old (drawn w drawing) batches whole tail (reached_drawn r) (world_drawn r) (due refl) r may.head
        (headed old.tail old.state r may) may.room made.given new.state made.served made.wanted)))
    by_opened (Some r) true broken renewal due unless one two is tried fetched =
        let drawing : List DeviceEvent = victim_reads_for old.tail r in
        let head : List DeviceEvent = head_calls old.tail r in
        let log : List DeviceEvent = log_calls (tail_after_renewal old.tail r).gate commands in
        let none : two ≡ [] = subst (λ rows. AreTried (is_spent (fault_state mem_state new.disk)) rows two) (made.unread broken) fetched in
        let behind = two_rows false (is_spent (fault_state mem_state new.disk)) (renewal_calls old.tail r) log one tried in
        let whole_is : made.makes.events ≡ drawing ++ (head ++ behind.rest) =
        is ∙ ap (λ l. one ++ l) none ∙ append-nil one ∙ behind.events_are ∙ append_assoc drawing head behind.rest in
        let may = renews (due refl).1 r renewal in
        went_broken broken
        (drawn_broken (fault_state mem_state new.disk) w batches drawing (drawing_reads old.tail r)
        (came_broken (fault_state mem_state new.disk) (drawn w drawing) batches (is_spent (fault_state mem_state new.disk)) (head ++ log) (head ++ behind.rest)
        (IsOver (drawn w drawing) (answered batches made.given) (w.accepted ++ commands)) (opening_writes old.tail r commands)
        (cut_behind (is_spent (fault_state mem_state new.disk)) head log behind.rest behind.made)
        (drawn_device (fault_state mem_state new.disk) w batches drawing (drawing_reads old.tail r) (head ++ behind.rest)
        (subst (λ l. IsDeviceOf (fault_state mem_state new.disk) (asked_all w.device l)) whole_is (there events made.makes.leads)))
        (opened_walk old (drawn w drawing) batches whole tail (reached_drawn r) (world_drawn r) (due refl) r may.head
        (headed old.tail old.state r may) may.room made.given new.state made.served made.wanted)))

    pub calls_served : Served new batches answers (begun w batches)
    calls_served =
        let parts = tried_parts (is_spent (fault_state mem_state new.disk)) (round_tries old.tail made.opened commands (not new.broken)) made.fetches events made.makes.tried in
        by_opened made.opened new.broken refl made.renewal made.due made.unless parts.0 parts.1 parts.2 parts.3 parts.4

  -- ---- a segment is due but wasn't opened

  module _ (refusal : Refusal) (told : answers ≡ refusals refusal old.position (calls_of batches)) (stays : new.state ≡ old.state)
      (at : old.position ≡ old.state.seq) (made : MakesShut (fault_state mem_state) old new (calls_of batches) refusal) where
    still : new.broken ≡ false → new.position ≡ old.position
    still fine = counted fine ∙ ap (λ (s : State (List ℕ)). s.seq) stays ∙ sym at

    -- these reads were made, and others are in the clause
    only_read : (events calls : List DeviceEvent) → AreReading events → trace.Leads events (fault_state mem_state old.disk) (fault_state mem_state new.disk)
        → (refusal ≡ OutOfMemory) ⊎ (refusal ≡ DeviceRead) → new.broken ≡ false → AreReading calls → (refusal ≡ DeviceRead → fails_by false calls ≡ true)
        → Served new batches answers (begun w batches)
    only_read events calls reading leads either fine told_reading fails =
        shut_served old new w batches answers whole reached world tail refusal either made.due fine stays (still fine) told calls told_reading fails
        (came_reads (begun w batches) (fault_state mem_state new.disk) (round_of_batches batches) calls told_reading refl
        (reads_before (fault_state mem_state new.disk) w.device events reading (there events leads)))

    pub shut_out : Served new batches answers (begun w batches)
    shut_out = elim made.makes [
      | inl memory ↦
          let front = memory.2 in
          let are = (reads_front front.front front.rest (ap are_reads (sym front.calls_are) ∙ drawing_reads old.tail made.r)).0 in
          let events : front.makes.events ≡ front.front = front.makes.made in
          only_read front.front front.front (all_reading front.front are)
          (subst (λ l. trace.Leads l (fault_state mem_state old.disk) (fault_state mem_state new.disk)) events front.makes.leads)
          (inl memory.0) memory.1 (all_reading front.front are) (λ read. let e : OutOfMemory ≡ DeviceRead = sym memory.0 ∙ read in absurd cc)
      | inr others ↦ elim others [
        | inl read ↦
            let fails = fails_at (is_spent (fault_state mem_state new.disk)) (victim_reads_for old.tail made.r) read.2.events (drawing_reads old.tail made.r) read.2.made in
            only_read read.2.events fails.1.calls fails.0 read.2.leads (inr read.0) read.1 fails.1.reading (λ is. fails.1.fails)
        | inr failed ↦
            let drawing : List DeviceEvent = victim_reads_for old.tail made.r in
            let head : List DeviceEvent = head_calls old.tail made.r in
            let behind = two_rows false (is_spent (fault_state mem_state new.disk)) drawing head failed.2.events failed.2.tried in
            went_broken failed.1
            (drawn_broken (fault_state mem_state new.disk) w batches drawing (drawing_reads old.tail made.r)
            (came_broken (fault_state mem_state new.disk) (drawn w drawing) batches (is_spent (fault_state mem_state new.disk)) head behind.rest
            (Known (in_hand (drawn w drawing) (Writing (Seal made.r.target made.r.copy)) (round_of_batches batches) (drawn w drawing).device w.accepted) head
            (IsReadied (drawn w drawing) (round_of_batches batches) w.accepted)) (heading_writes old.tail made.r) behind.made
            (drawn_device (fault_state mem_state new.disk) w batches drawing (drawing_reads old.tail made.r) behind.rest
            (subst (λ l. IsDeviceOf (fault_state mem_state new.disk) (asked_all w.device l)) behind.events_are (there failed.2.events failed.2.leads)))
            (renew_walk old (drawn w drawing) batches whole tail (reached_drawn made.r) (world_drawn made.r) made.due made.r (renews made.due.1 made.r made.renewal).head)))
      ]
    ]

-- ---- as a whole

-- no segment was opened although one is due, and all calls have the same refusal
abbrev pub ShutsOut : JournalState TheDisk → JournalState TheDisk → List Call → List Answer → Type 0
ShutsOut old new calls answers = (new.state ≡ old.state) × (refusal : Refusal) × (answers ≡ refusals refusal old.position calls)
    × MakesShut (fault_state mem_state) old new calls refusal

pub serves : (old new : JournalState TheDisk) (calls : List Call) (answers given : List Answer)
    → (old.broken ≡ false → IsDurable (fault_state mem_state old.disk) old.tail old.state) → (old.broken ≡ false → old.position ≡ old.state.seq)
    → (old.broken ≡ false → RenewsWell old) → (old.broken ≡ false → MakesRound (fault_state mem_state) old new calls [] answers ⊎ ShutsOut old new calls answers)
    → answers ≡ given → IsRound (fault_state mem_state) old new calls given → Serves old new calls answers
serves old new calls answers given tail at renews trace gives round w batches reached world first are =
    subst (Served new batches answers) same (by_broken old.broken refl)
  where
    same : begun w batches ≡ w
    same = ap (λ (r : Option Round). record w { round = r }) (sym first)

    reached_here : IsReached (begun w batches)
    reached_here = subst IsReached (sym same) reached

    world_here : IsWorldOf old (begun w batches)
    world_here = subst (IsWorldOf old) (sym same) world

    round_here : IsRound (fault_state mem_state) old new (calls_of batches) given
    round_here = subst (λ c. IsRound (fault_state mem_state) old new c given) (sym are) round

    counted : old.broken ≡ false → new.broken ≡ false → new.position ≡ new.state.seq
    counted whole fine = elim round_here [
      | inl was ↦ absurd (true≢false (sym was.0 ∙ whole))
      | inr now ↦ elim now [
        | inl shut ↦
            ap (λ (j : JournalState TheDisk). j.position) shut.1.0.same ∙ at whole ∙ sym (ap (λ (j : JournalState TheDisk). j.state.seq) shut.1.0.same)
        | inr next ↦ elim next [
          | inl goes ↦ goes.1.position
          | inr breaks ↦ absurd (true≢false (sym breaks.1.broken ∙ fine))
        ]
      ]
    ]

    unsure : old.broken ≡ false → new.broken ≡ true → (new.position ≡ old.position) × (answers ≡ refusals Unsure old.position (calls_of batches))
    unsure whole broken = elim round_here [
      | inl was ↦ absurd (true≢false (sym was.0 ∙ whole))
      | inr now ↦ elim now [
        | inl shut ↦ absurd (true≢false (sym broken ∙ ap (λ (j : JournalState TheDisk). j.broken) shut.1.0.same ∙ whole))
        | inr next ↦ elim next [
          | inl goes ↦ absurd (true≢false (sym broken ∙ goes.1.broken))
          | inr breaks ↦ (breaks.1.position, gives ∙ breaks.1.unsure)
        ]
      ]
    ]

    by_broken : (b : Bool) → old.broken ≡ b → Served new batches answers (begun w batches)
    by_broken true broken = elim round_here [
      | inl was ↦ refused_served old new w batches answers reached_here world_here broken (gives ∙ was.1) was.2
      | inr now ↦ elim now [
        | inl shut ↦ absurd (true≢false (sym broken ∙ shut.0))
        | inr next ↦ elim next [
          | inl goes ↦ absurd (true≢false (sym broken ∙ goes.0))
          | inr breaks ↦ absurd (true≢false (sym broken ∙ breaks.0))
        ]
      ]
    ]
    by_broken false whole = elim (trace whole) [
      | inl made ↦
          calls_served old new w batches answers whole reached_here world_here (tail whole) (renews whole) (counted whole) (unsure whole)
          (subst (λ c. MakesRound (fault_state mem_state) old new c [] answers) (sym are) made)
      | inr shut ↦
          shut_out old new w batches answers whole reached_here world_here (tail whole) (renews whole) (counted whole) (unsure whole) shut.1
          (subst (λ c. answers ≡ refusals shut.1 old.position c) (sym are) shut.2) shut.0 (at whole)
          (subst (λ c. MakesShut (fault_state mem_state) old new c shut.1) (sym are) shut.3)
    ]

-- a round gives each call a reply
pub answers_counted : (old new : JournalState TheDisk) (calls : List Call) (given : List Answer)
    → IsRound (fault_state mem_state) old new calls given → length given ≡ length calls
answers_counted old new calls given round = elim round [
  | inl was ↦ ap length was.1 ∙ length-map calls (refusal_of Broken old.position)
  | inr now ↦ elim now [
    | inl shut ↦ elim shut.1.1 [
      | inl lost ↦ ap length lost ∙ length-map calls (refusal_of OutOfMemory old.position)
      | inr unread ↦ ap length unread ∙ length-map calls (refusal_of DeviceRead old.position)
    ]
    | inr next ↦ elim next [
      | inl goes ↦ goes.1.served.count
      | inr breaks ↦ ap length breaks.1.unsure ∙ length-map calls (refusal_of Unsure old.position)
    ]
  ]
]

-- a property of a single reply
pub on_ok : {T E : Type 0} (r : Result T E) {P : Type 0} → IsOk r → OnOk r P → P
on_ok (Ok x) is p = p
on_ok (Err e) is p = (let f : false ≡ true = is in absurd cc)
