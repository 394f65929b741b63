-- A round of the journal, in the model of a relay: from the taken batches to the replies.
use Rattle.std.proofs.Common.{ℕ, ◌≡◌, ◌↔◌, ◌<◌, ◌+◌, ◌++◌, ◌∙◌, Bool, true, false, IsTrue, List, [], ◌∷◌, length, ap, refl, sym, subst, inl, inr}
use Rattle.std.specs.List.{AllByRecursion, zip}
use Rattle.std.specs.Prelude.{slice_index_or}
use Rattle.rly_disk.specs.FaultDisk.{fault_state}
use Rattle.rly_disk.specs.MemDisk.{mem_state}
use Rattle.rly_disk.specs.Trace.{DeviceEvent, seen_at_end}
use Rattle.rly_disk.specs.declared.fault_disk.FaultDisk.{FaultDisk}
use Rattle.rly_disk.specs.declared.mem.MemDisk.{MemDisk}
use Rattle.rly_gate.specs.Calls.{settle_calls}
use Rattle.rly_gate.specs.Group.{IsClosed, frame_of, open_gate}
use Rattle.rly_machine.specs.declared.call.Answer.{Answer}
use Rattle.rly_machine.specs.Fold.{fold}
use Rattle.rly_machine.specs.History.{accepted_of}
use Rattle.rly_machine.specs.State.{State}
use Rattle.rly_machine.proofs.Histories.{folds}
use Rattle.rly_segment_checkpoint.specs.Stored.{stored_form, stored_length}
use Rattle.rly_record.specs.Spelling.{body_of}
use Rattle.rly_segment.specs.Calls.{replace_calls}
use Rattle.rly_segment.specs.Heads.{head_spelled, segment_place}
use Rattle.rly_journal.specs.declared.tail.Tail.{Tail}
use Rattle.rly_journal.specs.OpenCalls.{log_calls}
use Rattle.rly_journal.specs.Journal.{IsDueFor, JournalState}
use Rattle.rly_journal.specs.UntouchedBytes.{IsHeadFor}
use Rattle.rly_journal.specs.Log.{IsDurable, IsFull, IsLogged}
use Rattle.rly_journal.specs.Recovery.{Commands, IsRecovery, Recovery}
use Rattle.rly_journal.specs.RoundCalls.{Renewal, head_calls, tail_after_renewal}
use Rattle.rly_journal.specs.Rounds.{AreLostWhereWanted, AreServed}
use Rattle.rly_world.specs.RelaySteps as event
use Rattle.rly_world.specs.RelaySteps.{HasPlace}
use Rattle.rly_world.specs.RelayPhases.{IsDueIn, next_head}
use Rattle.rly_world.specs.RelayWorld.{Batch, Ready, Round, Seal, Taking, World, Writing, calls_of, seen_of, state_from}
use Rattle.rly_world.proofs.RelayBegins.{due_in_image}
use Rattle.rly_world.proofs.RelayEvents.{run_held}
use Rattle.rly_world.proofs.RelayHolds.{IsCalm, IsHeld, IsPlaced, core_of}
use Rattle.rly_world_relay.specs.HelpersRounds.{IsWorldOf, round_of_batches}
use Rattle.rly_world_relay.specs.Relay.{IsReached}
use Rattle.rly_world_relay.proofs.RelayDisks.{all_seen}
use Rattle.rly_world_relay.proofs.RelayLogs.{IsOver, evaluates, serve_walk}
use Rattle.rly_world_relay.proofs.RelayServes.{IsPart, IsReadied, in_hand, replaces_walk}
use Rattle.rly_world_relay.proofs.RelayShows.{reached_held}
use Rattle.rly_world_relay.proofs.RelayWalks.{AreWriting, Known, Walks, asked_all, between_one, known_more, walks_from, walks_joined}

abbrev pub TheDisk : Type 0
TheDisk = FaultDisk MemDisk

-- ---- except for reads, the calls of a round are writes and syncs

all_both : (first second : List DeviceEvent) → AllByRecursion AreWriting first → AllByRecursion AreWriting second
    → AllByRecursion AreWriting (first ++ second)
all_both [] second one two = two
all_both (call ∷ first) second one two = (one.0, all_both first second one.1 two)

settling_writes : (at : ℕ) (bytes : List ℕ) → AllByRecursion AreWriting (settle_calls at bytes)
settling_writes at [] = (tt, tt)
settling_writes at (byte ∷ bytes) = (tt, (tt, tt))

replacing_writes : (place : ℕ) (closed : Bool) (bytes : List ℕ) → AllByRecursion AreWriting (replace_calls place closed bytes)
replacing_writes place true bytes =
    (tt, all_both (settle_calls (place + 1) bytes) (settle_calls place (open_gate ∷ [])) (settling_writes (place + 1) bytes) (settling_writes place (open_gate ∷ [])))
replacing_writes place false bytes =
    (tt, (tt, all_both (settle_calls (place + 1) bytes) (settle_calls place (open_gate ∷ [])) (settling_writes (place + 1) bytes) (settling_writes place (open_gate ∷ []))))

pub heading_writes : (tail : Tail) (r : Renewal) → AllByRecursion AreWriting (head_calls tail r)
heading_writes tail r =
    replacing_writes (segment_place tail.geometry r.target) (slice_index_or tail.closed r.target false)
    (head_spelled stored_length stored_form (tail.generation + 1) r.copy ++ 0 ∷ [])

pub logging_writes : (gate : ℕ) (commands : Commands) → AllByRecursion AreWriting (log_calls gate commands)
logging_writes gate [] = tt
logging_writes gate (command ∷ commands) =
    all_both (settle_calls (gate + 1) (frame_of (body_of (command ∷ commands)))) (settle_calls gate (open_gate ∷ []))
    (settling_writes (gate + 1) (frame_of (body_of (command ∷ commands)))) (settling_writes gate (open_gate ∷ []))

pub opening_writes : (tail : Tail) (r : Renewal) (commands : Commands) → AllByRecursion AreWriting (head_calls tail r ++ log_calls (tail_after_renewal tail r).gate commands)
opening_writes tail r commands =
    all_both (head_calls tail r) (log_calls (tail_after_renewal tail r).gate commands) (heading_writes tail r) (logging_writes (tail_after_renewal tail r).gate commands)

-- ---- the start of a round

-- the model state that took the batches
abbrev pub begun : World → List Batch → World
begun w batches = in_hand w Taking (round_of_batches batches) w.device w.accepted

-- the round with its replies
abbrev pub answered : List Batch → List Answer → Round
answered batches given = record (round_of_batches batches) { answers = given }

module _ (old : JournalState TheDisk) (w : World) (batches : List Batch) (whole : old.broken ≡ false)
    (tail : IsDurable (fault_state mem_state old.disk) old.tail old.state) (reached : IsReached (begun w batches)) (world : IsWorldOf old (begun w batches)) where
  pub held : IsHeld (begun w batches)
  held = reached_held (begun w batches) reached

  pub calm : IsCalm (core_of w)
  calm = (subst (λ b. IsPlaced (core_of w) true b (begun w batches).round) (world.spool.1 ∙ whole)
      (subst (λ b. IsPlaced (core_of w) b w.is_broken (begun w batches).round) world.spool.0 held.placed)).1

  same_seen : (fault_state mem_state old.disk).seen ≡ w.device.synced
  same_seen = world.device.seen ∙ calm.only (seen_of w.device) held.seen

  logs : IsLogged w.device.synced old.tail old.state
  logs = subst (λ i. IsLogged i old.tail old.state) same_seen tail.logged

  pub due_here : IsDueIn w.device.synced ↔ IsFull old.tail
  due_here = due_in_image w.device.synced old.tail old.state logs

  pub state_here : old.state ≡ state_from w.params w.accepted
  state_here = world.spool.3 whole

  -- no segment is due
  module _ (given : List Answer) (t : State (List ℕ)) (served : AreServed (fault_state mem_state old.disk) (calls_of batches) given old.state t)
      (wanted : AreLostWhereWanted old.state (zip (calls_of batches) given)) where
    abbrev commands : Commands
    commands = accepted_of (zip (calls_of batches) given)

    pub served_state : t ≡ fold length old.state commands
    served_state = served.state ∙ (folds 0 old.state (zip (calls_of batches) given) served.legal).0

    pub calm_walk : (IsDueFor old (calls_of batches) → ⊥)
        → Walks (IsPart w batches) (begun w batches) (log_calls old.tail.gate commands) (IsOver w (answered batches given) (w.accepted ++ commands))
    calm_walk none = serve_walk w Taking (round_of_batches batches) w.device w.accepted old.tail old.state given (world.spool.1 ∙ whole) (inl refl)
        calm.counted held logs
        (evaluates w Taking (round_of_batches batches) w.device w.accepted old.tail old.state given (world.spool.1 ∙ whole) (inl refl) state_here served tt
        (λ due. none (due.0, due_here.0 due.1)) wanted)

  -- a segment is opened, after the victim was read
  module _ (due : IsDueFor old (calls_of batches)) (r : Renewal)
      (heads : (x : Recovery) → IsRecovery (fault_state mem_state old.disk).seen x → IsHeadFor (fault_state mem_state old.disk).seen x r.target r.copy) where
    head_here : IsHeadFor w.device.synced logs.x r.target r.copy
    head_here = subst (λ i. IsHeadFor i logs.x r.target r.copy) same_seen (heads logs.x (subst (λ i. IsRecovery i logs.x) (sym same_seen) logs.stands))

    abbrev opening : World
    opening = in_hand w (Writing (Seal r.target r.copy)) (round_of_batches batches) w.device w.accepted

    opens : HasPlace (begun w batches) (event.Opens r.target r.copy)
    opens = (
      world.spool.1 ∙ whole,
      (logs.x, logs.stands, head_here),
      (round_of_batches batches, refl, (refl, (due.0, due_here.1 due.1))),
    )

    opening_held : IsHeld opening
    opening_held = run_held (begun w batches) opening (event.Opens r.target r.copy ∷ []) (opening, inl (opens, refl), refl) held

    closed_there : IsTrue (slice_index_or old.tail.closed r.target false) ↔ IsClosed (seen_of w.device) (segment_place logs.x.geometry r.target)
    closed_there =
        let at = logs.gates r.target (subst (λ g. r.target < g.segments) (sym logs.ends.geometry) head_here.there) in
        let same : IsClosed w.device.synced (segment_place old.tail.geometry r.target) ≡ IsClosed (seen_of w.device) (segment_place logs.x.geometry r.target) =
        ap (λ i. IsClosed i (segment_place old.tail.geometry r.target)) (sym (calm.only (seen_of w.device) held.seen))
        ∙ ap (λ g. IsClosed (seen_of w.device) (segment_place g r.target)) logs.ends.geometry in
        (λ is. subst (λ A. A) same (at.0 is), λ is. at.1 (subst (λ A. A) (sym same) is))

    same_calls : replace_calls (segment_place logs.x.geometry r.target) (slice_index_or old.tail.closed r.target false) (next_head logs.x r.copy)
        ≡ head_calls old.tail r
    same_calls =
        ap (λ g. replace_calls (segment_place g r.target) (slice_index_or old.tail.closed r.target false) (next_head logs.x r.copy)) (sym logs.ends.geometry)
        ∙ ap (λ n. replace_calls (segment_place old.tail.geometry r.target) (slice_index_or old.tail.closed r.target false)
        (head_spelled stored_length stored_form (n + 1) r.copy ++ 0 ∷ [])) (sym logs.ends.generation)

    pub renew_walk : Walks (IsPart w batches) (begun w batches) (head_calls old.tail r) (Known opening (head_calls old.tail r) (IsReadied w (round_of_batches batches) w.accepted))
    renew_walk = walks_from (IsPart w batches) (begun w batches) opening (head_calls old.tail r)
        (Known opening (head_calls old.tail r) (IsReadied w (round_of_batches batches) w.accepted))
        (between_one (begun w batches) (event.Opens r.target r.copy) tt opens refl)
        (known_more (IsPart w batches) opening (head_calls old.tail r) (IsReadied w (round_of_batches batches) w.accepted)
        (subst (λ l. Walks (IsPart w batches) opening l (IsReadied w (round_of_batches batches) w.accepted)) same_calls
        (replaces_walk w r.target r.copy (slice_index_or old.tail.closed r.target false) (round_of_batches batches) w.device w.accepted logs.x opening_held logs.stands closed_there)))

    -- and its calls are served
    module _ (next : IsLogged (seen_at_end (head_calls old.tail r) (fault_state mem_state old.disk).seen) (tail_after_renewal old.tail r) old.state)
        (roomy : IsFull (tail_after_renewal old.tail r) → ⊥) (given : List Answer) (t : State (List ℕ))
        (served : AreServed (fault_state mem_state old.disk) (calls_of batches) given old.state t)
        (wanted : AreLostWhereWanted old.state (zip (calls_of batches) given)) where
      abbrev logged : Commands
      logged = accepted_of (zip (calls_of batches) given)

      then_serves : (m : World) → Known opening (head_calls old.tail r) (IsReadied w (round_of_batches batches) w.accepted) m
          → Walks (IsPart w batches) m (log_calls (tail_after_renewal old.tail r).gate logged) (IsOver w (answered batches given) (w.accepted ++ logged))
      then_serves m known =
          let led = known.0 in
          let ready = led.ends in
          let v : World = in_hand w Ready (round_of_batches batches) ready.device w.accepted in
          let v_held : IsHeld v = subst IsHeld ready.is (run_held opening led.next led.events led.run opening_held) in
          let device_is : ready.device ≡ asked_all w.device (head_calls old.tail r) = sym (ap (λ u. u.device) ready.is) ∙ led.device in
          let calm_now : ready.device.since ≡ [] = ap (λ (u : World). u.device.since) (sym ready.is) ∙ ready.calm in
          let synced_is : seen_of ready.device ≡ ready.device.synced = ap (λ l. seen_at_end l ready.device.synced) calm_now in
          let reads : seen_at_end (head_calls old.tail r) (fault_state mem_state old.disk).seen ≡ ready.device.synced =
          ap (seen_at_end (head_calls old.tail r)) world.device.seen ∙ sym (all_seen w.device (head_calls old.tail r))
          ∙ ap seen_of (sym device_is) ∙ synced_is in
          let now : IsLogged ready.device.synced (tail_after_renewal old.tail r) old.state =
          subst (λ i. IsLogged i (tail_after_renewal old.tail r) old.state) reads next in
          subst (λ u. Walks (IsPart w batches) u (log_calls (tail_after_renewal old.tail r).gate logged) (IsOver w (answered batches given) (w.accepted ++ logged)))
          (sym ready.is ∙ known.1)
          (serve_walk w Ready (round_of_batches batches) ready.device w.accepted (tail_after_renewal old.tail r) old.state given (world.spool.1 ∙ whole) (inr refl)
          calm.counted v_held now
          (evaluates w Ready (round_of_batches batches) ready.device w.accepted (tail_after_renewal old.tail r) old.state given (world.spool.1 ∙ whole) (inr refl) state_here served tt
          (λ is_due. roomy ((due_in_image ready.device.synced (tail_after_renewal old.tail r) old.state now).0 is_due.1)) wanted))

      pub opened_walk : Walks (IsPart w batches) (begun w batches) (head_calls old.tail r ++ log_calls (tail_after_renewal old.tail r).gate logged)
          (IsOver w (answered batches given) (w.accepted ++ logged))
      opened_walk = walks_joined (IsPart w batches) (begun w batches) (head_calls old.tail r) (log_calls (tail_after_renewal old.tail r).gate logged)
          (Known opening (head_calls old.tail r) (IsReadied w (round_of_batches batches) w.accepted)) (IsOver w (answered batches given) (w.accepted ++ logged))
          renew_walk then_serves
