-- A device call keeps the invariant of a relay.
use Rattle.std.proofs.Common.{ℕ, ◌≡◌, ◌≤◌, ◌+◌, ◌++◌, ◌∙◌, Bool, true, false, true≢false, List, [], ◌∷◌, Option, Some}
use Rattle.std.proofs.Common.{None, length, take, drop, arith, ap, refl, sym, subst, inl, inr, length-drop, length-take}
use Rattle.std.proofs.lemmas.List.{take_all, take-append-drop}
use Rattle.rly_core.specs.declared.refusal.Refusal.TheVariants.{Unsure}
use Rattle.rly_disk.specs.DiskModel.{IsTorn}
use Rattle.rly_disk.specs.Trace.{DeviceEvent, FailedRead, FailedSync, FailedWrite, Read, Sync, Write}
use Rattle.rly_disk.proofs.Overwritten.{overwritten_outside}
use Rattle.rly_disk.proofs.Ranges.{wider}
use Rattle.rly_machine.specs.Fold.{fold}
use Rattle.rly_machine.specs.State.{new_state}
use Rattle.rly_machine.proofs.Folding.{fold_append}
use Rattle.rly_journal.specs.Rounds.{refusals}
use Rattle.rly_journal.specs.Recovery.{Commands, IsRecovery, Recovery, Stands, state_in}
use Rattle.rly_journal.proofs.UntouchedBytes.{read_in}
use Rattle.rly_world.specs.RelayPhases.{IsDone, IsNeeded, MaySync, MayWrite, bytes_of, place_of}
use Rattle.rly_world.specs.RelaySteps.{after_phase, world_after_failure, world_after_call, counted_after, on_device, round_after_failed_read}
use Rattle.rly_world.specs.RelayWorld.{Answering, Body, Device, Gate, Head, IsImageOf, Phase, Ready, Round, Seal}
use Rattle.rly_world.specs.RelayWorld.{Stage, Switch, Taking, World, Writing, asked_of, batches_in, calls_of, round_commands}
use Rattle.rly_world.specs.RelayWorld.{seen_of, state_from}
use Rattle.rly_world.proofs.RelayAnswers.{AreBelow, refused_below}
use Rattle.rly_world.proofs.RelayBegins.{one_standing}
use Rattle.rly_world.proofs.RelayDevice.{asked_image, asked_seen, image_asked}
use Rattle.rly_world.proofs.RelayHolds.{Core, Holds, IsAt, IsCalm, IsHeld, IsKept, IsPlaced, IsRunning, IsWritten}
use Rattle.rly_world.proofs.RelayHolds.{core_of, whole_state}
use Rattle.rly_world.proofs.RelayPhases.{Begins, IsPhaseImage, body_next, first_image, gate_next, head_next}
use Rattle.rly_world.proofs.RelayPhases.{phase_stands, phase_torn, phase_within, seal_next, switch_next}

-- ---- the crash images

pub all_taken : (k : Core) → state_from k.params (take (length k.accepted) k.accepted) ≡ whole_state k
all_taken k = ap (state_from k.params) (take_all (length k.accepted) k.accepted (omega arith))

pub calm_kept : (k : Core) → IsCalm k → k.told ≤ length k.accepted → (image : List ℕ) → IsImageOf k.device image
    → IsKept k image
calm_kept k calm told image left = record {
  n = length k.accepted;
  told = told;
  most = omega arith;
  stands =
      subst (λ i. Stands i (state_from k.params (take (length k.accepted) k.accepted))) (sym (calm.only image left))
      (subst (Stands k.device.synced) (sym (all_taken k)) calm.stands);
}

parts_of : (k : Core)
    → fold length (state_from k.params (take k.position k.accepted)) (drop k.position k.accepted) ≡ whole_state k
parts_of k =
    sym (fold_append length (new_state k.params) (take k.position k.accepted) (drop k.position k.accepted))
    ∙ ap (state_from k.params) (take-append-drop k.position k.accepted)

-- the state after the commands of the phase's round
pub grown_to : {phase : Phase} (k : Core) (w : IsWritten phase k)
    → fold length (state_in w.x) (drop k.position k.accepted) ≡ whole_state k
grown_to k w = ap (λ s. fold length s (drop k.position k.accepted)) w.state ∙ parts_of k

pub written_kept : (phase : Phase) (k : Core) → IsWritten phase k → (image : List ℕ) → IsImageOf k.device image
    → IsKept k image
written_kept phase k w image left =
    elim (phase_stands phase w.x (drop k.position k.accepted) k.device.synced image w.stands w.begins
    (w.images image left)) [
      | inl before ↦ record {
        n = k.position;
        told = w.told;
        most = w.counted;
        stands = subst (Stands image) w.state before;
      }
      | inr after ↦ record {
        n = length k.accepted;
        told = omega (arith, w.told, w.counted);
        most = omega arith;
        stands = subst (Stands image) (grown_to k w ∙ sym (all_taken k)) after;
      }
    ]

-- ---- the stage of the current round

abbrev pub round_at : Stage → Round → Option Round
round_at stage round = Some (record round { stage = stage })

pub placed_from : (k m : Core) (opened broken breaks : Bool) (round : Round) (next : Option Round)
    → IsPlaced k opened broken (Some round)
    → (IsRunning k broken (Some round) → IsRunning m breaks next) → IsPlaced m opened breaks next
placed_from k m true broken breaks round next placed leads = leads placed
placed_from k m false broken breaks round next placed leads = let e : Some round ≡ None = placed in absurd cc

-- a relay in a phase isn't broken
pub writing_of : (k : Core) (opened broken : Bool) (phase : Phase) (round : Round)
    → IsPlaced k opened broken (round_at (Writing phase) round)
    → (broken ≡ false) × AreBelow (length k.accepted) round.answers × IsWritten phase k
writing_of k true true phase round placed = absurd placed
writing_of k true false phase round placed = (refl, placed.0, placed.1)
writing_of k false broken phase round placed =
    let e : round_at (Writing phase) round ≡ None = placed in absurd cc

pub running_at : (k : Core) (broken : Bool) (stage : Stage) (round : Round)
    → broken ≡ false → AreBelow (length k.accepted) round.answers → IsAt k stage
    → IsRunning k broken (round_at stage round)
running_at k true stage round whole below at = absurd (true≢false whole)
running_at k false stage round whole below at = (below, at)

-- ---- reads, and calls that make nothing durable

module _ (k : Core) (since : List DeviceEvent) where
  abbrev pub later_device : Device
  later_device = record { synced = k.device.synced; since = since }

  abbrev pub later_core : Core
  later_core = record k { device = later_device }

  module _ (fewer : (c : List ℕ) → IsImageOf later_device c → IsImageOf k.device c) where
    still_calm : IsCalm k → IsCalm later_core
    still_calm calm =
        record { only = λ c image. calm.only c (fewer c image); stands = calm.stands; counted = calm.counted }

    still_written : (phase : Phase) → IsWritten phase k → IsWritten phase later_core
    still_written phase w = record {
      x = w.x;
      stands = w.stands;
      state = w.state;
      told = w.told;
      counted = w.counted;
      begins = w.begins;
      images = λ c image. w.images c (fewer c image);
    }

    still_at : (stage : Stage) → IsAt k stage → IsAt later_core stage
    still_at Taking at = still_calm at
    still_at Ready at = still_calm at
    still_at Answering at = still_calm at
    still_at (Writing phase) at = still_written phase at

    still_running : (broken : Bool) (round : Option Round) → IsRunning k broken round
        → IsRunning later_core broken round
    still_running true None running = tt
    still_running true (Some round) running = running
    still_running false None running = still_calm running
    still_running false (Some round) running = (running.0, still_at round.stage running.1)

    still_placed : (opened broken : Bool) (round : Option Round) → IsPlaced k opened broken round
        → IsPlaced later_core opened broken round
    still_placed true broken round placed = still_running broken round placed
    still_placed false broken round placed = placed

    kept_later : ((image : List ℕ) → IsImageOf k.device image → IsKept k image) → (image : List ℕ)
        → IsImageOf later_device image → IsKept later_core image
    kept_later kept image left = let was = kept image (fewer image left) in
        record { n = was.n; told = was.told; most = was.most; stands = was.stands }

    pub still_holds : (opened broken : Bool) (round : Option Round) → IsImageOf later_device (seen_of later_device)
        → Holds k opened broken round → Holds later_core opened broken round
    still_holds opened broken round seen held = record {
      within = held.within;
      accepted = held.accepted;
      few = held.few;
      seen = seen;
      kept = kept_later held.kept;
      placed = still_placed opened broken round held.placed;
    }

pub read_held : (w : World) (place count : ℕ) → IsHeld w → IsHeld (on_device w (Read place count))
read_held w place count held =
    still_holds (core_of w) (w.device.since ++ Read place count ∷ []) (asked_image w.device (Read place count))
    w.is_open w.is_broken w.round
    (image_asked w.device (Read place count) (seen_of (asked_of w.device (Read place count)))
    (subst (IsImageOf w.device) (sym (asked_seen w.device (Read place count))) held.seen)) held

-- the round's record of failed reads doesn't matter
unread_running : (k : Core) (broken : Bool) (round : Option Round) → IsRunning k broken round
    → IsRunning k broken (round_after_failed_read round)
unread_running k broken None running = running
unread_running k true (Some round) running = running
unread_running k false (Some round) running = running

unread_placed : (k : Core) (opened broken : Bool) (round : Option Round) → IsPlaced k opened broken round
    → IsPlaced k opened broken (round_after_failed_read round)
unread_placed k true broken round placed = unread_running k broken round placed
unread_placed k false broken round placed = ap round_after_failed_read placed

unread_few : (round : Option Round) → length (calls_of (batches_in round)) ≤ 64
    → length (calls_of (batches_in (round_after_failed_read round))) ≤ 64
unread_few None few = few
unread_few (Some round) few = few

unread_holds : (k : Core) (opened broken : Bool) (round : Option Round) → Holds k opened broken round
    → Holds k opened broken (round_after_failed_read round)
unread_holds k opened broken round held = record {
  within = held.within;
  accepted = held.accepted;
  few = unread_few round held.few;
  seen = held.seen;
  kept = held.kept;
  placed = unread_placed k opened broken round held.placed;
}

pub failed_read_held : (w : World) (place count : ℕ) → IsHeld w → IsHeld (world_after_call w (FailedRead place count))
failed_read_held w place count held =
    unread_holds (core_of (on_device w (FailedRead place count))) w.is_open w.is_broken w.round
    (still_holds (core_of w) (w.device.since ++ FailedRead place count ∷ [])
    (asked_image w.device (FailedRead place count)) w.is_open w.is_broken w.round
    (image_asked w.device (FailedRead place count) (seen_of (asked_of w.device (FailedRead place count)))
    (subst (IsImageOf w.device) (sym (asked_seen w.device (FailedRead place count))) held.seen)) held)

pub failed_sync_held : (w : World) → IsHeld w → IsHeld (on_device w FailedSync)
failed_sync_held w held =
    still_holds (core_of w) (w.device.since ++ FailedSync ∷ []) (asked_image w.device FailedSync) w.is_open w.is_broken
    w.round
    (image_asked w.device FailedSync (seen_of (asked_of w.device FailedSync))
    (subst (IsImageOf w.device) (sym (asked_seen w.device FailedSync)) held.seen)) held

-- ---- writes

record IsRange (phase : Phase) (x : Recovery) (commands : Commands) (seen : List ℕ) (place n : ℕ) : Type 0 where
  from : place_of phase x ≤ place
  to : place + n ≤ place_of phase x + length (bytes_of phase x commands)
  needed : IsNeeded phase x seen

range_of : {phase : Phase} {device : Device} {commands : Commands} {place n : ℕ} (x : Recovery)
    → IsRecovery device.synced x → (may : MayWrite phase device commands place n)
    → IsRange phase x commands (seen_of device) place n
range_of {phase} {device} {commands} {place} {n} x stands may =
    subst (λ y. IsRange phase y commands (seen_of device) place n) (one_standing may.x x may.stands stands)
    (record { from = may.from; to = may.to; needed = may.needed })

module _ (w : World) (phase : Phase) (round : Round)
    (held : Holds (core_of w) w.is_open w.is_broken (round_at (Writing phase) round)) (place n : ℕ)
    (may : MayWrite phase w.device (round_commands w) place n)
    (since : List DeviceEvent)
    (torn : (c : List ℕ) → IsImageOf (record { synced = w.device.synced; since = since }) c
    → IsTorn place n (IsImageOf w.device) c) where
  pub torn_written : IsWritten phase (core_of w) → IsWritten phase (later_core (core_of w) since)
  torn_written now =
      let range = range_of now.x now.stands may in
      record {
        x = now.x;
        stands = now.stands;
        state = now.state;
        told = now.told;
        counted = now.counted;
        begins = now.begins;
        images = λ c image.
            let t = torn c image in
            phase_torn phase now.x (round_commands w) w.device.synced (seen_of w.device) t.0 c place n range.from range.to
            range.needed
            (now.images (seen_of w.device) held.seen) (now.images t.0 t.1) t.2;
      }

  pub torn_held : IsImageOf (record { synced = w.device.synced; since = since })
      (seen_of (record { synced = w.device.synced; since = since }))
      → Holds (later_core (core_of w) since) w.is_open w.is_broken (round_at (Writing phase) round)
  torn_held seen =
      let now = writing_of (core_of w) w.is_open w.is_broken phase round held.placed in
      let next = torn_written now.2 in
      record {
        within = held.within;
        accepted = held.accepted;
        few = held.few;
        seen = seen;
        kept = written_kept phase (later_core (core_of w) since) next;
        placed =
            placed_from (core_of w) (later_core (core_of w) since) w.is_open w.is_broken w.is_broken
            (record round { stage = Writing phase })
            (round_at (Writing phase) round) held.placed
            (λ running. running_at (later_core (core_of w) since) w.is_broken (Writing phase) round now.0
            now.1 next);
      }

  -- the range lies on the device
  pub range_within : place + n ≤ length (seen_of w.device)
  range_within =
      let now = (writing_of (core_of w) w.is_open w.is_broken phase round held.placed).2 in
      let range = range_of now.x now.stands may in
      omega (
        arith,
        range.to,
        phase_within phase now.x (round_commands w) w.device.synced now.stands now.begins,
        (now.images (seen_of w.device) held.seen).outside.same_length,
      )

abbrev pub in_phase : World → Phase → Round → World
in_phase w phase round = record w { round = round_at (Writing phase) round }

pub write_held : (w : World) (phase : Phase) (round : Round) (place : ℕ) (bytes : List ℕ)
    → IsHeld (in_phase w phase round)
    → MayWrite phase w.device (round_commands w) place (length bytes)
    → IsHeld (on_device (in_phase w phase round) (Write place bytes))
write_held w phase round place bytes held may =
    torn_held w phase round held place (length bytes) may (w.device.since ++ Write place bytes ∷ [])
    (asked_image w.device (Write place bytes))
    (image_asked w.device (Write place bytes) (seen_of (asked_of w.device (Write place bytes)))
    (subst (IsTorn place (length bytes) (IsImageOf w.device)) (sym (asked_seen w.device (Write place bytes))) (
      seen_of w.device,
      held.seen,
      overwritten_outside place bytes (seen_of w.device)
          (range_within w phase round held place (length bytes) may (w.device.since ++ Write place bytes ∷ [])
          (asked_image w.device (Write place bytes))),
    )))

pub failed_write_held : (w : World) (phase : Phase) (round : Round) (place : ℕ)
    (bytes left : List ℕ) → IsHeld (in_phase w phase round)
    → MayWrite phase w.device (round_commands w) place (length bytes)
    → IsHeld (on_device (in_phase w phase round) (FailedWrite place bytes left))
failed_write_held w phase round place bytes left held may =
    let since : List DeviceEvent = w.device.since ++ FailedWrite place bytes left ∷ [] in
    let within = range_within w phase round held place (length bytes) may since
    (asked_image w.device (FailedWrite place bytes left)) in
    let short : length (take (length bytes) left) ≤ length bytes = omega (arith, length-take (length bytes) left) in
    torn_held w phase round held place (length bytes) may since
    (asked_image w.device (FailedWrite place bytes left))
    (image_asked w.device (FailedWrite place bytes left) (seen_of (asked_of w.device (FailedWrite place bytes left)))
    (subst (IsTorn place (length bytes) (IsImageOf w.device))
    (sym (asked_seen w.device (FailedWrite place bytes left))) (
      seen_of w.device,
      held.seen,
      wider place (length bytes) place (length (take (length bytes) left)) (omega arith) (omega (arith, short))
          (overwritten_outside place (take (length bytes) left) (seen_of w.device) (omega (arith, short, within))),
    )))

-- ---- a relay that broke

pub broke_held : (w : World) (phase : Phase) (round : Round)
    → IsHeld (in_phase w phase round) → IsHeld (world_after_failure (in_phase w phase round))
broke_held w phase round held = record {
  within = held.within;
  accepted = held.accepted;
  few = held.few;
  seen = held.seen;
  kept = held.kept;
  placed =
      placed_from (core_of w) (core_of w) w.is_open w.is_broken true
      (record round { stage = Writing phase })
      (round_at Answering (record round { answers = refusals Unsure w.position (calls_of round.batches) })) held.placed
      (λ running n. refused_below Unsure n w.position (calls_of round.batches) refl);
}

-- ---- a sync

-- after a successful sync a crash leaves the bytes that were read
abbrev pub synced_core : Core → ℕ → Core
synced_core k position = record k { device = record { synced = seen_of k.device; since = [] }; position = position }

module _ (k : Core) (phase : Phase) (w : IsWritten phase k) (seen : IsImageOf k.device (seen_of k.device)) where
  -- the next phase begins
  next_written : (next : Phase) (y : Recovery) → state_in y ≡ state_in w.x → IsRecovery (seen_of k.device) y
      → Begins next y (drop k.position k.accepted) (seen_of k.device) → IsWritten next (synced_core k k.position)
  next_written next y same stands begins = record {
    x = y;
    stands = stands;
    state = same ∙ w.state;
    told = w.told;
    counted = w.counted;
    begins = begins;
    images =
        λ c is. subst (IsPhaseImage next y (drop k.position k.accepted) (seen_of k.device)) (sym is)
        (first_image next y (drop k.position k.accepted) (seen_of k.device));
  }

  -- or no phase remains
  next_calm : (position : ℕ) → position ≡ length k.accepted → Stands (seen_of k.device) (whole_state k)
      → IsCalm (synced_core k position)
  next_calm position counted stands = record { only = λ c is. is; stands = stands; counted = counted }

  next_kept : (position : ℕ) → (image : List ℕ) → image ≡ seen_of k.device → IsKept (synced_core k position) image
  next_kept position image is =
      let was = written_kept phase k w (seen_of k.device) seen in
      record {
        n = was.n;
        told = was.told;
        most = was.most;
        stands = subst
            (λ i. Stands i (state_from k.params (take was.n k.accepted))) (sym is) was.stands;
      }

none_left : (k : Core) → k.position ≤ length k.accepted → drop k.position k.accepted ≡ []
    → k.position ≡ length k.accepted
none_left k most none = omega (arith, most, length-drop k.position k.accepted, ap length none)

-- the stage after a phase
next_at : (k : Core) (phase : Phase) (w : IsWritten phase k) → IsImageOf k.device (seen_of k.device)
    → IsDone phase w.x (drop k.position k.accepted) (seen_of k.device)
    → (v : World) → v.position ≡ k.position → v.accepted ≡ k.accepted
    → IsAt (synced_core k (counted_after phase v)) (after_phase phase)
next_at k (Seal segment copy) w seen done v position accepted =
    let next = seal_next segment copy w.x (drop k.position k.accepted) k.device.synced (seen_of k.device) w.stands
    w.begins (w.images (seen_of k.device) seen) done in
    subst (λ n. IsWritten (Head segment copy) (synced_core k n)) (sym position)
    (next_written k (Seal segment copy) w seen (Head segment copy) (read_in (seen_of k.device) w.x) next.0.state
    next.0.stands next.1)
next_at k (Head segment copy) w seen done v position accepted =
    let next = head_next segment copy w.x (drop k.position k.accepted) k.device.synced (seen_of k.device) w.stands
    w.begins (w.images (seen_of k.device) seen) done in
    subst (λ n. IsWritten (Switch segment copy) (synced_core k n)) (sym position)
    (next_written k (Head segment copy) w seen (Switch segment copy) (read_in (seen_of k.device) w.x) next.0.state
    next.0.stands next.1)
next_at k (Switch segment copy) w seen done v position accepted =
    let none : drop k.position k.accepted ≡ [] = w.begins.1 in
    next_calm k (Switch segment copy) w seen v.position (position ∙ none_left k w.counted none)
    (subst (Stands (seen_of k.device)) (ap (fold length (state_in w.x)) (sym none) ∙ grown_to k w)
    (switch_next segment copy w.x (drop k.position k.accepted) k.device.synced (seen_of k.device) w.stands w.begins
    (w.images (seen_of k.device) seen)))
next_at k Body w seen done v position accepted =
    let next = body_next w.x (drop k.position k.accepted) k.device.synced (seen_of k.device) w.stands w.begins
    (w.images (seen_of k.device) seen) done in
    subst (λ n. IsWritten Gate (synced_core k n)) (sym position)
    (next_written k Body w seen Gate w.x refl next.0 next.1)
next_at k Gate w seen done v position accepted =
    next_calm k Gate w seen (length v.accepted) (ap length accepted)
    (subst (Stands (seen_of k.device)) (grown_to k w)
    (gate_next w.x (drop k.position k.accepted) k.device.synced (seen_of k.device) w.stands w.begins
    (w.images (seen_of k.device) seen) done))

pub sync_held : (w : World) (phase : Phase) (round : Round)
    → IsHeld (in_phase w phase round)
    → MaySync phase w.device (round_commands w) → IsHeld (world_after_call (in_phase w phase round) Sync)
sync_held w phase round held may =
    let k = core_of w in
    let now = writing_of (core_of w) w.is_open w.is_broken phase round held.placed in
    let v : World = on_device (in_phase w phase round) Sync in
    let next : Core = synced_core (core_of w) (counted_after phase v) in
    let done : IsDone phase now.2.x (round_commands w) (seen_of w.device) = subst
    (λ y. IsDone phase y (round_commands w) (seen_of w.device)) (one_standing may.x now.2.x may.stands now.2.stands)
    may.done in
    record {
      within = held.within;
      accepted = held.accepted;
      few = held.few;
      seen = refl;
      kept = next_kept (core_of w) phase now.2 held.seen (counted_after phase v);
      placed =
          placed_from (core_of w) next w.is_open w.is_broken w.is_broken
          (record round { stage = Writing phase })
          (round_at (after_phase phase) round) held.placed
          (λ running. running_at next w.is_broken (after_phase phase) round now.0 now.1
          (next_at (core_of w) phase now.2 held.seen done v refl refl));
    }
