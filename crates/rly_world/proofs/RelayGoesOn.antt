-- A phase's own write and its sync are possible.
use Rattle.std.proofs.Common.{ℕ, ◌≡◌, ◌≤◌, ◌+◌, ◌-◌, ◌∙◌, List, [], ◌∷◌, Some, length, get_or, arith, ap, subst, sym}
use Rattle.rly_core.specs.declared.params.Geometry.{Geometry}
use Rattle.rly_disk.specs.DiskModel.{bytes_after_write}
use Rattle.rly_disk.specs.Trace.{Write}
use Rattle.rly_disk.proofs.Overwritten.{overwritten_in}
use Rattle.rly_disk.proofs.Ranges.{part-overwritten}
use Rattle.rly_gate.specs.Group.{IsOpen, frame_of, open_gate}
use Rattle.rly_record.specs.Spelling.{body_of}
use Rattle.rly_segment.specs.Heads.{segment_place}
use Rattle.rly_segment.proofs.Gates.{zero_closes}
use Rattle.rly_journal.specs.Recovery.{Commands, IsRecovery, Recovery, gate_of}
use Rattle.rly_segment.specs.Formatted.{IsFormatted}
use Rattle.rly_world.proofs.RelayBegins.{one_standing}
use Rattle.rly_world.specs.RelayPhases.{IsDone, IsNeeded, bytes_of, place_of}
use Rattle.rly_world.specs.RelaySteps.{Event, GoesOn, Run}
use Rattle.rly_world.specs.RelayWorld.{Body, Gate, Head, Phase, Round, Seal, Switch, World, Writing, asked_of, round_commands}
use Rattle.rly_world.specs.RelayWorld.{new_world}
use Rattle.rly_world.specs.RelayWorld.{seen_of}
use Rattle.rly_world.proofs.RelayCalls.{writing_of}
use Rattle.rly_world.proofs.RelayDevice.{asked_seen}
use Rattle.rly_world.proofs.RelayEvents.{at_stage}
use Rattle.rly_world.proofs.RelayHolds.{IsHeld, IsPlaced, core_of}
use Rattle.rly_world.proofs.RelayPhases.{phase_within}
use Rattle.rly_world.proofs.RelayStart.{holds}

-- one byte that was written
gate_written : (place : ℕ) (seen : List ℕ) → place + 1 ≤ length seen
    → IsOpen (bytes_after_write place (open_gate ∷ []) seen) place
gate_written place seen within =
    overwritten_in place (open_gate ∷ []) seen within place (omega arith) (omega arith)
    ∙ ap (λ i. get_or (open_gate ∷ []) i 0) (let e : place - place ≡ 0 = omega arith in e)

-- a phase is done after its bytes are written
done_when : (phase : Phase) (x : Recovery) (commands : Commands) (seen : List ℕ)
    → place_of phase x + length (bytes_of phase x commands) ≤ length seen
    → IsDone phase x commands (bytes_after_write (place_of phase x) (bytes_of phase x commands) seen)
done_when (Seal segment copy) x commands seen within = zero_closes (segment_place x.geometry segment) seen within
done_when (Head segment copy) x commands seen within =
    part-overwritten (segment_place x.geometry segment + 1) (bytes_of (Head segment copy) x commands) seen
    (omega (arith, within))
done_when (Switch segment copy) x commands seen within = gate_written (segment_place x.geometry segment) seen within
done_when Body x commands seen within =
    part-overwritten (gate_of x + 1) (frame_of (body_of commands)) seen (omega (arith, within))
done_when Gate x commands seen within = gate_written (gate_of x) seen within

-- and without the write only if a gate is closed already
done_already : (phase : Phase) (x : Recovery) (commands : Commands) (seen : List ℕ) → (IsNeeded phase x seen → ⊥)
    → IsDone phase x commands seen
done_already (Seal segment copy) x commands seen closed = closed
done_already (Head segment copy) x commands seen skipped = absurd (skipped tt)
done_already (Switch segment copy) x commands seen skipped = absurd (skipped tt)
done_already Body x commands seen skipped = absurd (skipped tt)
done_already Gate x commands seen skipped = absurd (skipped tt)

pub goes_on : (w : World) (round : Round) (phase : Phase) → IsHeld w → w.round ≡ Some round
    → round.stage ≡ Writing phase
    → GoesOn w phase
goes_on w round phase held is at =
    let placed = subst (IsPlaced (core_of w) w.is_open w.is_broken) (at_stage w round (Writing phase) is at)
    held.placed in
    let now = (writing_of (core_of w) w.is_open w.is_broken phase round placed).2 in
    let x : Recovery = now.x in
    let within : place_of phase now.x + length (bytes_of phase now.x (round_commands w)) ≤ length (seen_of w.device) =
    omega (
      arith,
      phase_within phase now.x (round_commands w) w.device.synced now.stands now.begins,
      (now.images (seen_of w.device) held.seen).outside.same_length,
    ) in
    let written = asked_seen w.device (Write (place_of phase now.x) (bytes_of phase now.x (round_commands w))) in
    record {
      x = now.x;
      stands = now.stands;
      write = λ needed. (
        round,
        is,
        (
          phase,
          at,
          record { x = now.x; stands = now.stands; from = omega arith; to = omega arith; needed = needed },
        ),
      );
      then_sync = λ needed. (
        round,
        is,
        (
          phase,
          at,
          record {
            x = now.x;
            stands = now.stands;
            done = subst (IsDone phase now.x (round_commands w)) (sym written)
                (done_when phase now.x (round_commands w) (seen_of w.device) within);
          },
        ),
      );
      sync = λ skipped. (
        round,
        is,
        (
          phase,
          at,
          record {
            x = now.x;
            stands = now.stands;
            done = done_already phase now.x (round_commands w) (seen_of w.device) skipped;
          },
        ),
      );
    }

pub relay_goes_on : (g : Geometry) (seats : ℕ) (bytes : List ℕ) (events : List Event) (w : World) (round : Round)
    (phase : Phase) → IsFormatted g bytes
    → Run (new_world g.params seats bytes) events w → w.round ≡ Some round → round.stage ≡ Writing phase
    → GoesOn w phase
relay_goes_on g seats bytes events w round phase formatted run is at =
    goes_on w round phase (holds g seats bytes events w formatted run) is at

-- after its own write it is done
pub own_done : (w : World) (round : Round) (phase : Phase) → IsHeld w → w.round ≡ Some round
    → round.stage ≡ Writing phase
    → (x : Recovery) → IsRecovery w.device.synced x
    → IsDone phase x (round_commands w) (seen_of (asked_of w.device (Write (place_of phase x) (bytes_of phase x (round_commands w)))))
own_done w round phase held is at x stands =
    let placed = subst (IsPlaced (core_of w) w.is_open w.is_broken) (at_stage w round (Writing phase) is at)
    held.placed in
    let now = (writing_of (core_of w) w.is_open w.is_broken phase round placed).2 in
    let within : place_of phase now.x + length (bytes_of phase now.x (round_commands w)) ≤ length (seen_of w.device) = omega (
      arith,
      phase_within phase now.x (round_commands w) w.device.synced now.stands now.begins,
      (now.images (seen_of w.device) held.seen).outside.same_length,
    ) in
    subst (λ y. IsDone phase y (round_commands w)
    (seen_of (asked_of w.device (Write (place_of phase y) (bytes_of phase y (round_commands w))))))
    (one_standing now.x x now.stands stands)
    (subst (IsDone phase now.x (round_commands w))
    (sym (asked_seen w.device (Write (place_of phase now.x) (bytes_of phase now.x (round_commands w)))))
    (done_when phase now.x (round_commands w) (seen_of w.device) within))
