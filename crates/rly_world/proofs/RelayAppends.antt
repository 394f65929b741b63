-- The calls of a journal's append are possible, in order.
use Rattle.std.proofs.Common.{◌≡◌, ℕ, List, [], ◌∷◌, Some, map, refl, inl, subst, sym}
use Rattle.rly_core.specs.declared.params.Geometry.{Geometry}
use Rattle.rly_disk.specs.Trace.{DeviceEvent, Sync, Write}
use Rattle.rly_gate.specs.Calls.{append_calls}
use Rattle.rly_record.specs.Spelling.{body_of}
use Rattle.rly_segment.specs.Formatted.{IsFormatted}
use Rattle.rly_journal.specs.Recovery.{Commands, IsRecovery, Recovery, gate_of}
use Rattle.rly_world.specs.RelayPhases.{IsDone, IsNeeded, bytes_of, place_of}
use Rattle.rly_world.specs.RelaySteps.{Event, MayCall, Run, world_after}
use Rattle.rly_world.specs.RelaySteps as event
use Rattle.rly_world.specs.RelayWorld.{Answering, Body, Gate, Phase, Round, World, Writing, asked_of}
use Rattle.rly_world.specs.RelayWorld.{round_commands, new_world, seen_of}
use Rattle.rly_world.proofs.RelayBegins.{one_standing}
use Rattle.rly_world.proofs.RelayCalls.{in_phase, round_at, writing_of}
use Rattle.rly_world.proofs.RelayEvents.{at_stage, from_round, in_round, run_held}
use Rattle.rly_world.proofs.RelayGoesOn.{goes_on, own_done}
use Rattle.rly_world.proofs.RelayHolds.{IsHeld, core_of}
use Rattle.rly_world.proofs.RelayPhases.{body_next}
use Rattle.rly_world.proofs.RelayStart.{holds}

-- the write of a phase
abbrev pub own_write : Phase → Recovery → Commands → DeviceEvent
own_write phase x commands = Write (place_of phase x) (bytes_of phase x commands)

-- a phase's write and its sync
abbrev pub after_both : World → Phase → Recovery → World
after_both w phase x = world_after (world_after w (event.Calls (own_write phase x (round_commands w)))) (event.Calls Sync)

pub record MayFinish (w : World) (phase : Phase) (x : Recovery) : Type 0 where
  pub write : IsNeeded phase x (seen_of w.device) → MayCall w (own_write phase x (round_commands w))
  pub then_sync : IsNeeded phase x (seen_of w.device) → MayCall (event.world_after_call w (own_write phase x (round_commands w))) Sync

pub may_finish : (w : World) (round : Round) (phase : Phase) (x : Recovery) → IsHeld w → w.round ≡ Some round
    → round.stage ≡ Writing phase → IsRecovery w.device.synced x → MayFinish w phase x
may_finish w round phase x held is at stands =
    let goes = goes_on w round phase held is at in
    subst (MayFinish w phase) (one_standing goes.x x goes.stands stands)
    (record { write = goes.write; then_sync = goes.then_sync })

-- both are made
pub both_run : (w : World) (phase : Phase) (x : Recovery) (events : List Event) (new : World) → MayFinish w phase x
    → IsNeeded phase x (seen_of w.device) → Run (after_both w phase x) events new
    → Run w (event.Calls (own_write phase x (round_commands w)) ∷ event.Calls Sync ∷ events) new
both_run w phase x events new may needed rest = (
  world_after w (event.Calls (own_write phase x (round_commands w))),
  inl (may.write needed, refl),
  (after_both w phase x, inl (may.then_sync needed, refl), rest),
)

-- the recovered content is the same after a body was written
pub body_stands : (w : World) (round : Round) (x : Recovery) → IsHeld (in_phase w Body round)
    → IsRecovery w.device.synced x
    → IsRecovery (seen_of (asked_of w.device (own_write Body x (round_commands w)))) x
body_stands w round x held stands =
    let v : World = in_phase w Body round in
    let writing : Round = record round { stage = Writing Body } in
    let may = may_finish (in_phase w Body round) writing Body x held refl refl stands in
    let next : World = world_after (in_phase w Body round) (event.Calls (own_write Body x (round_commands w))) in
    let written : IsHeld next =
    run_held v next (event.Calls (own_write Body x (round_commands w)) ∷ []) (next, inl (may.write tt, refl), refl) held in
    let now = (writing_of (core_of next) w.is_open w.is_broken Body round written.placed).2 in
    let same : now.x ≡ x = one_standing now.x x now.stands stands in
    let seen : List ℕ = seen_of (asked_of w.device (own_write Body x (round_commands w))) in
    let done : IsDone Body x (round_commands w) seen = own_done v writing Body held refl refl x stands in
    subst (IsRecovery seen) same
    (body_next now.x (round_commands w) w.device.synced seen now.stands now.begins (now.images seen written.seen)
    (subst (λ y. IsDone Body y (round_commands w) seen) (sym same) done)).0

-- the calls of an append, in order
pub appends_run : (w : World) (round : Round) (x : Recovery) → IsHeld w → w.round ≡ Some round
    → round.stage ≡ Writing Body
    → IsRecovery w.device.synced x → (new : World)
    × Run w (map event.Calls (append_calls (gate_of x) (body_of (round_commands w)))) new
    × (new.round ≡ round_at Answering round) × (new.device.since ≡ [])
appends_run w round x held is at stands =
    from_round Appends w (round_at (Writing Body) round) known
    (by_phase (in_round IsHeld w (round_at (Writing Body) round) known held))
  where
    known : w.round ≡ round_at (Writing Body) round
    known = at_stage w round (Writing Body) is at

    Appends : World → Type 0
    Appends v = (new : World) × Run v (map event.Calls (append_calls (gate_of x) (body_of (round_commands v)))) new
        × (new.round ≡ round_at Answering round) × (new.device.since ≡ [])

    by_phase : IsHeld (in_phase w Body round) → Appends (in_phase w Body round)
    by_phase held_so =
        let v : World = in_phase w Body round in
        let next : World = after_both v Body x in
        let new : World = after_both next Gate x in
        let writing : Round = record round { stage = Writing Body } in
        let opening : Round = record round { stage = Writing Gate } in
        let first = may_finish v writing Body x held_so refl refl stands in
        let held_next : IsHeld next = run_held v next
        (event.Calls (own_write Body x (round_commands w)) ∷ event.Calls Sync ∷ [])
        (both_run v Body x [] next first tt refl) held_so in
        let second = may_finish next opening Gate x held_next refl refl
        (body_stands w round x held_so stands) in (
          new,
          both_run v Body x (event.Calls (own_write Gate x (round_commands w)) ∷ event.Calls Sync ∷ []) new first tt
              (both_run next Gate x [] new second tt refl),
          refl,
          refl,
        )

pub relay_appends : (g : Geometry) (seats : ℕ) (bytes : List ℕ) (events : List Event) (w : World) (round : Round)
    (x : Recovery)
    → IsFormatted g bytes → Run (new_world g.params seats bytes) events w → w.round ≡ Some round
    → round.stage ≡ Writing Body → IsRecovery w.device.synced x
    → (new : World) × Run w (map event.Calls (append_calls (gate_of x) (body_of (round_commands w)))) new
    × (new.round ≡ round_at Answering round) × (new.device.since ≡ [])
relay_appends g seats bytes events w round x formatted run is at stands =
    appends_run w round x (holds g seats bytes events w formatted run) is at stands
