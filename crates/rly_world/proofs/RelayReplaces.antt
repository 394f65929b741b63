-- The calls of a journal's opening of a segment are possible, in order.
use Rattle.std.proofs.Common.{◌≡◌, ◌↔◌, ◌≤◌, ◌+◌, ◌++◌, ℕ, Bool, true, false, IsTrue, List, [], ◌∷◌, Some, length}
use Rattle.std.proofs.Common.{map, arith, refl, inl, inr}
use Rattle.std.proofs.Common.{subst, sym, get_or}
use Rattle.std.proofs.lemmas.Bool.{cases_eq, false≢true}
use Rattle.rly_core.specs.declared.params.Geometry.{Geometry}
use Rattle.rly_disk.specs.Trace.{Sync, Write}
use Rattle.rly_gate.specs.Calls.{settle_calls}
use Rattle.rly_gate.specs.Group.{IsClosed, IsOpen, open_gate}
use Rattle.rly_machine.specs.State.{State}
use Rattle.rly_segment_checkpoint.specs.declared.stored.Stored.{Stored}
use Rattle.rly_segment.specs.Calls.{replace_calls}
use Rattle.rly_segment.specs.Formatted.{IsFormatted}
use Rattle.rly_segment.specs.Heads.{segment_place}
use Rattle.rly_journal.specs.Recovery.{Commands, IsRecovery, Recovery}
use Rattle.rly_journal.proofs.UntouchedBytes.{read_in}
use Rattle.rly_world.specs.RelayPhases.{IsDone, IsNeeded, next_head}
use Rattle.rly_world.specs.RelaySteps.{Event, MayCall, Run, world_after}
use Rattle.rly_world.specs.RelaySteps as event
use Rattle.rly_world.specs.RelayWorld.{Head, Phase, Ready, Round, Seal, Switch, World, Writing, asked_of}
use Rattle.rly_world.specs.RelayWorld.{round_commands, new_world, seen_of}
use Rattle.rly_world.proofs.RelayAppends.{after_both, both_run, may_finish, own_write}
use Rattle.rly_world.proofs.RelayBegins.{one_standing}
use Rattle.rly_world.proofs.RelayCalls.{in_phase, round_at, writing_of}
use Rattle.rly_world.proofs.RelayEvents.{at_stage, from_round, in_round, run_held}
use Rattle.rly_world.proofs.RelayGoesOn.{goes_on, own_done}
use Rattle.rly_world.proofs.RelayHolds.{IsHeld, core_of}
use Rattle.rly_world.proofs.RelayPhases.{Begins, IsPhaseImage, head_next, length-behind, seal_next}
use Rattle.rly_world.proofs.RelayStart.{holds}

-- a phase leaves the recovered content unchanged, except for the bytes of payloads that aren't live
abbrev pub StandsOn : Phase → Type 0
StandsOn phase = (y : Recovery) (commands : Commands) (old seen : List ℕ) → IsRecovery old y
    → Begins phase y commands old → IsPhaseImage phase y commands old seen → IsDone phase y commands seen
    → IsRecovery seen (read_in seen y)

-- the recovered content after the phase's own bytes are written
abbrev pub written_standing : World → Phase → Recovery → Recovery
written_standing w phase x = read_in (seen_of (asked_of w.device (own_write phase x (round_commands w)))) x

pub stands_on : (w : World) (phase : Phase) (round : Round) (x : Recovery) → StandsOn phase
    → IsHeld (in_phase w phase round) → IsRecovery w.device.synced x → IsNeeded phase x (seen_of w.device)
    → IsRecovery (seen_of (asked_of w.device (own_write phase x (round_commands w)))) (written_standing w phase x)
stands_on w phase round x next_of held stands needed =
    let v : World = in_phase w phase round in
    let writing : Round = record round { stage = Writing phase } in
    let may = may_finish v writing phase x held refl refl stands in
    let next : World = world_after v (event.Calls (own_write phase x (round_commands w))) in
    let written : IsHeld next =
    run_held v next (event.Calls (own_write phase x (round_commands w)) ∷ []) (next, inl (may.write needed, refl), refl) held in
    let now = (writing_of (core_of next) w.is_open w.is_broken phase round written.placed).2 in
    let same : now.x ≡ x = one_standing now.x x now.stands stands in
    let seen : List ℕ = seen_of (asked_of w.device (own_write phase x (round_commands w))) in
    let done : IsDone phase x (round_commands w) seen = own_done v writing phase held refl refl x stands in
    subst (λ y. IsRecovery seen (read_in seen y)) same
    (next_of now.x (round_commands w) w.device.synced seen now.stands now.begins (now.images seen written.seen)
    (subst (λ y. IsDone phase y (round_commands w) seen) (sym same) done))

-- the same if the gate was closed already
pub stands_closed : (w : World) (segment : ℕ) (copy : State Stored) (round : Round)
    (x : Recovery) → IsHeld (in_phase w (Seal segment copy) round) → IsRecovery w.device.synced x
    → IsClosed (seen_of w.device) (segment_place x.geometry segment)
    → IsRecovery (seen_of w.device) (read_in (seen_of w.device) x)
stands_closed w segment copy round x held stands closed =
    let now = (writing_of (core_of w) w.is_open w.is_broken (Seal segment copy) round held.placed).2 in
    let same : now.x ≡ x = one_standing now.x x now.stands stands in
    subst (λ y. IsRecovery (seen_of w.device) (read_in (seen_of w.device) y)) same
    (seal_next segment copy now.x (round_commands w) w.device.synced (seen_of w.device) now.stands now.begins
    (now.images (seen_of w.device) held.seen)
    (subst (λ y. IsClosed (seen_of w.device) (segment_place y.geometry segment)) (sym same) closed)).0.stands

-- closing the gate does, and so does writing the head
pub seal_keeps : (segment : ℕ) (copy : State Stored) → StandsOn (Seal segment copy)
seal_keeps segment copy y commands old seen stands begins image done =
    (seal_next segment copy y commands old seen stands begins image done).0.stands

pub head_keeps : (segment : ℕ) (copy : State Stored) → StandsOn (Head segment copy)
head_keeps segment copy y commands old seen stands begins image done =
    (head_next segment copy y commands old seen stands begins image done).0.stands

pub settling_some : (at : ℕ) (bytes : List ℕ) → 1 ≤ length bytes → settle_calls at bytes ≡ Write at bytes ∷ Sync ∷ []
settling_some at [] some = absurd (omega (arith, some))
settling_some at (byte ∷ bytes) some = refl

-- from the head on
abbrev HeadsOn : World → ℕ → State Stored → Recovery → Round → Type 0
HeadsOn v segment copy x round = (new : World)
    × Run v (map event.Calls
    (settle_calls (segment_place x.geometry segment + 1) (next_head x copy)
    ++ settle_calls (segment_place x.geometry segment) (open_gate ∷ []))) new
    × (new.round ≡ round_at Ready round) × (new.device.since ≡ [])

pub head_on : (w : World) (segment : ℕ) (copy : State Stored) (round : Round) (x : Recovery)
    → IsHeld (in_phase w (Head segment copy) round) → IsRecovery w.device.synced x
    → HeadsOn (in_phase w (Head segment copy) round) segment copy x round
head_on w segment copy round x held stands =
    let v : World = in_phase w (Head segment copy) round in
    let next : World = after_both v (Head segment copy) x in
    let y : Recovery = written_standing w (Head segment copy) x in
    let new : World = after_both next (Switch segment copy) y in
    let first = may_finish v (record round { stage = Writing (Head segment copy) })
    (Head segment copy) x held refl refl stands in
    let held_next : IsHeld next = run_held v next
    (event.Calls (own_write (Head segment copy) x (round_commands w)) ∷ event.Calls Sync ∷ [])
    (both_run v (Head segment copy) x [] next first tt refl) held in
    let after_head = stands_on w (Head segment copy) round x (head_keeps segment copy) held stands tt in
    let second = may_finish next (record round { stage = Writing (Switch segment copy) })
    (Switch segment copy) y held_next refl refl after_head in
    let calls = settling_some (segment_place x.geometry segment + 1) (next_head x copy)
    (omega (arith, length-behind x copy)) in (
      new,
      subst (λ l. Run v (map event.Calls (l ++ settle_calls (segment_place x.geometry segment) (open_gate ∷ []))) new)
          (sym calls)
          (both_run v (Head segment copy) x (event.Calls (own_write (Switch segment copy) y (round_commands w)) ∷ event.Calls Sync ∷ [])
          new first tt
          (both_run next (Switch segment copy) y [] new second tt refl)),
      refl,
      refl,
    )

-- from the gate on
abbrev ReplacesOn : World → ℕ → State Stored → Bool → Recovery → Round → Type 0
ReplacesOn v segment copy closed x round = (new : World)
    × Run v (map event.Calls (replace_calls (segment_place x.geometry segment) closed (next_head x copy))) new
    × (new.round ≡ round_at Ready round) × (new.device.since ≡ [])

pub is_open : (place : ℕ) (seen : List ℕ) → (IsTrue false ↔ IsClosed seen place) → IsOpen seen place
is_open place seen told = elim (cases_eq (get_or seen place 0) open_gate) [
  | inl opened ↦ opened
  | inr closed ↦ absurd (false≢true (told.1 closed))
]

replaces_on : (w : World) (segment : ℕ) (copy : State Stored) (closed : Bool) (round : Round) (x : Recovery)
    → IsHeld (in_phase w (Seal segment copy) round) → IsRecovery w.device.synced x
    → (IsTrue closed ↔ IsClosed (seen_of w.device) (segment_place x.geometry segment))
    → ReplacesOn (in_phase w (Seal segment copy) round) segment copy closed x round
replaces_on w segment copy true round x held stands told =
    let v : World = in_phase w (Seal segment copy) round in
    let shut = told.0 refl in
    let goes = goes_on v (record round { stage = Writing (Seal segment copy) })
    (Seal segment copy) held refl refl in
    let same : goes.x ≡ x = one_standing goes.x x goes.stands stands in
    let sync : MayCall v Sync = goes.sync
    (subst (λ y. IsClosed (seen_of w.device) (segment_place y.geometry segment)) (sym same) shut) in
    let next : World = world_after v (event.Calls Sync) in
    let held_next : IsHeld next = run_held v next (event.Calls Sync ∷ []) (next, inl (sync, refl), refl) held in
    let rest = head_on (record w { device = asked_of w.device Sync }) segment copy round
    (read_in (seen_of w.device) x) held_next (stands_closed w segment copy round x held stands shut) in
    (rest.0, (next, inl (sync, refl), rest.1), rest.2, rest.3)
replaces_on w segment copy false round x held stands told =
    let v : World = in_phase w (Seal segment copy) round in
    let opened = is_open (segment_place x.geometry segment) (seen_of w.device) told in
    let next : World = after_both v (Seal segment copy) x in
    let may = may_finish v (record round { stage = Writing (Seal segment copy) })
    (Seal segment copy) x held refl refl stands in
    let held_next : IsHeld next = run_held v next
    (event.Calls (own_write (Seal segment copy) x (round_commands w)) ∷ event.Calls Sync ∷ [])
    (both_run v (Seal segment copy) x [] next may opened refl) held in
    let after_seal = stands_on w (Seal segment copy) round x (seal_keeps segment copy) held stands opened in
    let rest = head_on (record w { device = asked_of (asked_of w.device (own_write (Seal segment copy) x (round_commands w))) Sync })
    segment copy round (written_standing w (Seal segment copy) x) held_next after_seal in (
      rest.0,
      both_run v (Seal segment copy) x
          (map event.Calls
          (settle_calls (segment_place x.geometry segment + 1) (next_head x copy)
          ++ settle_calls (segment_place x.geometry segment) (open_gate ∷ []))) rest.0 may opened rest.1,
      rest.2,
      rest.3,
    )

pub relay_replaces : (g : Geometry) (seats : ℕ) (bytes : List ℕ) (events : List Event) (w : World) (round : Round)
    (segment : ℕ) (copy : State Stored) (closed : Bool) (x : Recovery)
    → IsFormatted g bytes → Run (new_world g.params seats bytes) events w → w.round ≡ Some round
    → round.stage ≡ Writing (Seal segment copy) → IsRecovery w.device.synced x
    → (IsTrue closed ↔ IsClosed (seen_of w.device) (segment_place x.geometry segment))
    → ReplacesOn w segment copy closed x round
relay_replaces g seats bytes events w round segment copy closed x formatted run is at stands told =
    let known = at_stage w round (Writing (Seal segment copy)) is at in
    from_round (λ v. ReplacesOn v segment copy closed x round) w
    (round_at (Writing (Seal segment copy)) round) known
    (replaces_on w segment copy closed round x
    (in_round IsHeld w (round_at (Writing (Seal segment copy)) round) known
    (holds g seats bytes events w formatted run)) stands told)
