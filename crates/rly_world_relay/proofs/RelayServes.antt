-- The calls of a round, as a walk from the model state that took its batches.
use Rattle.std.proofs.Common.{ℕ, ◌≡◌, ◌↔◌, ◌+◌, ◌++◌, Bool, true, false, IsTrue, List, [], ◌∷◌, length, arith, refl, sym, subst, inl}
use Rattle.rly_disk.specs.Trace.{Sync}
use Rattle.rly_gate.specs.Calls.{append_calls, settle_calls}
use Rattle.rly_gate.specs.Group.{IsClosed, open_gate}
use Rattle.rly_machine.specs.State.{State}
use Rattle.rly_segment_checkpoint.specs.declared.stored.Stored.{Stored}
use Rattle.rly_record.specs.Spelling.{body_of}
use Rattle.rly_segment.specs.Calls.{replace_calls}
use Rattle.rly_segment.specs.Heads.{segment_place}
use Rattle.rly_journal.specs.Recovery.{Commands, IsRecovery, Recovery, gate_of}
use Rattle.rly_journal.proofs.UntouchedBytes.{read_in}
use Rattle.rly_world.specs.RelayPhases.{next_head}
use Rattle.rly_world.specs.RelaySteps.{MayCall, world_after, world_after_call}
use Rattle.rly_world.specs.RelaySteps as event
use Rattle.rly_world.specs.RelayWorld.{Answering, Batch, Body, Device, Gate, Head, Ready, Round, Seal, Stage, Switch, World, Writing, asked_of, round_commands, seen_of}
use Rattle.rly_world.proofs.RelayAppends.{after_both, body_stands, both_run, may_finish, own_write}
use Rattle.rly_world.proofs.RelayBegins.{one_standing}
use Rattle.rly_world.proofs.RelayCalls.{in_phase, round_at}
use Rattle.rly_world.proofs.RelayEvents.{run_held}
use Rattle.rly_world.proofs.RelayGoesOn.{goes_on}
use Rattle.rly_world.proofs.RelayHolds.{IsHeld}
use Rattle.rly_world.proofs.RelayPhases.{length-behind}
use Rattle.rly_world.proofs.RelayReplaces.{head_keeps, is_open, seal_keeps, settling_some, stands_closed, stands_on, written_standing}
use Rattle.rly_world_relay.proofs.RelayWalks.{Walks, between_none}

-- a model state with a current round, whose device and accepted commands may have changed since
abbrev pub in_hand : World → Stage → Round → Device → Commands → World
in_hand base stage round device accepted =
    record base { round = round_at stage round; device = device; accepted = accepted }

pub record IsPart (base : World) (batches : List Batch) (v : World) : Type 0 where
  pub stage : Stage
  pub round : Round
  pub device : Device
  pub accepted : Commands
  pub is : v ≡ in_hand base stage (record round { batches = batches }) device accepted

part : (base : World) (stage : Stage) (round : Round) (device : Device) (accepted : Commands)
    → IsPart base round.batches (in_hand base stage round device accepted)
part base stage round device accepted =
    record { stage = stage; round = round; device = device; accepted = accepted; is = refl }

-- a group was appended
pub record IsLaidDown (base : World) (round : Round) (accepted : Commands) (v : World) : Type 0 where
  pub device : Device
  pub is : v ≡ record (in_hand base Answering round device accepted) { position = length accepted }
  pub calm : v.device.since ≡ []

pub appends_walk : (base : World) (round : Round) (device : Device) (accepted : Commands) (x : Recovery)
    → IsHeld (in_hand base (Writing Body) round device accepted) → IsRecovery device.synced x
    → Walks (IsPart base round.batches) (in_hand base (Writing Body) round device accepted)
    (append_calls (gate_of x) (body_of (round_commands (in_hand base (Writing Body) round device accepted)))) (IsLaidDown base round accepted)
appends_walk base round device accepted x held stands =
    let w : World = record base { device = device; accepted = accepted } in
    let v : World = in_phase w Body round in
    let mid : World = world_after_call v (own_write Body x (round_commands w)) in
    let next : World = after_both v Body x in
    let more : World = world_after_call next (own_write Gate x (round_commands w)) in
    let new : World = after_both next Gate x in
    let first = may_finish v (record round { stage = Writing Body }) Body x held refl refl stands in
    let held_next : IsHeld next = run_held v next (event.Calls (own_write Body x (round_commands w)) ∷ event.Calls Sync ∷ [])
    (both_run v Body x [] next first tt refl) held in
    let second = may_finish next (record round { stage = Writing Gate }) Gate x held_next refl refl
    (body_stands w round x held stands) in (
      v,
      between_none v,
      part base (Writing Body) round device accepted,
      first.write tt,
      (
        mid,
        between_none mid,
        part base (Writing Body) round mid.device accepted,
        first.then_sync tt,
        (
          next,
          between_none next,
          part base (Writing Gate) round next.device accepted,
          second.write tt,
          (
            more,
            between_none more,
            part base (Writing Gate) round more.device accepted,
            second.then_sync tt,
            (new, between_none new, record { device = new.device; is = refl; calm = refl }),
          ),
        ),
      ),
    )

-- a segment was opened
pub record IsReadied (base : World) (round : Round) (accepted : Commands) (v : World) : Type 0 where
  pub device : Device
  pub is : v ≡ in_hand base Ready round device accepted
  pub calm : v.device.since ≡ []

head_walk : (base : World) (segment : ℕ) (copy : State Stored) (round : Round) (device : Device) (accepted : Commands) (x : Recovery)
    → IsHeld (in_hand base (Writing (Head segment copy)) round device accepted) → IsRecovery device.synced x
    → Walks (IsPart base round.batches) (in_hand base (Writing (Head segment copy)) round device accepted)
    (settle_calls (segment_place x.geometry segment + 1) (next_head x copy)
    ++ settle_calls (segment_place x.geometry segment) (open_gate ∷ [])) (IsReadied base round accepted)
head_walk base segment copy round device accepted x held stands =
    let w : World = record base { device = device; accepted = accepted } in
    let v : World = in_phase w (Head segment copy) round in
    let mid : World = world_after_call v (own_write (Head segment copy) x (round_commands w)) in
    let next : World = after_both v (Head segment copy) x in
    let y : Recovery = written_standing w (Head segment copy) x in
    let more : World = world_after_call next (own_write (Switch segment copy) y (round_commands w)) in
    let new : World = after_both next (Switch segment copy) y in
    let first = may_finish v (record round { stage = Writing (Head segment copy) })
    (Head segment copy) x held refl refl stands in
    let held_next : IsHeld next = run_held v next
    (event.Calls (own_write (Head segment copy) x (round_commands w)) ∷ event.Calls Sync ∷ [])
    (both_run v (Head segment copy) x [] next first tt refl) held in
    let after_head = stands_on w (Head segment copy) round x (head_keeps segment copy) held stands tt in
    let second = may_finish next (record round { stage = Writing (Switch segment copy) })
    (Switch segment copy) y held_next refl refl after_head in
    let calls = settling_some (segment_place x.geometry segment + 1) (next_head x copy)
    (omega (arith, length-behind x copy)) in
    subst (λ l. Walks (IsPart base round.batches) v (l ++ settle_calls (segment_place x.geometry segment) (open_gate ∷ [])) (IsReadied base round accepted)) (sym calls) (
      v,
      between_none v,
      part base (Writing (Head segment copy)) round device accepted,
      first.write tt,
      (
        mid,
        between_none mid,
        part base (Writing (Head segment copy)) round mid.device accepted,
        first.then_sync tt,
        (
          next,
          between_none next,
          part base (Writing (Switch segment copy)) round next.device accepted,
          second.write tt,
          (
            more,
            between_none more,
            part base (Writing (Switch segment copy)) round more.device accepted,
            second.then_sync tt,
            (new, between_none new, record { device = new.device; is = refl; calm = refl }),
          ),
        ),
      ),
    )

pub replaces_walk : (base : World) (segment : ℕ) (copy : State Stored) (closed : Bool) (round : Round) (device : Device) (accepted : Commands) (x : Recovery)
    → IsHeld (in_hand base (Writing (Seal segment copy)) round device accepted) → IsRecovery device.synced x
    → (IsTrue closed ↔ IsClosed (seen_of device) (segment_place x.geometry segment))
    → Walks (IsPart base round.batches) (in_hand base (Writing (Seal segment copy)) round device accepted)
    (replace_calls (segment_place x.geometry segment) closed (next_head x copy)) (IsReadied base round accepted)
replaces_walk base segment copy true round device accepted x held stands told =
    let w : World = record base { device = device; accepted = accepted } in
    let v : World = in_phase w (Seal segment copy) round in
    let shut = told.0 refl in
    let goes = goes_on v (record round { stage = Writing (Seal segment copy) })
    (Seal segment copy) held refl refl in
    let same : goes.x ≡ x = one_standing goes.x x goes.stands stands in
    let sync : MayCall v Sync = goes.sync
    (subst (λ y. IsClosed (seen_of device) (segment_place y.geometry segment)) (sym same) shut) in
    let next : World = world_after v (event.Calls Sync) in
    let held_next : IsHeld next = run_held v next (event.Calls Sync ∷ []) (next, inl (sync, refl), refl) held in (
      v,
      between_none v,
      part base (Writing (Seal segment copy)) round device accepted,
      sync,
      head_walk base segment copy round (asked_of device Sync) accepted (read_in (seen_of device) x) held_next
          (stands_closed w segment copy round x held stands shut),
    )
replaces_walk base segment copy false round device accepted x held stands told =
    let w : World = record base { device = device; accepted = accepted } in
    let v : World = in_phase w (Seal segment copy) round in
    let mid : World = world_after_call v (own_write (Seal segment copy) x (round_commands w)) in
    let opened = is_open (segment_place x.geometry segment) (seen_of device) told in
    let next : World = after_both v (Seal segment copy) x in
    let may = may_finish v (record round { stage = Writing (Seal segment copy) })
    (Seal segment copy) x held refl refl stands in
    let held_next : IsHeld next = run_held v next
    (event.Calls (own_write (Seal segment copy) x (round_commands w)) ∷ event.Calls Sync ∷ [])
    (both_run v (Seal segment copy) x [] next may opened refl) held in
    let after_seal = stands_on w (Seal segment copy) round x (seal_keeps segment copy) held stands opened in (
      v,
      between_none v,
      part base (Writing (Seal segment copy)) round device accepted,
      may.write opened,
      (
        mid,
        between_none mid,
        part base (Writing (Seal segment copy)) round mid.device accepted,
        may.then_sync opened,
        head_walk base segment copy round next.device accepted (written_standing w (Seal segment copy) x) held_next after_seal,
      ),
    )
