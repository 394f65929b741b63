-- A round is evaluated, and its accepted commands are written.
use Rattle.std.proofs.Common.{ℕ, ◌≡◌, ◌⊎◌, ◌++◌, ◌∙◌, false, List, [], ◌∷◌, length, ap, refl, sym, subst, inl, inr}
use Rattle.std.specs.List.{zip}
use Rattle.std.proofs.lemmas.List.{append-nil, drop_at}
use Rattle.rly_disk.specs.DiskModel.{DiskState}
use Rattle.rly_disk.specs.Trace.{DeviceEvent}
use Rattle.rly_gate.specs.Calls.{append_calls}
use Rattle.rly_machine.specs.declared.call.Answer.{Answer}
use Rattle.rly_machine.specs.declared.call.Call.{Call}
use Rattle.rly_machine.specs.History.{Legal, accepted_of}
use Rattle.rly_machine.specs.State.{State}
use Rattle.rly_record.specs.Spelling.{body_of}
use Rattle.rly_journal.specs.declared.tail.Tail.{Tail}
use Rattle.rly_journal.specs.OpenCalls.{log_calls}
use Rattle.rly_journal.specs.Log.{IsLogged}
use Rattle.rly_journal.specs.Recovery.{Commands, gate_of}
use Rattle.rly_journal.specs.Rounds.{AreLostWhereWanted, AreServed}
use Rattle.rly_world.specs.RelaySteps.{AreShut, HasPlace, IsDueFor, IsEvaluated, after_evaluation}
use Rattle.rly_world.specs.RelaySteps as event
use Rattle.rly_world.specs.RelayWorld.{Answering, Body, Device, Ready, Round, Stage, Taking, World, Writing, calls_of, round_commands, state_from}
use Rattle.rly_world.proofs.RelayEvents.{run_held}
use Rattle.rly_world.proofs.RelayHolds.{IsHeld}
use Rattle.rly_world_relay.proofs.RelayServes.{IsLaidDown, IsPart, appends_walk, in_hand}
use Rattle.rly_world_relay.proofs.RelayWalks.{Between, Walks, between_none, between_one, walks_from}

-- the round has its replies, and its accepted commands are counted
pub record IsOver (base : World) (round : Round) (accepted : Commands) (v : World) : Type 0 where
  pub device : Device
  pub is : v ≡ record (in_hand base Answering round device accepted) { position = length accepted }

-- the same walk to another end
pub walks_to : (Is : World → Type 0) (w : World) (calls : List DeviceEvent) (Ends Others : World → Type 0) → ((v : World) → Ends v → Others v)
    → Walks Is w calls Ends → Walks Is w calls Others
walks_to Is w [] Ends Others to walk = (walk.0, walk.1, to walk.0 walk.2)
walks_to Is w (call ∷ calls) Ends Others to walk =
    (walk.0, walk.1, walk.2, walk.3, walks_to Is (event.world_after_call walk.0 call) calls Ends Others to walk.4)

module _ (base : World) (stage : Stage) (round : Round) (device : Device) (accepted : Commands) (tail : Tail)
    (s : State (List ℕ)) (given : List Answer) (whole : base.is_broken ≡ false) (first : (stage ≡ Taking) ⊎ (stage ≡ Ready)) where
  abbrev calls : List Call
  calls = calls_of round.batches

  abbrev old : World
  old = in_hand base stage round device accepted

  abbrev commands : Commands
  commands = accepted_of (zip (calls_of round.batches) given)

  abbrev told : Round
  told = record round { answers = given }

  abbrev new : World
  new = in_hand base (after_evaluation commands) told device (accepted ++ commands)

  -- the calls get their replies in order
  pub evaluates : {disk : DiskState} {t : State (List ℕ)} → s ≡ state_from base.params accepted → AreServed disk (calls_of round.batches) given s t → disk.honest
      → (IsDueFor old (calls_of round.batches) → ⊥) → AreLostWhereWanted s (zip (calls_of round.batches) given) → HasPlace old (event.Evaluates given)
  evaluates is served honest none wanted =
      let right : IsEvaluated base.is_broken old (calls_of round.batches) given =
      subst (λ b. IsEvaluated b old (calls_of round.batches) given) (sym whole) (inl (record {
        not_due = none;
        count = served.count;
        legal = subst (λ r. Legal r (zip (calls_of round.batches) given)) is (served.exact honest);
        only = served.only;
        wanted = subst (λ r. AreLostWhereWanted r (zip (calls_of round.batches) given)) is wanted;
      })) in
      (record round { stage = stage }, refl, (first, right))

  -- or all of them are refused
  pub evaluates_shut : AreShut old (calls_of round.batches) given → HasPlace old (event.Evaluates given)
  evaluates_shut shut =
      let right : IsEvaluated base.is_broken old (calls_of round.batches) given =
      subst (λ b. IsEvaluated b old (calls_of round.batches) given) (sym whole) (inr shut) in
      (record round { stage = stage }, refl, (first, right))

  evaluated_between : HasPlace old (event.Evaluates given) → Between old new
  evaluated_between may = between_one old (event.Evaluates given) tt may refl

  pub serve_walk : base.position ≡ length accepted → IsHeld old → IsLogged device.synced tail s → HasPlace old (event.Evaluates given)
      → Walks (IsPart base round.batches) old (log_calls tail.gate commands) (IsOver base told (accepted ++ commands))
  serve_walk counted held logs may =
      let between = evaluated_between may in
      walks_from (IsPart base round.batches) old new (log_calls tail.gate commands) (IsOver base told (accepted ++ commands)) between
      (by_commands commands (run_held old new (event.Evaluates given ∷ []) (new, inl (may, refl), refl) held))
    where
      by_commands : (some : Commands) → IsHeld (in_hand base (after_evaluation some) told device (accepted ++ some))
          → Walks (IsPart base round.batches) (in_hand base (after_evaluation some) told device (accepted ++ some)) (log_calls tail.gate some)
          (IsOver base told (accepted ++ some))
      by_commands [] now =
          let v : World = in_hand base Answering told device (accepted ++ []) in (
            v,
            between_none v,
            record {
              device = device;
              is = ap (λ n. record (in_hand base Answering told device (accepted ++ [])) { position = n })
                  (counted ∙ ap length (sym (append-nil accepted)));
            },
          )
      by_commands (command ∷ more) now =
          let v : World = in_hand base (Writing Body) told device (accepted ++ command ∷ more) in
          let same : round_commands v ≡ command ∷ more = drop_at accepted (command ∷ more) base.position (sym counted) in
          subst (λ l. Walks (IsPart base round.batches) v (append_calls tail.gate (body_of l)) (IsOver base told (accepted ++ command ∷ more))) same
          (subst (λ n. Walks (IsPart base round.batches) v (append_calls n (body_of (round_commands v))) (IsOver base told (accepted ++ command ∷ more))) (sym logs.ends.gate)
          (walks_to (IsPart base round.batches) v (append_calls (gate_of logs.x) (body_of (round_commands v))) (IsLaidDown base told (accepted ++ command ∷ more))
          (IsOver base told (accepted ++ command ∷ more)) (λ u laid. record { device = laid.device; is = laid.is })
          (appends_walk base told device (accepted ++ command ∷ more) logs.x now logs.stands)))
