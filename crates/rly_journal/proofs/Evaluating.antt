-- The evaluation of calls in order.
use Rattle.rly_journal.proofs.Common.{[], accepted_push, ap, append-nil, append_assoc, AreOutcomes, arith, Call, Commands, empty_group, fold, fold_push}
use Rattle.rly_journal.proofs.Common.{Geometry, GroupState, holds_command, holds_more, holds_none, if◌then◌else◌, IndexState, inl, inr, is_command, IsAlike}
use Rattle.rly_journal.proofs.Common.{IsDue, IsEvaluated, IsGrouping, IsOutcomeOf, IsTakenOrLeft, length, length-append, List, or_left, or_right, Outcome}
use Rattle.rly_journal.proofs.Common.{placed_group, placed_told, refl, segment_place, State, Stored, stored_length, sym, command_accepted, taken_of, true, zip, ℕ, ◌++◌}
use Rattle.rly_journal.proofs.Common.{◌+◌, ◌-◌, ◌∙◌, ◌∷◌, ◌≡◌, ◌≤◌}
use Rattle.std.proofs.lemmas.List.Folds.{list_any-append}
use Rattle.rly_journal.proofs.Redone.{alike_commands}

-- ---- one more call

zip_push : (call : Call) (outcome : Outcome) (calls : List Call) (outcomes : List Outcome) → length outcomes ≡ length calls
    → zip (calls ++ call ∷ []) (outcomes ++ outcome ∷ []) ≡ zip calls outcomes ++ (call, outcome) ∷ []
zip_push call outcome [] [] same = refl
zip_push call outcome (a ∷ calls) (b ∷ outcomes) same = ap (λ l. (a, b) ∷ l) (zip_push call outcome calls outcomes (omega (arith, same)))
zip_push call outcome _ _ same = absurd (omega (arith, same))

taken_push : (x : Call × Outcome) (xs : List (Call × Outcome)) → taken_of (xs ++ x ∷ []) ≡ taken_of xs ++ command_accepted x.0 x.1
taken_push x [] = append-nil (command_accepted x.0 x.1)
taken_push x (y ∷ xs) = let rest = taken_push x xs in grind (arith, append_assoc (command_accepted y.0 y.1) (taken_of xs) (command_accepted x.0 x.1))

outcomes_push : (g : Geometry) (gate : ℕ) (s : State Stored) (t : State (List ℕ)) (done : Commands) (x : Call × Outcome) (xs : List (Call × Outcome))
    → AreOutcomes g gate s t done xs
    → (let l : Commands = done ++ taken_of xs in IsOutcomeOf g x.0 x.1 (fold stored_length s (placed_group gate l)) (fold length t l))
    → AreOutcomes g gate s t done (xs ++ x ∷ [])
outcomes_push g gate s t done x [] all one = (rw (append-nil done) at one, tt)
outcomes_push g gate s t done x (y ∷ xs) all one =
    (all.0, outcomes_push g gate s t (done ++ command_accepted y.0 y.1) x xs all.1 (rw (append_assoc done (command_accepted y.0 y.1) (taken_of xs)) one))

-- the number of accepted commands: none for a query
pub few_taken : (calls : List Call) (outcomes : List Outcome)
    → (length (taken_of (zip calls outcomes)) ≤ length calls) × (1 ≤ length (taken_of (zip calls outcomes)) → holds_command calls ≡ true)
few_taken (call ∷ calls) (outcome ∷ outcomes) =
    let one : length (command_accepted call outcome) ≤ (if is_command call.ask then 1 else 0) = grind arith in
    let rest = few_taken calls outcomes in
    let both = length-append (command_accepted call outcome) (taken_of (zip calls outcomes)) in grind (arith, or_left, or_right)
few_taken _ _ = (omega arith, λ some. absurd (omega (arith, some)))

-- ---- the loop

-- a round after the evaluation of its first calls
pub record IsEvaluating (gate : ℕ) (old x : IndexState) (group : GroupState) (before now : Commands) (all rest : List Call) (outcomes : List Outcome)
    : Type 0 where
  pub served : List Call
  pub calls : all ≡ served ++ rest
  pub evaluated : IsEvaluated gate old x group before now served outcomes

pub evaluating_none : {gate : ℕ} {x : IndexState} {group : GroupState} {log : Commands} {all rest : List Call} {outcomes : List Outcome} → rest ≡ all
    → group ≡ empty_group x.geometry.params.payload → x.used ≡ gate → outcomes ≡ [] → IsEvaluating gate x x group log log all rest outcomes
evaluating_none {log = log} same empty used none =
    let kept = sym (append-nil log) in record { served = []; calls = sym same; evaluated = rw (none, empty) (search (inl, holds_none)) }

module _ {gate : ℕ} {old x : IndexState} {group : GroupState} {before now : Commands} {all rest more : List Call} {call : Call} {outcomes : List Outcome}
    (so_far : IsEvaluating gate old x group before now all rest outcomes) (cut : rest ≡ call ∷ more) where
  -- a command is one of the round's, and the group may take it
  pub evaluating_grouping : length all ≤ 64 → segment_place old.geometry old.segment ≤ gate
      → (holds_command all ≡ true → IsDue old.geometry (gate - segment_place old.geometry old.segment) → ⊥) → is_command call.ask ≡ true
      → IsGrouping gate x group
  evaluating_grouping few above ready is =
      let e = so_far.evaluated in
      let size = length-append so_far.served rest in
      let parts = list_any-append (λ (c : Call). is_command c.ask) so_far.served (call ∷ more) in
      let asks : holds_command all ≡ true = rw (so_far.calls, cut) (grind (arith, is, parts, or_left, or_right)) in
      search (arith, e, e.geometry, e.segment, (few_taken so_far.served outcomes).0, ap length so_far.calls, size, ap length cut, ready asks)

  -- the call was evaluated: it is one of the first
  module _ {y : IndexState} {new : GroupState} {after : Commands} (outcome : Outcome)
      (came : (t : State (List ℕ)) → IsAlike x.spool.state t → IsOutcomeOf x.geometry call outcome x.spool.state t)
      (done : IsTakenOrLeft gate call outcome x y group new now after) where
    abbrev commands : Commands
    commands = taken_of (zip so_far.served outcomes)

    abbrev taken : Commands
    taken = taken_of (zip (so_far.served ++ call ∷ []) (outcomes ++ outcome ∷ []))

    named : taken ≡ commands ++ command_accepted call outcome
    named = rw (zip_push call outcome so_far.served outcomes so_far.evaluated.count) (taken_push (call, outcome) (zip so_far.served outcomes))

    counts : length (outcomes ++ outcome ∷ []) ≡ length (so_far.served ++ call ∷ [])
    counts = omega (arith, so_far.evaluated.count, length-append so_far.served (call ∷ []), length-append outcomes (outcome ∷ []))

    each_push : (t : State (List ℕ)) → IsAlike old.spool.state t
        → AreOutcomes old.geometry gate old.spool.state t [] (zip (so_far.served ++ call ∷ []) (outcomes ++ outcome ∷ []))
    each_push t alike =
        let here : IsAlike x.spool.state (fold length t commands) = rw so_far.evaluated.state (alike_commands (gate + 7) commands old.spool.state t alike).0 in
        let one = rw (so_far.evaluated.geometry, so_far.evaluated.state) at (came (fold length t commands) here) in
        rw (zip_push call outcome so_far.served outcomes so_far.evaluated.count)
        (outcomes_push old.geometry gate old.spool.state t [] (call, outcome) (zip so_far.served outcomes) (so_far.evaluated.each t alike) one)

    evaluated_push : IsEvaluated gate old y new before after (so_far.served ++ call ∷ []) (outcomes ++ outcome ∷ [])
    evaluated_push =
        let e = so_far.evaluated in elim done [
          | inl some ↦
              let took = some.2 in
              let is : taken ≡ commands ++ some.0 ∷ [] = rw some.1 at named in
              let row = placed_told gate commands some.0 group e.holds in
              let accepts = rw e.state at took.accepted in
              let counted : 1 ≤ new.count = omega (arith, ap (λ (g : GroupState). g.count) took.group) in
              let log : after ≡ before ++ taken = grind (arith, is, took.log, e.log, append_assoc before commands (some.0 ∷ [])) in
              search (arith, counts, each_push, is, row, took, took.group, took.state, e, e.state, holds_more, accepted_push, fold_push {P = Stored}, inr)
          | inr left ↦
              let same = left.1 in
              let is : taken ≡ commands = rw (named, left.0) (append-nil commands) in
              search (arith, counts, each_push, e, is, same.state, same.group, same.at.geometry, same.at.segment, same.at.used, same.log)
        ]

    pub evaluating_next : {next : List Outcome} → next ≡ outcomes ++ outcome ∷ [] → IsEvaluating gate old y new before after all more next
    evaluating_next pushed =
        let calls = so_far.calls ∙ ap (λ l. so_far.served ++ l) cut ∙ sym (append_assoc so_far.served (call ∷ []) more) in
        let evaluated = rw (← pushed) at evaluated_push in search
