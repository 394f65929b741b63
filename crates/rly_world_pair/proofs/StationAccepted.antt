-- The accepted commands among those that an end has recorded.
use Rattle.std.proofs.Common.{ℕ, zero, suc, ◌≡◌, ◌≤◌, List, [], ◌∷◌, ◌++◌, length, take, drop, true, false, refl, arith, sym, ◌∙◌, ap, subst}
use Rattle.std.specs.Prelude.{if◌then◌else◌}
use Rattle.std.proofs.lemmas.Bool.{cond-true}
use Rattle.std.proofs.lemmas.List.{append-nil, length-take-le, take-append-drop}
use Rattle.rly_core.specs.declared.params.Params.{Params}
use Rattle.rly_machine.specs.declared.command.Ask.{Ask}
use Rattle.rly_machine.specs.declared.command.Ask.TheVariants as ask
use Rattle.rly_machine.specs.declared.command.Command.{Command}
use Rattle.rly_machine.specs.Accepted.{is_accepted}
use Rattle.rly_machine.specs.Ask.{ask_step}
use Rattle.rly_machine.specs.Fold.{AllAccepted, fold}
use Rattle.rly_machine.specs.History.{accepted_by}
use Rattle.rly_machine.specs.State.{State, new_state}
use Rattle.rly_machine.specs.Step.{step}
use Rattle.rly_machine.proofs.Folding.{accepted_append, accepted_parts, fold_append, seq_fold}
use Rattle.rly_machine.proofs.RealReplies.{unaccepted}
use Rattle.rly_world_pair.specs.HelpersStation.{Commands, accepted_in, command_of, accepted_prefix, state_at}

-- if each is accepted, all are recovered
pub standing_all : (s : State (List ℕ)) (commands : Commands) → AllAccepted length s commands → accepted_prefix s commands ≡ commands
standing_all s [] all = refl
standing_all s (x ∷ xs) all =
    cond-true (is_accepted (step length s x).1) (x ∷ accepted_prefix (step length s x).0 xs) [] all.0
    ∙ ap (λ (l : Commands). x ∷ l) (standing_all (step length s x).0 xs all.1)

-- one more after them is recovered if it is accepted
pub standing_push : (s : State (List ℕ)) (commands : Commands) (command : Command (List ℕ)) → AllAccepted length s commands
    → accepted_prefix s (commands ++ command ∷ []) ≡ commands ++ (if is_accepted (step length (fold length s commands) command).1 then command ∷ [] else [])
standing_push s [] command all = refl
standing_push s (x ∷ xs) command all =
    cond-true (is_accepted (step length s x).1) (x ∷ accepted_prefix (step length s x).0 (xs ++ command ∷ [])) [] all.0
    ∙ ap (λ (l : Commands). x ∷ l) (standing_push (step length s x).0 xs command all.1)

-- the recovered ones come first
pub standing_take : (s : State (List ℕ)) (commands : Commands) (n : ℕ) → n ≤ length (accepted_prefix s commands) → take n commands ≡ take n (accepted_prefix s commands)
standing_take s commands zero within = refl
standing_take s [] (suc n) within = refl
standing_take s (x ∷ xs) (suc n) within =
    elim (is_accepted (step length s x).1)
    as (λ b. suc n ≤ length (if b then x ∷ accepted_prefix (step length s x).0 xs else []) → take (suc n) (x ∷ xs) ≡ take (suc n) (if b then x ∷ accepted_prefix (step length s x).0 xs else [])) [
      | true ↦ λ h. ap (λ (l : Commands). x ∷ l) (standing_take (step length s x).0 xs n (omega (arith, h)))
      | false ↦ λ h. absurd (omega (arith, h))
    ] within

-- each of them is accepted
pub standing_accepted : (s : State (List ℕ)) (commands : Commands) → AllAccepted length s (accepted_prefix s commands)
standing_accepted s [] = tt
standing_accepted s (x ∷ xs) =
    elim (is_accepted (step length s x).1)
    as (λ b. is_accepted (step length s x).1 ≡ b → AllAccepted length s (if b then x ∷ accepted_prefix (step length s x).0 xs else [])) [
      | true ↦ λ is. (is, standing_accepted (step length s x).0 xs)
      | false ↦ λ is. tt
    ] refl

pub accepted_take : (s : State (List ℕ)) (commands : Commands) (n : ℕ) → AllAccepted length s commands → AllAccepted length s (take n commands)
accepted_take s commands n all =
    (accepted_parts length s (take n commands) (drop n commands) (subst (AllAccepted length s) (sym (take-append-drop n commands)) all)).0

-- the state after a request was made, accepted or not
pub made_state : (s : State (List ℕ)) (an : Ask) → fold length s (accepted_by an (ask_step s an).1) ≡ (ask_step s an).0
made_state s (ask.Query query) = refl
made_state s (ask.Command c) =
    elim (is_accepted (step length s c).1) as (λ b. is_accepted (step length s c).1 ≡ b → fold length s (if b then c ∷ [] else []) ≡ (step length s c).0) [
      | true ↦ λ is. refl
      | false ↦ λ is. sym (unaccepted length s c is)
    ] refl

pub made_accepted : (s : State (List ℕ)) (an : Ask) → AllAccepted length s (accepted_by an (ask_step s an).1)
made_accepted s (ask.Query query) = tt
made_accepted s (ask.Command c) =
    elim (is_accepted (step length s c).1) as (λ b. is_accepted (step length s c).1 ≡ b → AllAccepted length s (if b then c ∷ [] else [])) [
      | true ↦ λ is. (is, tt)
      | false ↦ λ is. tt
    ] refl

-- all commands are accepted, and those of a call that was made after them
pub all_made : (s : State (List ℕ)) (commands : Commands) (an : Ask) → AllAccepted length s commands
    → AllAccepted length s (commands ++ accepted_by an (ask_step (fold length s commands) an).1)
all_made s commands an all = accepted_append length s commands (accepted_by an (ask_step (fold length s commands) an).1) all (made_accepted (fold length s commands) an)

pub state_made : (s : State (List ℕ)) (commands : Commands) (an : Ask)
    → fold length s (commands ++ accepted_by an (ask_step (fold length s commands) an).1) ≡ (ask_step (fold length s commands) an).0
state_made s commands an = fold_append length s commands (accepted_by an (ask_step (fold length s commands) an).1) ∙ made_state (fold length s commands) an

-- the command of a call after them is recovered if it is accepted
pub standing_made : (s : State (List ℕ)) (commands : Commands) (an : Ask) → AllAccepted length s commands
    → accepted_prefix s (commands ++ command_of an) ≡ commands ++ accepted_by an (ask_step (fold length s commands) an).1
standing_made s commands (ask.Command c) all = standing_push s commands c all
standing_made s commands (ask.Query query) all =
    ap (accepted_prefix s) (append-nil commands) ∙ standing_all s commands all ∙ sym (append-nil commands)

-- the state after a number of the accepted commands has that number
pub seq_at : (params : Params) (commands : Commands) (kept : ℕ) → kept ≤ length (accepted_in params commands) → (state_at params commands kept).seq ≡ kept
seq_at params commands kept within =
    let all : Commands = accepted_in params commands in
    let count = seq_fold length (new_state params) (take kept all) (accepted_take (new_state params) all kept (standing_accepted (new_state params) commands)) in
    omega (arith, count, length-take-le kept all within)
