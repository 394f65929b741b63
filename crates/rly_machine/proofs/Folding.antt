-- Lists of commands in order, and the part of the state that a step never changes.
use Rattle.std.proofs.Common.{ℕ, ◌≡◌, ◌+◌, List, [], ◌∷◌, ◌++◌, length, Option, Some, None, refl, arith, ◌∙◌}
use Rattle.std.specs.Prelude.{IsTrue}
use Rattle.rly_machine.specs.declared.command.Command.{Command}
use Rattle.rly_machine.specs.declared.command.Command.TheVariants.{Take, Pick, Release}
use Rattle.rly_machine.specs.declared.reply.Reply.{Reply}
use Rattle.rly_machine.specs.State.{State}
use Rattle.rly_machine.specs.Step.{step}
use Rattle.rly_machine.specs.Accepted.{is_accepted, unless}
use Rattle.rly_machine.specs.Fold.{fold, AllAccepted}
use Rattle.rly_machine.specs.Pick.{pick_refusal}
use Rattle.rly_machine.specs.Release.{release_refusal}
use Rattle.rly_machine.specs.Take.{take_refusal}
use Rattle.rly_machine.proofs.RealReplies.{counted}

-- one list after another
pub fold_append : {P : Type 0} (len : P → ℕ) (s : State P) (front back : List (Command P))
    → fold len s (front ++ back) ≡ fold len (fold len s front) back
fold_append len s [] back = refl
fold_append len s (command ∷ front) back = fold_append len (step len s command).0 front back

-- one command after a list
pub fold_push : {P : Type 0} (len : P → ℕ) (s : State P) (front : List (Command P)) (command : Command P)
    → fold len s (front ++ command ∷ []) ≡ (step len (fold len s front) command).0
fold_push len s front command = fold_append len s front (command ∷ [])

-- each command of both lists is accepted
pub accepted_append : {P : Type 0} (len : P → ℕ) (s : State P) (front back : List (Command P))
    → AllAccepted len s front → AllAccepted len (fold len s front) back → AllAccepted len s (front ++ back)
accepted_append len s [] back all more = more
accepted_append len s (command ∷ front) back all more = (all.0, accepted_append len (step len s command).0 front back all.1 more)

pub accepted_push : {P : Type 0} (len : P → ℕ) (s : State P) (front : List (Command P)) (command : Command P)
    → AllAccepted len s front → IsTrue (is_accepted (step len (fold len s front) command).1) → AllAccepted len s (front ++ command ∷ [])
accepted_push len s front command all one = accepted_append len s front (command ∷ []) all (one, tt)

pub accepted_parts : {P : Type 0} (len : P → ℕ) (s : State P) (front back : List (Command P))
    → AllAccepted len s (front ++ back) → AllAccepted len s front × AllAccepted len (fold len s front) back
accepted_parts len s [] back all = (tt, all)
accepted_parts len s (command ∷ front) back all =
    let parts = accepted_parts len (step len s command).0 front back all.1 in
    ((all.0, parts.0), parts.1)

-- a step by its list of checks
same_unless : {P X : Type 0} (part : State P → X) (refusal : Option Reply) (s : State P) (accepted : State P × Reply)
    → part accepted.0 ≡ part s → part (unless refusal s accepted).0 ≡ part s
same_unless part (Some reply) s accepted same = refl
same_unless part None s accepted same = same

-- accepted commands are counted
pub seq_fold : {P : Type 0} (len : P → ℕ) (s : State P) (commands : List (Command P))
    → AllAccepted len s commands → (fold len s commands).seq ≡ s.seq + length commands
seq_fold len s [] all = omega arith
seq_fold len s (command ∷ commands) all =
    let one = counted len s command all.0 in
    let others = seq_fold len (step len s command).0 commands all.1 in
    omega (arith, one, others)

-- no command changes the parameters
pub params_step : {P : Type 0} (len : P → ℕ) (s : State P) (command : Command P) → (step len s command).0.params ≡ s.params
params_step len s (Take peer number hop stamp limit payload) = same_unless (λ s. s.params) (take_refusal len s peer number hop stamp limit (len payload)) s _ refl
params_step len s (Pick hop now) = same_unless (λ s. s.params) (pick_refusal s hop now) s _ refl
params_step len s (Release hop number) = same_unless (λ s. s.params) (release_refusal s hop number) s _ refl

pub params_fold : {P : Type 0} (len : P → ℕ) (s : State P) (commands : List (Command P)) → (fold len s commands).params ≡ s.params
params_fold len s [] = refl
params_fold len s (command ∷ commands) = params_fold len (step len s command).0 commands ∙ params_step len s command
