-- Properties of whole runs of commands.
use Rattle.std.proofs.Common.{ℕ, ◌≡◌, List, [], ◌∷◌, Option, Some, None, refl}
use Rattle.rly_core.specs.Limits.{IsWithinLimits}
use Rattle.rly_core.specs.declared.params.Params.{Params}
use Rattle.rly_machine.specs.declared.command.Command.{Command}
use Rattle.rly_machine.specs.declared.command.Command.TheVariants.{Take, Pick, Release}
use Rattle.rly_machine.specs.declared.reply.Reply.{Reply}
use Rattle.rly_machine.specs.State.{State, new_state}
use Rattle.rly_machine.specs.Accepted.{unless}
use Rattle.rly_machine.specs.Pick.{pick_refusal}
use Rattle.rly_machine.specs.Release.{release_refusal}
use Rattle.rly_machine.specs.Take.{take_refusal}
use Rattle.rly_machine.specs.Step.{step}
use Rattle.rly_machine.specs.Fold.{fold}
use Rattle.rly_machine.specs.Sound.{IsSound}
use Rattle.rly_machine.proofs.Refusals.{may_take, may_pick, may_release}
use Rattle.rly_machine.proofs.Soundness.{sound_take, sound_release}
use Rattle.rly_machine.proofs.Picking.{sound_pick}
use Rattle.rly_machine.proofs.Keeping.{sound_new}

-- a step is sound if an accepted command is
pub sound_unless : {P : Type 0} (len : P → ℕ) (refusal : Option Reply) (s : State P) (accepted : State P × Reply)
    → IsSound len s → (refusal ≡ None → IsSound len accepted.0) → IsSound len (unless refusal s accepted).0
sound_unless len None s accepted sound then = then refl
sound_unless len (Some reply) s accepted sound then = sound

-- each step keeps a spool sound
pub sound_step : {P : Type 0} (len : P → ℕ) (s : State P) (command : Command P) → IsSound len s → IsSound len (step len s command).0
sound_step len s (Take peer number hop stamp limit payload) sound =
    sound_unless len (take_refusal len s peer number hop stamp limit (len payload)) s _ sound
    (λ none. sound_take len s peer number hop stamp limit payload sound (may_take len s peer number hop stamp limit (len payload) none))
sound_step len s (Pick hop now) sound =
    sound_unless len (pick_refusal s hop now) s _ sound (λ none. sound_pick len s hop now sound (may_pick s hop now none))
sound_step len s (Release hop number) sound =
    sound_unless len (release_refusal s hop number) s _ sound
    (λ none. sound_release len s hop number sound (may_release s hop number none))

-- and so does each list of commands
pub sound_fold : {P : Type 0} (len : P → ℕ) (s : State P) (commands : List (Command P)) → IsSound len s → IsSound len (fold len s commands)
sound_fold len s [] sound = sound
sound_fold len s (command ∷ commands) sound = sound_fold len (step len s command).0 commands (sound_step len s command sound)

-- from a new spool on
pub sound_from_new : {P : Type 0} (len : P → ℕ) (params : Params) (commands : List (Command P)) → IsWithinLimits params → IsSound len (fold len (new_state params) commands)
sound_from_new len params commands within = sound_fold len (new_state params) commands (sound_new len params within)
