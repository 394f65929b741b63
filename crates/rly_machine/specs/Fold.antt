-- Runs of commands.
use Rattle.std.specs.Prelude.{ℕ, List, [], ◌∷◌, IsTrue}
use Rattle.rly_machine.specs.declared.command.Command.{Command}
use Rattle.rly_machine.specs.State.{State}
use Rattle.rly_machine.specs.Accepted.{is_accepted}
use Rattle.rly_machine.specs.Step.{step}

-- the state after a list of commands
abbrev pub fold : {P : Type 0} → (P → ℕ) → State P → List (Command P) → State P
fold len s [] = s
fold len s (command ∷ commands) = fold len (step len s command).0 commands

-- each command of a list is accepted in the state that those before it left
abbrev pub AllAccepted : {P : Type 0} → (P → ℕ) → State P → List (Command P) → Type 0
AllAccepted len s [] = Unit {0}
AllAccepted len s (command ∷ commands) =
    IsTrue (is_accepted (step len s command).1) × AllAccepted len (step len s command).0 commands
