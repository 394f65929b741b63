-- Helpers of private functions.
use Rattle.std.specs.Prelude.{⊤, Err, Ok, Result}
use Rattle.rly_daemon_commands.specs.declared.command_fault.CommandFault.{CommandFault}
use Rattle.rly_daemon.specs.declared.program_fault.ProgramFault.{ProgramFault}
use Rattle.rly_daemon.specs.declared.program_fault.ProgramFault.TheVariants.{Command}
use Rattle.rly_daemon_args.specs.declared.given.SettingsFault.{SettingsFault}
use Rattle.rly_daemon_args.specs.declared.given.SettingsFault.TheVariants.{Asked}

-- a command line gave no settings because it asks for help or the version
abbrev pub WasAsked : SettingsFault → Type 0
WasAsked (Asked text) = ⊤
WasAsked _ = ⊥

-- the outcome of a command as one of the program
abbrev pub as_command : {A : Type 0} → Result A CommandFault → Result A ProgramFault
as_command (Ok value) = Ok value
as_command (Err fault) = Err (Command fault)
