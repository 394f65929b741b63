-- Helpers of private functions: a command under construction.
use Rattle.std.specs.Prelude.{◌≡◌, IfOk, Result}
use Rattle.std.specs.declared.alloc.AllocError.{AllocError}
use Rattle.clap.specs.Words.{App, app_of}
use Rattle.clap.specs.declared.builder.command.Command.{Command}

-- if there was memory, the command is that of the app
abbrev pub IsBuilt : App → Result Command AllocError → Type 0
IsBuilt app built = IfOk built (λ command. app_of command ≡ app)
