-- A command line that gave no settings, and was not bad, asks for help or the version.
use Rattle.rly_daemon.specs.Helpers.{WasAsked}
use Rattle.rly_daemon_args.specs.CommandLine.{AsksHelp, IsTrueFault}
use Rattle.rly_daemon_args.specs.declared.given.SettingsFault.{SettingsFault}
use Rattle.rly_daemon_args.specs.declared.given.SettingsFault.TheVariants.{Asked, CommandLine, OutOfMemory}

pub asks_help : (words : _) (fault : SettingsFault) → IsTrueFault words fault → WasAsked fault → AsksHelp words
asks_help words OutOfMemory told asked = absurd asked
asks_help words (Asked text) told asked = told
asks_help words (CommandLine text) told asked = absurd asked
