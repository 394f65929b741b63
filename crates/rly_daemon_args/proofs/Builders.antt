-- The changes of a command by its builders, as a parse reads them. Each lemma is over two commands, so that no
-- proof writes out the fields of one.
use Rattle.std.proofs.Common.{◌≡◌, ℕ, List, true, Some, ap}
use Rattle.std.specs.Borrow.{Bor}
use Rattle.clap.specs.Simple.{app_of_fields}
use Rattle.clap.specs.Words.{App, app_of}
use Rattle.clap.specs.declared.builder.command.Command.{Command}
use Rattle.clap.specs.declared.builder.command.Command.TheViews.{out-Command}

abbrev pub with_version : App → App
with_version a = record a { top = record a.top { has_version = true } }

abbrev pub with_required : App → App
with_required a = record a { top = record a.top { subcommand_required = true } }

abbrev pub with_help : App → App
with_help a = record a { top = record a.top { arg_required_else_help = true } }

pub about_told : (old new : Command) (text : Bor (List ℕ)) → out-Command new ≡ record (out-Command old) { about = Some text } → app_of new ≡ app_of old
about_told old new text set = ap app_of_fields set

pub help_told : (old new : Command) (text : Bor (List ℕ)) → out-Command new ≡ record (out-Command old) { after_help = Some text } → app_of new ≡ app_of old
help_told old new text set = ap app_of_fields set

pub version_told : (old new : Command) (text : Bor (List ℕ)) → out-Command new ≡ record (out-Command old) { version = Some text } → app_of new ≡ with_version (app_of old)
version_told old new text set = ap app_of_fields set

pub command_wanted : (old new : Command) → out-Command new ≡ record (out-Command old) { subcommand_required = true } → app_of new ≡ with_required (app_of old)
command_wanted old new set = ap app_of_fields set

pub words_wanted : (old new : Command) → out-Command new ≡ record (out-Command old) { arg_required_else_help = true } → app_of new ≡ with_help (app_of old)
words_wanted old new set = ap app_of_fields set
