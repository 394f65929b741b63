use Rattle.std.proofs.Common.{◌∙◌, ap}
use Rattle.std.specs.Prelude.{is_some}
use Rattle.clap.specs.Words.{found_of}
use Rattle.clap.proofs.WalkLemmas.{first_value-rows}
use Rattle.rly_daemon_args.proofs.Readings.{is_some_mapped}
use Rattle.rly_daemon_args.proofs.command_line.is_given.Goals as goal

pub returns : goal.returns
returns c = c.is_some.ensures ∙ is_some_mapped (λ s. s.now) c.get_str.result ∙ ap is_some (c.get_str.ensures ∙ first_value-rows (found_of c.args.options.now) c.args.name.now)
