use Rattle.std.proofs.Common.{ap, ◌∙◌, []}
use Rattle.std.specs.Prelude.{unwrap_or}
use Rattle.clap.specs.Words.{found_of}
use Rattle.clap.proofs.WalkLemmas.{first_value-rows}
use Rattle.rly_daemon_args.proofs.Readings.{default_mapped}
use Rattle.rly_daemon_args.proofs.command_line.path_of.Goals as goal

pub returns : goal.returns
returns c = ap (λ s. s.now) c.unwrap_or.ensures ∙ default_mapped (λ s. s.now) c.get_str.result _ ∙ ap (λ o. unwrap_or o []) (c.get_str.ensures ∙ first_value-rows (found_of c.args.options.now) c.args.name.now)
