use Rattle.std.proofs.Common.{◌∙◌}
use Rattle.clap.specs.Words.{found_of}
use Rattle.clap.proofs.WalkLemmas.{one_text-rows}
use Rattle.rly_daemon_args.proofs.command_line.has_flag.Goals as goal

pub returns : goal.returns
returns c =
    let same = one_text-rows (found_of c.args.options.now) c.args.name.now in
    record {
      given = λ there. c.get_flag.ensures.value (same ∙ there);
      left_out = λ there. c.get_flag.ensures.other (same ∙ there);
    }
