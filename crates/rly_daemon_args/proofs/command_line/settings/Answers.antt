use Rattle.std.specs.Prelude.{map}
use Rattle.std.proofs.lemmas.Result.{err_from_is_err_and}
use Rattle.rly_daemon_args.proofs.Readings.{settings_found, taken, true_fault}
use Rattle.rly_daemon_args.proofs.command_line.settings.Goals as goal

pub returns-in_err-matches-clause-told : goal.returns-in_err-matches-clause-told
returns-in_err-matches-clause-told c =
    let p = err_from_is_err_and c.from_residual-in_err-matches.result c.from_residual-in_err-matches.ensures.1 in
    rw p.1 (true_fault c.in_ok-command.command (map (λ s. s.now) c.args.words.now) _ p.0 c.in_err-matches.ensures.kinds c.in_ok-command.ensures p.2)

pub returns-in-Some-clause-asked : goal.returns-in-Some-clause-asked
returns-in-Some-clause-asked c =
    settings_found c.in_ok-command.command c.in_ok-matches.matches (map (λ s. s.now) c.args.words.now) c.in-Some.settings
    c.in_ok-matches.ensures.ok.2 c.in_ok-command.ensures c.in-Some.ensures

pub returns-in-Some-clause-right : goal.returns-in-Some-clause-right
returns-in-Some-clause-right c =
    taken c.in_ok-command.command c.in_ok-matches.matches (map (λ s. s.now) c.args.words.now) c.in_ok-matches.ensures.kinds c.in_ok-command.ensures
