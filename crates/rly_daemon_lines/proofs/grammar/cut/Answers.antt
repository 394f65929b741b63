use Rattle.std.proofs.Common.{sym, ◌+◌}
use Rattle.std.proofs.lemmas.List.{take_rest}
use Rattle.rly_daemon_lines.proofs.Cuts.{cut_none, cut_some}
use Rattle.rly_daemon_lines.proofs.grammar.cut.Goals as goal

pub returns-in_err-at : goal.returns-in_err-at
returns-in_err-at c = rw c.from_residual.ensures (cut_none _ c.args.text.now (sym c.in_err-at.ensures.place))

pub returns : goal.returns
returns c = rw (take_rest c.args.text.now (c.in_ok-at.at + 1)) (cut_some _ c.args.text.now c.in_ok-at.at (sym c.in_ok-at.ensures.place))
