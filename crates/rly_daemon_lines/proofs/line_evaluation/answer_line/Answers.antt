use Rattle.std.proofs.Common.{string_bytes}
use Rattle.rly_daemon_lines.proofs.Outflows.{left_alone}
use Rattle.rly_daemon_lines.proofs.line_evaluation.answer_line.Goals as goal

pub returns-in_err-ask-clause-left : goal.returns-in_err-ask-clause-left
returns-in_err-ask-clause-left c = left_alone (string_bytes c.args.text.now) c.from_residual.result
