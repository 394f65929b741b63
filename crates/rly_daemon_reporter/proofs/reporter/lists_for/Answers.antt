use Rattle.std.proofs.Common.{◌∙◌, ap, length}
use Rattle.std.proofs.lemmas.List.FromFn.{length-map-range_with_len}
use Rattle.rly_daemon_report.specs.Hops.{show_ask}
use Rattle.rly_daemon_reporter.proofs.reporter.lists_for.Goals as goal

pub returns-clause-count : goal.returns-clause-count
returns-clause-count c = ap length c.in_ok-asks.ensures ∙ length-map-range_with_len show_ask 1 (length c.args.plan.now.hops)
