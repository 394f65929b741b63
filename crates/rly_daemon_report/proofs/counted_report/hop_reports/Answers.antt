use Rattle.std.proofs.Common.{◌∙◌, ◌+◌, ◌++◌, ap, rules, sym}
use Rattle.std.specs.Prelude.{get_or}
use Rattle.rly_daemon_report.specs.CountedReport.{hop_if, link_at, status_in_reply}
use Rattle.rly_daemon_report.proofs.HopsMore.{hops_next}
use Rattle.rly_daemon_report.proofs.counted_report.hop_reports.Goals as goal

pub loop-index-preserved : goal.loop-index-preserved
loop-index-preserved c =
    let i = c.loop-index.index in
    let answer = c.index-answers-index.result in
    let next = hops_next c.args.plan.now c.args.moment c.args.links.now c.args.answers.now i answer (search rules) in
    c.in_ok-add_hop.ensures ∙ ap (λ hops. hops ++ hop_if c.args.plan.now c.args.moment (link_at c.args.links.now i) (i + 1) (status_in_reply (get_or c.args.answers.now i answer).reply)) c.loop-index.invariant ∙ sym next
