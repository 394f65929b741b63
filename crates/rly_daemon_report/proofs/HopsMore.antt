-- One hop more.
use Rattle.std.proofs.Common.{◌≡◌, ◌∙◌, ℕ, ◌+◌, ◌-◌, ◌<◌, List, [], ◌∷◌, ◌++◌, ap, arith, length, subst, sym, take}
use Rattle.std.specs.Prelude.{get_or}
use Rattle.std.proofs.lemmas.List.{append-nil, append_assoc, length-take-le, take_more}
use Rattle.rly_machine.specs.declared.call.Answer.{Answer}
use Rattle.rly_plan.specs.ContactPlan.{ContactPlan}
use Rattle.rly_daemon_report.specs.declared.report.HopReport.{HopReport}
use Rattle.rly_daemon_report.specs.CountedReport.{hop_if, hops_from, hop_reports, link_at, status_in_reply}
use Rattle.rly_daemon_report.specs.declared.link_counts.LinkReport.{LinkReport}

-- the report of the hop with this id
abbrev hop_at : ContactPlan → ℕ → List LinkReport → Answer → ℕ → List HopReport
hop_at plan moment links answer id = hop_if plan moment (link_at links (id - 1)) id (status_in_reply answer.reply)

hops_more : (plan : ContactPlan) (moment : ℕ) (links : List LinkReport) (id last : ℕ) (answers : List Answer) (answer : Answer) → last ≡ id + length answers
    → hops_from plan moment links id (answers ++ answer ∷ []) ≡ hops_from plan moment links id answers ++ hop_at plan moment links answer last
hops_more plan moment links id last [] answer is =
    let e : id ≡ last = omega (arith, is) in
    append-nil (hop_at plan moment links answer id) ∙ ap (hop_at plan moment links answer) e
hops_more plan moment links id last (first ∷ answers) answer is =
    let e : last ≡ id + 1 + length answers = omega (arith, is) in
    ap (λ hops. hop_at plan moment links first id ++ hops) (hops_more plan moment links (id + 1) last answers answer e)
    ∙ sym (append_assoc (hop_at plan moment links first id) (hops_from plan moment links (id + 1) answers) (hop_at plan moment links answer last))

-- the hops up to one more place
pub hops_next : (plan : ContactPlan) (moment : ℕ) (links : List LinkReport) (answers : List Answer) (i : ℕ) (d : Answer) → i < length answers
    → hop_reports plan moment links (take (i + 1) answers)
    ≡ hop_reports plan moment links (take i answers) ++ hop_if plan moment (link_at links i) (i + 1) (status_in_reply (get_or answers i d).reply)
hops_next plan moment links answers i d within =
    let long : length (take i answers) ≡ i = length-take-le i answers (omega (arith, within)) in
    let place : i + 1 - 1 ≡ i = omega arith in
    let last = get_or answers i d in
    subst (λ p. hop_reports plan moment links (take (i + 1) answers) ≡ hop_reports plan moment links (take i answers) ++ hop_if plan moment (link_at links p) (i + 1) (status_in_reply last.reply))
    place (ap (hop_reports plan moment links) (take_more answers i d within) ∙ hops_more plan moment links 1 (i + 1) (take i answers) last (omega (arith, long)))
