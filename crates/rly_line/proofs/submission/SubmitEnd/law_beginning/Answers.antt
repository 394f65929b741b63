use Rattle.std.proofs.Common.{◌≡◌, ◌∙◌, ◌++◌, List, ap, subst}
use Rattle.crossbeam_channel.specs.Claims.{view}
use Rattle.rly_line.specs.declared.submission.LineView.{LineView}
use Rattle.rly_machine.specs.declared.call.Call.{Call}
use Rattle.rly_line.specs.Batches.{calls_in_line}
use Rattle.rly_line.specs.HelpersEnds.{Putter, merged_view}
use Rattle.rly_line.specs.Submission.{IsBeginning, calls_of}
use Rattle.rly_line.proofs.Submitting.{beginning, learns, merges, parts}
use Rattle.rly_line.proofs.submission.SubmitEnd.law_beginning.Goals as goal

pub absorb-requires-clause-rule : goal.absorb-requires-clause-rule
absorb-requires-clause-rule c = merges _ _ _ _ c.requires.takes.0 c.self.invariant.1

pub learn_as-requires-clause-rule : goal.learn_as-requires-clause-rule
learn_as-requires-clause-rule c =
    learns _ _ (ap (λ (v : LineView). v.takes) c.absorb.ensures.rule ∙ c.requires.takes.0) (ap (λ (v : LineView). v.puts) c.absorb.ensures.rule)

pub another-pass-requires-clause-rule : goal.another-pass-requires-clause-rule
another-pass-requires-clause-rule c =
    let same = c.learn_as.ensures.channel.2 ∙ c.absorb.ensures.rule in
    parts _ _ (ap (λ (v : LineView). v.takes) same ∙ c.requires.takes.0) (ap (λ (v : LineView). v.puts) same)

pub returns-clause-begins : goal.returns-clause-begins
returns-clause-begins c =
    let items : List Call = calls_in_line c.learn_as.ensures.rule.0 in
    let said = c.learn_as.ensures.rule.1 in
    let both : LineView = merged_view (view c.args.taker.now) (view c.self.inside.pass) in
    let told : calls_of both.seat (both.taken ++ items) ≡ both.put =
    subst (λ (v : LineView). calls_of v.seat (v.taken ++ items) ≡ v.put) c.absorb.ensures.rule said in
    subst (λ (y : Putter). IsBeginning y.seat both.taken y.put) c.self.view_is
    (calls_of both.seat items, beginning both.seat both.taken items both.put told)
