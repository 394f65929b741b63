use Rattle.std.proofs.Common.{Bool, Option, inl, inr, ◌∙◌, ap, refl, subst, sym}
use Rattle.std.proofs.lemmas.Bool.{false≢true}
use Rattle.rly_line.specs.Batches.{BatchView}
use Rattle.rly_flush.specs.FlusherHistory.{FlusherState, IsContinued, IsServed}
use Rattle.rly_flush.proofs.Serving.{continued_first, continued_next, first_may, may_follow}
use Rattle.rly_flush.specs.RoundWatch.{HasWatched}
use Rattle.rly_flush.proofs.Watching.{watched_first, watched_next}
use Rattle.rly_flush.proofs.flusher.Flusher.serve.Goals.{in-None, in-Some+then-not-round, then-not-round-via-then-not-round, then-not-round-via-else-not-round+then-has_ended}
use Rattle.rly_flush.proofs.flusher.Flusher.serve.Goals as goal

pub loop-count-init : goal.loop-count-init
loop-count-init g c = (continued_first g.D.Disk.state g.met.D.Disk.consistent c.args.self c.law_history.ensures, first_may g.D.Disk.state g.met.D.Disk.consistent c.args.self c.law_history.ensures, watched_first (g.W.RoundWatch.shown c.args.watch.now) c.args.self)

pub loop-count-preserved : goal.loop-count-preserved
loop-count-preserved g c =
    let so_far = continued_next g.D.Disk.state g.met.D.Disk.consistent c.args.self c.loop-count.flusher c.round.new.self c.loop-count.invariant.0 c.loop-count.invariant.1 c.round.result
    c.round.ensures.took c.round.ensures.first c.round.ensures.of c.round.ensures.start c.round.ensures.names c.round.ensures.history c.round.ensures.failures c.round.ensures.later c.round.ensures.any_moment in (
      so_far,
      may_follow c.round.new.self so_far.rounds (λ broke none. absurd (false≢true (sym c.if-has_ended.false ∙ c.has_ended.ensures.1 (broke, none)))),
      watched_next g.W.RoundWatch.shown _ _ _ _ _ _ _ _ c.round.ensures.took c.round.ensures.watched c.loop-count.invariant.2,
    )

pub returns-clause-ends : goal.returns-clause-ends
returns-clause-ends g c =
    let kept : FlusherState g.row.D.Denot → Option BatchView = λ f. f.kept in
    let over : FlusherState g.row.D.Denot → Bool = λ f. f.line.over in
    let broken : FlusherState g.row.D.Denot → Bool = λ f. f.journal.broken in
    subst (IsServed g.D.Disk.state c.args.self) (sym c.into_finished.ensures.last) (record {
      rounds =
          (elim c.match-next.branch [
            | in-None w ↦ absurd (false≢true w.in-None.ensures.steps)
            | in-Some+then-not-round w ↦
                subst (IsContinued g.D.Disk.state c.args.self) (sym w.flusher-is)
                (continued_next g.D.Disk.state g.met.D.Disk.consistent c.args.self c.loop-count.flusher w.round.new.self c.loop-count.invariant.0 c.loop-count.invariant.1 w.round.result
                w.round.ensures.took w.round.ensures.first w.round.ensures.of w.round.ensures.start w.round.ensures.names w.round.ensures.history w.round.ensures.failures w.round.ensures.later w.round.ensures.any_moment)
          ]);
      none_kept =
          (elim c.match-next.branch [
            | in-None w ↦ absurd (false≢true w.in-None.ensures.steps)
            | in-Some+then-not-round w ↦
                ap kept w.flusher-is ∙ (elim w.then-not-round.branch [
                  | then-not-round-via-then-not-round w' ↦ ap kept w'.if-not-round.ensures.took ∙ w'.if-not-round.ensures.none_kept refl
                  | then-not-round-via-else-not-round+then-has_ended w' ↦ (w'.if-has_ended.ensures.0 refl).1
                ])
          ]);
      ended =
          (elim c.match-next.branch [
            | in-None w ↦ absurd (false≢true w.in-None.ensures.steps)
            | in-Some+then-not-round w ↦ (elim w.then-not-round.branch [
              | then-not-round-via-then-not-round w' ↦ inl (ap over w.flusher-is ∙ ap over w'.if-not-round.ensures.took)
              | then-not-round-via-else-not-round+then-has_ended w' ↦ inr (ap broken w.flusher-is ∙ (w'.if-has_ended.ensures.0 refl).0)
            ])
          ]);
    })

pub returns-clause-watched : goal.returns-clause-watched
returns-clause-watched g c =
    let shown = g.W.RoundWatch.shown in
    subst (HasWatched (shown c.args.watch.now) (shown c.match-next.watch) c.args.self) (sym c.into_finished.ensures.last)
    (elim c.match-next.branch [
      | in-None w ↦ absurd (false≢true w.in-None.ensures.steps)
      | in-Some+then-not-round w ↦
          rw (w.flusher-is, w.watch-is) (watched_next shown _ _ _ _ _ _ _ _ w.round.ensures.took w.round.ensures.watched c.loop-count.invariant.2)
    ])
