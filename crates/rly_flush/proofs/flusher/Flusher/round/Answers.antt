use Rattle.std.proofs.Common.{◌≡◌, false, arith, refl, subst, sym}
use Rattle.rly_flush.specs.FlusherHistory.{FlusherState, GrewInRound, IsCrashSafe, IsOneRound}
use Rattle.rly_flush.specs.HelpersFlusher.{IsRoundReady}
use Rattle.rly_flush.specs.RoundWatch.{HasWatchedRound}
use Rattle.rly_flush.proofs.Crashing.{may_tell, one_round, stayed, watched_round, went_on}
use Rattle.rly_flush.proofs.flusher.Flusher.round.Goals as goal

pub returns-then-not-collect-clause-history : goal.returns-then-not-collect-clause-history
returns-then-not-collect-clause-history g c =
    let same = c.if-not-collect.ensures.stayed refl in
    (stayed g.D.Disk.state g.met.D.Disk.consistent c.self.invariant.0 same.0 same.1 same.2).history

pub invariant_of-self : goal.invariant_of-self
invariant_of-self g c =
    let same = c.if-not-collect.ensures.stayed refl in (
      (stayed g.D.Disk.state g.met.D.Disk.consistent c.self.invariant.0 same.0 same.1 same.2).flushing,
      subst IsRoundReady (sym same.3) c.self.invariant.1,
    )

pub answer_all-requires-clause-legal : goal.answer_all-requires-clause-legal
answer_all-requires-clause-legal g c =
    may_tell g.D.Disk.state g.met.D.Disk.consistent c.self.invariant.0 (c.if-not-collect.ensures.collected refl) c.collect.ensures.said c.commit.ensures.round c.if-not-collect.ensures.count.0

pub invariant_of-self-2 : goal.invariant_of-self-2
invariant_of-self-2 g c = (
  (went_on g.D.Disk.state g.met.D.Disk.consistent c.self.invariant.0 (c.if-not-collect.ensures.collected refl) c.collect.ensures.said c.commit.ensures.round c.if-not-collect.ensures.count.0 c.answer_all.ensures.line c.answer_all.ensures.holds).flushing,
  record {
    calls_empty = c.commit.ensures.emptied;
    said_empty = c.answer_all.ensures.emptied.0;
    wanted_empty = c.answer_all.ensures.emptied.1;
    answers_empty = c.answer_all.ensures.emptied.2;
    room = record {
      calls_room = omega (arith, c.commit.ensures.calls_capacity, c.collect.ensures.room.calls_room);
      said_room = omega (arith, c.answer_all.ensures.said_capacity, c.collect.ensures.room.said_room);
      wanted_room = omega (arith, c.answer_all.ensures.wanted_capacity, c.collect.ensures.room.wanted_room);
      answers_room = omega (arith, c.answer_all.ensures.answers_capacity, c.commit.ensures.answers_capacity, c.collect.ensures.room.answers_room);
    };
  },
)

pub returns-clause-took : goal.returns-clause-took
returns-clause-took g c =
    subst (λ (f : FlusherState g.row.D.Denot). IsOneRound g.D.Disk.state f (record { first = c.self.inside.first.value.journal; journal = c.commit.new.journal; kept = c.collect.new.kept; line = c.answer_all.new.line })) c.self.view_is
    (one_round g.D.Disk.state g.met.D.Disk.consistent c.self.invariant.0 (c.if-not-collect.ensures.collected refl) c.collect.ensures.said c.commit.ensures.round c.if-not-collect.ensures.count.0 c.answer_all.ensures.line c.if-not-collect.ensures.count c.commit.ensures.lost)

pub returns-clause-history : goal.returns-clause-history
returns-clause-history g c =
    (went_on g.D.Disk.state g.met.D.Disk.consistent c.self.invariant.0 (c.if-not-collect.ensures.collected refl) c.collect.ensures.said c.commit.ensures.round c.if-not-collect.ensures.count.0 c.answer_all.ensures.line c.answer_all.ensures.holds).history

pub returns-clause-failures : goal.returns-clause-failures
returns-clause-failures g c =
    subst (λ (f : FlusherState g.row.D.Denot). GrewInRound g.D.Disk.state f (record { first = c.self.inside.first.value.journal; journal = c.commit.new.journal; kept = c.collect.new.kept; line = c.answer_all.new.line })) c.self.view_is
    (went_on g.D.Disk.state g.met.D.Disk.consistent c.self.invariant.0 (c.if-not-collect.ensures.collected refl) c.collect.ensures.said c.commit.ensures.round c.if-not-collect.ensures.count.0 c.answer_all.ensures.line c.answer_all.ensures.holds).grew

pub returns-clause-any_moment : goal.returns-clause-any_moment
returns-clause-any_moment g c =
    subst (λ (f : FlusherState g.row.D.Denot). (g.D.Disk.state f.journal.disk).honest → f.first.broken ≡ false
    → IsCrashSafe g.D.Disk.state f (record { first = c.self.inside.first.value.journal; journal = c.commit.new.journal; kept = c.collect.new.kept; line = c.answer_all.new.line })) c.self.view_is
    (went_on g.D.Disk.state g.met.D.Disk.consistent c.self.invariant.0 (c.if-not-collect.ensures.collected refl) c.collect.ensures.said c.commit.ensures.round c.if-not-collect.ensures.count.0 c.answer_all.ensures.line c.answer_all.ensures.holds).safe

pub returns-clause-watched : goal.returns-clause-watched
returns-clause-watched g c =
    subst (λ (f : FlusherState g.row.D.Denot). HasWatchedRound (g.W.RoundWatch.shown c.args.watch.now) (g.W.RoundWatch.shown c.end.new.self) f (record { first = c.self.inside.first.value.journal; journal = c.commit.new.journal; kept = c.collect.new.kept; line = c.answer_all.new.line })) c.self.view_is
    (watched_round g.D.Disk.state g.met.D.Disk.consistent c.self.invariant.0 (c.if-not-collect.ensures.collected refl) c.collect.ensures.said c.commit.ensures.round c.if-not-collect.ensures.count.0 c.answer_all.ensures.line _ _ _ _ _ c.item_count-items.ensures c.byte_count-bytes.ensures (rw c.deref.ensures.value at c.begin.ensures) (rw c.deref-2.ensures.value at c.end.ensures))
