use Rattle.rly_segment.proofs.Common.{arith, each_failed, each_next, each_reads, generation_reads, inr, reads_new, reads_of, refl, rules}
use Rattle.rly_segment.proofs.Greater.{closed_more, last_of_tie, newest_of}
use Rattle.rly_segment.proofs.generations.newest.Goals as goal

pub loop-segment-preserved : goal.loop-segment-preserved
loop-segment-preserved g c =
    let seen = (g.D.Disk.state c.args.disk.now).seen in
    let old = c.loop-segment.invariant in
    let only = reads_of _ (generation_reads c.args.geometry.now c.loop-segment.segment) (each_reads _ (λ t. refl) c.loop-segment.segment) old.made in
    let read = λ (honest : (g.D.Disk.state c.args.disk.now).honest).
    let before = reads_new g.D.Disk.state only honest (g.met.D.Disk.consistent c.args.disk.now honest) in
    rw (before.seen, c.segment_place.ensures) at (c.in-Ok.ensures.read before.honest) in
    record {
      made = each_next g.D.Disk.state _ c.loop-segment.segment old.made (rw c.segment_place.ensures at c.in-Ok.ensures.trace);
      found = λ honest. c.greater-found.ensures.found seen c.args.geometry.now (old.found honest) (read honest);
      flags = search rules;
      closed = λ honest. closed_more seen c.args.geometry.now _ c.loop-segment.closed _ _ (omega arith) c.is_none.ensures (old.closed honest) (read honest);
      within = c.greater-found.ensures.within old.within;
    }

pub returns-in_default-clause-trace : goal.returns-in_default-clause-trace
returns-in_default-clause-trace g c =
    each_failed g.D.Disk.state _ c.loop-segment.segment c.args.geometry.now.segments (omega (arith, c.loop-segment-test.true)) c.loop-segment.invariant.made
    (rw (← c.segment_place.ensures) (search rules))

pub returns-then-greatest-clause-read : goal.returns-then-greatest-clause-read
returns-then-greatest-clause-read g c honest =
    let found = rw c.in-Some.is at (c.loop-segment.invariant.found honest) in
    inr (c.in-Some.greatest.segment, last_of_tie found (omega arith) c.if-greatest.true, c.segment_place-place.ensures)

pub returns-clause-read : goal.returns-clause-read
returns-clause-read g c honest =
    let found = rw c.in-Some.is at (c.loop-segment.invariant.found honest) in
    (newest_of found (omega arith) c.if-greatest.false, λ t below. c.loop-segment.invariant.closed honest t (omega (arith, c.loop-segment-test.false, below)))
