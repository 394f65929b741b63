use Rattle.std.proofs.Common.{◌∙◌, ◌+◌, arith, inl, inr, subst, sym}
use Rattle.rly_reclaim.proofs.Scanning.{IsLeastBefore, least_first, least_moves, least_stays, victim_at_end}
use Rattle.rly_reclaim.proofs.segment_choice.victim.Goals.{else-free-eq0, else-segment-free, else-segment-free-via-else-segment-free, else-segment-free-via-then-segment-free+else-live-segment, then-free-eq0, then-segment-free+then-live-segment}
use Rattle.rly_reclaim.proofs.segment_choice.victim.Goals as goal

pub loop-segment-init : goal.loop-segment-init
loop-segment-init c = elim c.if-free-eq0.branch [
  | then-free-eq0 w ↦ least_first c.args.live.now c.args.free c.if-free-eq0.fewest
      (omega (arith, c.requires.1, w.fewest-is, w.if-free-eq0.true, c.requires.2)) (omega (arith, w.fewest-is, w.if-free-eq0.true))
      (λ s before. omega (arith, before, w.fewest-is, w.if-free-eq0.true))
  | else-free-eq0 w ↦ least_first c.args.live.now c.args.free c.if-free-eq0.fewest
      (omega (arith, c.requires.1, w.fewest-is)) (λ same. w.if-free-eq0.false (sym same ∙ w.fewest-is))
      (λ s before. absurd (omega (arith, before, w.fewest-is)))
]

pub loop-segment-preserved : goal.loop-segment-preserved
loop-segment-preserved c =
    let live = c.args.live.now in
    let free = c.args.free in
    let segment = c.loop-segment.segment in
    let found = c.loop-segment.invariant in
    elim c.if-segment-free.branch [
      | then-segment-free+then-live-segment w ↦ subst (λ least. IsLeastBefore live free (segment + 1) least) (sym w.fewest-is)
          (least_moves live free segment c.loop-segment.fewest found c.loop-segment-test.true w.if-segment-free.true w.if-live-segment.true)
      | else-segment-free w ↦ subst (λ least. IsLeastBefore live free (segment + 1) least) (sym w.fewest-is)
          (least_stays live free segment c.loop-segment.fewest found (elim w.else-segment-free.branch [
            | else-segment-free-via-then-segment-free+else-live-segment v ↦ inr (omega (arith, v.if-live-segment.false))
            | else-segment-free-via-else-segment-free v ↦ inl v.if-segment-free.false
          ]))
    ]

pub returns : goal.returns
returns c = victim_at_end c.args.live.now c.args.free c.loop-segment.segment c.loop-segment.fewest c.loop-segment.invariant
    (omega (arith, c.loop-segment-test.false))
