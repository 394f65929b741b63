use Rattle.std.proofs.Common.{◌+◌, ◌-◌, ◌/◌, ◌%◌, ◌≤◌, ◌∙◌, arith, sym}
use Rattle.std.proofs.lemmas.Bool.{false≢true, le-leb, leb-true}
use Rattle.rly_reclaim.proofs.Placing.{lies_there, segment_once, short_enough}
use Rattle.rly_reclaim.proofs.placed.is_elsewhere.Goals.{then-segment-geometry-via-then-segment-geometry, then-segment-geometry-via-else-segment-geometry+then-segment-own}
use Rattle.rly_reclaim.proofs.placed.is_elsewhere.Goals as goal

pub returns-then-segment-geometry : goal.returns-then-segment-geometry
returns-then-segment-geometry c =
    let g = c.args.geometry.now in
    let place = c.args.place.now in (
      λ test. absurd (false≢true test),
      λ elsewhere.
          let here = segment_once g elsewhere.1.0 place elsewhere.0 elsewhere.1.2 in
          elim c.then-segment-geometry.branch [
            | then-segment-geometry-via-then-segment-geometry w ↦ absurd (omega (arith, here, elsewhere.1.2.there, w.if-segment-geometry.true))
            | then-segment-geometry-via-else-segment-geometry+then-segment-own w ↦ absurd (elsewhere.1.1 (sym here ∙ w.if-segment-own.true))
          ],
    )

pub returns : goal.returns
returns c =
    let g = c.args.geometry.now in
    let place = c.args.place.now in (
      λ test.
          let within : (place.start - 64) % g.length + place.length ≤ g.length = omega (arith, leb-true _ _ test, c.from.ensures) in (
            omega (arith, c.if-place-eq0.false),
            ((place.start - 64) / g.length, c.if-segment-own.false, lies_there g place (omega (arith, c.if-place-lt-FIRST_SEGMENT.false)) (omega (arith, c.if-segment-geometry.false)) within),
          ),
      λ elsewhere. le-leb _ _ (omega (arith, short_enough g elsewhere.1.0 place elsewhere.0 elsewhere.1.2, c.from.ensures)),
    )
