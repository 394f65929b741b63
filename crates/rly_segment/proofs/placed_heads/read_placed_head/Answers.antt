use Rattle.rly_segment.proofs.Common.{iff_false, IsPlaced, subst}
use Rattle.rly_segment.proofs.PlacedHeads.{fault_placed, forms_of, stored_once}
use Rattle.rly_segment.proofs.placed_heads.read_placed_head.Goals as goal

pub returns-in-Err-clause-read : goal.returns-in-Err-clause-read
returns-in-Err-clause-read g c honest = fault_placed _ c.args.segment c.in-Err.fault c.requires.geometry (c.in-Err.ensures.read honest)

-- a head that was read has no other state
pub returns-then-not-is_placed-clause-read : goal.returns-then-not-is_placed-clause-read
returns-then-not-is_placed-clause-read g c honest v m s other =
    let once = stored_once c.law_one_spelling.ensures _ c.args.geometry.now c.args.segment v _ m _ s _ c.requires.geometry.length
    other.head (c.in-Ok.ensures.read honest) (forms_of v _ _ c.args.segment s c.requires.geometry other.placed) c.in-Ok.ensures.forms in
    iff_false c.is_placed.ensures c.if-not-is_placed.true (subst (IsPlaced c.args.geometry.now c.args.segment) once.2 other.placed)
