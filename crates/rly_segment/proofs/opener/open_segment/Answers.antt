use Rattle.rly_segment.proofs.Common.{ap, arith, length, Second, spelled_by}
use Rattle.rly_segment.proofs.HeadWriting.{head_room, length-head}
use Rattle.rly_segment.proofs.Segments.{segment_within}
use Rattle.rly_segment.proofs.opener.open_segment.Goals as goal

pub replace-requires-clause-room : goal.replace-requires-clause-room
replace-requires-clause-room g c =
    let within = segment_within c.args.geometry.now c.args.target.segment _ c.requires.geometry c.requires.target in
    rw (c.deref.ensures.value, c.in-Ok.ensures) (omega (arith, within, head_room c.requires.head, c.segment_place-place.ensures))

pub returns-in-Ok-replace-clause-gate : goal.returns-in-Ok-replace-clause-gate
returns-in-Ok-replace-clause-gate g c =
    let long = length-head g.C.Content.length_of (spelled_by g.C.Form.form Second) c.args.generation c.args.machine.now.state in
    omega (arith, ap length c.in-Ok.ensures, long, c.segment_place-place.ensures, c.len.ensures)
