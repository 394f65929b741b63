use Rattle.rly_segment.proofs.Common.{◌∙◌, ap, state_in, sym}
use Rattle.rly_segment.proofs.PlacedHeads.{forms_of, stored_once}
use Rattle.rly_segment.proofs.laws.law_one_head.Goals as goal

pub returns : goal.returns
returns c image g segment n m a b geometry first second =
    let once = stored_once c.law_one_spelling.ensures image g segment _ _ n m _ _ geometry.length first.holds.head second.holds.head
    (forms_of _ g _ segment _ geometry first.holds.placed) (forms_of _ g _ segment _ geometry second.holds.placed) in
    (once.1, sym first.bytes ∙ ap (state_in image) once.2 ∙ second.bytes)
