use Rattle.std.proofs.Common.{refl}
use Rattle.std.proofs.lemmas.List.{map-set}
use Rattle.rly_link_reorder.specs.ReorderBuffer.{PlaceView}
use Rattle.rly_link_reorder.proofs.reorder_buffer.ReorderBuffer.keep.Goals as goal

pub returns-then-place-len : goal.returns-then-place-len
returns-then-place-len c =
    let held = map-set (λ (p : PlaceView). p.held) c.self.inside.places.items c.slot_of-place.result c.keep.new.self in
    rw (← c.self.view_is, held, c.keep.ensures.kept, c.slot_of-place.ensures) refl
