use Rattle.std.proofs.Common.{◌≡◌, ℕ, ◌+◌, ◌-◌, arith, refl}
use Rattle.std.proofs.lemmas.List.{drop-replicate}
use Rattle.std.proofs.lemmas.List.Folds.{sum_by-replicate}
use Rattle.rly_codel.specs.LaneItems.{LaneItem}
use Rattle.test_device.proofs.dequeues.EqualItemsLane.bytes_behind.Goals as goal

pub returns : goal.returns
returns c =
    let counts : c.args.self.now.count - (c.args.index + 1) ≡ c.args.self.now.count - 1 - c.args.index = omega arith in
    let bytes_of_item : LaneItem → ℕ = λ item. item.bytes in
    rw (drop-replicate, sum_by-replicate bytes_of_item, counts) refl
