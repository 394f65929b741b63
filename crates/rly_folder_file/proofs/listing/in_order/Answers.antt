use Rattle.std.proofs.lemmas.List.Filters.{dedup_is}
use Rattle.rly_folder_file.proofs.Ordered.{in_order}
use Rattle.rly_folder_file.proofs.listing.in_order.Goals as goal

pub returns : goal.returns
returns c = in_order c.args.numbers.items c.sort.new.self.items _ c.in_ok-sort.ensures.permutation c.in_ok-sort.ensures.sorted (dedup_is _ _ _ c.dedup.ensures.filtered)
