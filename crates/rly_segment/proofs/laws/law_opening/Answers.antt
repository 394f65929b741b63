use Rattle.rly_segment.proofs.Common.{makes_leaves}
use Rattle.rly_segment.proofs.Replacing.{image_of_opening}
use Rattle.rly_segment.proofs.laws.law_opening.Goals as goal

pub returns : goal.returns
returns g c geometry segment generation s closed whole fits there head told settled made =
    makes_leaves _ _ made settled (λ image. image_of_opening _ _ geometry segment _ s closed _ image (rw settled.consistent.seen_size fits) there head told)
