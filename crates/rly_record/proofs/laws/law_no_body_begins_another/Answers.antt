use Rattle.rly_record.proofs.Bodies.{body_once}
use Rattle.rly_record.proofs.laws.law_no_body_begins_another.Goals as goal

pub returns : goal.returns
returns c a b x y fits_a fits_b same = body_once a b x y fits_a fits_b same
