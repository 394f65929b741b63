use Rattle.rly_record.proofs.Records.{record_once}
use Rattle.rly_record.proofs.laws.law_no_record_begins_another.Goals as goal

pub returns : goal.returns
returns c a b x y fits_a fits_b same = record_once a b x y fits_a fits_b same
