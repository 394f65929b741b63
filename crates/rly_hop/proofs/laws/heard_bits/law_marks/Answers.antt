use Rattle.rly_hop.proofs.HeardBits.{marks-with_mark, marks-zero, same-marks, with_mark-lt}
use Rattle.rly_hop.proofs.laws.heard_bits.law_marks.Goals as goal

pub returns-clause-sets : goal.returns-clause-sets
returns-clause-sets c bits place other below = marks-with_mark bits place other below

pub returns-clause-fits : goal.returns-clause-fits
returns-clause-fits c bits place fits = with_mark-lt bits place fits

pub returns-clause-none : goal.returns-clause-none
returns-clause-none c place = marks-zero place

pub returns-clause-same : goal.returns-clause-same
returns-clause-same c a b fits_a fits_b same = same-marks a b fits_a fits_b same
