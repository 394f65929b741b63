use Rattle.rly_segment_checkpoint.proofs.Inlined.{bytes_inline, spelled_inline}
use Rattle.rly_segment_checkpoint.proofs.laws.law_inline.Goals as goal

pub returns-clause-spelled : goal.returns-clause-spelled
returns-clause-spelled c s = spelled_inline s

pub returns-clause-bytes : goal.returns-clause-bytes
returns-clause-bytes c image s = bytes_inline image s
