use Rattle.std.proofs.Common.{arith}
use Rattle.rly_segment_checkpoint.proofs.Restored.{too_short}
use Rattle.rly_segment_checkpoint.proofs.reader.parts_of.Goals as goal

pub returns-then-bytes-least_len-clause-gives : goal.returns-then-bytes-least_len-clause-gives
returns-then-bytes-least_len-clause-gives g c = too_short (c.law_forms.ensures c.args.form) c.args.params c.args.bytes.now (λ i. omega (arith, c.type_inv.bytes i)) (omega arith)
