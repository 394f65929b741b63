use Rattle.rly_segment_checkpoint.proofs.Parts.{inline_forms}
use Rattle.rly_segment_checkpoint.proofs.form.PayloadForm.law_forms.Goals as goal

pub returns : goal.returns
returns c which = inline_forms which
