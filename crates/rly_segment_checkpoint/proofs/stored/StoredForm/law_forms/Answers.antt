use Rattle.rly_segment_checkpoint.proofs.StoredForms.{stored_forms}
use Rattle.rly_segment_checkpoint.proofs.stored.StoredForm.law_forms.Goals as goal

pub returns : goal.returns
returns c which = stored_forms which
