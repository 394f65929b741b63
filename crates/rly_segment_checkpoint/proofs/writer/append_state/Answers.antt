use Rattle.std.proofs.Common.{subst, sym}
use Rattle.std.specs.Prelude.{All}
use Rattle.rly_segment_checkpoint.specs.HelpersFitting.{HopFits}
use Rattle.rly_segment_checkpoint.specs.declared.head_form.HeadForm.TheVariants.{Second}
use Rattle.rly_segment_checkpoint.proofs.Fitness.{hops_fit}
use Rattle.rly_segment_checkpoint.proofs.writer.append_state.Goals as goal

pub append_hops-requires-clause-fit : goal.append_hops-requires-clause-fit
append_hops-requires-clause-fit g c =
    subst (All (HopFits Second g.C.Content.length_of (g.C.Form.has_form Second))) (sym c.hops.ensures)
    (hops_fit Second g.C.Content.length_of (g.C.Form.has_form Second) c.args.machine.now.state c.law_sound.ensures tt c.requires.fits)
