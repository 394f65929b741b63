use Rattle.std.proofs.Common.{ap, arith}
use Rattle.rly_core.specs.declared.params.Params.{Params}
use Rattle.rly_segment_checkpoint.specs.declared.head_form.HeadForm.TheVariants.{Second}
use Rattle.rly_segment_checkpoint.proofs.Sizes.{most_length}
use Rattle.rly_segment_checkpoint.proofs.writer.most_len.Goals as goal

pub returns-clause-enough : goal.returns-clause-enough
returns-clause-enough g c =
    omega (arith, most_length (c.law_forms.ensures Second) c.args.machine.now.state c.law_sound.ensures, ap (λ (p : Params). p.peers) c.params-params.ensures, ap (λ (p : Params). p.hops) c.params-params.ensures, c.item_count.ensures, c.byte_count.ensures)

pub returns-clause-bounded : goal.returns-clause-bounded
returns-clause-bounded g c =
    omega (arith, ap (λ (p : Params). p.peers) c.params-params.ensures, ap (λ (p : Params). p.hops) c.params-params.ensures, c.item_count.ensures, c.byte_count.ensures)
