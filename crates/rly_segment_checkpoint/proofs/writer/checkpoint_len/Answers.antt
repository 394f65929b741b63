use Rattle.std.proofs.Common.{ap, arith}
use Rattle.rly_core.specs.declared.params.Params.{Params}
use Rattle.rly_segment_checkpoint.proofs.Sizes.{checkpoint_length}
use Rattle.rly_segment_checkpoint.proofs.writer.checkpoint_len.Goals as goal

pub returns : goal.returns
returns c =
    omega (arith, checkpoint_length c.args.machine.now.state c.law_sound.ensures, ap (λ (p : Params). p.peers) c.params-params.ensures, ap (λ (p : Params). p.hops) c.params-params.ensures, c.item_count.ensures, c.byte_count.ensures)
