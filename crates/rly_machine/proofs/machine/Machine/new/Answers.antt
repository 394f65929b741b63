use Rattle.rly_machine.proofs.Keeping.{kept_new}
use Rattle.rly_machine.proofs.machine.Machine.new.Goals as goal

pub invariant_of-result : goal.invariant_of-result
invariant_of-result g c =
    kept_new g.C.Content.length_of c.args.params c.new.result _ c.in_ok-lasts.lasts.items c.requires c.new.ensures c.in_ok-hops.ensures (c.in_ok-lasts.ensures.items_if_clones_equal (λ y p. p))
