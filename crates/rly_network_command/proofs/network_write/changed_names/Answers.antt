use Rattle.std.proofs.Common.{◌∙◌, ◌++◌, ap, append-nil, string_bytes, sym}
use Rattle.rly_network_command.proofs.WishLemmas.{changed_end}
use Rattle.rly_network_command.proofs.network_write.changed_names.Goals as goal

pub returns : goal.returns
returns c =
    let past = rw c.min-index-end.ensures at c.loop-index-test.false in
    let told = string_bytes c.loop-index.names in
    sym (append-nil told) ∙ ap (λ l. told ++ l) (sym (changed_end c.args.stations.now c.args.new.now c.loop-index.index past))
    ∙ c.loop-index.invariant
