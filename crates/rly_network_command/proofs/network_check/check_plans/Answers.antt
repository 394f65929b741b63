use Rattle.std.proofs.Common.{◌≡◌, ◌∙◌, ◌==◌, ap, length, subst}
use Rattle.std.specs.Io.KnownBytes.{Appends}
use Rattle.rly_network.specs.Check.{disagreements}
use Rattle.rly_network.specs.Texts.{disagreement_lines}
use Rattle.rly_network_command.proofs.network_check.check_plans.Goals as goal

pub returns-clause-checked : goal.returns-clause-checked
returns-clause-checked g c =
    let found : c.in_ok-found.found.items ≡ disagreements c.in_ok-stations.stations.items = rw c.deref.ensures.value at c.in_ok-found.ensures in
    let text = c.as_str.ensures.value ∙ c.in_ok-lines.ensures ∙ ap disagreement_lines (c.deref-2.ensures.value ∙ found) in
    let read = c.in_ok-stations.ensures.read in (
      read.0,
      record {
        stations = c.in_ok-stations.stations.items;
        read = read.1;
        written = subst (λ t. Appends (g.W.Write.contents c.args.writer.now) (g.W.Write.contents c.put.new.writer) t) text c.in_ok-put.ensures;
        told = c.is_empty.ensures ∙ ap (λ n. n == 0) (c.in_ok-found.found.ok.0 ∙ ap length found);
      },
      read.2,
    )
