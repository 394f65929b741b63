use Rattle.std.proofs.lemmas.Result.{on_err_weaker}
use Rattle.std.specs.String.{string_bytes}
use Rattle.rly_daemon_lines.proofs.Outflows.{begins_written}
use Rattle.rly_daemon_lines.proofs.outflow.hand_on.Goals as goal

pub returns-clause-begun : goal.returns-clause-begun
returns-clause-begun g c =
    let begun = begins_written (g.W.Write.contents c.args.writer.now) (g.W.Write.contents c.hand_over.new.writer)
    (string_bytes c.args.text.now) (string_bytes c.hand_over.new.text) c.hand_over.ensures.emptied in
    on_err_weaker c.hand_over.result begun c.hand_over.ensures.begun
