use Rattle.std.proofs.lemmas.Result.{on_err_weaker}
use Rattle.std.specs.String.{string_bytes}
use Rattle.rly_daemon_lines.proofs.Outflows.{begins_written}
use Rattle.rly_daemon_lines.proofs.outflow.relieve.Goals as goal

pub returns-clause-begun : goal.returns-clause-begun
returns-clause-begun g c =
    let begun = begins_written (g.W.Write.contents c.args.writer.now) (g.W.Write.contents c.write_held.new.writer)
    (string_bytes c.args.text.now) (string_bytes c.write_held.new.text) c.write_held.ensures.emptied in
    on_err_weaker c.write_held.result begun c.write_held.ensures.begun
