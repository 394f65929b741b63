use Rattle.rly_daemon_lines.proofs.Cuts.{two_words}
use Rattle.rly_daemon_lines.proofs.grammar.is_word.Goals as goal

pub returns-clause-more : goal.returns-clause-more
returns-clause-more c parted =
    two_words c.cut.result _ (λ parts. parts.0.now) (λ parts. parts.1.now) c.args.text.now c.cut.ensures (rw parted at c.is_none.ensures)
