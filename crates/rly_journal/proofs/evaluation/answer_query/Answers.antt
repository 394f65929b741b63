use Rattle.rly_journal.proofs.Common.{ap, refl, State, sym, ℕ, ◌∙◌}
use Rattle.rly_machine.specs.declared.command.Ask.TheVariants as ask
use Rattle.rly_journal_index.proofs.Fetched.{refused_alike, show_alike, window_alike}
use Rattle.rly_journal.proofs.Fetching.{item_lean, item_lies}
use Rattle.rly_journal.proofs.Outcomes.{query_known}
use Rattle.rly_journal.proofs.evaluation.answer_query.Goals as goal

pub returns-in-Ok-clause-outcome : goal.returns-in-Ok-clause-outcome
returns-in-Ok-clause-outcome c = λ t alike.
    let holds = c.law_index.ensures.holds in
    let found = c.in-Ok.ensures.ok in
    let counts = c.seq-position.ensures ∙ ap (λ m. m.state.seq) c.machine.ensures ∙ ap (λ (m : State ℕ). m.seq) alike in
    let lies = c.place_of.ensures (item_lean holds c.in-Fetch.hop c.in-Fetch.custody found) in
    search (ap ask.Query c.in-Fetch.is, found, counts, lies, item_lies holds c.in-Fetch.hop c.in-Fetch.custody found)

pub returns-clause-outcome : goal.returns-clause-outcome
returns-clause-outcome c = λ t alike.
    let s = c.args.index.now.spool.state in
    let counts = c.seq-position.ensures ∙ ap (λ m. m.state.seq) c.machine.ensures ∙ ap (λ (m : State ℕ). m.seq) alike in elim c.match-query.branch [
      | goal.in-Fetch+in-Err w ↦
          let refused = refused_alike s t w.in-Fetch.hop w.in-Fetch.custody w.in-Err.refusal alike w.in-Err.ensures.err in
          rw w.in-Fetch.is (query_known (w.reply-is ∙ sym refused) counts (rw refused refl))
      | goal.in-Window w ↦ rw w.in-Window.is (query_known (w.reply-is ∙ w.ask_window-reply.ensures ∙ window_alike s t w.in-Window.hop alike) counts refl)
      | goal.in-Show w ↦ rw w.in-Show.is (query_known (w.reply-is ∙ w.ask_show-reply.ensures ∙ show_alike s t w.in-Show.hop alike) counts refl)
    ]
