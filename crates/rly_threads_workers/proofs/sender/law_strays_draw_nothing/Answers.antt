use Rattle.rly_threads_workers.proofs.Strays.{early_draws_nothing, strays_draw_nothing}
use Rattle.rly_threads_workers.proofs.sender.law_strays_draw_nothing.Goals as goal

pub returns : goal.returns
returns c = record { nothing = strays_draw_nothing; early = early_draws_nothing }
