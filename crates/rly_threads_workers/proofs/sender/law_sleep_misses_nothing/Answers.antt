use Rattle.rly_threads_workers.proofs.Asleep.{contact_lasts, reports_are_used, sleep_misses_nothing}
use Rattle.rly_threads_workers.proofs.sender.law_sleep_misses_nothing.Goals as goal

pub returns : goal.returns
returns c = record { nothing = sleep_misses_nothing; contact = contact_lasts; reports = reports_are_used }
