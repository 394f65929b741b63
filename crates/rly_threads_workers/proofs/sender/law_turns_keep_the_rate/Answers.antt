use Rattle.rly_plan.specs.ContactPlan.{rate, resend}
use Rattle.rly_threads_workers.specs.SenderTurns.{sender_worker}
use Rattle.rly_threads_workers.proofs.RateKept.{rate_kept}
use Rattle.rly_threads_workers.proofs.sender.law_turns_keep_the_rate.Goals as goal

pub returns : goal.returns
returns c plan hop params most bytes core before first later is =
    rate_kept (sender_worker plan hop) most params (resend plan hop) bytes (rate plan hop) core before first later is
