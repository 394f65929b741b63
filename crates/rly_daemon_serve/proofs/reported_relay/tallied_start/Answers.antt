use Rattle.std.proofs.Common.{◌∙◌}
use Rattle.rly_daemon_serve.proofs.Below.{duties_below}
use Rattle.rly_daemon_serve.proofs.reported_relay.tallied_start.Goals as goal

-- its links publish their counts, and the workers are the same
pub returns-in-Ok-clause-posts : goal.returns-in-Ok-clause-posts
returns-in-Ok-clause-posts g c = duties_below _ _ c.in-Ok.ensures ∙ c.in_ok-posts.ensures.posts
