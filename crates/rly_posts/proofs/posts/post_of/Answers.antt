use Rattle.std.proofs.Common.{◌∙◌}
use Rattle.rly_posts.proofs.WatchedPosts.{watched_unseen}
use Rattle.rly_posts.proofs.posts.post_of.Goals as goal

pub returns-clause-watches : goal.returns-clause-watches
returns-clause-watches g c =
    c.in_ok-turn.ensures.folders ∙ watched_unseen c.args.keyed.worker c.args.folders.now
