use Rattle.std.proofs.Common.{◌≡◌, ◌++◌, map}
use Rattle.std.specs.Vec.Iter.{into_iter_items}
use Rattle.rly_daemon_serve.specs.Helpers.{post_below}
use Rattle.rly_daemon_serve.proofs.reported_relay.tallied_posts.Given as goal

-- the posts so far, before the remaining ones
abbrev pub invariant-loop-post : goal.invariant-loop-post
invariant-loop-post g l = map post_below l.told.items ++ into_iter_items l.post-iterator ≡ l.fn.posts.items
