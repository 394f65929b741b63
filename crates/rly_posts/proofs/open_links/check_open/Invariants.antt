use Rattle.std.proofs.Common.{◌≡◌, drop, map}
use Rattle.rly_posts.specs.Duties.{refusal_at}
use Rattle.rly_posts.specs.Neighbour.{has_open}
use Rattle.rly_posts.proofs.open_links.check_open.Given as goal

-- none of the links before is open
abbrev pub invariant-loop-post : goal.invariant-loop-post
invariant-loop-post g l =
    has_open (map refusal_at (drop l.post-index l.posts))
    ≡ has_open (map refusal_at l.posts)
