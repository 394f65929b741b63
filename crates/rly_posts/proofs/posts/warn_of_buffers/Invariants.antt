use Rattle.std.proofs.Common.{◌≡◌, drop, map}
use Rattle.rly_posts.specs.Neighbour.{buffer_of}
use Rattle.rly_station.specs.ReceiveBuffers.{buffer_warnings}
use Rattle.rly_station.specs.Warnings.{logged_warnings}
use Rattle.rly_posts.proofs.posts.warn_of_buffers.Given as goal

-- none of the links before is to be logged, and none was
abbrev pub invariant-loop-post : goal.invariant-loop-post
invariant-loop-post g l =
    (logged_warnings l.teller ≡ logged_warnings l.fn.teller)
    × (buffer_warnings l.wanted (map (λ post. buffer_of post.link) (drop l.post-index l.posts))
    ≡ buffer_warnings l.wanted (map (λ post. buffer_of post.link) l.posts))
