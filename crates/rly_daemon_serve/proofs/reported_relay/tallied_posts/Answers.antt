use Rattle.std.proofs.Common.{◌∙◌, map, sym}
use Rattle.std.specs.Vec.Iter.{into_iter_items}
use Rattle.rly_daemon_serve.specs.Helpers.{post_below}
use Rattle.rly_daemon_serve.proofs.Below.{all_there, taken_one}
use Rattle.rly_daemon_serve.proofs.reported_relay.tallied_posts.Goals as goal

-- none is left
pub returns : goal.returns
returns g c =
    let left = c.loop-post.post-iterator in
    all_there (map post_below c.loop-post.told.items) (into_iter_items left) c.args.posts.items (sym left.rest.ok.0 ∙ c.in-None.ensures.steps.0) c.loop-post.invariant

pub loop-post-preserved : goal.loop-post-preserved
loop-post-preserved g c =
    taken_one (map post_below c.loop-post.told.items) (map post_below c.add_tallied_post.new.told.items) (into_iter_items c.loop-post.post-iterator) (into_iter_items c.next.new.self) c.args.posts.items c.in-Some.post
    c.in_ok-add_tallied_post.ensures c.in-Some.ensures.steps.0 c.loop-post.invariant
