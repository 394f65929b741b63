use denote.Exit.{no}
use denote.Param.Send.{arg_send, param_send, param_sync, shr_send}
use Rattle.std.proofs.Common.{◌∙◌, length, sym}
use Rattle.rly_daemon_serve.proofs.Endless.{and_none, below_256, both_then, has_run, ok_then, on_ok, posts_are, posts_between, run_ends}
use Rattle.rly_daemon_serve.proofs.Outcomes.{well_is_complete}
use Rattle.rly_posts.proofs.Sending.{neighbour_send}
use Rattle.rly_posts.specs.Duties.{duty_at}
use Rattle.rly_station.specs.Workers.{workers_of}
use Rattle.rly_hop.specs.Spelling.{longest_message}
use Rattle.rly_daemon_serve.proofs.served_relay.serve.Goals as goal

-- a plan has 1 to 64 peers and 1 to 64 hops
pub run_posts-requires-clause-count : goal.run_posts-requires-clause-count
run_posts-requires-clause-count g c κs within =
    posts_between duty_at c.in-Ok.ready.0.items c.args.plan.now c.args.keys (longest_message c.args.journal.state.params.payload) c.args.settings.turns 256 c.requires.keys c.requires.sound c.in-Ok.ensures.posts below_256

-- a worker's link goes to its thread
pub run_posts-requires-send-L : goal.run_posts-requires-send-L
run_posts-requires-send-L g c κs within =
    param_send 2 _ (arg_send _ no _ (neighbour_send _ _ _ (shr_send _ _ _ (param_sync 0 _ c.type_bounds.sync-H))))

pub returns-clause-room : goal.returns-clause-room
returns-clause-room g c = on_ok c.run_posts.result c.in-Ok.ensures.room

pub returns-clause-ends : goal.returns-clause-ends
returns-clause-ends g c = both_then c.run_posts.result c.run_posts.ensures.end c.run_posts.ensures.fault (λ served end is none.
    run_ends (λ l. l) 0 _ c.args.plan.now c.args.keys c.args.journal c.args.settings.turns served.end c.requires.sound.peer_count.0 (and_none _)
    (has_run (λ l. l) _ (length (workers_of c.args.plan.now)) c.args.plan.now c.args.keys c.args.journal c.args.settings.turns c.in-Ok.ready.0.items served.end c.requires.keys c.in-Ok.ensures.posts
    (posts_are duty_at c.in-Ok.ready.0.items c.args.plan.now c.args.keys _ c.args.settings.turns c.requires.keys c.in-Ok.ensures.posts) end)
    (well_is_complete _ _ _ (sym is ∙ none)))

-- as many seats as workers
pub returns-clause-ran : goal.returns-clause-ran
returns-clause-ran g c = ok_then c.run_posts.result c.run_posts.ensures.end (λ served end.
    has_run (λ l. l) _ (length (workers_of c.args.plan.now)) c.args.plan.now c.args.keys c.args.journal c.args.settings.turns c.in-Ok.ready.0.items served.end c.requires.keys c.in-Ok.ensures.posts
    (posts_are duty_at c.in-Ok.ready.0.items c.args.plan.now c.args.keys _ c.args.settings.turns c.requires.keys c.in-Ok.ensures.posts) end)

pub returns-clause-fault : goal.returns-clause-fault
returns-clause-fault g c = ok_then c.run_posts.result c.run_posts.ensures.fault (λ served is. (_, is))
