use denote.Exit.{no}
use denote.Param.Send.{arg_send, param_send, param_sync, shr_send}
use Rattle.std.proofs.Common.{◌+◌, ◌∙◌, length, refl, sym}
use Rattle.std.proofs.lemmas.Bool.{and_parts}
use Rattle.rly_daemon_serve.specs.WallReportClock.{due_moments}
use Rattle.rly_daemon_serve.proofs.Endless.{and_one, below_255, both_then, has_run, ok_then, on_ok, posts_are, posts_between, run_ends}
use Rattle.rly_posts.proofs.Sending.{neighbour_send}
use Rattle.rly_daemon_serve.proofs.Tallied.{tallied_send}
use Rattle.rly_daemon_serve.proofs.ClockStart.{told_from}
use Rattle.rly_daemon_serve.proofs.Outcomes.{well_is_complete}
use Rattle.rly_posts.specs.Duties.{duty_over}
use Rattle.rly_station.specs.Workers.{workers_of}
use Rattle.rly_hop.specs.Spelling.{longest_message}
use Rattle.rly_daemon_reporter.specs.TalliedLink.{link_below}
use Rattle.rly_daemon_serve.proofs.reported_relay.serve_reporting.Goals as goal

-- a plan has 1 to 64 peers and 1 to 64 hops
pub run_tallied-requires-clause-count : goal.run_tallied-requires-clause-count
run_tallied-requires-clause-count g c κs within =
    posts_between (duty_over link_below) c.in-Ok.started.0.items c.args.plan.now c.args.keys (longest_message c.args.journal.state.params.payload) c.args.settings.turns 255 c.requires.keys c.requires.sound c.in-Ok.ensures.posts below_255

pub returns-clause-room : goal.returns-clause-room
returns-clause-room g c = on_ok c.run_tallied.result c.in-Ok.ensures.room

pub returns-clause-ends : goal.returns-clause-ends
returns-clause-ends g c = both_then c.run_tallied.result c.run_tallied.ensures.end c.run_tallied.ensures.fault (λ served end is none.
    run_ends link_below 1 _ c.args.plan.now c.args.keys c.args.journal c.args.settings.turns served.end.relayed c.requires.sound.peer_count.0 refl
    (has_run link_below _ (length (workers_of c.args.plan.now) + 1) c.args.plan.now c.args.keys c.args.journal c.args.settings.turns c.in-Ok.started.0.items served.end.relayed c.requires.keys c.in-Ok.ensures.posts
    (and_one _ _ (posts_are (duty_over link_below) c.in-Ok.started.0.items c.args.plan.now c.args.keys _ c.args.settings.turns c.requires.keys c.in-Ok.ensures.posts)) end)
    (and_parts _ _ (well_is_complete _ _ _ (sym is ∙ none))).0)

-- as many seats as workers, and one more
pub returns-clause-ran : goal.returns-clause-ran
returns-clause-ran g c = ok_then c.run_tallied.result c.run_tallied.ensures.end (λ served end.
    has_run link_below _ (length (workers_of c.args.plan.now) + 1) c.args.plan.now c.args.keys c.args.journal c.args.settings.turns c.in-Ok.started.0.items served.end.relayed c.requires.keys c.in-Ok.ensures.posts
    (and_one _ _ (posts_are (duty_over link_below) c.in-Ok.started.0.items c.args.plan.now c.args.keys _ c.args.settings.turns c.requires.keys c.in-Ok.ensures.posts)) end)

pub returns-clause-fault : goal.returns-clause-fault
returns-clause-fault g c = ok_then c.run_tallied.result c.run_tallied.ensures.fault (λ served is. (_, is))

-- its schedule was new
pub returns-clause-reported : goal.returns-clause-reported
returns-clause-reported g c = ok_then c.run_tallied.result c.run_tallied.ensures.watched (λ served did.
    let watched = did.0 in
    record {
      first = watched.0;
      last = watched.1;
      asked = watched.2.asked;
      put = watched.2.put;
      known = did.1;
      moments = due_moments served.end.watched.pace.told;
      reported = told_from c.args.plan.now watched.2.asked (due_moments c.new-pace.result.told) (due_moments served.end.watched.pace.told) (g.W.Write.contents c.args.writer.now) (g.W.Write.contents c.run_tallied.new.writer) served.end.watched.end c.new-pace.ensures watched.2.reported;
    })

-- a worker's link goes to its thread
pub run_tallied-requires-send-L : goal.run_tallied-requires-send-L
run_tallied-requires-send-L g c κs within =
    let shared = param_sync 0 _ c.type_bounds.sync-H in
    param_send 2 _ (arg_send _ no _ (tallied_send _ _ (neighbour_send _ _ _ (shr_send _ _ _ shared)) (shr_send _ _ _ shared)))
