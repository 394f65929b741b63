-- A wall clock whose turns are without end hands out no end, so its worker never ends.
use Rattle.std.proofs.Common.{◌≡◌, ◌∙◌, ℕ, zero, suc, ◌+◌, ◌≤◌, List, [], ◌∷◌, ◌++◌, true, false, true≢false, Bool, not, ◌&&◌, ◌||◌, ap, arith, get_or, length, map, refl, subst, sym}
use Rattle.std.proofs.lemmas.Bool.{and_parts}
use Rattle.std.proofs.lemmas.List.Folds.{list_all-append}
use Rattle.std.proofs.lemmas.Option.{IfSome_then, none-some}
use Rattle.std.specs.List.{AllZip, list_all, zip}
use Rattle.std.specs.Option.{is_none, unwrap_or}
use Rattle.std.specs.Prelude.{Err, IfOk, IfSome, None, Ok, OnOk, Option, Result, Some, option_and_then}
use Rattle.rly_core.specs.declared.params.Params.{Params}
use Rattle.rly_disk.specs.DiskModel.{DiskState}
use Rattle.rly_journal.specs.Journal.{JournalState}
use Rattle.rly_station.specs.declared.plan_keys.KeyedWorker.{KeyedWorker}
use Rattle.rly_hop.specs.Spelling.{longest_message}
use Rattle.rly_line.proofs.Closing.{as_many_names}
use Rattle.rly_line.specs.EndViews.{names_of}
use Rattle.rly_daemon_serve.specs.ServedRelay.{HasRunOver, clock_endless, clock_log, waker_woken}
use Rattle.rly_station.proofs.CountedWorkers.{workers_count}
use Rattle.rly_posts.proofs.CountedPosts.{posts_count}
use Rattle.rly_station.specs.Keys.{AreKeysOf}
use Rattle.rly_posts.specs.Duties.{Duty, LinkDuty, PostOver, duties, duty_of, duty_over, link_duty, link_duty_at}
use Rattle.rly_station.specs.Workers.{neighbour_of, workers_of}
use Rattle.rly_plan.specs.declared.neighbour.Neighbour.{Neighbour}
use Rattle.rly_line.specs.Replies.{ReplyId}
use Rattle.rly_line.specs.Seats.{new_callers}
use Rattle.rly_line.specs.Submission.{LineId}
use Rattle.rly_plan.specs.ContactPlan.{ContactPlan, next_hop_at, peer_at}
use Rattle.rly_plan.specs.Sound.{IsSoundPlan}
use Rattle.rly_posts.specs.Neighbour.{neighbour_heard, neighbour_sent}
use Rattle.rly_posts.specs.declared.neighbour_link.NeighbourLink.{NeighbourLink}
use Rattle.rly_link_udp.specs.declared.sender_waker.SenderWaker.{SenderWaker}
use Rattle.rly_link_udp.specs.declared.wall_clock.WallClock.{WallClock}
use Rattle.rly_threads.specs.declared.relay.Ended.{Ended}
use Rattle.rly_threads.specs.declared.relay.Relayed.{Relayed}
use Rattle.rly_link.specs.declared.turn.Go.{Go}
use Rattle.rly_link.specs.declared.turn.Point.TheVariants.{Start}
use Rattle.rly_link.specs.declared.turn.Worker.{Worker}
use Rattle.rly_link.specs.declared.turn.Worker.TheVariants as worker
use Rattle.rly_threads.specs.Cut.{Look, all_on, handed_at, was_cut}
use Rattle.rly_link.specs.LinkHistory.{Handed, TellsMore}
use Rattle.rly_threads.specs.Relay.{HaveEnded, IsRelayEnd, has_run_out, posts_with_seats}
use Rattle.rly_threads_workers.specs.WorkerRuns.{HasWorked}
use Rattle.rly_threads_workers.specs.Runs.{Ran, EndsView}
use Rattle.rly_threads_workers.specs.Turns.{Done}

-- a worker got its stop
record WasOff (old new : EndsView) : Type 0 where
  pub worker : Worker
  pub before : List Handed
  pub last : Go
  pub off : last.on ≡ false
  pub handed : TellsMore old.handed new.handed (before ++ (worker, Start, last) ∷ [])

ran_ended : {C : Type 0} (old new : EndsView) (w : Worker) (d : Done C) → Ran old new w d → WasOff old new
ran_ended old new w d ran = record { worker = w; before = d.handed; last = ran.last; off = ran.off; handed = ran.handed }

if_there : {N : Type 0} (o : Option N) (f : N → Option LinkDuty) (a : LinkDuty) (Q : Type 0) → Some a ≡ option_and_then f o → IfSome o (λ _. Q) → Q
if_there None f a Q e q = absurd (none-some _ (sym e))
if_there (Some n) f a Q e q = q

worked_ended : (plan : ContactPlan) (params : Params) (w : Worker) (f : Neighbour → Option LinkDuty) (d : LinkDuty) (old new : EndsView) → Some d ≡ option_and_then f (neighbour_of plan w) → HasWorked plan params w old new → WasOff old new
worked_ended plan params (worker.Receiver peer) f d old new there worked =
    if_there (peer_at plan peer) f d (WasOff old new) there (IfSome_then (peer_at plan peer) worked.1 (λ n did. ran_ended old new (worker.Receiver peer) _ did.3))
worked_ended plan params (worker.Sender hop) f d old new there worked =
    if_there (next_hop_at plan hop) f d (WasOff old new) there (IfSome_then (next_hop_at plan hop) worked.1 (λ n did. ran_ended old new (worker.Sender hop) _ did.3))

-- the ticks of a clock, if a worker was to continue at each
on_mapped : (looks : List Look) → list_all (λ (h : Handed). h.2.on) (map (λ (l : Look). l.handed) looks) ≡ all_on looks
on_mapped [] = refl
on_mapped (l ∷ looks) = ap (λ b. l.handed.2.on && b) (on_mapped looks)

last_on : (before : List Handed) (h : Handed) → list_all (λ (h : Handed). h.2.on) (before ++ h ∷ []) ≡ true → h.2.on ≡ true
last_on before h all =
    let both : (list_all (λ (h : Handed). h.2.on) before && (h.2.on && true)) ≡ true = sym (list_all-append (λ (h : Handed). h.2.on) before (h ∷ [])) ∙ all in
    (and_parts h.2.on true (and_parts (list_all (λ (h : Handed). h.2.on) before) (h.2.on && true) both).1).0

first_duty : (d : Duty) (ds : List Duty) (plan : ContactPlan) (longest turns : ℕ) (links : List KeyedWorker) → d ∷ ds ≡ map (duty_of plan longest turns) links → (link : KeyedWorker) × (d ≡ duty_of plan longest turns link)
first_duty d ds plan longest turns [] e = absurd (omega (arith, ap length e))
first_duty d ds plan longest turns (link ∷ links) e = (link, ap (λ l. get_or l 0 d) e)

or_parts : (a b : Bool) → (a || b) ≡ false → (a ≡ false) × (b ≡ false)
or_parts true b e = absurd (true≢false e)
or_parts false b e = (refl, e)

pub and_true : (b : Bool) → (b && true) ≡ b
and_true true = refl
and_true false = refl

not_false : (b : Bool) → not b ≡ true → b ≡ false
not_false true e = sym e
not_false false e = refl

uncut_one : (l : Look) → l.cut ≡ false → l.handed ≡ handed_at l
uncut_one l e = λ i. (l.handed.0, l.handed.1, record l.handed.2 { on = sym (ap (λ c. l.handed.2.on && not c) e ∙ and_true l.handed.2.on) i })

-- a worker that was not stopped early got the ticks of its clock
uncut : (looks : List Look) → was_cut looks ≡ false → map (λ l. l.handed) looks ≡ map handed_at looks
uncut [] e = refl
uncut (l ∷ looks) e =
    let both = or_parts l.cut (was_cut looks) e in
    λ i. uncut_one l both.0 i ∷ uncut looks both.1 i

endless_goes_on : {L C : Type 0} (below : L → NeighbourLink C) (plan : ContactPlan) (links : List KeyedWorker) (params : Params) (longest : ℕ) (line : LineId) (names : List (Option ReplyId)) (number : ℕ) (posts : List (PostOver L C)) (ended : List (Option (Ended L (WallClock C) SenderWaker))) → map (duty_over below) posts ≡ duties plan links longest 0 → 1 ≤ length posts → length posts ≤ length names
    → AllZip (HaveEnded (λ l. neighbour_heard (below l)) (λ l. neighbour_sent (below l)) clock_log clock_endless waker_woken plan params) (zip posts (new_callers line number names)) ended
    → list_all has_run_out ended ≡ true → ⊥
endless_goes_on below plan links params longest line names number [] ended e some count worked all = absurd (omega (arith, some))
endless_goes_on below plan links params longest line [] number (post ∷ posts) ended e some count worked all = absurd (omega (arith, count))
endless_goes_on below plan links params longest line (name ∷ names) number (post ∷ posts) [] e some count worked all = absurd worked
endless_goes_on below plan links params longest line (name ∷ names) number (post ∷ posts) (None ∷ ended) e some count worked all = absurd (true≢false (sym all))
endless_goes_on below plan links params longest line (name ∷ names) number (post ∷ posts) (Some left ∷ ended) e some count worked all =
    let did = worked.0 in
    let first = first_duty _ _ plan longest 0 links e in
    let is : post.worker ≡ first.0.worker = ap (λ d. d.worker) first.1 in
    let at_far = link_duty_at plan longest 0 first.0 in
    let there : Some (link_duty (below post.link)) ≡ option_and_then at_far (neighbour_of plan post.worker) = ap (λ d. d.link) first.1 ∙ ap (λ w. option_and_then at_far (neighbour_of plan w)) (sym is) in
    let none : post.turn.left ≡ None = ap (λ d. d.left) first.1 in
    let end = worked_ended plan params post.worker at_far (link_duty (below post.link)) _ _ there did.worked in
    let not_cut : was_cut did.looks ≡ false = sym did.was_cut ∙ not_false left.was_cut (and_parts (not left.was_cut) (list_all has_run_out ended) all).0 in
    let whole : map (λ l. l.handed) did.looks ≡ end.before ++ (end.worker, Start, end.last) ∷ [] =
    uncut did.looks not_cut ∙ ap (λ (o : Option (List Handed)). unwrap_or o []) end.handed in
    let on : list_all (λ (h : Handed). h.2.on) (end.before ++ (end.worker, Start, end.last) ∷ []) ≡ true =
    sym (ap (list_all (λ (h : Handed). h.2.on)) whole) ∙ on_mapped did.looks ∙ did.on (ap is_none none) in
    true≢false (sym (last_on end.before (end.worker, Start, end.last) on) ∙ end.off)

-- if each worker of a plan ran until its turns ran out, the turns are limited
pub turns_end : {L C : Type 0} (below : L → NeighbourLink C) (plan : ContactPlan) (links : List KeyedWorker) (params : Params) (longest turns : ℕ) (line : LineId) (names : List (Option ReplyId)) (posts : List (PostOver L C)) (ended : List (Option (Ended L (WallClock C) SenderWaker))) → map (duty_over below) posts ≡ duties plan links longest turns → 1 ≤ length posts → length posts ≤ length names
    → AllZip (HaveEnded (λ l. neighbour_heard (below l)) (λ l. neighbour_sent (below l)) clock_log clock_endless waker_woken plan params) (posts_with_seats line names posts) ended
    → list_all has_run_out ended ≡ true → 1 ≤ turns
turns_end below plan links params longest zero line names posts ended e some count worked all = absurd (endless_goes_on below plan links params longest line names 0 posts ended e some count worked all)
turns_end below plan links params longest (suc n) line names posts ended e some count worked all = omega arith

-- as many posts as the plan has workers
pub posts_are : {A : Type 0} (f : A → Duty) (posts : List A) (plan : ContactPlan) (links : List KeyedWorker) (longest turns : ℕ) → AreKeysOf plan links → map f posts ≡ duties plan links longest turns → length posts ≡ length (workers_of plan)
posts_are f posts plan links longest turns keys planned = posts_count f posts plan links longest turns keys planned ∙ sym (workers_count plan)

-- what the workers did
pub has_run : {D L C : Type 0} {state : D → DiskState} (below : L → NeighbourLink C) (count seats : ℕ) (plan : ContactPlan) (links : List KeyedWorker) (journal : JournalState D) (turns : ℕ) (posts : List (PostOver L C)) (relayed : Relayed D L (WallClock C) SenderWaker)
    → AreKeysOf plan links → map (duty_over below) posts ≡ duties plan links (longest_message journal.state.params.payload) turns → count ≡ seats
    → IsRelayEnd state (λ l. neighbour_heard (below l)) (λ l. neighbour_sent (below l)) clock_log clock_endless waker_woken plan journal count posts relayed
    → HasRunOver state below seats plan links journal turns relayed
has_run {D} {L} {C} {state} below count seats plan links journal turns posts relayed keys planned same end = record {
  posts = posts;
  planned = planned;
  count = posts_are (duty_over below) posts plan links (longest_message journal.state.params.payload) turns keys planned;
  end = subst (λ n. IsRelayEnd state (λ l. neighbour_heard (below l)) (λ l. neighbour_sent (below l)) clock_log clock_endless waker_woken plan journal n posts relayed) same end;
}

-- if each ran until its turns were ended, the turns have an end
pub run_ends : {D L C : Type 0} {state : D → DiskState} (below : L → NeighbourLink C) (others seats : ℕ) (plan : ContactPlan) (links : List KeyedWorker) (journal : JournalState D) (turns : ℕ) (relayed : Relayed D L (WallClock C) SenderWaker)
    → 1 ≤ length plan.peers → seats ≡ length (workers_of plan) + others → HasRunOver state below seats plan links journal turns relayed → relayed.complete ≡ true → 1 ≤ turns
run_ends below others seats plan links journal turns relayed some are run whole =
    let line = relayed.finished.last.value.line in
    let first : 1 ≤ length run.posts = omega (arith, run.count, workers_count plan, some) in
    let many : length run.posts ≤ length (names_of line.lines) = omega (arith, as_many_names line.lines, run.end.seats, run.count, are) in
    turns_end below plan links journal.state.params (longest_message journal.state.params.payload) turns line.of (names_of line.lines) run.posts relayed.ended.items run.planned first many run.end.end.worked (sym run.end.end.complete ∙ whole)

-- a plan has 1 to 64 peers and 1 to 64 hops
pub posts_between : {A : Type 0} (f : A → Duty) (posts : List A) (plan : ContactPlan) (links : List KeyedWorker) (longest turns most : ℕ) → AreKeysOf plan links → IsSoundPlan plan → map f posts ≡ duties plan links longest turns → 128 ≤ most
    → (1 ≤ length posts) × (length posts ≤ most)
posts_between f posts plan links longest turns most keys sound planned room =
    let count = posts_count f posts plan links longest turns keys planned in
    let peers = sound.peer_count in
    let hops = sound.hop_count in
    (omega (arith, count, peers.0, hops.0), omega (arith, count, peers.1, hops.1, room))

pub below_255 : 128 ≤ 255
below_255 = omega arith

pub below_256 : 128 ≤ 256
below_256 = omega arith

-- counts, apart from all that is known where they are used
pub and_none : (n : ℕ) → n ≡ n + 0
and_none n = omega arith

pub and_one : (m n : ℕ) → m ≡ n → m + 1 ≡ n + 1
and_one m n same = ap (λ k. k + 1) same

-- a property of a good outcome, from one of the result
pub ok_then : {A E : Type 0} {P Q : A → Type 0} (r : Result A E) → IfOk r P → ((x : A) → P x → Q x) → IfOk r Q
ok_then (Ok a) p f = f a p
ok_then (Err e) p f = tt

-- and from two things that are
pub both_then : {A E : Type 0} {P Q S : A → Type 0} (r : Result A E) → IfOk r P → IfOk r Q → ((x : A) → P x → Q x → S x) → IfOk r S
both_then (Ok a) p q f = f a p q
both_then (Err e) p q f = tt

pub on_ok : {A E X : Type 0} (r : Result A E) → X → OnOk r X
on_ok (Ok a) x = x
on_ok (Err e) x = tt
