-- A relay: its lines, what its workers did, and what it leaves.
use Rattle.std.specs.Prelude.{◌≡◌, ◌⊎◌, ◌||◌, ℕ, not, Bool, false, true, List, []}
use Rattle.std.specs.Prelude.{length, map, Option, None, Some, IfSome}
use Rattle.std.specs.List.{AllByRecursion, AllZip, list_all, zip}
use Rattle.std.specs.Option.{is_some}
use Rattle.rly_core.specs.declared.ids.HopId.{HopId}
use Rattle.rly_core.specs.declared.params.Params.{Params}
use Rattle.rly_disk.specs.DiskModel.{DiskState, HasFailed, Later}
use Rattle.rly_flush.specs.FlusherHistory.{IsServed, new_flusher}
use Rattle.rly_journal.specs.Journal.{JournalState}
use Rattle.rly_line.specs.EndViews.{EndView, names_of, new_reply_ends}
use Rattle.rly_line.specs.Replies.{ReplyId}
use Rattle.rly_line.specs.ResponderView.{IsAnsweredBy, IsLeftBy, ResponderView}
use Rattle.rly_line.specs.Seats.{Caller, new_callers}
use Rattle.rly_line.specs.Submission.{LineId}
use Rattle.rly_plan.specs.ContactPlan.{ContactPlan}
use Rattle.rly_link.specs.declared.post.Post.{Post}
use Rattle.rly_link.specs.LinkHistory.{Handed, Hearing, TellsMore}
use Rattle.rly_threads.specs.declared.relay.Ended.{Ended}
use Rattle.rly_threads.specs.declared.relay.Relayed.{Relayed}
use Rattle.rly_threads.specs.Cut.{Look, all_on, is_cut_short, handed_at, was_cut}
use Rattle.rly_threads_workers.specs.DeskExchanges.{Asked, HasPut}
use Rattle.rly_threads_workers.specs.Runs.{EndsView}
use Rattle.rly_threads_workers.specs.WorkerRuns.{HasWorked}

-- the end of a new queue whose seats are answered in these queues, with room for a batch of each
abbrev pub new_end : LineId → List (Option ReplyId) → EndView
new_end line names =
    record { of = line; capacity = length names; taken = []; lines = new_reply_ends 0 names; over = false }

-- the ghost histories of a post's link, seat and waker, and the worker's ticks
abbrev pub post_view : Option (List Hearing) → Option (List (List ℕ)) → List Asked → List Handed → Option (List HopId)
    → EndsView
post_view heard sent asked handed woken =
    record { heard = heard; sent = sent; asked = Some asked; handed = Some handed; woken = woken }

-- A worker at its end, with its post and its seat, and whether it was stopped early, against its post and its seat
-- before. Its effects are those that the plan defines on its ticks and answers, from its start to its end, and its
-- seat submitted exactly its asks. Its ticks are those of its clock, except the stop if it was stopped early: its
-- clock would have let it continue. An endless clock hands out no stop.
pub record HasEnded {L T W : Type 0} (heard : L → Option (List Hearing)) (sent : L → Option (List (List ℕ)))
    (handed : T → Option (List Handed)) (endless : T → Bool) (woken : W → Option (List HopId)) (plan : ContactPlan)
    (params : Params) (given : Post L T W × Caller) (post : Post L T W) (seat : Caller) (cut : Bool) : Type 0 where
  pub worker : post.worker ≡ given.0.worker
  pub looks : List Look
  pub turns : TellsMore (handed given.0.turn) (handed post.turn) (map (λ l. l.handed) looks)
  pub on : endless given.0.turn ≡ true → all_on looks ≡ true
  pub asked : List Asked
  pub put : HasPut given.1 asked seat
  pub worked : HasWorked plan params given.0.worker
      (post_view (heard given.0.link) (sent given.0.link) [] [] (woken given.0.waker))
      (post_view (heard post.link) (sent post.link) asked (map handed_at looks) (woken post.waker))
  pub was_cut : cut ≡ was_cut looks
  pub early : is_cut_short looks ≡ true

-- the same if it got a thread
abbrev pub HaveEnded : {L T W : Type 0} → (L → Option (List Hearing)) → (L → Option (List (List ℕ)))
    → (T → Option (List Handed)) → (T → Bool) → (W → Option (List HopId)) → ContactPlan → Params → Post L T W × Caller
    → Option (Ended L T W) → Type 0
HaveEnded heard sent handed endless woken plan params given ended =
    IfSome ended (λ e. HasEnded heard sent handed endless woken plan params given e.post e.seat.value e.was_cut)

-- posts, each with the seat of its number at a queue, without asks
abbrev pub posts_with_seats : {L T W : Type 0} → LineId → List (Option ReplyId) → List (Post L T W)
    → List (Post L T W × Caller)
posts_with_seats line names posts = zip posts (new_callers line 0 names)

-- the seat of each worker that got a thread is related to its answering thread
abbrev pub AreAnsweredBy : {L T W : Type 0} → ResponderView → List (Option (Ended L T W)) → Type 0
AreAnsweredBy r ended = AllByRecursion (λ e. IfSome e (λ worker. IsAnsweredBy r worker.seat.value)) ended

-- whether the workers of a relay stop early: the journal broke, or one of them got no thread
abbrev pub is_to_end : {L T W : Type 0} → Bool → List (Option (Ended L T W)) → Bool
is_to_end broken ended = broken || not (list_all is_some ended)

-- whether a worker got a thread, and ran until its turns ran out
abbrev pub has_run_out : {L T W : Type 0} → Option (Ended L T W) → Bool
has_run_out None = false
has_run_out (Some worker) = not worker.was_cut

-- What a relay leaves of a journal and of its workers, each of which was given a post and a seat, if its flusher began
-- at this end of a line.
pub record IsRelayEndAt {D L T W : Type 0} (state : D → DiskState) (heard : L → Option (List Hearing))
    (sent : L → Option (List (List ℕ))) (handed : T → Option (List Handed)) (endless : T → Bool)
    (woken : W → Option (List HopId)) (plan : ContactPlan) (journal : JournalState D) (line_end : EndView)
    (given : List (Post L T W × Caller)) (relayed : Relayed D L T W) : Type 0 where
  -- what is said of the journal, that it broke, is so
  pub broken : relayed.finished.broken ≡ relayed.finished.journal.broken
  -- the journal ends broken only if it was, or if a call of its device failed
  pub broke : relayed.finished.broken ≡ true
      → (journal.broken ≡ true) ⊎ HasFailed (state journal.disk) (state relayed.finished.journal.disk)
  -- its flusher leaves what rounds make of the journal, at that end
  pub served : IsServed state (new_flusher journal line_end) relayed.finished.last.value
  -- the journal that its flusher leaves is handed back
  pub left : relayed.finished.last.value.journal ≡ relayed.finished.journal
  -- the closed end is that of its flusher, for the owners of other seats
  pub closed : IsLeftBy relayed.finished.last.value.line relayed.finished.lines
  -- each worker that had a thread did at its post and its seat what the plan says of it, with the journal's parameters
  pub worked : AllZip (HaveEnded heard sent handed endless woken plan journal.state.params) given relayed.ended.items
  -- its seat put first all asks that the flusher's history has of it, and it knows a prefix of that history
  pub answered : AreAnsweredBy relayed.finished.last.value.line relayed.ended.items
  -- the workers are told to end exactly if the journal broke or one of them had no thread
  pub told : relayed.is_cut ≡ is_to_end relayed.finished.broken relayed.ended.items
  -- and none is cut otherwise
  pub cut : AllByRecursion
      (λ ended. IfSome ended (λ worker. worker.was_cut ≡ true → relayed.is_cut ≡ true)) relayed.ended.items
  -- it is complete exactly if each worker had a thread and ran until its turns were ended
  pub complete : relayed.complete ≡ list_all has_run_out relayed.ended.items
  -- its device is the one that it was, after more calls
  pub later : Later (state journal.disk) (state relayed.finished.journal.disk)

-- The same at the end of a new line with this number of seats, the first of which are those of the posts in their
-- order.
pub record IsRelayEnd {D L T W : Type 0} (state : D → DiskState) (heard : L → Option (List Hearing))
    (sent : L → Option (List (List ℕ))) (handed : T → Option (List Handed)) (endless : T → Bool)
    (woken : W → Option (List HopId)) (plan : ContactPlan) (journal : JournalState D) (count : ℕ)
    (posts : List (Post L T W)) (relayed : Relayed D L T W) : Type 0 where
  pub line : LineId
  -- where its seats are answered
  pub names : List (Option ReplyId)
  pub many : length names ≡ count
  pub end : IsRelayEndAt state heard sent handed endless woken plan journal (new_end line names)
      (posts_with_seats relayed.finished.last.value.line.of (names_of relayed.finished.last.value.line.lines) posts)
      relayed
  -- its flusher leaves as many seats
  pub seats : length relayed.finished.last.value.line.lines ≡ count
