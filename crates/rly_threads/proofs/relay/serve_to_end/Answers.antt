use Rattle.std.proofs.Common.{◌≡◌, ◌∙◌, ◌||◌, Bool, IfSome, List, Option, ap, not, subst, sym}
use Rattle.std.specs.List.{AllByRecursion, AllZip, list_all}
use Rattle.std.specs.Option.{is_some}
use Rattle.rly_flush.specs.FlusherHistory.{FlusherState, IsServed}
use Rattle.rly_line.specs.EndViews.{ClosedView, names_of}
use Rattle.rly_line.specs.Replies.{ReplyId}
use Rattle.rly_line.specs.Submission.{LineId}
use Rattle.rly_line.proofs.Closing.{same_names}
use Rattle.rly_threads.specs.HelpersCut.{AreSeatsOf, GivesBack, IsJoined}
use Rattle.rly_threads.proofs.Kept.{all_answered, all_there}
use Rattle.rly_threads.proofs.relay.serve_to_end.Goals as goal

pub join_all-ended-requires-clause-stop_flag : goal.join_all-ended-requires-clause-stop_flag
join_all-ended-requires-clause-stop_flag g c =
    subst (λ lock. AllByRecursion (λ thread. IfSome thread (λ t. t.promise.stop_flag.value.id ≡ lock)) c.args.threads.items)
    (sym c.serve_and_tell-finished.ensures.of) c.requires.stop_flag

-- the seats are of the queues that the flusher closed
pub join_all-ended-requires-clause-seats : goal.join_all-ended-requires-clause-seats
join_all-ended-requires-clause-seats g c =
    let served = subst (λ (f : FlusherState g.row.D.Denot). IsServed g.D.Disk.state f c.serve_and_tell-finished.result.0.last.value) c.forget_missing.ensures c.serve_and_tell-finished.ensures.ends in
    let left = c.serve_and_tell-finished.ensures.closed in
    let of : c.args.flusher.line.of ≡ c.serve_and_tell-finished.result.0.lines.of = sym (left.of ∙ served.rounds.of) in
    let names : names_of c.args.flusher.line.lines ≡ names_of c.serve_and_tell-finished.result.0.lines.lines = sym (same_names _ _ left.told ∙ served.rounds.names) in
    subst (λ (y : LineId × List (Option ReplyId)). AreSeatsOf y.0 y.1 c.args.threads.items) (λ i. (of i, names i)) c.requires.seats

pub returns-clause-joined : goal.returns-clause-joined
returns-clause-joined g c =
    subst (λ (y : Bool × ClosedView). AllZip (GivesBack (IsJoined g.L.Link.heard g.L.Link.sent g.T.Turn.told g.T.Turn.endless g.W.Waker.woken y.0 y.1)) c.args.threads.items c.join_all-ended.result.items)
    (λ i. (sym c.value.ensures i, sym c.join_all-ended.ensures.same i)) c.join_all-ended.ensures.joined

pub returns-clause-answered : goal.returns-clause-answered
returns-clause-answered g c =
    all_answered g.L.Link.heard g.L.Link.sent g.T.Turn.told g.T.Turn.endless g.W.Waker.woken _ _ c.serve_and_tell-finished.result.0.last.value.line c.serve_and_tell-finished.ensures.closed
    c.serve_and_tell-finished.ensures.ends.rounds.history.told _ _ c.join_all-ended.ensures.joined

-- as many have ended as had a thread
pub returns-clause-told : goal.returns-clause-told
returns-clause-told g c =
    let all : c.have_started-are_all.result ≡ list_all is_some c.join_all-ended.result.items =
    c.have_started-are_all.ensures ∙ ap (list_all is_some) c.deref-2.ensures.value ∙ all_there _ _ _ c.join_all-ended.ensures.joined in
    c.value.ensures ∙ c.serve_and_tell-finished.ensures.said ∙ ap (λ all. c.serve_and_tell-finished.result.0.broken || not all) all
