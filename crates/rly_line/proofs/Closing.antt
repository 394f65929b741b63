-- Seats that left, with the closed end of their queues.
use Rattle.std.proofs.Common.{◌≡◌, ◌∙◌, ℕ, zero, suc, ◌+◌, ◌<◌, Option, Some, None, List, [], ◌∷◌, ◌++◌, length, map, get_or, refl, ap, sym, subst, arith, append_assoc, length-append}
use Rattle.std.proofs.lemmas.List.{length-map}
use Rattle.std.specs.List.{AllByRecursion}
use Rattle.rly_line.specs.EndViews.{ClosedView, TellTheSame, names_of, new_reply_end, reply_end_at, with_gone}
use Rattle.rly_line.specs.Replies.{IsPrefixOf, ReplyId, ReplyEndView}
use Rattle.rly_line.specs.ResponderView.{AreReported, IsAnsweredBy, IsLeftBy, IsSeatOf, IsReportedBy, ResponderView}
use Rattle.rly_line.specs.Seats.{Caller, new_callers}
use Rattle.rly_line.specs.Submission.{IsBeginning, LineId}
use Rattle.rly_line.proofs.Making.{between}
use Rattle.rly_line.proofs.Replying.{before_that}

pub as_many_names : (lines : List ReplyEndView) → length (names_of lines) ≡ length lines
as_many_names lines = length-map lines (λ (t : ReplyEndView). t.of)

-- each of the seats of a new line is one of it
seats_from : (of : LineId) (front names : List (Option ReplyId)) → AllByRecursion (IsSeatOf of (front ++ names)) (new_callers of (length front) names)
seats_from of front [] = tt
seats_from of front (name ∷ names) =
    let all : List (Option ReplyId) = front ++ name ∷ names in
    let more : AllByRecursion (IsSeatOf of ((front ++ name ∷ []) ++ names)) (new_callers of (length (front ++ name ∷ [])) names) = seats_from of (front ++ name ∷ []) names in
    let count : length (front ++ name ∷ []) ≡ length front + 1 = length-append front (name ∷ []) in (
      record { puts = refl; there = omega (arith, length-append front (name ∷ names)); hears = sym (between front name names None) },
      subst (λ (y : List (Option ReplyId) × ℕ). AllByRecursion (IsSeatOf of y.0) (new_callers of y.1 names)) (λ i. (append_assoc front (name ∷ []) names i, count i)) more,
    )

pub seats_of : (of : LineId) (names : List (Option ReplyId)) → AllByRecursion (IsSeatOf of names) (new_callers of 0 names)
seats_of of names = seats_from of [] names

at_mapped : (lines : List ReplyEndView) (seat : ℕ) (d : ReplyEndView) → get_or (map with_gone lines) seat (with_gone d) ≡ with_gone (get_or lines seat d)
at_mapped [] seat d = refl
at_mapped (x ∷ lines) zero d = refl
at_mapped (x ∷ lines) (suc k) d = at_mapped lines k d

-- queues with the same histories are the same except for dropped seats
same_at : (lines told : List ReplyEndView) (seat : ℕ) → TellTheSame lines told → with_gone (get_or lines seat (new_reply_end None seat)) ≡ with_gone (get_or told seat (new_reply_end None seat))
same_at lines told seat same =
    sym (at_mapped lines seat (new_reply_end None seat)) ∙ ap (λ l. get_or l seat (with_gone (new_reply_end None seat))) same ∙ at_mapped told seat (new_reply_end None seat)

names_gone : (lines : List ReplyEndView) → names_of (map with_gone lines) ≡ names_of lines
names_gone [] = refl
names_gone (x ∷ lines) = ap (λ l. x.of ∷ l) (names_gone lines)

pub same_names : (lines told : List ReplyEndView) → TellTheSame lines told → names_of lines ≡ names_of told
same_names lines told same = sym (names_gone lines) ∙ ap names_of same ∙ names_gone told

-- a seat of a responder's lines is one of the closed end that it left
pub still_its : (r : ResponderView) (end : ClosedView) (c : Caller) → IsLeftBy r end → IsSeatOf r.of (names_of r.lines) c → IsSeatOf end.of (names_of end.lines) c
still_its r end c left is =
    subst (λ (y : LineId × List (Option ReplyId)). IsSeatOf y.0 y.1 c) (λ i. (sym left.of i, sym (same_names end.lines r.lines left.told) i)) is

-- and the history sent to it is that of the responder, so a prefix of the history
pub answered_by : (r : ResponderView) (end : ClosedView) (c : Caller) → IsLeftBy r end → AreReported r.start r.history r.lines → IsSeatOf end.of (names_of end.lines) c → IsReportedBy end c → IsAnsweredBy r c
answered_by r end c left told is by =
    let at : ℕ = c.seat.0 in
    let here : at < length r.lines = omega (arith, is.there, ap length (same_names end.lines r.lines left.told), as_many_names r.lines) in
    let its = told at here in
    let same : with_gone (reply_end_at end.lines at) ≡ with_gone (reply_end_at r.lines at) = same_at end.lines r.lines at left.told in
    let known : IsPrefixOf c.base (reply_end_at r.lines at).base c.known (reply_end_at r.lines at).told =
    subst (λ (t : ReplyEndView). IsPrefixOf c.base t.base c.known t.told) same by.known in
    let whole : IsPrefixOf (reply_end_at r.lines at).base (Some r.start) (reply_end_at r.lines at).told r.history = record { same_base = its.base; rest = its.rest; whole = its.whole } in
    record {
      begins = subst (λ l. IsBeginning at l c.put) left.taken by.begins;
      known = before_that c.base (reply_end_at r.lines at).base (Some r.start) c.known (reply_end_at r.lines at).told r.history known whole;
    }
