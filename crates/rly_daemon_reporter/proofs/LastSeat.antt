-- The last seat of a queue, after those of the workers.
use Rattle.std.proofs.Common.{◌≡◌, ◌∙◌, ◌<◌, List, [], ◌∷◌, ◌++◌, Option, None, ap, arith, length, refl, subst, sym, get_or}
use Rattle.std.specs.List.{AllByRecursion, zip}
use Rattle.rly_line.specs.EndViews.{ClosedView, EndView, names_of}
use Rattle.rly_line.specs.Replies.{ReplyId}
use Rattle.rly_line.specs.ResponderView.{IsLeftBy, IsSeatOf, ResponderView}
use Rattle.rly_line.specs.Seats.{Caller, new_callers}
use Rattle.rly_line.specs.Submission.{LineId}
use Rattle.rly_line.proofs.Closing.{seats_of, still_its}
use Rattle.rly_daemon_reporter.specs.ReporterAtSeat.{IsLastSeat}
use Rattle.rly_machine.specs.declared.call.SeatId.{SeatId}
use Rattle.rly_threads_workers.specs.DeskExchanges.{Asked, HasPut}

-- one more that has no partner
zip_front : {A B : Type 0} (xs : List A) (ys : List B) (y : B) → length ys ≡ length xs → zip xs (ys ++ y ∷ []) ≡ zip xs ys
zip_front [] [] y e = refl
zip_front [] (z ∷ ys) y e = refl
zip_front (x ∷ xs) [] y e = absurd (omega (arith, e))
zip_front (x ∷ xs) (z ∷ ys) y e = ap (λ l. (x, z) ∷ l) (zip_front xs ys y (omega (arith, e)))

-- all but the last, and the last
all_front : {A : Type 0} (P : A → Type 0) (xs : List A) (y : A) → AllByRecursion P (xs ++ y ∷ []) → AllByRecursion P xs
all_front P [] y all = tt
all_front P (x ∷ xs) y all = (all.0, all_front P xs y all.1)

all_last : {A : Type 0} (P : A → Type 0) (xs : List A) (y : A) → AllByRecursion P (xs ++ y ∷ []) → P y
all_last P [] y all = all.0
all_last P (x ∷ xs) y all = all_last P xs y all.1

-- a seat stays one of its queue, whatever its asks
pub still_seat : (of : LineId) (names : List (Option ReplyId)) (before after : Caller) (asked : List Asked) → HasPut before asked after → IsSeatOf of names before → IsSeatOf of names after
still_seat of names before after asked put is = record {
  puts = put.of ∙ is.puts;
  there = subst (λ (s : SeatId). s.0 < length names) (sym put.seat) is.there;
  hears = put.replies ∙ is.hears ∙ ap (λ (s : SeatId). get_or names s.0 None) (sym put.seat);
}

-- the seats of a new queue, except the last
all_seats : (of : LineId) (names : List (Option ReplyId)) (all front : List Caller) (last : Caller) → all ≡ new_callers of 0 names → all ≡ front ++ last ∷ [] → AllByRecursion (IsSeatOf of names) (front ++ last ∷ [])
all_seats of names all front last made is = subst (AllByRecursion (IsSeatOf of names)) (sym made ∙ is) (seats_of of names)

pub front_seats : (of : LineId) (names : List (Option ReplyId)) (all front : List Caller) (last : Caller) → all ≡ new_callers of 0 names → all ≡ front ++ last ∷ [] → AllByRecursion (IsSeatOf of names) front
front_seats of names all front last made is = all_front (IsSeatOf of names) front last (all_seats of names all front last made is)

pub last_seat : (of : LineId) (names : List (Option ReplyId)) (all front : List Caller) (last : Caller) → all ≡ new_callers of 0 names → all ≡ front ++ last ∷ [] → IsSeatOf of names last
last_seat of names all front last made is = all_last (IsSeatOf of names) front last (all_seats of names all front last made is)

-- such a seat, once it has left, at the closed end that a responder left
pub left_seat : (line : EndView) (r : ResponderView) (end : ClosedView) (first left : Caller) (asked : List Asked) → r.of ≡ line.of → names_of r.lines ≡ names_of line.lines → IsLeftBy r end
    → IsSeatOf line.of (names_of line.lines) first → HasPut first asked left → IsSeatOf end.of (names_of end.lines) left
left_seat line r end first left asked of names closed is put =
    still_its r end left closed
    (subst (λ (y : LineId × List (Option ReplyId)). IsSeatOf y.0 y.1 left) (λ i. (sym of i, sym names i)) (still_seat line.of (names_of line.lines) first left asked put is))

-- so the others are the seats of as many workers
pub seated_front : {X : Type 0} (posts : List X) (of : LineId) (names : List (Option ReplyId)) (all front : List Caller) (last : Caller) → length front ≡ length posts → all ≡ new_callers of 0 names → all ≡ front ++ last ∷ []
    → zip posts front ≡ zip posts (new_callers of 0 names)
seated_front posts of names all front last e made is = sym (zip_front posts front last e) ∙ ap (zip posts) (sym is ∙ made)

pub is_last : (line : EndView) (r : ResponderView) (all front : List Caller) (last : Caller) → r.of ≡ line.of → names_of r.lines ≡ names_of line.lines → all ≡ new_callers line.of 0 (names_of line.lines) → all ≡ front ++ last ∷ []
    → IsLastSeat r.of (names_of r.lines) last
is_last line r all front last of names made is =
    (front, (λ i. new_callers (of i) 0 (names i)) ∙ sym made ∙ is)
