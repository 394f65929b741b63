-- Queues that are made in order, one for each seat.
use Rattle.std.proofs.Common.{ℕ, zero, suc, ◌≡◌, ◌+◌, ◌<◌, Option, None, List, [], ◌∷◌, ◌++◌, false, length, get_or, refl, ap, sym, ◌∙◌, subst, arith}
use Rattle.std.proofs.lemmas.List.{length-map, map-append}
use Rattle.rly_line.specs.EndViews.{AreInPlace, names_of, new_reply_end, new_reply_ends}
use Rattle.rly_line.specs.HelpersEnds.{Taker}
use Rattle.rly_line.specs.Replies.{ReplyId, ReplyEndView}
use Rattle.rly_line.specs.Seats.{Caller, new_caller, new_callers}
use Rattle.rly_line.specs.Submission.{LineId}

-- each of the new lines is new, and in its place
pub new_teller_at : (number : ℕ) (names : List (Option ReplyId)) (seat : ℕ) (d : ReplyEndView) → seat < length (new_reply_ends number names)
    → get_or (new_reply_ends number names) seat d ≡ new_reply_end (get_or names seat None) (number + seat)
new_teller_at number [] seat d here = absurd (omega (arith, here))
new_teller_at number (of ∷ more) zero d here = ap (new_reply_end of) (let e : number ≡ number + 0 = omega arith in e)
new_teller_at number (of ∷ more) (suc k) d here =
    let below : k < length (new_reply_ends (number + 1) more) = omega (arith, here) in
    let e : (number + 1) + k ≡ number + suc k = omega arith in
    new_teller_at (number + 1) more k d below ∙ ap (new_reply_end (get_or more k None)) e

pub new_in_place : (names : List (Option ReplyId)) → AreInPlace (new_reply_ends 0 names)
new_in_place names seat here =
    let e : 0 + seat ≡ seat = omega arith in
    ap (λ (t : ReplyEndView). t.seat) (new_teller_at 0 names seat (new_reply_end None seat) here) ∙ e

pub callers_count : (of : LineId) (number : ℕ) (names : List (Option ReplyId)) → length (new_callers of number names) ≡ length names
callers_count of number [] = refl
callers_count of number (name ∷ more) = ap suc (callers_count of (number + 1) more)

pub names_again : (number : ℕ) (names : List (Option ReplyId)) → names_of (new_reply_ends number names) ≡ names
names_again number [] = refl
names_again number (of ∷ more) = ap (λ l. of ∷ l) (names_again (number + 1) more)

-- one more queue, and one more seat
pub tellers_more : (number : ℕ) (names : List (Option ReplyId)) (of : Option ReplyId)
    → new_reply_ends number (names ++ of ∷ []) ≡ new_reply_ends number names ++ new_reply_end of (number + length names) ∷ []
tellers_more number [] of = ap (λ n. new_reply_end of n ∷ []) (let e : number ≡ number + 0 = omega arith in e)
tellers_more number (name ∷ names) of =
    let e : (number + 1) + length names ≡ number + length (name ∷ names) = omega arith in
    ap (λ l. new_reply_end name number ∷ l) (tellers_more (number + 1) names of ∙ ap (λ n. new_reply_ends (number + 1) names ++ new_reply_end of n ∷ []) e)

pub callers_more : (of : LineId) (number : ℕ) (names : List (Option ReplyId)) (name : Option ReplyId)
    → new_callers of number (names ++ name ∷ []) ≡ new_callers of number names ++ new_caller of name (number + length names) ∷ []
callers_more of number [] name = ap (λ n. new_caller of name n ∷ []) (let e : number ≡ number + 0 = omega arith in e)
callers_more of number (first ∷ names) name =
    let e : (number + 1) + length names ≡ number + length (first ∷ names) = omega arith in
    ap (λ l. new_caller of first number ∷ l) (callers_more of (number + 1) names name ∙ ap (λ n. new_callers of (number + 1) names ++ new_caller of name n ∷ []) e)

-- elements between others
pub between : {X : Type 0} (front : List X) (x : X) (behind : List X) (d : X) → get_or (front ++ x ∷ behind) (length front) d ≡ x
between [] x behind d = refl
between (c ∷ front) x behind d = between front x behind d

-- so they are the queues of a receiving end for this many seats
pub is_new_end : (of : LineId) (capacity : ℕ) (taker : Taker) (lines : List ReplyEndView) (count : ℕ) → taker ≡ record { of = of; capacity = capacity; seats = count; taken = []; over = false }
    → lines ≡ new_reply_ends 0 (names_of lines) → length lines ≡ count → (taker.seats ≡ length lines) × AreInPlace lines
is_new_end of capacity taker lines count counts made as_many = (
  ap (λ (t : Taker). t.seats) counts ∙ sym as_many,
  subst AreInPlace (sym made) (new_in_place (names_of lines)),
)

-- with one more line they are as many and as new
pub one_more_line : (before after : List ReplyEndView) (line : ReplyEndView) (count : ℕ) → before ≡ new_reply_ends 0 (names_of before) → length before ≡ count → after ≡ before ++ line ∷ []
    → line ≡ new_reply_end line.of count → after ≡ new_reply_ends 0 (names_of after)
one_more_line before after line count made as_many more is =
    let names : List (Option ReplyId) = names_of before in
    let counted : 0 + length names ≡ count = omega (arith, length-map before (λ (t : ReplyEndView). t.of), as_many) in
    more ∙ ap (λ l. l ++ line ∷ []) made ∙ ap (λ y. new_reply_ends 0 names ++ y ∷ []) (is ∙ ap (new_reply_end line.of) (sym counted)) ∙ sym (tellers_more 0 names line.of)
    ∙ ap (new_reply_ends 0) (sym (map-append (λ (t : ReplyEndView). t.of) before (line ∷ [])) ∙ sym (ap names_of more))

-- and with one more seat so are the seats
pub one_more_seat : (of : LineId) (seats now : List Caller) (before after : List ReplyEndView) (line : ReplyEndView) (seat : Caller) (count : ℕ) → seats ≡ new_callers of 0 (names_of before)
    → length before ≡ count → now ≡ seats ++ seat ∷ [] → after ≡ before ++ line ∷ [] → seat ≡ new_caller of line.of count → now ≡ new_callers of 0 (names_of after)
one_more_seat of seats now before after line seat count made as_many grown more is =
    let names : List (Option ReplyId) = names_of before in
    let counted : 0 + length names ≡ count = omega (arith, length-map before (λ (t : ReplyEndView). t.of), as_many) in
    grown ∙ ap (λ l. l ++ seat ∷ []) made ∙ ap (λ y. new_callers of 0 names ++ y ∷ []) (is ∙ ap (new_caller of line.of) (sym counted)) ∙ sym (callers_more of 0 names line.of)
    ∙ ap (new_callers of 0) (sym (map-append (λ (t : ReplyEndView). t.of) before (line ∷ [])) ∙ sym (ap names_of more))

-- a queue with one more seat
pub next_line : (old new : Taker) (capacity number : ℕ) → new ≡ record old { seats = old.seats + 1 } → old ≡ record old { capacity = capacity; seats = number; taken = []; over = false }
    → new ≡ record new { capacity = capacity; seats = number + 1; taken = []; over = false }
next_line old new capacity number more is =
    more ∙ ap (λ (t : Taker). record old { capacity = t.capacity; seats = t.seats + 1; taken = t.taken; over = t.over }) is
    ∙ (λ i. record { of = sym (ap (λ (t : Taker). t.of) more) i; capacity = capacity; seats = number + 1; taken = []; over = false })
