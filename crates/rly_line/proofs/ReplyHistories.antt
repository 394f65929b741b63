-- The answers to a batch are sent: the history sent to each seat stays a prefix of the history.
use Rattle.std.proofs.Common.{◌≡◌, ◌≢◌, ◌==◌, inl, inr, ℕ, zero, suc, ◌+◌, ◌<◌, ◌≤◌, true, false, true≢false, Bool, cond, Option, Some, None, List, [], ◌∷◌, ◌++◌, length, map, set, get_or, sym, refl, ap, ◌∙◌, subst, append_assoc, append-nil, eq-eqb, ne_eqb, arith, get_or-set_other, get_or-set_same, length-append}
use Rattle.std.specs.Prelude.{All, IfNone, IfSome, MatchBool}
use Rattle.std.specs.List.{AllByRecursion, zip}
use Rattle.std.proofs.lemmas.List.Elements.{filter-append, All-append}
use Rattle.std.proofs.lemmas.List.{length-set, map-append}
use Rattle.std.proofs.lemmas.Slice.Zip.{firsts-zip}
use native.Mathlib.Decide.{ℕ_discrete}
use Rattle.rly_machine.specs.declared.call.Answer.{Answer}
use Rattle.rly_machine.specs.declared.call.Call.{Call}
use Rattle.rly_machine.specs.declared.call.SeatId.{SeatId}
use Rattle.rly_machine.specs.declared.command.Ask.{Ask}
use Rattle.rly_machine.specs.History.{Entry, LegalBy, harm_after, state_after, without_bytes}
use Rattle.rly_machine.specs.State.{State}
use Rattle.rly_machine.proofs.Histories.{legal_append}
use Rattle.rly_line.specs.Batches.{AnswersView, BatchView, HasAsks, calls_after, calls_in_batch, no_answers}
use Rattle.rly_line.specs.EndViews.{EndView, names_of, new_reply_end, new_reply_ends, reply_end_at, with_gone, with_history}
use Rattle.rly_line.specs.Replies.{MayReport, ReplyId, ReplyEndView, entries_of}
use Rattle.rly_line.specs.ResponderView.{AreLeft, IsOneResponder, IsReported, ResponderView, calls_in, responder_view}
use Rattle.rly_line.specs.GhostHistory.{HistoryView}
use Rattle.rly_line.specs.Submission.{AreNumbered, IsNext, LineId, calls_of}
use Rattle.rly_line.proofs.Making.{between, new_in_place, new_teller_at}
use Rattle.rly_line.proofs.Submitting.{AreOf, calls_of_own, length_batch, numbered_between, numbered_more, own_batch}

-- the calls of a seat's entries are the seat's calls
by_test : (b : Bool) (x : Entry) (xs : List Entry) → cond b (x.0 ∷ calls_in xs) (calls_in xs) ≡ calls_in (cond b (x ∷ xs) xs)
by_test true x xs = refl
by_test false x xs = refl

pub calls_of_asks : (seat : ℕ) (history : List Entry) → calls_of seat (calls_in history) ≡ calls_in (entries_of seat history)
calls_of_asks seat [] = refl
calls_of_asks seat (x ∷ xs) =
    ap (λ l. cond (x.0.seat.0 == seat) (x.0 ∷ l) l) (calls_of_asks seat xs) ∙ by_test (x.0.seat.0 == seat) x (entries_of seat xs)

length_asks : (history : List Entry) → length (calls_in history) ≡ length history
length_asks [] = refl
length_asks (x ∷ xs) = ap suc (length_asks xs)

pub calls_in_append : (xs ys : List Entry) → calls_in (xs ++ ys) ≡ calls_in xs ++ calls_in ys
calls_in_append xs ys = map-append (λ (e : Entry). e.0) xs ys

-- the entries of calls that are all of one seat are its own, and no other's
pub entries_own : (seat : ℕ) (calls : List Call) (answers : List Answer) → AreOf seat calls → entries_of seat (zip calls answers) ≡ zip calls answers
entries_own seat [] answers own = refl
entries_own seat (x ∷ xs) [] own = refl
entries_own seat (x ∷ xs) (y ∷ ys) own =
    ap (λ b. cond b ((x, y) ∷ entries_of seat (zip xs ys)) (entries_of seat (zip xs ys))) (eq-eqb x.seat.0 seat own.0) ∙ ap (λ l. (x, y) ∷ l) (entries_own seat xs ys own.1)

entries_none : (seat other : ℕ) (calls : List Call) (answers : List Answer) → AreOf other calls → other ≢ seat → entries_of seat (zip calls answers) ≡ []
entries_none seat other [] answers own apart = refl
entries_none seat other (x ∷ xs) [] own apart = refl
entries_none seat other (x ∷ xs) (y ∷ ys) own apart =
    ap (λ b. cond b ((x, y) ∷ entries_of seat (zip xs ys)) (entries_of seat (zip xs ys))) (ne_eqb x.seat.0 seat (λ e. apart (sym own.0 ∙ e))) ∙ entries_none seat other xs ys own.1 apart

-- so entries after others
pub entries_after_own : (seat : ℕ) (history : List Entry) (calls : List Call) (answers : List Answer) → AreOf seat calls
    → entries_of seat (history ++ zip calls answers) ≡ entries_of seat history ++ zip calls answers
entries_after_own seat history calls answers own =
    filter-append (λ (e : Entry). e.0.seat.0 == seat) history (zip calls answers) ∙ ap (λ l. entries_of seat history ++ l) (entries_own seat calls answers own)

entries_after_other : (seat other : ℕ) (history : List Entry) (calls : List Call) (answers : List Answer) → AreOf other calls → other ≢ seat
    → entries_of seat (history ++ zip calls answers) ≡ entries_of seat history
entries_after_other seat other history calls answers own apart =
    filter-append (λ (e : Entry). e.0.seat.0 == seat) history (zip calls answers) ∙ ap (λ l. entries_of seat history ++ l) (entries_none seat other calls answers own apart)
    ∙ append-nil (entries_of seat history)

-- a property of each call holds for one among them
all_at : (P : Call → Type 0) (front : List Call) (x : Call) (behind : List Call) → All P (front ++ x ∷ behind) → P x
all_at P front x behind all = subst P (between front x behind x) (all (length front) x (omega (arith, length-append front (x ∷ behind))))

-- a property of each call by recursion holds for each
all_each : (P : Call → Type 0) (calls : List Call) → AllByRecursion P calls → All P calls
all_each P [] each k d lt = absurd (omega (arith, lt))
all_each P (x ∷ xs) each zero d lt = each.0
all_each P (x ∷ xs) each (suc k) d lt = all_each P xs each.1 k d (omega (arith, lt))

module _ (r : ResponderView) (b : BatchView) (answers : List Answer) (left : List Call) (holds : IsOneResponder r) (asks : HasAsks b) (count : length answers ≡ length b.asks)
    (next : AreLeft r (calls_in_batch b ++ left)) where
  abbrev calls : List Call
  calls = calls_in_batch b

  abbrev History : List Entry
  History = r.history ++ zip calls answers

  abbrev its_line : ReplyEndView
  its_line = reply_end_at r.lines b.seat.0

  -- as many answers as calls
  counted : length answers ≡ length calls
  counted = count ∙ sym (length_batch b)

  there_by : (all : List Ask) → 1 ≤ length all → r.taken ≡ calls_in r.history ++ (calls_after b.seat b.before all ++ left) → b.seat.0 < length r.lines
  there_by [] asked is = absurd (omega (arith, asked))
  there_by (ask ∷ more) asked is =
      let P : Call → Type 0 = λ c. c.seat.0 < length r.lines in
      all_at P (calls_in r.history) (record { seat = b.seat; number = b.before + 1; ask = ask }) (calls_after b.seat (b.before + 1) more ++ left) (subst (All P) is holds.seated)

  -- the batch's seat exists
  pub seat_there : b.seat.0 < length r.lines
  seat_there = there_by b.asks asks next

  -- and its calls are the next that it waits for
  pub are_next : its_line.gone ≡ false → AreNumbered (length (entries_of its_line.seat its_line.told)) calls
  are_next here =
      let told = holds.told b.seat.0 seat_there in
      let seat : its_line.seat ≡ b.seat.0 = holds.in_place b.seat.0 seat_there in
      let s : ℕ = b.seat.0 in
      let asked : List Call = calls_in r.history in
      let placed : calls_of s r.taken ≡ (calls_of s asked ++ calls) ++ calls_of s left =
      ap (calls_of s) (next ∙ sym (append_assoc asked calls left)) ∙ filter-append (λ (c : Call). c.seat.0 == s) (asked ++ calls) left
      ∙ ap (λ l. l ++ calls_of s left) (calls_of_own s asked calls (own_batch b)) in
      let numbers : AreNumbered (length (calls_of s asked)) calls =
      numbered_between (calls_of s asked) calls (calls_of s left) (subst (AreNumbered 0) placed (holds.numbered s)) in
      let length_is : length (calls_of s asked) ≡ length (entries_of s r.history) = ap length (calls_of_asks s r.history) ∙ length_asks (entries_of s r.history) in
      let known : entries_of s r.history ≡ entries_of s its_line.told =
      ap (entries_of s) told.whole ∙ filter-append (λ (e : Entry). e.0.seat.0 == s) its_line.told told.rest
      ∙ ap (λ l. entries_of s its_line.told ++ l) (subst (λ (k : ℕ). entries_of k told.rest ≡ []) seat (told.up_to_date here)) ∙ append-nil (entries_of s its_line.told) in
      let same : length (entries_of its_line.seat its_line.told) ≡ length (entries_of s its_line.told) = ap (λ (k : ℕ). length (entries_of k its_line.told)) seat in
      subst (λ n. AreNumbered n calls) (length_is ∙ ap length known ∙ sym same) numbers

  -- so the history with them may be sent
  pub may_tell : LegalBy without_bytes (harm_after 0 r.history) (state_after r.start r.history) (zip calls answers) → its_line.gone ≡ false → MayReport its_line r.start answers History
  may_tell answered here =
      let told = holds.told b.seat.0 seat_there in
      record {
        base = told.base;
        legal = legal_append without_bytes 0 r.start r.history (zip calls answers) holds.legal answered;
        goes_on = record {
          between = told.rest;
          calls = calls;
          made = ap (λ l. l ++ zip calls answers) told.whole;
          count = counted;
          others = told.up_to_date here;
          own = subst (λ n. AreOf n calls) (sym (holds.in_place b.seat.0 seat_there)) (own_batch b);
          numbers = are_next here;
        };
      }

  -- a queue that got less, or is of a dropped seat, has a prefix of the longer history
  older : (t : ReplyEndView) → IsReported r.start r.history t → (t.gone ≡ false → b.seat.0 ≢ t.seat) → IsReported r.start History t
  older t told other = record {
    base = told.base;
    rest = told.rest ++ zip calls answers;
    whole = ap (λ l. l ++ zip calls answers) told.whole ∙ append_assoc t.told told.rest (zip calls answers);
    up_to_date = λ here. entries_after_other t.seat b.seat.0 told.rest calls answers (own_batch b) (other here) ∙ told.up_to_date here;
  }

  pub told_now : IsReported r.start History (with_history its_line (record { start = r.start; history = History }))
  told_now = record { base = inr refl; rest = []; whole = sym (append-nil History); up_to_date = λ _. refl }

  pub gone_now : IsReported r.start History (with_gone its_line)
  gone_now = older (with_gone its_line) (let t = holds.told b.seat.0 seat_there in record { base = t.base; rest = t.rest; whole = t.whole; up_to_date = λ gone. absurd (true≢false gone) })
      (λ gone. absurd (true≢false gone))

  each_told : (now : ReplyEndView) → IsReported r.start History now → (seat : ℕ) → seat < length (set r.lines b.seat.0 now) → Dec (seat ≡ b.seat.0)
      → IsReported r.start History (reply_end_at (set r.lines b.seat.0 now) seat)
  each_told now told seat here (yes own) =
      subst (λ (t : ReplyEndView). IsReported r.start History t)
      (sym (ap (λ (k : ℕ). get_or (set r.lines b.seat.0 now) k (new_reply_end None seat)) own ∙ get_or-set_same r.lines b.seat.0 now (new_reply_end None seat) seat_there)) told
  each_told now told seat here (no other) =
      let there : seat < length r.lines = subst (λ (n : ℕ). seat < n) (length-set r.lines b.seat.0 now) here in
      let same : get_or (set r.lines b.seat.0 now) seat (new_reply_end None seat) ≡ reply_end_at r.lines seat = get_or-set_other r.lines b.seat.0 seat now (new_reply_end None seat) other in
      subst (λ (t : ReplyEndView). IsReported r.start History t) (sym same)
      (older (reply_end_at r.lines seat) (holds.told seat there) (λ _ e. other (sym (e ∙ holds.in_place seat there))))

  each_in_place : (now : ReplyEndView) → now.seat ≡ b.seat.0 → (seat : ℕ) → seat < length (set r.lines b.seat.0 now) → Dec (seat ≡ b.seat.0)
      → (reply_end_at (set r.lines b.seat.0 now) seat).seat ≡ seat
  each_in_place now mine seat here (yes own) =
      ap (λ (t : ReplyEndView). t.seat) (ap (λ (k : ℕ). get_or (set r.lines b.seat.0 now) k (new_reply_end None seat)) own ∙ get_or-set_same r.lines b.seat.0 now (new_reply_end None seat) seat_there) ∙ mine ∙ sym own
  each_in_place now mine seat here (no other) =
      let there : seat < length r.lines = subst (λ (n : ℕ). seat < n) (length-set r.lines b.seat.0 now) here in
      ap (λ (t : ReplyEndView). t.seat) (get_or-set_other r.lines b.seat.0 seat now (new_reply_end None seat) other) ∙ holds.in_place seat there

  -- with one queue that got answers or whose seat was found dropped, all goes on
  pub goes_on : (now : ReplyEndView) → IsReported r.start History now → now.seat ≡ its_line.seat → LegalBy without_bytes (harm_after 0 r.history) (state_after r.start r.history) (zip calls answers)
      → IsOneResponder (record { of = r.of; taken = r.taken; start = r.start; history = History; lines = set r.lines b.seat.0 now; over = r.over })
  goes_on now told mine answered = record {
    legal = legal_append without_bytes 0 r.start r.history (zip calls answers) holds.legal answered;
    waiting = (
      left,
      next ∙ sym (append_assoc (calls_in r.history) calls left)
          ∙ ap (λ l. l ++ left) (sym (calls_in_append r.history (zip calls answers) ∙ ap (λ l. calls_in r.history ++ l) (firsts-zip calls answers counted))),
    );
    seated = subst (λ (n : ℕ). All (λ (c : Call). c.seat.0 < n) r.taken) (sym (length-set r.lines b.seat.0 now)) holds.seated;
    numbered = holds.numbered;
    in_place = λ seat here. each_in_place now (mine ∙ holds.in_place b.seat.0 seat_there) seat here (ℕ_discrete seat b.seat.0);
    told = λ seat here. each_told now told seat here (ℕ_discrete seat b.seat.0);
  }

-- the calls of one more batch were received
seated_batch : (count : ℕ) (seat : SeatId) (last : ℕ) (asks : List Ask) → seat.0 < count → AllByRecursion (λ (c : Call). c.seat.0 < count) (calls_after seat last asks)
seated_batch count seat last [] here = tt
seated_batch count seat last (ask ∷ asks) here = (here, seated_batch count seat (last + 1) asks here)

pub took : (r : ResponderView) (b : BatchView) → IsOneResponder r → IsNext (length r.lines) r.taken b
    → IsOneResponder (record r { taken = r.taken ++ calls_in_batch b })
took r b holds next =
    let calls : List Call = calls_in_batch b in
    let P : Call → Type 0 = λ c. c.seat.0 < length r.lines in
    record {
      legal = holds.legal;
      waiting = (holds.waiting.0 ++ calls, ap (λ l. l ++ calls) holds.waiting.1 ∙ append_assoc (calls_in r.history) holds.waiting.0 calls);
      seated = All-append P r.taken calls holds.seated (all_each P calls (seated_batch (length r.lines) b.seat b.before b.asks next.seat));
      numbered = λ seat. numbered_more seat r.taken b (holds.numbered seat) (λ own. next.before ∙ ap (λ (k : ℕ). length (calls_of k r.taken)) own);
      in_place = holds.in_place;
      told = holds.told;
    }

-- nothing was received or sent yet
pub none_yet : (of : LineId) (start : State (List ℕ)) (names : List (Option ReplyId)) (over : Bool) → IsOneResponder (record { of = of; taken = []; start = start; history = []; lines = new_reply_ends 0 names; over = over })
none_yet of start names over = record {
  legal = tt;
  waiting = ([], refl);
  seated = λ k d lt. absurd (omega arith);
  numbered = λ _. tt;
  in_place = new_in_place names;
  told = λ seat here. subst (IsReported start []) (sym (new_teller_at 0 names seat (new_reply_end None seat) here)) (record { base = inl refl; rest = []; whole = refl; up_to_date = λ _. refl });
}

-- at new queues
pub at_first : (line : EndView) (story : HistoryView) (start : State (List ℕ)) → line ≡ record line { taken = []; lines = new_reply_ends 0 (names_of line.lines) }
    → story ≡ record { start = start; history = [] } → IsOneResponder (responder_view line story)
at_first line story start made begun =
    subst (λ (y : EndView × HistoryView). IsOneResponder (responder_view y.0 y.1)) (λ i. (sym made i, sym begun i)) (none_yet line.of start (names_of line.lines) line.over)

-- whether a wait found an end is independent of all that
pub with_over : (over : Bool) (r : ResponderView) → IsOneResponder r → IsOneResponder (record r { over = over })
with_over over r is = record {
  legal = is.legal;
  waiting = is.waiting;
  seated = is.seated;
  numbered = is.numbered;
  in_place = is.in_place;
  told = is.told;
}

-- a batch was received, if there was one
pub took_any : (over : Bool) (line now : EndView) (story : HistoryView) (result : Option BatchView) → IsOneResponder (responder_view line story)
    → IfSome result (λ b. (now ≡ record line { taken = line.taken ++ calls_in_batch b }) × IsNext (length line.lines) line.taken b)
    → IfNone result (now ≡ record line { over = over }) → IsOneResponder (responder_view now story)
took_any over line now story (Some b) holds taken none =
    subst (λ (e : EndView). IsOneResponder (responder_view e story)) (sym taken.0) (took (responder_view line story) b holds taken.1)
took_any over line now story None holds taken none =
    subst (λ (e : EndView). IsOneResponder (responder_view e story)) (sym none) (with_over over (responder_view line story) holds)

-- a list is unchanged under a function if one of its elements is replaced by another of the same value under it
pub map_set : {X Y : Type 0} (f : X → Y) (xs : List X) (k : ℕ) (x d : X) → f x ≡ f (get_or xs k d) → map f (set xs k x) ≡ map f xs
map_set f [] k x d same = refl
map_set f (y ∷ ys) zero x d same = ap (λ z. z ∷ map f ys) same
map_set f (y ∷ ys) (suc k) x d same = ap (λ l. f y ∷ l) (map_set f ys k x d same)

names_set : (lines : List ReplyEndView) (seat : ℕ) (now d : ReplyEndView) → now.of ≡ (get_or lines seat d).of → names_of (set lines seat now) ≡ names_of lines
names_set lines seat now d same = map_set (λ (t : ReplyEndView). t.of) lines seat now d same

module _ (line : EndView) (story pushed : HistoryView) (b : BatchView) (given : AnswersView) (holds : IsOneResponder (responder_view line story))
    (has : 1 ≤ given.wanted) (whose : given ≡ record (no_answers b) { answers = given.answers }) (count : length given.answers ≡ given.wanted)
    (next : (left : List Call) × AreLeft (responder_view line story) (calls_in_batch b ++ left))
    (answered : LegalBy without_bytes (harm_after 0 story.history) (state_after story.start story.history) (zip (calls_in_batch b) given.answers))
    (is : pushed ≡ record story { history = story.history ++ zip (calls_in_batch b) given.answers }) where
  abbrev Longer : HistoryView
  Longer = record story { history = story.history ++ zip (calls_in_batch b) given.answers }

  wanted : given.wanted ≡ length b.asks
  wanted = ap (λ (a : AnswersView). a.wanted) whose

  seat_is : given.seat ≡ b.seat
  seat_is = ap (λ (a : AnswersView). a.seat) whose

  asks : HasAsks b
  asks = omega (arith, has, wanted)

  as_many : length given.answers ≡ length b.asks
  as_many = count ∙ wanted

  pub seat_ok : given.seat.0 < length line.lines
  seat_ok = subst (λ (s : SeatId). s.0 < length line.lines) (sym seat_is) (seat_there (responder_view line story) b given.answers next.0 holds asks as_many next.1)

  pub may_ok : (reply_end_at line.lines given.seat.0).gone ≡ false → MayReport (reply_end_at line.lines given.seat.0) pushed.start given.answers pushed.history
  may_ok = subst (λ (y : SeatId × HistoryView). (reply_end_at line.lines y.0.0).gone ≡ false → MayReport (reply_end_at line.lines y.0.0) y.1.start given.answers y.1.history)
      (λ i. (sym seat_is i, sym is i)) (may_tell (responder_view line story) b given.answers next.0 holds asks as_many next.1 answered)

  put_back : (of : LineId) (taken : List Call) (lines : List ReplyEndView) (over : Bool) (now : ReplyEndView) → of ≡ line.of → taken ≡ line.taken → lines ≡ set line.lines b.seat.0 now
      → IsReported story.start Longer.history now → now.seat ≡ (reply_end_at line.lines b.seat.0).seat
      → IsOneResponder (record { of = of; taken = taken; start = pushed.start; history = pushed.history; lines = lines; over = over })
  put_back of taken lines over now at same lines_are told mine =
      subst (λ (y : LineId × List Call × HistoryView × List ReplyEndView). IsOneResponder (record { of = y.0; taken = y.1; start = y.2.start; history = y.2.history; lines = y.3; over = over }))
      (λ i. (sym at i, sym same i, sym is i, sym lines_are i)) (with_over over _ (goes_on (responder_view line story) b given.answers next.0 holds asks as_many next.1 now told mine answered))

  pub after_ok : (after : EndView) (told : Bool) → after.of ≡ line.of → after.taken ≡ line.taken
      → MatchBool told (after.lines ≡ set line.lines given.seat.0 (with_history (reply_end_at line.lines given.seat.0) pushed))
      (after.lines ≡ set line.lines given.seat.0 (with_gone (reply_end_at line.lines given.seat.0)))
      → IsOneResponder (responder_view after pushed)
  after_ok after true at taken lines = put_back after.of after.taken after.lines after.over (with_history (reply_end_at line.lines b.seat.0) Longer) at taken
      (lines ∙ ap (λ (y : SeatId × HistoryView). set line.lines y.0.0 (with_history (reply_end_at line.lines y.0.0) y.1)) (λ i. (seat_is i, is i)))
      (told_now (responder_view line story) b given.answers next.0 holds asks as_many next.1) refl
  after_ok after false at taken lines = put_back after.of after.taken after.lines after.over (with_gone (reply_end_at line.lines b.seat.0)) at taken
      (lines ∙ ap (λ (s : SeatId). set line.lines s.0 (with_gone (reply_end_at line.lines s.0))) seat_is)
      (gone_now (responder_view line story) b given.answers next.0 holds asks as_many next.1) refl

  -- the queues' identities stay
  pub names_kept : (after : EndView) (told : Bool)
      → MatchBool told (after.lines ≡ set line.lines given.seat.0 (with_history (reply_end_at line.lines given.seat.0) pushed))
      (after.lines ≡ set line.lines given.seat.0 (with_gone (reply_end_at line.lines given.seat.0)))
      → names_of after.lines ≡ names_of line.lines
  names_kept after true lines = ap names_of lines ∙ names_set line.lines given.seat.0 (with_history (reply_end_at line.lines given.seat.0) pushed) (new_reply_end None given.seat.0) refl
  names_kept after false lines = ap names_of lines ∙ names_set line.lines given.seat.0 (with_gone (reply_end_at line.lines given.seat.0)) (new_reply_end None given.seat.0) refl
