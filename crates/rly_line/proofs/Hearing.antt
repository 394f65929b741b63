-- A seat's batch was answered.
use Rattle.std.proofs.Common.{◌≡◌, ◌==◌, ℕ, ◌+◌, Bool, false, Option, List, [], ◌∷◌, ◌++◌, length, sym, refl, ap, ◌∙◌, subst, append-nil, length-append, arith}
use Rattle.std.specs.List.{AllByRecursion, zip}
use Rattle.std.proofs.lemmas.List.Elements.{filter-append}
use Rattle.rly_core.specs.Bounds.{IsIn}
use Rattle.rly_machine.specs.declared.call.Answer.{Answer}
use Rattle.rly_machine.specs.declared.call.Call.{Call}
use Rattle.rly_machine.specs.declared.call.SeatId.{SeatId}
use Rattle.rly_machine.specs.declared.command.Ask.{Ask}
use Rattle.rly_machine.specs.History.{Entry}
use Rattle.rly_machine.specs.State.{State}
use Rattle.rly_line.specs.Batches.{BatchView, calls_in_batch}
use Rattle.rly_line.specs.HelpersEnds.{AreAllAnswered, Hearer, IsSeated, IsWaiting, Putter, Teaches}
use Rattle.rly_line.specs.Replies.{ExtendsHistory, ReplyId, entries_of}
use Rattle.rly_line.specs.Seats.{AreAnsweredWith, Caller, IsAnsweredWith, WaitingCaller, after_put, next_calls}
use Rattle.rly_line.specs.Submission.{AreNumbered}
use Rattle.rly_line.proofs.Submitting.{AreOf, after_length, length_batch}
use Rattle.rly_line.proofs.ReplyHistories.{entries_after_own}

-- the model of a seat at these ends
abbrev pub caller : SeatId → Putter → Hearer → Bool → Caller
caller seat p h shut = record { of = p.of; replies = h.of; seat = seat; put = p.put; base = h.base; known = h.known; shut = shut; refused = p.refused }

-- calls of a seat's number are of that seat
of_seat : (seat : SeatId) (calls : List Call) → AreOf seat.0 calls → AllByRecursion (λ (c : Call). c.seat ≡ seat) calls
of_seat seat [] own = tt
of_seat seat (x ∷ xs) own = ((λ i. record { 0 = own.0 i }), of_seat seat xs own.1)

-- as many entries as calls that have an answer
length_entries : (calls : List Call) (answers : List Answer) → length answers ≡ length calls → length (zip calls answers) ≡ length calls
length_entries [] answers count = refl
length_entries (x ∷ xs) [] count = absurd (omega (arith, count))
length_entries (x ∷ xs) (y ∷ ys) count = let rest = length_entries xs ys (omega (arith, count)) in omega (arith, rest)

-- the seat submitted a batch
pub seated : (seat : SeatId) (p q : Putter) (h : Hearer) (calls more : ℕ) (shut : Bool) (b : BatchView) → IsSeated seat p h calls shut → more ≡ length b.asks
    → q ≡ record p { put = p.put ++ calls_in_batch b } → IsSeated seat q h (calls + more) shut
seated seat p q h calls more shut b is count put = record {
  puts = ap (λ (x : Putter). x.seat) put ∙ is.puts;
  hears = is.hears;
  count = omega (arith, is.count, count, ap (λ (x : Putter). length x.put) put, length-append p.put (calls_in_batch b), length_batch b);
  listens = is.listens;
}

-- it waits for the answers to its asks
pub waiting : (c now : Caller) (b : BatchView) (count : ℕ) → c.shut ≡ false → AreAllAnswered c → count ≡ length b.asks → IsIn 1 64 count → b.seat ≡ c.seat → b.before ≡ length c.put
    → now ≡ record c { put = c.put ++ calls_in_batch b } → IsWaiting (record { before = c; asks = b.asks }) count now
waiting c now b count still_open all as_many some whose before put = record {
  still_open = still_open;
  answered = all;
  some = subst (IsIn 1 64) as_many some;
  as_many = as_many;
  submitted = put ∙ (λ i. record c { put = c.put ++ calls_in_batch (record { seat = whose i; before = before i; asks = b.asks }) });
}

-- a seat that knows another history
abbrev pub with_known : Caller → Option (State (List ℕ)) → List Entry → Caller
with_known c base known = record c { base = base; known = known }

module _ (c : Caller) (asks : List Ask) (base : Option (State (List ℕ))) (known : List Entry) (answers : List Answer) (still_open : c.shut ≡ false) (all : AreAllAnswered c)
    (taught : Teaches c.seat.0 c.base base c.known answers known) (as_many : length answers ≡ length asks) where
  on : ExtendsHistory c.seat.0 c.known answers known
  on = taught.goes_on

  entries : entries_of c.seat.0 known ≡ entries_of c.seat.0 c.known ++ zip on.calls answers
  entries =
      ap (entries_of c.seat.0) on.made ∙ entries_after_own c.seat.0 (c.known ++ on.between) on.calls answers on.own
      ∙ ap (λ l. l ++ zip on.calls answers) (filter-append (λ (e : Entry). e.0.seat.0 == c.seat.0) c.known on.between ∙ ap (λ l. entries_of c.seat.0 c.known ++ l) on.others
      ∙ append-nil (entries_of c.seat.0 c.known))

  answered_put : AreAnsweredWith c asks answers (with_known (after_put c asks) base known)
  answered_put = record {
    of = refl;
    replies = refl;
    seat = refl;
    open_still = still_open;
    refused = refl;
    put = refl;
    count = as_many;
    between = on.between;
    calls = on.calls;
    each = sym on.count ∙ as_many;
    known = on.made;
    others = on.others;
    own = of_seat c.seat on.calls on.own;
    numbers = subst (λ n. AreNumbered n on.calls) all on.numbers;
    all = entries;
    start = taught.start;
    base = taught.base_is;
    same_base = taught.same_base;
    legal = taught.legal;
  }

  all_put : AreAllAnswered (with_known (after_put c asks) base known)
  all_put = omega (
    arith,
    ap length entries,
    length-append (entries_of c.seat.0 c.known) (zip on.calls answers),
    length_entries on.calls answers on.count,
    on.count,
    as_many,
    all,
    length-append c.put (next_calls c asks),
    after_length c.seat (length c.put) asks,
  )

-- the answers to its asks were received
answered : (w : WaitingCaller) (count : ℕ) (now : Caller) (base : Option (State (List ℕ))) (known : List Entry) (answers : List Answer) → IsWaiting w count now
    → Teaches now.seat.0 now.base base now.known answers known → length answers ≡ count
    → AreAnsweredWith w.before w.asks answers (with_known now base known) × AreAllAnswered (with_known now base known)
answered w count now base known answers is taught as_many =
    let of : Teaches w.before.seat.0 w.before.base base w.before.known answers known =
    subst (λ (c : Caller). Teaches c.seat.0 c.base base c.known answers known) is.submitted taught in
    let many : length answers ≡ length w.asks = as_many ∙ is.as_many in
    subst (λ (c : Caller). AreAnsweredWith w.before w.asks answers (with_known c base known) × AreAllAnswered (with_known c base known)) (sym is.submitted)
    (answered_put w.before w.asks base known answers is.still_open is.answered of many, all_put w.before w.asks base known answers is.still_open is.answered of many)

-- so they are those of a seat whose end received them
pub heard : (seat : SeatId) (p : Putter) (h now : Hearer) (calls : ℕ) (shut : Bool) (w : WaitingCaller) (count : ℕ) (answers : List Answer) → IsSeated seat p h calls shut
    → IsWaiting w count (caller seat p h shut) → (now.of ≡ h.of) × (now.seat ≡ h.seat) → Teaches h.seat h.base now.base h.known answers now.known → length answers ≡ count
    → AreAnsweredWith w.before w.asks answers (caller seat p now shut) × AreAllAnswered (caller seat p now shut)
heard seat p h now calls shut w count answers is waits same taught as_many =
    let its : Teaches seat.0 h.base now.base h.known answers now.known = subst (λ n. Teaches n h.base now.base h.known answers now.known) is.hears taught in
    let before : Caller = caller seat p h shut in
    let after : Caller = with_known before now.base now.known in
    subst (λ (of : Option ReplyId). AreAnsweredWith w.before w.asks answers (record after { replies = of }) × AreAllAnswered (record after { replies = of })) (sym same.0)
    (answered w count before now.base now.known answers waits its as_many)

-- one ask, with one answer
one_by : (before after : Caller) (ask : Ask) (answer : Answer) (calls : List Call) (all : AreAnsweredWith before (ask ∷ []) (answer ∷ []) after) → all.calls ≡ calls → IsAnsweredWith before ask answer after
one_by before after ask answer [] all is = absurd (omega (arith, all.each, ap length is))
one_by before after ask answer (x ∷ y ∷ xs) all is = absurd (omega (arith, all.each, ap length is))
one_by before after ask answer (x ∷ []) all is =
    let own = subst (λ l. AllByRecursion (λ (c : Call). c.seat ≡ before.seat) l) is all.own in
    let numbers = subst (λ l. AreNumbered (length before.put) l) is all.numbers in
    record {
      of = all.of;
      replies = all.replies;
      seat = all.seat;
      open_still = all.open_still;
      refused = all.refused;
      put = all.put;
      between = all.between;
      call = x;
      known = all.known ∙ ap (λ l. (before.known ++ all.between) ++ zip l (answer ∷ [])) is;
      others = all.others;
      own = own.0;
      number = numbers.0;
      calls = all.all ∙ ap (λ l. entries_of before.seat.0 before.known ++ zip l (answer ∷ [])) is;
      start = all.start;
      base = all.base;
      same_base = all.same_base;
      legal = all.legal;
    }

last_alone : (rest answers : List Answer) (answer : Answer) → answers ≡ rest ++ answer ∷ [] → length answers ≡ 1 → answers ≡ answer ∷ []
last_alone [] answers answer is count = is
last_alone (x ∷ xs) answers answer is count = absurd (omega (arith, count, ap length is, length-append xs (answer ∷ [])))

pub one_answered : (before after : Caller) (ask : Ask) (asks : List Ask) (answers rest : List Answer) (answer : Answer) → asks ≡ ask ∷ [] → answers ≡ rest ++ answer ∷ []
    → AreAnsweredWith before asks answers after → IsAnsweredWith before ask answer after
one_answered before after ask asks answers rest answer one last all =
    let alone : answers ≡ answer ∷ [] = last_alone rest answers answer last (all.count ∙ ap length one) in
    let whole : AreAnsweredWith before (ask ∷ []) (answer ∷ []) after = subst (λ (y : List Ask × List Answer). AreAnsweredWith before y.0 y.1 after) (λ i. (one i, alone i)) all in
    one_by before after ask answer whole.calls whole refl
