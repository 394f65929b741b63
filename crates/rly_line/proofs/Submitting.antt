-- Each step keeps the rule of the submission queue.
use Rattle.std.proofs.Common.{◌≡◌, ◌≢◌, ◌==◌, ℕ, suc, ◌+◌, ◌<◌, ◌≤◌, true, true≢false, cond, List, [], ◌∷◌, ◌++◌, length, set, sym, refl, ap, ◌∙◌, subst, append_assoc, append-nil, eq-eqb, ne_eqb, lt_of_not-le, length-append, ⊎_elim, arith}
use Rattle.std.specs.List.{AllByRecursion}
use Rattle.std.specs.Prelude.{Option, Some, None, IfSome}
use Rattle.std.proofs.lemmas.List.{flat_map_more}
use Rattle.std.proofs.lemmas.List.Concat.{flat_map-cons}
use Rattle.std.proofs.lemmas.List.Elements.{filter-append}
use mathlib.Core.Option.{some}
use lib.ListN.{get_elem?}
use native.Mathlib.Decide.{dec_le, ℕ_discrete}
use Rattle.crossbeam_channel.specs.Fifo.{Pushes, Pops, Forks, Learns, Merges}
use Rattle.rly_machine.specs.declared.call.Call.{Call}
use Rattle.rly_machine.specs.declared.call.SeatId.{SeatId}
use Rattle.rly_machine.specs.declared.command.Ask.{Ask}
use Rattle.rly_line.specs.declared.submission.LineView.{LineView}
use Rattle.rly_line.specs.Batches.{BatchView, HasAsks, calls_after, calls_in_batch, calls_in_line, calls_put}
use Rattle.rly_line.specs.HelpersEnds.{IsTaken, idle_view, taking_view, merged_view, putting_view}
use Rattle.rly_line.specs.Submission.{AreBeside, calls_of, AreNumbered, AreLined, IsLine}
use Rattle.rly_line.proofs.Views.{alone, at_set, each_set, each_push}

-- each of a list of calls is of this seat
abbrev pub AreOf : ℕ → List Call → Type 0
AreOf seat calls = AllByRecursion (λ (c : Call). c.seat.0 ≡ seat) calls

-- the calls of a batch are of its seat, numbered consecutively, and as many as its asks
pub after_own : (seat : SeatId) (last : ℕ) (asks : List Ask) → AreOf seat.0 (calls_after seat last asks)
after_own seat last [] = tt
after_own seat last (ask ∷ asks) = (refl, after_own seat (last + 1) asks)

pub after_numbered : (seat : SeatId) (last : ℕ) (asks : List Ask) → AreNumbered last (calls_after seat last asks)
after_numbered seat last [] = tt
after_numbered seat last (ask ∷ asks) = (refl, after_numbered seat (last + 1) asks)

pub after_length : (seat : SeatId) (last : ℕ) (asks : List Ask) → length (calls_after seat last asks) ≡ length asks
after_length seat last [] = refl
after_length seat last (ask ∷ asks) = ap suc (after_length seat (last + 1) asks)

pub own_batch : (b : BatchView) → AreOf b.seat.0 (calls_in_batch b)
own_batch b = after_own b.seat b.before b.asks

pub length_batch : (b : BatchView) → length (calls_in_batch b) ≡ length b.asks
length_batch b = after_length b.seat b.before b.asks

-- a seat has all of its own calls, and none of another's
pub own_all : (seat : ℕ) (calls : List Call) → AreOf seat calls → calls_of seat calls ≡ calls
own_all seat [] own = refl
own_all seat (x ∷ xs) own = ap (λ b. cond b (x ∷ calls_of seat xs) (calls_of seat xs)) (eq-eqb x.seat.0 seat own.0) ∙ ap (λ l. x ∷ l) (own_all seat xs own.1)

other_none : (seat other : ℕ) (calls : List Call) → AreOf other calls → other ≢ seat → calls_of seat calls ≡ []
other_none seat other [] own apart = refl
other_none seat other (x ∷ xs) own apart =
    ap (λ b. cond b (x ∷ calls_of seat xs) (calls_of seat xs)) (ne_eqb x.seat.0 seat (λ e. apart (sym own.0 ∙ e))) ∙ other_none seat other xs own.1 apart

-- so calls after others are the last of their own seat's, and none of another's
pub calls_of_own : (seat : ℕ) (calls more : List Call) → AreOf seat more → calls_of seat (calls ++ more) ≡ calls_of seat calls ++ more
calls_of_own seat calls more own = filter-append (λ (c : Call). c.seat.0 == seat) calls more ∙ ap (λ l. calls_of seat calls ++ l) (own_all seat more own)

pub calls_of_other : (seat other : ℕ) (calls more : List Call) → AreOf other more → other ≢ seat → calls_of seat (calls ++ more) ≡ calls_of seat calls
calls_of_other seat other calls more own apart =
    filter-append (λ (c : Call). c.seat.0 == seat) calls more ∙ ap (λ l. calls_of seat calls ++ l) (other_none seat other more own apart) ∙ append-nil (calls_of seat calls)

-- numbered calls with more, and two parts of numbered calls
numbered_append : (last : ℕ) (xs ys : List Call) → AreNumbered last xs → AreNumbered (last + length xs) ys → AreNumbered last (xs ++ ys)
numbered_append last [] ys front back = let e : last + 0 ≡ last = omega arith in subst (λ n. AreNumbered n ys) e back
numbered_append last (x ∷ xs) ys front back =
    let e : last + length (x ∷ xs) ≡ (last + 1) + length xs = omega arith in
    (front.0, numbered_append (last + 1) xs ys front.1 (subst (λ n. AreNumbered n ys) e back))

numbered_front : (last : ℕ) (xs ys : List Call) → AreNumbered last (xs ++ ys) → AreNumbered last xs
numbered_front last [] ys all = tt
numbered_front last (x ∷ xs) ys all = (all.0, numbered_front (last + 1) xs ys all.1)

numbered_back : (last : ℕ) (xs ys : List Call) → AreNumbered last (xs ++ ys) → AreNumbered (last + length xs) ys
numbered_back last [] ys all = let e : last ≡ last + 0 = omega arith in subst (λ n. AreNumbered n ys) e all
numbered_back last (x ∷ xs) ys all =
    let e : (last + 1) + length xs ≡ last + length (x ∷ xs) = omega arith in subst (λ n. AreNumbered n ys) e (numbered_back (last + 1) xs ys all.1)

-- the same from the first number on
numbered_on : (xs ys : List Call) → AreNumbered 0 xs → AreNumbered (length xs) ys → AreNumbered 0 (xs ++ ys)
numbered_on xs ys front back = let e : length xs ≡ 0 + length xs = omega arith in numbered_append 0 xs ys front (subst (λ n. AreNumbered n ys) e back)

pub numbered_between : (xs ys zs : List Call) → AreNumbered 0 ((xs ++ ys) ++ zs) → AreNumbered (length xs) ys
numbered_between xs ys zs all =
    let e : 0 + length xs ≡ length xs = omega arith in subst (λ n. AreNumbered n ys) e (numbered_back 0 xs ys (numbered_front 0 (xs ++ ys) zs all))

-- the numbers of a batch that has an ask give the number of calls before it
begins_at : (last : ℕ) (seat : SeatId) (before : ℕ) (asks : List Ask) → 1 ≤ length asks → AreNumbered last (calls_after seat before asks) → before ≡ last
begins_at last seat before [] asked numbered = absurd (omega (arith, asked))
begins_at last seat before (ask ∷ asks) asked numbered = omega (arith, numbered.0)

-- the calls of each seat stay numbered with one more batch, if it is the next of its own
numbered_by : (seat : ℕ) (calls : List Call) (b : BatchView) → AreNumbered 0 (calls_of seat calls)
    → (b.seat.0 ≡ seat → b.before ≡ length (calls_of seat calls)) → Dec (b.seat.0 ≡ seat) → AreNumbered 0 (calls_of seat (calls ++ calls_in_batch b))
numbered_by seat calls b numbered next (yes own) =
    let mine : AreOf seat (calls_in_batch b) = subst (λ n. AreOf n (calls_in_batch b)) own (own_batch b) in
    subst (AreNumbered 0) (sym (calls_of_own seat calls (calls_in_batch b) mine))
    (numbered_on (calls_of seat calls) (calls_in_batch b) numbered (subst (λ n. AreNumbered n (calls_in_batch b)) (next own) (after_numbered b.seat b.before b.asks)))
numbered_by seat calls b numbered next (no other) = subst (AreNumbered 0) (sym (calls_of_other seat b.seat.0 calls (calls_in_batch b) (own_batch b) other)) numbered

pub numbered_more : (seat : ℕ) (calls : List Call) (b : BatchView) → AreNumbered 0 (calls_of seat calls)
    → (b.seat.0 ≡ seat → b.before ≡ length (calls_of seat calls)) → AreNumbered 0 (calls_of seat (calls ++ calls_in_batch b))
numbered_more seat calls b numbered next = numbered_by seat calls b numbered next (ℕ_discrete b.seat.0 seat)

-- a property of each submission holds with one more
all_more : (P : Option BatchView → Type 0) (puts : List (Option BatchView)) (put : Option BatchView) → AllByRecursion P puts → P put → AllByRecursion P (puts ++ put ∷ [])
all_more P [] put all one = (one, tt)
all_more P (x ∷ xs) put all one = (all.0, all_more P xs put all.1 one)

-- each batch has an ask
abbrev Asks : Option BatchView → Type 0
Asks = λ put. IfSome put HasAsks

-- views stay if one is put back, and so does the rule of the calls
again : (owner : ℕ → ℕ) (head count : ℕ) (gone items now : List Call) (views : List LineView) (pass : ℕ) (v : LineView) → IsLine owner head count gone items views → items ≡ now
    → get_elem? views pass ≡ some v → IsLine owner head count gone now (set views pass v)
again owner head count gone items now views pass v line same at =
    let Puts : ℕ → LineView → Type 0 = λ j u. u.puts ≡ true → (owner u.seat ≡ j) × (u.seat < count) × (calls_of u.seat (gone ++ now) ≡ u.put) in
    let Takes : ℕ → LineView → Type 0 = λ j u. u.takes ≡ true → (j ≡ head) × (u.seats ≡ count) × (u.taken ≡ gone) in
    let kept : IsLine owner head count gone now views = subst (λ l. IsLine owner head count gone l views) same line in
    record {
      seated = kept.seated;
      numbered = kept.numbered;
      puts = each_set Puts views pass v (kept.puts pass v at) (λ j u _ e. kept.puts j u e);
      takes = each_set Takes views pass v (kept.takes pass v at) (λ j u _ e. kept.takes j u e);
    }

-- the queue begins with no call and no seat
pub begins : AreLined [] (taking_view 0 [] ∷ [])
begins = (
  (λ _. 0),
  0,
  0,
  [],
  record {
    seated = λ _ _. refl;
    numbered = λ _. tt;
    puts = λ pass v at p. let one = alone (taking_view 0 []) v pass at in absurd (true≢false (sym p ∙ ap (λ (u : LineView). u.puts) (sym one.1)));
    takes = λ pass v at t. let one = alone (taking_view 0 []) v pass at in (one.0, ap (λ (u : LineView). u.seats) (sym one.1), ap (λ (u : LineView). u.taken) (sym one.1));
  },
  tt,
)

-- a seat submits its next batch
pub puts : (n pass : ℕ) (v : LineView) (b : BatchView) → v.puts ≡ true → b.seat.0 ≡ v.seat → b.before ≡ length v.put → HasAsks b
    → Pushes AreLined n pass v (Some b) (λ w. w ≡ record v { put = v.put ++ calls_in_batch b })
puts n pass v b may mine next asks items views room rule at =
    let owner = rule.0 in let head = rule.1 in let count = rule.2 in let gone = rule.3 in let line = rule.4 in
    let calls : List Call = calls_in_batch b in
    let w : LineView = record v { put = v.put ++ calls } in
    let own = line.puts pass v at may in
    let all : List Call = gone ++ calls_in_line items in
    let whole : List Call = gone ++ calls_in_line (items ++ Some b ∷ []) in
    let more : whole ≡ all ++ calls = sym (flat_map_more calls_put gone items (Some b)) in
    let same = λ (seat : ℕ) (other : b.seat.0 ≢ seat). ap (calls_of seat) more ∙ calls_of_other seat b.seat.0 all calls (own_batch b) other in
    let here : calls_of v.seat whole ≡ v.put ++ calls =
    ap (calls_of v.seat) more ∙ calls_of_own v.seat all calls (subst (λ s. AreOf s calls) mine (own_batch b)) ∙ ap (λ l. l ++ calls) own.2 in
    let Puts : ℕ → LineView → Type 0 = λ j u. u.puts ≡ true → (owner u.seat ≡ j) × (u.seat < count) × (calls_of u.seat whole ≡ u.put) in
    let Takes : ℕ → LineView → Type 0 = λ j u. u.takes ≡ true → (j ≡ head) × (u.seats ≡ count) × (u.taken ≡ gone) in (
      w,
      (
        owner,
        head,
        count,
        gone,
        record {
          seated = λ seat past. same seat (λ e. absurd (omega (arith, own.1, e, mine))) ∙ line.seated seat past;
          numbered = λ seat. subst (AreNumbered 0) (ap (calls_of seat) (sym more)) (numbered_more seat all b (line.numbered seat)
              (λ e. next ∙ ap length (sym own.2 ∙ ap (λ k. calls_of k all) (sym mine ∙ e))));
          puts = each_set Puts views pass w (λ _. (own.0, own.1, here))
              (λ j u apart e p. let theirs = line.puts j u e p in
              (theirs.0, theirs.1, same u.seat (λ s. apart (sym theirs.0 ∙ ap owner (sym s ∙ mine) ∙ own.0)) ∙ theirs.2));
          takes = each_set Takes views pass w (line.takes pass v at) (λ j u apart e. line.takes j u e);
        },
        all_more Asks items (Some b) rule.5 asks,
      ),
      refl,
    )

-- a seat leaves
pub leaves : (n pass : ℕ) (v : LineView) → Pushes AreLined n pass v None (λ w. w ≡ v)
leaves n pass v items views room rule at =
    let more : calls_in_line (items ++ None ∷ []) ≡ calls_in_line items ++ [] = sym (flat_map_more calls_put [] items None) in (
      v,
      (
        rule.0,
        rule.1,
        rule.2,
        rule.3,
        again rule.0 rule.1 rule.2 rule.3 (calls_in_line items) (calls_in_line (items ++ None ∷ [])) views pass v rule.4
            (sym (append-nil (calls_in_line items)) ∙ sym more) at,
        all_more Asks items None rule.5 tt,
      ),
      refl,
    )

-- a seat that has calls exists
there : (count seat : ℕ) (calls : List Call) → (count ≤ seat → calls ≡ []) → 1 ≤ length calls → Dec (count ≤ seat) → seat < count
there count seat calls none asked (no here) = lt_of_not-le here
there count seat calls none asked (yes past) = absurd (omega (arith, asked, ap length (none past)))

-- the head receives the first batch of the queue, which is its seat's next
pub takes : (pass : ℕ) (v : LineView) → v.takes ≡ true → Pops AreLined pass v (λ put w. IsTaken v put w)
takes pass v may None items views rule at =
    let same : calls_in_line (None ∷ items) ≡ calls_in_line items = flat_map-cons calls_put None items in (
      v,
      (
        rule.0,
        rule.1,
        rule.2,
        rule.3,
        again rule.0 rule.1 rule.2 rule.3 (calls_in_line (None ∷ items)) (calls_in_line items) views pass v rule.4 same at,
        rule.5.1,
      ),
      refl,
    )
takes pass v may (Some b) items views rule at =
    let owner = rule.0 in let head = rule.1 in let count = rule.2 in let gone = rule.3 in let line = rule.4 in
    let calls : List Call = calls_in_batch b in
    let rest : List Call = calls_in_line items in
    let whole : List Call = gone ++ calls_in_line (Some b ∷ items) in
    let w : LineView = record v { taken = v.taken ++ calls } in
    let mine = line.takes pass v at may in
    let same : whole ≡ (gone ++ calls) ++ rest = ap (λ l. gone ++ l) (flat_map-cons calls_put (Some b) items) ∙ sym (append_assoc gone calls rest) in
    let seat : ℕ = b.seat.0 in
    let placed : calls_of seat whole ≡ (calls_of seat gone ++ calls) ++ calls_of seat rest =
    ap (calls_of seat) same ∙ filter-append (λ (c : Call). c.seat.0 == seat) (gone ++ calls) rest ∙ ap (λ l. l ++ calls_of seat rest) (calls_of_own seat gone calls (own_batch b)) in
    let numbers : AreNumbered (length (calls_of seat gone)) calls = numbered_between (calls_of seat gone) calls (calls_of seat rest) (subst (AreNumbered 0) placed (line.numbered seat)) in
    let before : b.before ≡ length (calls_of seat gone) = begins_at (length (calls_of seat gone)) b.seat b.before b.asks rule.5.0 numbers in
    let there_is : 1 ≤ length (calls_of seat whole) = omega (
      arith,
      rule.5.0,
      length_batch b,
      ap length placed,
      length-append (calls_of seat gone ++ calls) (calls_of seat rest),
      length-append (calls_of seat gone) calls,
    ) in
    let Puts : ℕ → LineView → Type 0 = λ j u. u.puts ≡ true → (owner u.seat ≡ j) × (u.seat < count) × (calls_of u.seat ((gone ++ calls) ++ rest) ≡ u.put) in
    let Takes : ℕ → LineView → Type 0 = λ j u. u.takes ≡ true → (j ≡ head) × (u.seats ≡ count) × (u.taken ≡ gone ++ calls) in
    let old = λ (j : ℕ) (u : LineView) (e : get_elem? views j ≡ some u) (p : u.puts ≡ true).
    let theirs = line.puts j u e p in let all : calls_of u.seat ((gone ++ calls) ++ rest) ≡ u.put = ap (calls_of u.seat) (sym same) ∙ theirs.2 in
    let its : (owner u.seat ≡ j) × (u.seat < count) × (calls_of u.seat ((gone ++ calls) ++ rest) ≡ u.put) = (theirs.0, theirs.1, all) in its in
    let inside = there count seat (calls_of seat whole) (line.seated seat) there_is (dec_le count seat) in (
      w,
      (
        owner,
        head,
        count,
        gone ++ calls,
        record {
          seated = λ s past. ap (calls_of s) (sym same) ∙ line.seated s past;
          numbered = λ s. subst (AreNumbered 0) (ap (calls_of s) same) (line.numbered s);
          puts = each_set Puts views pass w (λ p. old pass v at p) (λ j u apart e p. old j u e p);
          takes = each_set Takes views pass w (λ _. (mine.0, mine.1, ap (λ l. l ++ calls) mine.2))
              (λ j u apart e t. absurd (apart ((line.takes j u e t).0 ∙ sym mine.0)));
        },
        rule.5.1,
      ),
      (
        refl,
        record {
          seat = subst (λ n. seat < n) (sym mine.1) inside;
          before = before ∙ ap (λ (l : List Call). length (calls_of seat l)) (sym mine.2);
          asks = rule.5.0;
        },
      ),
    )

-- the token of a new seat is split from the receiver's
pub forks : (pass : ℕ) (v : LineView) → v.takes ≡ true → Forks AreLined pass v (record v { seats = v.seats + 1 }) (putting_view v.seats [])
forks pass v may items views rule at =
    let owner = rule.0 in let head = rule.1 in let count = rule.2 in let gone = rule.3 in let line = rule.4 in
    let left : LineView = record v { seats = v.seats + 1 } in
    let right : LineView = putting_view v.seats [] in
    let vs : List LineView = set views pass left in
    let mine = line.takes pass v at may in
    let known : ℕ → ℕ = λ seat. cond (seat == count) (length vs) (owner seat) in
    let all : List Call = gone ++ calls_in_line items in
    let Puts : ℕ → LineView → Type 0 = λ j u. u.puts ≡ true → (known u.seat ≡ j) × (u.seat < count + 1) × (calls_of u.seat all ≡ u.put) in
    let Takes : ℕ → LineView → Type 0 = λ j u. u.takes ≡ true → (j ≡ head) × (u.seats ≡ count + 1) × (u.taken ≡ gone) in
    let old = λ (j : ℕ) (u : LineView) (e : get_elem? views j ≡ some u) (p : u.puts ≡ true).
    let theirs = line.puts j u e p in let below : u.seat < count = theirs.1 in
    let its : known u.seat ≡ j = ap (λ b. cond b (length vs) (owner u.seat)) (ne_eqb u.seat count (λ s. omega (arith, s, below))) ∙ theirs.0 in
    let whole : (known u.seat ≡ j) × (u.seat < count + 1) × (calls_of u.seat all ≡ u.put) = (its, omega (arith, below), theirs.2) in whole in
    let seats : v.seats ≡ count = mine.1 in (
      known,
      head,
      count + 1,
      gone,
      record {
        seated = λ s past. line.seated s (omega (arith, past));
        numbered = line.numbered;
        puts = each_push Puts vs right (each_set Puts views pass left (λ p. old pass v at p) (λ j u apart e p. old j u e p))
            (λ _. (ap (λ b. cond b (length vs) (owner v.seats)) (eq-eqb v.seats count seats), omega (arith, seats), line.seated v.seats (omega (arith, seats))));
        takes = each_push Takes vs right
            (each_set Takes views pass left (λ _. (mine.0, ap (λ n. n + 1) seats, mine.2)) (λ j u apart e t. absurd (apart ((line.takes j u e t).0 ∙ sym mine.0))))
            (λ t. absurd (true≢false (sym t)));
      },
      rule.5,
    )

-- the receiver's token is joined with a seat's
pub merges : (pass : ℕ) (v : LineView) (other : ℕ) (u : LineView) → v.takes ≡ true → u.puts ≡ true → Merges AreLined pass v other u (merged_view v u) idle_view
merges pass v other u may theirs items views rule at apart now =
    let owner = rule.0 in let head = rule.1 in let count = rule.2 in let gone = rule.3 in let line = rule.4 in
    let both : LineView = merged_view v u in
    let vs : List LineView = set views pass both in
    let mine = line.takes pass v at may in
    let was : get_elem? views other ≡ some u = ⊎_elim (λ x. absurd (apart x.0)) (λ x. x.1) (at_set views pass other both u now) in
    let its = line.puts other u was theirs in
    let known : ℕ → ℕ = λ seat. cond (seat == u.seat) pass (owner seat) in
    let all : List Call = gone ++ calls_in_line items in
    let Puts : ℕ → LineView → Type 0 = λ j w. w.puts ≡ true → (known w.seat ≡ j) × (w.seat < count) × (calls_of w.seat all ≡ w.put) in
    let Takes : ℕ → LineView → Type 0 = λ j w. w.takes ≡ true → (j ≡ head) × (w.seats ≡ count) × (w.taken ≡ gone) in
    let Others : ℕ → LineView → Type 0 = λ j w. j ≢ other → Puts j w in
    let old = λ (j : ℕ) (w : LineView) (e : get_elem? views j ≡ some w) (there : j ≢ other) (p : w.puts ≡ true).
    let had = line.puts j w e p in
    let its : known w.seat ≡ j = ap (λ b. cond b pass (owner w.seat)) (ne_eqb w.seat u.seat (λ s. there (sym had.0 ∙ ap owner s ∙ its.0))) ∙ had.0 in
    let whole : (known w.seat ≡ j) × (w.seat < count) × (calls_of w.seat all ≡ w.put) = (its, had.1, had.2) in whole in (
      known,
      head,
      count,
      gone,
      record {
        seated = line.seated;
        numbered = line.numbered;
        puts = each_set Puts vs other idle_view (λ p. absurd (true≢false (sym p)))
            (λ j w there e. each_set Others views pass both
            (λ _ _. (ap (λ b. cond b pass (owner u.seat)) (eq-eqb u.seat u.seat refl), its.1, its.2))
            (λ k y _ e' there' p. old k y e' there' p) j w e there);
        takes = each_set Takes vs other idle_view (λ t. absurd (true≢false (sym t)))
            (λ j w _ e. each_set Takes views pass both (λ _. mine) (λ k y _ e' t. line.takes k y e' t) j w e);
      },
      rule.5,
    )

-- and split again
pub parts : (pass : ℕ) (v : LineView) → v.takes ≡ true → v.puts ≡ true → Forks AreLined pass v (taking_view v.seats v.taken) (putting_view v.seat v.put)
parts pass v may puts items views rule at =
    let owner = rule.0 in let head = rule.1 in let count = rule.2 in let gone = rule.3 in let line = rule.4 in
    let left : LineView = taking_view v.seats v.taken in
    let right : LineView = putting_view v.seat v.put in
    let vs : List LineView = set views pass left in
    let mine = line.takes pass v at may in
    let its = line.puts pass v at puts in
    let known : ℕ → ℕ = λ seat. cond (seat == v.seat) (length vs) (owner seat) in
    let all : List Call = gone ++ calls_in_line items in
    let Puts : ℕ → LineView → Type 0 = λ j u. u.puts ≡ true → (known u.seat ≡ j) × (u.seat < count) × (calls_of u.seat all ≡ u.put) in
    let Takes : ℕ → LineView → Type 0 = λ j u. u.takes ≡ true → (j ≡ head) × (u.seats ≡ count) × (u.taken ≡ gone) in
    let old = λ (j : ℕ) (u : LineView) (apart : j ≢ pass) (e : get_elem? views j ≡ some u) (p : u.puts ≡ true).
    let had = line.puts j u e p in
    let same : known u.seat ≡ j = ap (λ b. cond b (length vs) (owner u.seat)) (ne_eqb u.seat v.seat (λ s. apart (sym had.0 ∙ ap owner s ∙ its.0))) ∙ had.0 in
    let whole : (known u.seat ≡ j) × (u.seat < count) × (calls_of u.seat all ≡ u.put) = (same, had.1, had.2) in whole in (
      known,
      head,
      count,
      gone,
      record {
        seated = line.seated;
        numbered = line.numbered;
        puts = each_push Puts vs right (each_set Puts views pass left (λ p. absurd (true≢false (sym p))) (λ j u apart e p. old j u apart e p))
            (λ _. (ap (λ b. cond b (length vs) (owner v.seat)) (eq-eqb v.seat v.seat refl), its.1, its.2));
        takes = each_push Takes vs right (each_set Takes views pass left (λ _. mine) (λ j u apart e t. line.takes j u e t)) (λ t. absurd (true≢false (sym t)));
      },
      rule.5,
    )

-- the joined knowledge of both
pub learns : (pass : ℕ) (v : LineView) → v.takes ≡ true → v.puts ≡ true → Learns AreLined pass v (λ puts. calls_of v.seat (v.taken ++ calls_in_line puts) ≡ v.put)
learns pass v may puts items views rule at =
    let line = rule.4 in
    ap (λ l. calls_of v.seat (l ++ calls_in_line items)) (line.takes pass v at may).2 ∙ (line.puts pass v at puts).2

-- so the calls received are a prefix
pub beginning : (seat : ℕ) (taken items put : List Call) → calls_of seat (taken ++ items) ≡ put → put ≡ calls_of seat taken ++ calls_of seat items
beginning seat taken items put is = sym is ∙ filter-append (λ (c : Call). c.seat.0 == seat) taken items

pub line_law : (puts : List (Option BatchView)) (views : List LineView) (taker putter : LineView) → AreLined puts views → AreBeside views taker putter
    → putter.put ≡ calls_of putter.seat taker.taken ++ calls_of putter.seat (calls_in_line puts)
line_law puts views taker putter rule beside =
    let line = rule.4 in
    beginning putter.seat taker.taken (calls_in_line puts) putter.put
    (ap (λ l. calls_of putter.seat (l ++ calls_in_line puts)) (line.takes beside.head taker beside.head_is beside.takes).2
    ∙ (line.puts beside.owner putter beside.owner_is beside.puts).2)
