-- The replies to a round's calls, in order.
use Rattle.std.proofs.Common.{◌≡◌, ◌++◌, ◌∷◌, [], ◌∙◌, ℕ, true, List, length, arith, sym, ap, subst, refl, append_assoc, length-append}
use Rattle.std.specs.Prelude.{All, Option, Some, None}
use Rattle.std.specs.List.{AllByRecursion, flat_map, zip}
use Rattle.std.proofs.lemmas.List.{append-nil, flat_map_more}
use Rattle.std.proofs.lemmas.List.Elements.{All-head, All-tail}
use Rattle.rly_disk.specs.DiskModel.{Consistent, DiskState}
use Rattle.rly_disk.specs.Trace.{are_reads}
use Rattle.rly_core.specs.declared.refusal.Refusal.TheVariants.{DeviceRead, OutOfMemory}
use Rattle.rly_machine.specs.declared.call.Answer.{Answer}
use Rattle.rly_machine.specs.declared.reply.Reply.{Reply}
use Rattle.rly_machine.specs.declared.reply.Reply.TheVariants.{Bytes, Refused}
use Rattle.rly_segment_checkpoint.specs.Stored.{payload_in}
use Rattle.rly_segment_checkpoint.specs.declared.stored.DeviceAddress.{DeviceAddress}
use Rattle.rly_journal_fetch.specs.FetchReads.{AreAnswersOf, IsAnswerOf, IsFetched, IsThereFor, fetch_tries, stored_at_address, payload_reads, row_for, rows_for}
use Rattle.rly_disk.specs.Trials.{AreReads, Tries, Try}
use Rattle.rly_journal_fetch.specs.declared.outcome.Outcome.{Outcome}
use Rattle.rly_journal_fetch.specs.declared.outcome.Outcome.TheVariants.{Answered, Wanted}
use Rattle.rly_disk.proofs.TriedReads.{tried_new}
use Rattle.rly_disk.proofs.TriedRows.{nothing_tried, tries_joined}

-- ---- one call

-- a property of the disk at a reply also holds at an earlier one, if it reads the same
module _ (a b : DiskState) (same : a.honest → b.honest × (b.seen ≡ a.seen)) where
  fetched_before : (place : Option DeviceAddress) (limit : ℕ) (reply : Reply) → IsFetched b place limit reply → IsFetched a place limit reply
  fetched_before place limit (Bytes payload told) fetched =
      (fetched.0, λ honest. fetched.1 (same honest).0 ∙ ap (λ (l : List ℕ). payload_in l (stored_at_address place)) (same honest).1, fetched.2)
  fetched_before place limit (Refused DeviceRead) fetched = fetched
  fetched_before place limit (Refused OutOfMemory) fetched = fetched
  fetched_before place limit reply fetched = absurd fetched

  answered_before : (outcome : Outcome) (answer : Answer) → IsAnswerOf b outcome answer → IsAnswerOf a outcome answer
  answered_before (Answered known) answer answered = answered
  answered_before (Wanted seat number position limit place) answer answered =
      (answered.0, answered.1, answered.2, fetched_before place limit answer.reply answered.3)

-- its calls are reads only
one_read : (place : Option DeviceAddress) → are_reads (payload_reads place) ≡ true
one_read None = refl
one_read (Some place) = refl

row_reads : (place : Option DeviceAddress) (reply : Reply) → are_reads (row_for place reply).calls ≡ true
row_reads place (Refused DeviceRead) = one_read place
row_reads place (Refused OutOfMemory) = refl
row_reads place reply = one_read place

rows_reads : (outcome : Outcome) (answer : Answer) → AreReads (rows_for outcome answer)
rows_reads (Answered known) answer = tt
rows_reads (Wanted seat number position limit place) answer = (row_reads place answer.reply, tt)

reads_both : (rows more : List Try) → AreReads rows → AreReads more → AreReads (rows ++ more)
reads_both [] more one two = two
reads_both (row ∷ rows) more one two = (one.0, reads_both rows more one.1 two)

pairs_reads : (pairs : List (Outcome × Answer)) → AreReads (flat_map (λ x. rows_for x.0 x.1) pairs)
pairs_reads [] = tt
pairs_reads (pair ∷ pairs) =
    reads_both (rows_for pair.0 pair.1) (flat_map (λ x. rows_for x.0 x.1) pairs) (rows_reads pair.0 pair.1) (pairs_reads pairs)

pub all_reads : (outcomes : List Outcome) (given : List Answer) → AreReads (fetch_tries outcomes given)
all_reads outcomes given = pairs_reads (zip outcomes given)

-- ---- in order

-- one more with the same property
all_push : {X : Type 0} (P : X → Type 0) (xs : List X) (x : X) → AllByRecursion P xs → P x → AllByRecursion P (xs ++ x ∷ [])
all_push P [] x all one = (one, tt)
all_push P (y ∷ xs) x all one = (all.0, all_push P xs x all.1 one)

zip_push : {A B : Type 0} (xs : List A) (ys : List B) (x : A) (y : B) → length ys ≡ length xs → zip (xs ++ x ∷ []) (ys ++ y ∷ []) ≡ zip xs ys ++ (x, y) ∷ []
zip_push [] [] x y same = refl
zip_push [] (b ∷ ys) x y same = absurd (omega (arith, same))
zip_push (a ∷ xs) [] x y same = absurd (omega (arith, same))
zip_push (a ∷ xs) (b ∷ ys) x y same = ap (λ l. (a, b) ∷ l) (zip_push xs ys x y (omega (arith, same)))

pub among : {X : Type 0} (P : X → Type 0) (xs ys : List X) (x : X) → All P (xs ++ x ∷ ys) → P x
among P [] ys x all = All-head P x ys all
among P (y ∷ xs) ys x all = among P xs ys x (All-tail P y (xs ++ x ∷ ys) all)

-- the first of a round's calls have their replies
pub record IsAnswering {D : Type 0} (state : D → DiskState) (all rest : List Outcome) (before now : List Answer) (a b : D) : Type 0 where
  pub done : List Outcome
  pub given : List Answer
  pub outcomes : all ≡ done ++ rest
  pub answers : now ≡ before ++ given
  pub answered : AreAnswersOf (state a) done given
  pub tries : Tries state (fetch_tries done given) a b

module _ {D : Type 0} (state : D → DiskState) where
  pub answering_none : (all : List Outcome) (before : List Answer) (a : D) → IsAnswering state all all before before a a
  answering_none all before a = record {
    done = [];
    given = [];
    outcomes = refl;
    answers = sym (append-nil before);
    answered = record { count = refl; each = tt };
    tries = nothing_tried state a;
  }

  -- the disk has the same size, and an honest one reads as before
  pub answering_size : {all rest : List Outcome} {before now : List Answer} {a b : D} → IsAnswering state all rest before now a b → (state b).size ≡ (state a).size
  answering_size answering = answering.tries.leads.size

  answering_seen : {all rest : List Outcome} {before now : List Answer} {a b : D} → IsAnswering state all rest before now a b → ((state a).honest → Consistent (state a))
      → (state a).honest → (state b).honest × ((state b).seen ≡ (state a).seen)
  answering_seen answering facts honest =
      let new = tried_new state (fetch_tries answering.done answering.given) answering.tries (all_reads answering.done answering.given) honest (facts honest) in
      (new.honest, new.seen)

  -- the device address of the next call lies on the device
  pub answering_there : {all rest more : List Outcome} {before now : List Answer} {a b : D} {outcome : Outcome} → IsAnswering state all rest before now a b
      → rest ≡ outcome ∷ more → All (IsThereFor (state a).size) all → IsThereFor (state b).size outcome
  answering_there {all} {rest} {more} {before} {now} {a} {b} {outcome} answering cut there =
      let whole : all ≡ answering.done ++ outcome ∷ more = answering.outcomes ∙ ap (λ (l : List Outcome). answering.done ++ l) cut in
      subst (λ (n : ℕ). IsThereFor n outcome) (sym (answering_size answering))
      (among (IsThereFor (state a).size) answering.done more outcome (subst (All (IsThereFor (state a).size)) whole there))

  -- it has its reply
  pub answering_next : {all rest more : List Outcome} {before now next : List Answer} {a b e : D} (outcome : Outcome) (answer : Answer) → IsAnswering state all rest before now a b
      → rest ≡ outcome ∷ more → next ≡ now ++ answer ∷ [] → ((state a).honest → Consistent (state a)) → IsAnswerOf (state b) outcome answer
      → Tries state (rows_for outcome answer) b e → IsAnswering state all more before next a e
  answering_next {all} {rest} {more} {before} {now} {next} {a} {b} {e} outcome answer answering cut pushed facts answered tries =
      let done : List Outcome = answering.done in
      let given : List Answer = answering.given in
      let Good : Outcome × Answer → Type 0 = λ x. IsAnswerOf (state a) x.0 x.1 in
      let rows : Outcome × Answer → List Try = λ x. rows_for x.0 x.1 in
      let pairs = zip_push done given outcome answer answering.answered.count in
      record {
        done = done ++ outcome ∷ [];
        given = given ++ answer ∷ [];
        outcomes = answering.outcomes ∙ ap (λ (l : List Outcome). done ++ l) cut ∙ sym (append_assoc done (outcome ∷ []) more);
        answers = pushed ∙ ap (λ (l : List Answer). l ++ answer ∷ []) answering.answers ∙ append_assoc before given (answer ∷ []);
        answered = record {
          count = omega (arith, answering.answered.count, length-append done (outcome ∷ []), length-append given (answer ∷ []));
          each = subst (AllByRecursion Good) (sym pairs)
              (all_push Good (zip done given) (outcome, answer) answering.answered.each
              (answered_before (state a) (state b) (answering_seen answering facts) outcome answer answered));
        };
        tries = subst (λ (l : List Try). Tries state l a e)
            (flat_map_more rows [] (zip done given) (outcome, answer) ∙ ap (λ (l : List (Outcome × Answer)). flat_map rows l) (sym pairs))
            (tries_joined state (fetch_tries done given) (rows_for outcome answer) answering.tries tries);
      }

  -- all have
  pub answering_done : {all rest : List Outcome} {before now : List Answer} {a b : D} → IsAnswering state all rest before now a b → rest ≡ []
      → (given : List Answer) × (now ≡ before ++ given) × AreAnswersOf (state a) all given × Tries state (fetch_tries all given) a b
  answering_done {all} {rest} {before} {now} {a} {b} answering none =
      let same : answering.done ≡ all = sym (append-nil answering.done) ∙ ap (λ (l : List Outcome). answering.done ++ l) (sym none) ∙ sym answering.outcomes in (
        answering.given,
        answering.answers,
        subst (λ (l : List Outcome). AreAnswersOf (state a) l answering.given) same answering.answered,
        subst (λ (l : List Outcome). Tries state (fetch_tries l answering.given) a b) same answering.tries,
      )
