-- Batches are answered in order: the first of the remaining ones is answered, and the others remain.
use Rattle.std.proofs.Common.{ℕ, zero, suc, ◌≡◌, ◌==◌, ◌+◌, ◌<◌, ◌≤◌, ◌++◌, ◌∷◌, [], List, drop, get_or, length, take, sym, refl, ap, subst, ◌∙◌, append_assoc, length-append, arith}
use Rattle.std.specs.List.{zip}
use Rattle.std.proofs.lemmas.List.{drop_more}
use Rattle.std.proofs.lemmas.List.Concat.{flat_map-cons}
use Rattle.std.proofs.lemmas.List.Elements.{filter-append}
use Rattle.std.specs.declared.snapshot.Snapshot.{Snapshot}
use Rattle.rly_machine.specs.declared.call.Answer.{Answer}
use Rattle.rly_machine.specs.declared.call.Call.{Call}
use Rattle.rly_machine.specs.declared.reply.Reply.{Reply}
use Rattle.rly_machine.specs.History.{Entry, LegalBy, harm, harm_after, next_state, state_after, without_bytes}
use Rattle.rly_machine.specs.State.{State}
use Rattle.rly_machine.proofs.Histories.{harm_after-append, state_after-append}
use Rattle.rly_line.specs.Batches.{AnswersView, BatchView, calls_in_batch, no_answers}
use Rattle.rly_line.specs.ResponderView.{AreLeft, ResponderView, calls_in}
use Rattle.rly_line.specs.Submission.{IsBeginning, calls_of}
use Rattle.rly_line.proofs.Submitting.{length_batch}
use Rattle.rly_flush.specs.HelpersFlusher.{answers_said, calls_said}
use Rattle.rly_flush.proofs.Refusing.{calls_in_append, calls_in_zip}

-- a legal history in two parts
pub legal_front : (shown : Reply → Reply) (harmed : ℕ) (s : State (List ℕ)) (xs ys : List Entry) → LegalBy shown harmed s (xs ++ ys) → LegalBy shown harmed s xs
legal_front shown harmed s [] ys legal = tt
legal_front shown harmed s (x ∷ xs) ys legal = (legal.0, legal_front shown (harm x.1.reply) (next_state s x) xs ys legal.1)

pub legal_back : (shown : Reply → Reply) (harmed : ℕ) (s : State (List ℕ)) (xs ys : List Entry) → LegalBy shown harmed s (xs ++ ys)
    → LegalBy shown (harm_after harmed xs) (state_after s xs) ys
legal_back shown harmed s [] ys legal = legal
legal_back shown harmed s (x ∷ xs) ys legal = legal_back shown (harm x.1.reply) (next_state s x) xs ys legal.1

-- calls in two parts with their answers
pub zip_parts : (xs ys : List Call) (n : ℕ) (given : List Answer) → length xs ≡ n → n ≤ length given → zip (xs ++ ys) given ≡ zip xs (take n given) ++ zip ys (drop n given)
zip_parts [] ys zero given count enough = refl
zip_parts [] ys (suc n) given count enough = absurd (omega (arith, count))
zip_parts (x ∷ xs) ys zero given count enough = absurd (omega (arith, count))
zip_parts (x ∷ xs) ys (suc n) [] count enough = absurd (omega (arith, enough))
zip_parts (x ∷ xs) ys (suc n) (y ∷ given) count enough = ap (λ l. (x, y) ∷ l) (zip_parts xs ys n given (omega (arith, count)) (omega (arith, enough)))

length_take : (n : ℕ) (given : List Answer) → n ≤ length given → length (take n given) ≡ n
length_take zero given enough = refl
length_take (suc n) [] enough = absurd (omega (arith, enough))
length_take (suc n) (y ∷ given) enough = ap suc (length_take n given (omega (arith, enough)))

length_drop : (n : ℕ) (given : List Answer) → n ≤ length given → length (drop n given) + n ≡ length given
length_drop zero given enough = omega arith
length_drop (suc n) [] enough = absurd (omega (arith, enough))
length_drop (suc n) (y ∷ given) enough = let rest = length_drop n given (omega (arith, enough)) in omega (arith, rest)

-- a history once these calls are answered so
abbrev pub once_told : ResponderView → List Call → List Answer → List Entry
once_told line calls given = line.history ++ zip calls given

-- these calls remain, to be answered so, in order, before others that are kept; then this is the history
pub record IsUnderWay (line : ResponderView) (whole : List Entry) (calls kept : List Call) (given : List Answer) : Type 0 where
  pub left : AreLeft line (calls ++ kept)
  pub count : length given ≡ length calls
  pub legal : LegalBy without_bytes (harm_after 0 line.history) (state_after line.start line.history) (zip calls given)
  pub history : once_told line calls given ≡ whole

-- the first of the batches from an index on, and the destination of its answers
pub said_next : (said : List (Snapshot BatchView)) (i : ℕ) (x : Snapshot BatchView) → i < length said → x ≡ get_or said i x
    → calls_said (drop i said) ≡ calls_in_batch x.value ++ calls_said (drop (i + 1) said)
said_next said i x below is =
    ap calls_said (drop_more said i x below) ∙ flat_map-cons (λ (s : Snapshot BatchView). calls_in_batch s.value) (get_or said i x) (drop (i + 1) said)
    ∙ ap (λ (y : Snapshot BatchView). calls_in_batch y.value ++ calls_said (drop (i + 1) said)) (sym is)

pub wanted_next : (said : List (Snapshot BatchView)) (i : ℕ) (x : Snapshot BatchView) → i < length said → x ≡ get_or said i x
    → answers_said (drop i said) ≡ no_answers x.value ∷ answers_said (drop (i + 1) said)
wanted_next said i x below is =
    ap answers_said (drop_more said i x below) ∙ ap (λ (y : Snapshot BatchView). no_answers y.value ∷ answers_said (drop (i + 1) said)) (sym is)

module _ (b : BatchView) (line : ResponderView) (whole : List Entry) (rest kept : List Call) (given : List Answer) (is : IsUnderWay line whole (calls_in_batch b ++ rest) kept given) where
  abbrev n : ℕ
  n = length b.asks

  -- there are answers for it
  pub enough : n ≤ length given
  enough = omega (arith, is.count, length-append (calls_in_batch b) rest, length_batch b)

  parts : zip (calls_in_batch b ++ rest) given ≡ zip (calls_in_batch b) (take n given) ++ zip rest (drop n given)
  parts = zip_parts (calls_in_batch b) rest n given (length_batch b) enough

  legal : LegalBy without_bytes (harm_after 0 line.history) (state_after line.start line.history) (zip (calls_in_batch b) (take n given) ++ zip rest (drop n given))
  legal = subst (LegalBy without_bytes (harm_after 0 line.history) (state_after line.start line.history)) parts is.legal

  pub counted : length (take n given) ≡ n
  counted = length_take n given enough

  pub legal_first : LegalBy without_bytes (harm_after 0 line.history) (state_after line.start line.history) (zip (calls_in_batch b) (take n given))
  legal_first = legal_front without_bytes (harm_after 0 line.history) (state_after line.start line.history) (zip (calls_in_batch b) (take n given)) (zip rest (drop n given)) legal

  -- once it was answered, the others remain
  pub under_way : {now : ResponderView} → now.taken ≡ line.taken → now.start ≡ line.start → now.history ≡ line.history ++ zip (calls_in_batch b) (take n given)
      → IsUnderWay now whole rest kept (drop n given)
  under_way {now} taken start history =
      let first : List Entry = zip (calls_in_batch b) (take n given) in
      let asks : calls_in now.history ≡ calls_in line.history ++ calls_in_batch b =
      ap calls_in history ∙ calls_in_append line.history first ∙ ap (λ l. calls_in line.history ++ l) (calls_in_zip (calls_in_batch b) (take n given) (counted ∙ sym (length_batch b))) in
      let told : harm_after (harm_after 0 line.history) first ≡ harm_after 0 now.history = sym (harm_after-append 0 line.history first) ∙ ap (harm_after 0) (sym history) in
      let moved : state_after (state_after line.start line.history) first ≡ state_after now.start now.history =
      sym (state_after-append line.start line.history first) ∙ (λ i. state_after (sym start i) (sym history i)) in
      record {
        left = taken ∙ is.left ∙ ap (λ l. calls_in line.history ++ l) (append_assoc (calls_in_batch b) rest kept) ∙ sym (append_assoc (calls_in line.history) (calls_in_batch b) (rest ++ kept))
            ∙ ap (λ l. l ++ (rest ++ kept)) (sym asks);
        count = omega (arith, length_drop n given enough, is.count, length-append (calls_in_batch b) rest, length_batch b);
        legal = subst (λ (y : ℕ × State (List ℕ)). LegalBy without_bytes y.0 y.1 (zip rest (drop n given))) (λ i. (told i, moved i))
            (legal_back without_bytes (harm_after 0 line.history) (state_after line.start line.history) first (zip rest (drop n given)) legal);
        history = ap (λ h. h ++ zip rest (drop n given)) history ∙ append_assoc line.history first (zip rest (drop n given)) ∙ ap (λ l. line.history ++ l) (sym parts) ∙ is.history;
      }

-- if calls and then others are a prefix of a seat's submitted calls, so are the first
pub shorter : (seat : ℕ) (calls kept put : List Call) → IsBeginning seat (calls ++ kept) put → IsBeginning seat calls put
shorter seat calls kept put begins = (
  calls_of seat kept ++ begins.0,
  begins.1 ∙ ap (λ l. l ++ begins.0) (filter-append (λ (c : Call). c.seat.0 == seat) calls kept) ∙ append_assoc (calls_of seat calls) (calls_of seat kept) begins.0,
)

-- one step: the first of the expected answers is for the first of the remaining batches
module _ (line : ResponderView) (whole : List Entry) (said : List (Snapshot BatchView)) (i : ℕ) (x : Snapshot BatchView) (all more : List AnswersView) (w : AnswersView) (kept : List Call) (given : List Answer)
    (is : IsUnderWay line whole (calls_said (drop i said)) kept given) (wanted : all ≡ answers_said (drop i said)) (cut : all ≡ w ∷ more) (count : i + length all ≡ length said) (at : x ≡ get_or said i x) where
  below : i < length said
  below = omega (arith, count, ap length cut)

  both : w ∷ more ≡ no_answers x.value ∷ answers_said (drop (i + 1) said)
  both = sym cut ∙ wanted ∙ wanted_next said i x below at

  pub first_wanted : w ≡ no_answers x.value
  first_wanted = ap (λ (l : List AnswersView). get_or l 0 w) both

  pub more_wanted : more ≡ answers_said (drop (i + 1) said)
  more_wanted = ap (drop 1) both

  so_many : w.wanted ≡ length x.value.asks
  so_many = ap (λ (a : AnswersView). a.wanted) first_wanted

  first : IsUnderWay line whole (calls_in_batch x.value ++ calls_said (drop (i + 1) said)) kept given
  first = subst (λ l. IsUnderWay line whole l kept given) (said_next said i x below at) is

  pub there_are : w.wanted ≤ length given
  there_are = omega (arith, so_many, enough x.value line whole (calls_said (drop (i + 1) said)) kept given first)

  module _ (filled : AnswersView) (fills : filled ≡ record w { answers = take w.wanted given }) where
    pub all_filled : length filled.answers ≡ filled.wanted
    all_filled = ap (λ (a : AnswersView). length a.answers) fills ∙ length_take w.wanted given there_are ∙ sym (ap (λ (a : AnswersView). a.wanted) fills)

    its_answers : filled.answers ≡ take (length x.value.asks) given
    its_answers = ap (λ (a : AnswersView). a.answers) fills ∙ ap (λ n. take n given) so_many

    pub may_answer : LegalBy without_bytes (harm_after 0 line.history) (state_after line.start line.history) (zip (calls_in_batch x.value) filled.answers)
    may_answer = subst (λ l. LegalBy without_bytes (harm_after 0 line.history) (state_after line.start line.history) (zip (calls_in_batch x.value) l)) (sym its_answers)
        (legal_first x.value line whole (calls_said (drop (i + 1) said)) kept given first)

    pub next_way : {now : ResponderView} {left : List Answer} → left ≡ drop w.wanted given → now.taken ≡ line.taken → now.start ≡ line.start
        → now.history ≡ line.history ++ zip (calls_in_batch x.value) filled.answers → IsUnderWay now whole (calls_said (drop (i + 1) said)) kept left
    next_way {now} {left} rest taken start history =
        subst (λ l. IsUnderWay now whole (calls_said (drop (i + 1) said)) kept l) (sym (rest ∙ ap (λ n. drop n given) so_many))
        (under_way x.value line whole (calls_said (drop (i + 1) said)) kept given first taken start (history ∙ ap (λ l. line.history ++ zip (calls_in_batch x.value) l) its_answers))
