-- A seat's submitted calls are its asks, call by call.
use Rattle.std.proofs.Common.{◌≡◌, ◌∙◌, ℕ, ◌+◌, true, List, [], ◌∷◌, ◌++◌, Option, None, Some, ap, append_assoc, append-nil, ⊎_elim, length, map, refl, subst, sym}
use Rattle.std.proofs.lemmas.Grind.{flat_map-append}
use Rattle.std.proofs.lemmas.List.{map-append}
use Rattle.std.proofs.lemmas.Slice.Zip.{seconds-zip}
use Rattle.std.specs.List.{flat_map, zip}
use Rattle.std.specs.Prelude.{Err, IfErr, IfSome, Ok, OnOk, Result}
use Rattle.rly_line.specs.declared.call_error.BatchError.{BatchError}
use Rattle.rly_line.specs.declared.call_error.BatchError.TheVariants as batch
use Rattle.rly_line.specs.Batches.{calls_after}
use Rattle.rly_line.specs.Replies.{entries_of}
use Rattle.rly_line.specs.Seats.{AreAnsweredWith, AreUnanswered, Caller, IsClosed}
use Rattle.rly_machine.specs.declared.call.Answer.{Answer}
use Rattle.rly_machine.specs.declared.call.Call.{Call}
use Rattle.rly_machine.specs.declared.call.SeatId.{SeatId}
use Rattle.rly_machine.specs.declared.command.Ask.{Ask}
use Rattle.rly_machine.specs.History.{Entry}
use Rattle.rly_threads_workers.specs.DeskExchanges.{Asked, HasPut, answers_of, batch_outcome, put_of}

abbrev asks_in : List Call → List Ask
asks_in calls = map (λ (call : Call). call.ask) calls

abbrev answers_in : List Entry → List Answer
answers_in entries = map (λ (entry : Entry). entry.1) entries

-- the calls that submit asks have these asks
asks_after : (seat : SeatId) (last : ℕ) (asks : List Ask) → asks_in (calls_after seat last asks) ≡ asks
asks_after seat last [] = refl
asks_after seat last (ask ∷ asks) = ap (λ l. ask ∷ l) (asks_after seat (last + 1) asks)

-- the facts of a seat before and after one batch
record HasMoved (before : Caller) (asked : Asked) (after : Caller) : Type 0 where
  pub of : after.of ≡ before.of
  pub replies : after.replies ≡ before.replies
  pub seat : after.seat ≡ before.seat
  pub put : asks_in after.put ≡ asks_in before.put ++ put_of asked
  pub told : answers_in (entries_of before.seat.0 after.known) ≡ answers_in (entries_of before.seat.0 before.known) ++ answers_of asked

-- one batch more
one_more : (first before after : Caller) (all : List Asked) (asked : Asked) → HasPut first all before → HasMoved before asked after → HasPut first (all ++ asked ∷ []) after
one_more first before after all asked so_far moved =
    let puts : flat_map put_of (all ++ asked ∷ []) ≡ flat_map put_of all ++ put_of asked =
    flat_map-append put_of all (asked ∷ []) ∙ ap (λ l. flat_map put_of all ++ l) (append-nil (put_of asked)) in
    let answers : flat_map answers_of (all ++ asked ∷ []) ≡ flat_map answers_of all ++ answers_of asked =
    flat_map-append answers_of all (asked ∷ []) ∙ ap (λ l. flat_map answers_of all ++ l) (append-nil (answers_of asked)) in
    let own : answers_in (entries_of first.seat.0 after.known) ≡ answers_in (entries_of first.seat.0 before.known) ++ answers_of asked =
    subst (λ (s : SeatId). answers_in (entries_of s.0 after.known) ≡ answers_in (entries_of s.0 before.known) ++ answers_of asked) so_far.seat moved.told in
    record {
      of = moved.of ∙ so_far.of;
      replies = moved.replies ∙ so_far.replies;
      seat = moved.seat ∙ so_far.seat;
      put = moved.put ∙ ap (λ l. l ++ put_of asked) so_far.put ∙ append_assoc (asks_in first.put) (flat_map put_of all) (put_of asked) ∙ ap (λ l. asks_in first.put ++ l) (sym puts);
      told = own ∙ ap (λ l. l ++ answers_of asked) so_far.told ∙ append_assoc (answers_in (entries_of first.seat.0 first.known)) (flat_map answers_of all) (answers_of asked)
          ∙ ap (λ l. answers_in (entries_of first.seat.0 first.known) ++ l) (sym answers);
    }

-- nothing was submitted
stayed : (before after : Caller) (asked : Asked) → after.of ≡ before.of → after.replies ≡ before.replies → after.seat ≡ before.seat → after.put ≡ before.put → after.known ≡ before.known → put_of asked ≡ [] → answers_of asked ≡ []
    → HasMoved before asked after
stayed before after asked of replies seat put known none none_told = record {
  of = of;
  replies = replies;
  seat = seat;
  put = ap asks_in put ∙ sym (append-nil (asks_in before.put)) ∙ ap (λ l. asks_in before.put ++ l) (sym none);
  told = ap (λ h. answers_in (entries_of before.seat.0 h)) known ∙ sym (append-nil (answers_in (entries_of before.seat.0 before.known)))
      ∙ ap (λ l. answers_in (entries_of before.seat.0 before.known) ++ l) (sym none_told);
}

handed_back : (before after : Caller) (count : ℕ) (asked : Asked) → IsClosed before count after → put_of asked ≡ [] → answers_of asked ≡ [] → HasMoved before asked after
handed_back before after count asked closed none none_told = ⊎_elim
    (λ same. stayed before after asked (ap (λ (c : Caller). c.of) same.1) (ap (λ (c : Caller). c.replies) same.1) (ap (λ (c : Caller). c.seat) same.1) (ap (λ (c : Caller). c.put) same.1) (ap (λ (c : Caller). c.known) same.1) none none_told)
    (λ refused. stayed before after asked (ap (λ (c : Caller). c.of) refused) (ap (λ (c : Caller). c.replies) refused) (ap (λ (c : Caller). c.seat) refused) (ap (λ (c : Caller). c.put) refused) (ap (λ (c : Caller). c.known) refused) none none_told)
    closed

-- they were submitted, and no answers came
lost : (before after : Caller) (asks : List Ask) (asked : Asked) → after ≡ record before { put = before.put ++ calls_after before.seat (length before.put) asks; shut = true } → put_of asked ≡ asks → answers_of asked ≡ []
    → HasMoved before asked after
lost before after asks asked is puts none_told = record {
  of = ap (λ (c : Caller). c.of) is;
  replies = ap (λ (c : Caller). c.replies) is;
  seat = ap (λ (c : Caller). c.seat) is;
  put = ap (λ (c : Caller). asks_in c.put) is ∙ map-append (λ (call : Call). call.ask) before.put (calls_after before.seat (length before.put) asks)
      ∙ ap (λ l. asks_in before.put ++ l) (asks_after before.seat (length before.put) asks ∙ sym puts);
  told = ap (λ (c : Caller). answers_in (entries_of before.seat.0 c.known)) is ∙ sym (append-nil (answers_in (entries_of before.seat.0 before.known)))
      ∙ ap (λ l. answers_in (entries_of before.seat.0 before.known) ++ l) (sym none_told);
}

-- calls together
several_moved : (before after : Caller) (asks left : List Ask) (answers : List Answer) (outcome : Result (Unit {0}) BatchError) → OnOk outcome (AreAnsweredWith before asks answers after)
    → IfErr outcome (λ error. AreUnanswered before asks error left after) → HasMoved before (asks, batch_outcome outcome answers) after
several_moved before after asks left answers (Ok _) did none = record {
  of = did.of;
  replies = did.replies;
  seat = did.seat;
  put = ap asks_in did.put ∙ map-append (λ (call : Call). call.ask) before.put (calls_after before.seat (length before.put) asks)
      ∙ ap (λ l. asks_in before.put ++ l) (asks_after before.seat (length before.put) asks);
  told = ap answers_in did.all ∙ map-append (λ (entry : Entry). entry.1) (entries_of before.seat.0 before.known) (zip did.calls answers)
      ∙ ap (λ l. answers_in (entries_of before.seat.0 before.known) ++ l) (seconds-zip did.calls answers (did.count ∙ sym did.each));
}
several_moved before after asks left answers (Err batch.Closed) did none = handed_back before after (length asks) (asks, Err batch.Closed) none.1 refl refl
several_moved before after asks left answers (Err batch.Lost) did none = lost before after asks (asks, Err batch.Lost) none.1 refl refl

pub told_several : (first : Option Caller) (before after : Caller) (all : List Asked) (asks left : List Ask) (answers : List Answer) (outcome : Result (Unit {0}) BatchError) → IfSome first (λ seat. HasPut seat all before)
    → OnOk outcome (AreAnsweredWith before asks answers after) → IfErr outcome (λ error. AreUnanswered before asks error left after)
    → IfSome first (λ seat. HasPut seat (all ++ (asks, batch_outcome outcome answers) ∷ []) after)
told_several None before after all asks left answers outcome so_far did none = tt
told_several (Some seat) before after all asks left answers outcome so_far did none =
    one_more seat before after all (asks, batch_outcome outcome answers) so_far (several_moved before after asks left answers outcome did none)
