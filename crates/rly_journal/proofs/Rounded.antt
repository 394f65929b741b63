-- The results of a round: room was made for its calls or not, and then they were served, with one of three ends.
use Rattle.rly_journal.proofs.Common.{[], accepted_of, all_reads, Answer, ap, append_calls, AreAnswersOf, AreLostWhereWanted, AreServed, arith, Call, cases_Bool}
use Rattle.rly_journal.proofs.Common.{Commands, DeviceRead, DiskState, eqb, Err, false, fetch_tries, fold, front_all, group_body, GroupState, IndexState, inl, inr}
use Rattle.rly_journal.proofs.Common.{StandsForBytes, IsReadied, HasOpenedIfDue, IsSameHead, IsServed, joined, Later, later_again, LeavesOnly, length, List, log_calls, Makes}
use Rattle.rly_journal.proofs.Common.{makes_failed, makes_later, makes_syncs, map, next_state, not, nothing_tried, Ok, OnlyRead, Outcome, OutOfMemory}
use Rattle.rly_journal.proofs.Common.{placed_group, refl, Refusal, refusal_of, refusals, Refused, refused_as, rose_earlier, rose_later, round_tries, Stands, State}
use Rattle.rly_journal.proofs.Common.{stored_length, sym, Tail, taken_of, tried_syncs, Tries, tries_joined, tries_later, true, Unsure, weaker, zip, ℕ, ⊎_elim}
use Rattle.rly_journal.proofs.Common.{◌++◌, ◌+◌, ◌∙◌, ◌∷◌, ◌≡◌, ◌≤◌, ◌⊎◌}
use Rattle.rly_journal.specs.Journal.{IsSafe, Breaks, Goes, IsShut, IsDueFor, IsRound, JournalState, MakesRound, MakesShut, OnlyReadsFailed}
use Rattle.rly_journal.proofs.Reading.{leaves_read}
use Rattle.rly_journal.proofs.Serving.{IsServing, alike_front, came, crash_group, logging_group}
use Rattle.rly_journal.proofs.EvaluatedAnswers.{granted_each, refused_each, told_each, told_served}
use Rattle.rly_journal.proofs.Counted.{drawn_counts, logging_sound, round_alone, unheaded_made}

-- if all calls are refused for another reason, none is lost
module _ (refusal : Refusal) (position : ℕ) (memory : Refused refusal ≡ Refused OutOfMemory → ⊥) (device : Refused refusal ≡ Refused DeviceRead → ⊥) where
  pub refused_unlost : (s : State (List ℕ)) (calls : List Call) → AreLostWhereWanted s (zip calls (refusals refusal position calls))
  refused_unlost s [] = tt
  refused_unlost s (call ∷ calls) = let more = refused_unlost (next_state s (call, refusal_of refusal position call)) calls in grind (arith, memory, device)

-- the calls were evaluated
module _ {D : Type 0} {state : D → DiskState} {old : JournalState D} {x y : IndexState} {group : GroupState} {now : State (List ℕ)} {calls : List Call}
    {outcomes : List Outcome} (e : IsServing state old x y group now calls outcomes) where
  abbrev commands : Commands
  commands = taken_of (zip calls outcomes)

  -- the accepted commands are logged, and then the payloads are read
  pub served : {mid b : D} {end : Tail} {gate counted : ℕ} {before after : List Answer} → Makes state (log_calls old.tail.gate commands) true old.disk mid
      → ((front back : Commands) → commands ≡ front ++ back
      → StandsForBytes (state mid) (fold stored_length x.spool.state (placed_group old.tail.gate front)) (fold length old.state front))
      → ((state old.disk).honest → LeavesOnly (state old.disk) (state mid) (λ image. Stands image old.state ⊎ Stands image now))
      → end ≡ record old.tail { gate = gate } → counted ≡ now.seq → OnlyRead (state mid) (state b)
      → (given : List Answer) × (after ≡ before ++ given) × AreAnswersOf (state mid) outcomes given × Tries state (fetch_tries outcomes given) mid b
      → IsServed state old (record old { disk = b; tail = end; state = now; position = counted }) calls before after
  served {mid} {end = end} made kept logged is counts only answered =
      let all =
      told_each (state mid) old.tail.geometry _ _ _ commands kept [] calls outcomes answered.0 e.done.count answered.2.count refl (came e) answered.2.each in
      let right = (makes_later state made).honest.1 in
      let served = rw (← e.shows) at (told_served (state old.disk) _ old.state calls outcomes answered.0 right (answered.2.count ∙ e.done.count) all.0) in
      let recorded = rw (← all.0.taken) at e.done.holds.have in
      let makes = rw (← all.0.taken) at made in
      let head : IsSameHead old.tail end = rw is (record { segment = refl; generation = refl }) in
      let leaves = λ (honest : (state old.disk).honest). leaves_read (logged honest) only (right honest) in
      rw e.going.whole (search (arith, answered.1, counts, served, recorded, all, all_reads outcomes answered.0, makes, answered.3, head, leaves))

  -- a write or a sync of it failed
  module _ (some : eqb group.count 0 ≡ false) {b : D} (made : Makes state (append_calls old.tail.gate (group_body group)) false old.disk b) where
    pub failed_served : {end : Tail} {before after : List Answer} → end ≡ old.tail → after ≡ before ++ map (refused_as Unsure old.position) outcomes
        → IsServed state old (record old { disk = b; tail = end; state = now; broken = true }) calls before after
    failed_served {end = end} is told =
        let all = granted_each old.tail.geometry old.tail.gate x.spool.state old.state (alike_front e) [] calls outcomes e.done.count (came e) in
        let served = rw (← e.shows) at (told_served (state old.disk) (Unit {0}) old.state calls outcomes _ (λ _. tt) all.2 all.1) in
        let makes = rw (← all.1.taken) at (logging_group e some made) in
        let refused = refused_each old.tail.geometry old.tail.gate x.spool.state old.state Unsure old.position [] calls outcomes e.done.count (came e) in
        let head : IsSameHead old.tail end = rw is (record { segment = refl; generation = refl }) in
        search (arith, served, rw (← all.1.taken) at e.done.holds.have, all, makes, nothing_tried state b, rw refused at told, head, crash_group e some made)

-- ---- a round in two steps: making room, and serving its calls

-- all effects of a round on a journal that isn't broken
pub record IsRounded {D : Type 0} (state : D → DiskState) (old new : JournalState D) (calls : List Call) (before after : List Answer) : Type 0 where
  pub answers : (given : List Answer) × (after ≡ before ++ given) × IsRound state old new calls given
  pub lost : (given : List Answer) × (after ≡ before ++ given) × (AreLostWhereWanted old.state (zip calls given) ⊎ IsShut old new calls given)
  pub trace : MakesRound state old new calls before after
      ⊎ ((new.state ≡ old.state) × (told : Refusal) × (after ≡ before ++ refusals told old.position calls) × MakesShut state old new calls told)
  pub any_moment : (state old.disk).honest → IsSafe state old new calls
  pub syncs : (state new.disk).syncs ≤ (state old.disk).syncs + 5
  pub few_syncs : (IsDueFor old calls → ⊥) → (state new.disk).syncs ≤ (state old.disk).syncs + 2
  pub stays : (IsDueFor old calls → ⊥) → IsSameHead old.tail new.tail
  pub opened : IsDueFor old calls → new.broken ≡ false
      → (new.tail.generation ≡ old.tail.generation + 1) ⊎ ((given : List Answer) × (after ≡ before ++ given) × IsShut old new calls given)
  pub later : Later (state old.disk) (state new.disk)

-- room was made, and then the calls were served
module _ {A D : Type 0} {state : D → DiskState} {old mid new : JournalState D} {calls : List Call} {before after : List Answer} {done : A}
    (whole : old.broken ≡ false) (room : IsReadied state old mid calls (Ok done)) (served : IsServed state mid new calls before after) where
  abbrev ready : HasOpenedIfDue state old mid calls
  ready = room.came.2

  abbrev taken : Commands
  taken = accepted_of (zip calls served.given)

  -- calls served over its disk were served over the one before, which is honest only if that is
  served_there : AreServed (state old.disk) calls served.given old.state new.state
  served_there = rw (← room.same) (search (served.served, served.served.exact, room.later.honest.1))

  few_syncs : (state new.disk).syncs ≤ (state mid.disk).syncs + 2
  few_syncs = omega (arith, makes_syncs state served.makes, logging_sound mid.tail.gate taken, tried_syncs state served.fetches served.tries served.reads)

  all_made : Tries state (round_tries old.tail ready.opened taken (not new.broken) ++ served.fetches) old.disk new.disk
  all_made = tries_joined state _ served.fetches (ready.logs taken (not new.broken) served.mid served.makes) served.tries

  wanted : AreLostWhereWanted old.state (zip calls served.given)
  wanted = rw (← room.same) served.wanted

  -- its replies
  round_came : (given : List Answer) × (after ≡ before ++ given) × IsRound state old new calls given × AreLostWhereWanted old.state (zip calls given)
  round_came = elim (cases_Bool new.broken) [
    | inl broken ↦
        let cut = rw room.position at (served.unsure broken) in
        let rose = rose_later (state mid.disk) (makes_failed state (rw broken at served.makes)) (tries_later state served.fetches served.tries) in
        let breaks : Breaks old new calls (refusals Unsure old.position calls) = record { broken = broken; unsure = refl; position = cut.1 } in
        let unlost = refused_unlost Unsure old.position (λ same. cc) (λ same. cc) old.state calls in
        (_, cut.0, inr (inr (inr (whole, breaks, rose_earlier (state new.disk) room.later rose))), unlost)
    | inr going ↦
        let goes : Goes state old new calls served.given = record { broken = going; served = served_there; position = served.counted going } in
        let alone = round_alone state old.tail ready.opened taken served.fetches (simp going at all_made) served.reads in
        (_, served.told going, inr (inr (inl (whole, goes, alone))), wanted)
  ]

  pub well_rounded : IsRounded state old new calls before after
  well_rounded = record {
    answers = (round_came.0, round_came.1, round_came.2);
    lost = (round_came.0, round_came.1, inl round_came.3);
    trace =
        let read = λ (going : new.broken ≡ false). rw room.same at (served.read going) in
        inl (search (served_there, served.told, served.recorded, served.unread, ready.renewal, ready.due, ready.unless, all_made, wanted, read));
    any_moment = λ honest.
        let leaves : LeavesOnly (state old.disk) (state new.disk) (λ image. Stands image old.state ⊎ Stands image new.state) =
        weaker _ _ (λ image. ⊎_elim (λ before. inl before) (λ now. now))
        (joined _ _ (room.any_moment honest) (rw room.same at (served.any_moment (room.later.honest.1 honest)))) in
        record { given = served.given; target = new.state; served = served_there; leaves = leaves; running = λ _. refl };
    syncs = omega (arith, room.syncs, few_syncs);
    few_syncs = λ none. rw (ready.calm none) at few_syncs;
    stays = λ none. rw (ready.calm none) at served.head;
    opened = λ due going. inl (served.head.generation ∙ ready.next due);
    later = later_again room.later (later_again (makes_later state served.makes) (tries_later state served.fetches served.tries));
  }

-- calls that are all refused for a failed allocation
starved : (disk : DiskState) (s : State (List ℕ)) (calls : List Call) → AreServed disk calls (refusals OutOfMemory s.seq calls) s s
starved disk s [] = record { count = refl; legal = tt; exact = λ _. tt; only = tt; state = refl }
starved disk s (call ∷ calls) = let rest = starved disk s calls in grind (arith, rest.count, rest.legal, rest.exact, rest.only, rest.state)

-- no segment was opened although one was due, and all calls were refused
module _ {A D : Type 0} {state : D → DiskState} {old new : JournalState D} {calls : List Call} {refusal : Refusal} (whole : old.broken ≡ false)
    (shut : IsReadied {A = A} state old new calls (Err refusal)) where
  abbrev given : List Answer
  given = refusals refusal old.position calls

  abbrev makes : MakesShut state old new calls refusal
  makes = shut.came.1

  -- the journal isn't broken, or it is
  shut_came : IsRound state old new calls given × (AreLostWhereWanted old.state (zip calls given) ⊎ IsShut old new calls given)
      × (new.broken ≡ false → IsShut old new calls given)
  shut_came = elim makes.makes [
    | inl memory ↦ stays memory.1 (rw memory.0 (inl refl)) (drawn_counts state old.tail makes.r memory.2).0
    | inr (inl read) ↦ stays read.1 (rw read.0 (inr refl)) (drawn_counts state old.tail makes.r (front_all state read.2)).0
    | inr (inr failed) ↦
        let rose = makes_failed state (unheaded_made state old.tail makes.r failed.2) in
        let unlost = refused_unlost Unsure old.position (λ same. cc) (λ same. cc) old.state calls in
        let breaks : Breaks old new calls given = record { broken = failed.1; unsure = rw failed.0 refl; position = shut.position } in
        (inr (inr (inr (whole, breaks, rose))), inl (rw failed.0 unlost), (λ going. cc failed.1))
  ]
    where
      stays : new.broken ≡ false → (given ≡ refusals OutOfMemory old.position calls) ⊎ (given ≡ refusals DeviceRead old.position calls)
          → OnlyReadsFailed (state old.disk) (state new.disk) → IsRound state old new calls given
          × (AreLostWhereWanted old.state (zip calls given) ⊎ IsShut old new calls given) × (new.broken ≡ false → IsShut old new calls given)
      stays going told alone =
          let same = shut.came.0 ∙ ap (λ b. record old { disk = new.disk; broken = b }) (going ∙ sym whole) in
          let is : IsShut old new calls given = (record { due = makes.due; same = same }, told) in (inr (inl (whole, is, alone)), inr is, λ _. is)

  pub shut_rounded : {before after : List Answer} → after ≡ before ++ given → IsRounded state old new calls before after
  shut_rounded told = record {
    answers = (given, told, shut_came.0);
    lost = (given, told, shut_came.1);
    trace = inr (shut.same, refusal, told, makes);
    any_moment = λ honest.
        let served = starved (state old.disk) old.state calls in
        let leaves = weaker _ (λ image. Stands image old.state ⊎ Stands image old.state) (λ image stands. inl stands) (shut.any_moment honest) in
        record { given = refusals OutOfMemory old.state.seq calls; target = old.state; served = served; leaves = leaves; running = λ _. sym shut.same };
    syncs = omega (arith, shut.syncs);
    few_syncs = λ none. absurd (none makes.due);
    stays = λ none. absurd (none makes.due);
    opened = λ due going. inr (given, told, shut_came.2 going);
    later = shut.later;
  }
