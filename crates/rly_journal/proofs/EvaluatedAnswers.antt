-- The replies to evaluated calls: from their outcomes, and from the payloads that were read.
use Rattle.rly_journal.proofs.Common.{[], AllByRecursion, Answer, Answered, ap, append-nil, append_assoc, AreFetches, AreLostWhereWanted, AreOutcomes}
use Rattle.rly_journal.proofs.Common.{AreReadsOf, AreServed, arith, Bytes, Call, Commands, DeviceRead, DiskState, false, fetch_reply, fetch_tries, flat_map-cons}
use Rattle.rly_journal.proofs.Common.{fold, fold_append, Geometry, harmless, HasBytes, IsAlike, IsAnswerOf, IsFetched, StandsForBytes, IsKnown, IsOutcomeOf, IsWanted}
use Rattle.rly_journal.proofs.Common.{item_of, length, List, map, MayWantBytes, MayWantMemory, OnlyLost, Option, Outcome, OutOfMemory, DeviceAddress, placed_group}
use Rattle.rly_journal.proofs.Common.{real_reply, refl, Refusal, refusals, Refused, refused_as, Reply, rows_for, SeatId, State, state_in, Stored, stored_length}
use Rattle.rly_journal.proofs.Common.{sym, command_accepted, taken_of, true, Wanted, zip, ℕ, ◌++◌, ◌∙◌, ◌∷◌, ◌≡◌, ◌⊎◌}
use Rattle.rly_machine.specs.History.{Legal, LegalButForBytes, accepted_by, harm, without_bytes, accepted_of, is_failure, IsAnswered, next_state}
use Rattle.rly_machine.proofs.Histories.{folds, legal_but_for_bytes}
use Rattle.rly_journal.proofs.Fetching.{IsInFlight, fetched, fetched_bytes, fetching_as, lost_as}

-- ---- one call

-- a reply to a call in a state, with any bytes if the disk isn't honest; its outcome has the same command
record IsAnswer (honest : Type 0) (u : State (List ℕ)) (call : Call) (outcome : Outcome) (answer : Answer) : Type 0 where
  but : IsAnswered without_bytes 0 u (call, answer)
  exact : honest → IsAnswered (λ reply. reply) 0 u (call, answer)
  only : OnlyLost (call, answer)
  taken : accepted_by call.ask answer.reply ≡ command_accepted call outcome
  starved : answer.reply ≡ Refused OutOfMemory → MayWantMemory u call.ask
  lost : answer.reply ≡ Refused DeviceRead → MayWantBytes u call.ask

-- a reply of the machine, or one for a failed allocation
known_answer : {honest : Type 0} {u : State (List ℕ)} {call : Call} {answer : Answer} → IsKnown call answer u → IsAnswer honest u call (Answered answer) answer
known_answer {u = u} {call} {answer} known =
    let but = (legal_but_for_bytes 0 u ((call, answer) ∷ []) (known.answered, tt)).0 in grind (arith, but, known.answered, known.only, known.wanted)

-- the reply to a Fetch is the machine's, with any bytes if the disk isn't honest; or it is lost, and its payload has
-- bytes
record IsBytesOrLost (honest : Type 0) (machine told : Reply) : Type 0 where
  real : is_failure told ≡ false → (without_bytes told ≡ without_bytes machine) × (honest → told ≡ machine)
  fails : is_failure told ≡ true → ((told ≡ Refused OutOfMemory) ⊎ (told ≡ Refused DeviceRead)) × HasBytes machine

module _ {g : Geometry} {call : Call} {seat : SeatId} {number at limit : ℕ} {place : Option DeviceAddress} {s : State Stored} {u : State (List ℕ)}
    (alike : IsAlike s u) (wanted : IsWanted g call seat number at limit place s u) where
  flight : IsInFlight g s u wanted.hop wanted.custody wanted.item place
  flight = record { alike = alike; found = wanted.found; lies = wanted.lies; there = wanted.there }

  abbrev machine : Reply
  machine = fetch_reply (item_of u wanted.hop wanted.custody)

  wanted_answer : {honest : Type 0} (answer : Answer) → answer.seat ≡ seat → answer.number ≡ number → answer.position ≡ at
      → IsBytesOrLost honest machine answer.reply → IsAnswer honest u call (Wanted seat number at limit place) answer
  wanted_answer answer same_seat same_number same_position is =
      grind (arith, same_seat, same_number, same_position, wanted.same_seat, wanted.same_number, wanted.position, wanted.asks, is.real, is.fails)

  -- the payload that was read
  fetched_is : (disk : DiskState) → (disk.honest → state_in disk.seen s ≡ u) → (reply : Reply) → IsFetched disk place limit reply
      → IsBytesOrLost disk.honest machine reply
  fetched_is disk stands (Bytes payload told) got =
      let exact = λ (honest : disk.honest). fetched_bytes flight disk.seen (stands honest) in
      grind (arith, got.1, got.2, wanted.same_limit, (fetched flight).1, exact)
  fetched_is disk stands (Refused refusal) got = let lost = lost_as flight disk limit refusal got in grind (arith, lost.0, lost.1)
  fetched_is disk stands reply got = absurd got

-- the reply to one call, and its reads
told_one : (g : Geometry) {disk : DiskState} {call : Call} {s : State Stored} {u : State (List ℕ)} (outcome : Outcome) (answer : Answer) → StandsForBytes disk s u
    → IsOutcomeOf g call outcome s u → IsAnswerOf disk outcome answer
    → IsAnswer disk.honest u call outcome answer × AreReadsOf u call.ask answer.reply (rows_for outcome answer)
told_one g (Answered known) answer kept came is = rw is (known_answer came, came.unread)
told_one g {disk} (Wanted seat number at limit place) answer kept came is =
    let told = wanted_answer kept.alike came answer is.0 is.1 is.2 (fetched_is kept.alike came disk kept.bytes answer.reply is.3) in
    (told, rw came.asks (fetching_as (flight kept.alike came) answer.reply))

-- ---- all calls

-- replies to calls from a state, by their outcomes
pub record AreTold (honest : Type 0) (u : State (List ℕ)) (calls : List Call) (outcomes : List Outcome) (given : List Answer) : Type 0 where
  pub legal : LegalButForBytes u (zip calls given)
  pub exact : honest → Legal u (zip calls given)
  pub only : AllByRecursion OnlyLost (zip calls given)
  pub taken : accepted_of (zip calls given) ≡ taken_of (zip calls outcomes)
  pub wanted : AreLostWhereWanted u (zip calls given)

-- one call, and those after it
module _ {honest : Type 0} {u : State (List ℕ)} {call : Call} {outcome : Outcome} {answer : Answer} (one : IsAnswer honest u call outcome answer) where
  told_more : {calls : List Call} {outcomes : List Outcome} {given : List Answer} → AreTold honest (next_state u (call, answer)) calls outcomes given
      → AreTold honest u (call ∷ calls) (outcome ∷ outcomes) (answer ∷ given)
  told_more rest =
      -- such a failure reports no damage of the device
      let none : harm answer.reply ≡ 0 = grind (arith, one.only, harmless answer.reply) in
      grind (arith, one, one.exact, one.taken, rest, rest.exact, rest.taken)

  -- the state after it
  next_done : fold length u (command_accepted call outcome) ≡ next_state u (call, answer)
  next_done = rw (← one.taken, ← append-nil (accepted_by call.ask answer.reply)) (sym (folds 0 u ((call, answer) ∷ []) (one.but, tt)).0)

module _ (disk : DiskState) (g : Geometry) (gate : ℕ) (s : State Stored) (t : State (List ℕ)) (commands : Commands)
    (kept : (front back : Commands) → commands ≡ front ++ back → StandsForBytes disk (fold stored_length s (placed_group gate front)) (fold length t front)) where
  pub told_each : (done : Commands) (calls : List Call) (outcomes : List Outcome) (given : List Answer) → length outcomes ≡ length calls
      → length given ≡ length outcomes → commands ≡ done ++ taken_of (zip calls outcomes) → AreOutcomes g gate s t done (zip calls outcomes)
      → AllByRecursion (λ x. IsAnswerOf disk x.0 x.1) (zip outcomes given)
      → AreTold disk.honest (fold length t done) calls outcomes given × AreFetches (fold length t done) (zip calls given) (fetch_tries outcomes given)
  told_each done [] [] [] count same parts came each = (record { legal = tt; exact = λ _. tt; only = tt; taken = refl; wanted = tt }, refl)
  told_each done (call ∷ calls) (outcome ∷ outcomes) (answer ∷ given) count same parts came each =
      let one = told_one g outcome answer (kept done (taken_of (zip (call ∷ calls) (outcome ∷ outcomes))) parts) came.0 each.0 in
      let next = fold_append length t done (command_accepted call outcome) ∙ next_done one.0 in
      let rest = rw next at (told_each (done ++ command_accepted call outcome) calls outcomes given (omega (arith, count)) (omega (arith, same))
      (parts ∙ sym (append_assoc done (command_accepted call outcome) (taken_of (zip calls outcomes)))) came.1 each.1) in
      (told_more one.0 rest.0, (_, _, flat_map-cons (λ (x : Outcome × Answer). rows_for x.0 x.1) (outcome, answer) (zip outcomes given), one.1, rest.1))
  told_each done _ _ _ count same parts came each = absurd (omega (arith, count, same))

-- the machine's reply, if no payload is read
granted_answer : (g : Geometry) (s : State Stored) {call : Call} {u : State (List ℕ)} (outcome : Outcome) → IsAlike s u → IsOutcomeOf g call outcome s u
    → (answer : Answer) × IsAnswer (Unit {0}) u call outcome answer
granted_answer g s (Answered known) alike came = (known, known_answer came)
granted_answer g s {call = call} {u = u} (Wanted seat number at limit place) alike wanted =
    let answer : Answer = record { seat = seat; number = number; reply = machine alike wanted; position = at } in
    (answer, wanted_answer alike wanted answer refl refl refl (grind (arith, rw wanted.asks at (real_reply u call.ask))))

module _ (g : Geometry) (gate : ℕ) (s : State Stored) (t : State (List ℕ))
    (alike : (front : Commands) → IsAlike (fold stored_length s (placed_group gate front)) (fold length t front)) where
  pub granted_each : (done : Commands) (calls : List Call) (outcomes : List Outcome) → length outcomes ≡ length calls
      → AreOutcomes g gate s t done (zip calls outcomes)
      → (given : List Answer) × AreTold (Unit {0}) (fold length t done) calls outcomes given × (length given ≡ length calls)
  granted_each done [] [] count came = ([], record { legal = tt; exact = λ _. tt; only = tt; taken = refl; wanted = tt }, refl)
  granted_each done (call ∷ calls) (outcome ∷ outcomes) count came =
      let one = granted_answer g (fold stored_length s (placed_group gate done)) outcome (alike done) came.0 in
      let rest = granted_each (done ++ command_accepted call outcome) calls outcomes (omega (arith, count)) came.1 in
      (_, told_more one.1 (rw (fold_append length t done (command_accepted call outcome) ∙ next_done one.1) at rest.1), omega (arith, rest.2))
  granted_each done _ _ count came = absurd (omega (arith, count))

-- ---- the callers' view

-- the calls were served, and led to the state after their commands
pub told_served : (disk : DiskState) (honest : Type 0) (t : State (List ℕ)) (calls : List Call) (outcomes : List Outcome) (given : List Answer)
    → (disk.honest → honest)
    → length given ≡ length calls → AreTold honest t calls outcomes given → AreServed disk calls given t (fold length t (taken_of (zip calls outcomes)))
told_served disk honest t calls outcomes given right count told =
    let exact = λ (is : disk.honest). told.exact (right is) in
    let state = ap (fold length t) (sym told.taken) ∙ sym (folds 0 t (zip calls given) told.legal).0 in search

-- ---- calls that are finally all refused

module _ (g : Geometry) (gate : ℕ) (s : State Stored) (t : State (List ℕ)) (refusal : Refusal) (position : ℕ) where
  -- the outcome of a call has its client
  pub refused_each : (done : Commands) (calls : List Call) (outcomes : List Outcome) → length outcomes ≡ length calls
      → AreOutcomes g gate s t done (zip calls outcomes) → map (refused_as refusal position) outcomes ≡ refusals refusal position calls
  refused_each done [] [] count came = refl
  refused_each done (call ∷ calls) (outcome ∷ outcomes) count came =
      let rest = refused_each (done ++ command_accepted call outcome) calls outcomes (omega (arith, count)) came.1 in grind (arith, came.0)
  refused_each done _ _ count came = absurd (omega (arith, count))
