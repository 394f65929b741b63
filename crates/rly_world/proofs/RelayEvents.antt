-- Each event keeps the invariant of a relay.
use Rattle.std.proofs.Common.{ℕ, ◌≡◌, ◌⊎◌, ◌≤◌, ◌+◌, ◌++◌, ◌∙◌, nat_le, Bool, true, false, true≢false, List, []}
use Rattle.std.proofs.Common.{◌∷◌, Option, Some, None, length, take, drop, arith, ap, refl, sym, subst, inl, inr}
use Rattle.std.proofs.Common.{⊎_elim, length-append, length-take}
use Rattle.std.specs.Prelude.{if◌then◌else◌}
use Rattle.std.specs.List.{zip}
use Rattle.std.proofs.lemmas.Bool.{leb-true}
use Rattle.std.proofs.lemmas.List.{append-nil, drop_all, drop_at, take_all, take_at, take-append-drop}
use Rattle.rly_core.specs.declared.refusal.Refusal.{Refusal}
use Rattle.rly_core.specs.declared.refusal.Refusal.TheVariants.{Broken, DeviceRead, OutOfMemory}
use Rattle.rly_disk.specs.Trace.{DeviceEvent, FailedRead, FailedSync, FailedWrite, Read, Sync, Write}
use Rattle.rly_machine.specs.declared.call.Answer.{Answer}
use Rattle.rly_machine.specs.declared.call.Call.{Call}
use Rattle.rly_machine.specs.Fold.{AllAccepted}
use Rattle.rly_machine.specs.declared.reply.Reply.TheVariants.{Refused}
use Rattle.rly_machine.specs.History.{Legal, accepted_of, is_failure, state_after}
use Rattle.rly_machine.specs.Sound.{IsSound}
use Rattle.rly_machine.specs.State.{State, new_state}
use Rattle.rly_segment_checkpoint.specs.declared.stored.Stored.{Stored}
use Rattle.rly_machine.proofs.Folding.{accepted_append, accepted_parts, seq_fold}
use Rattle.rly_machine.proofs.Histories.{folds, legal_but_for_bytes}
use Rattle.rly_machine.proofs.Runs.{sound_from_new}
use Rattle.rly_journal.specs.Journal.{holds_command}
use Rattle.rly_journal.specs.Rounds.{refusals}
use Rattle.rly_journal.specs.Recovery.{Commands, IsRecovery, Recovery, Stands, state_in}
use Rattle.rly_journal.proofs.Once.{stands_for_one}
use Rattle.rly_journal.proofs.AcceptedCounts.{few_accepted}
use Rattle.rly_world.specs.RelayPhases.{IsDueIn, MayOpen}
use Rattle.rly_world.specs.RelaySteps.{AreAnswered, AreShut, Event, HasPlace, IsEvaluated, MayTake, world_after}
use Rattle.rly_world.specs.RelaySteps.{answered_first, world_after_call, world_after_evaluation, greatest_position, world_after_join, rest_of, world_after_stop, world_after_take}
use Rattle.rly_world.specs.RelaySteps as event
use Rattle.rly_world.specs.RelayWorld.{Answering, Batch, Body, IsImageOf, Ready, Round, Seal, Stage, Taking, World}
use Rattle.rly_world.specs.RelayWorld.{Writing, asked_of, batches_in, calls_of, has_failed_read, round_commands, seen_of}
use Rattle.rly_world.specs.RelayWorld.{state_from}
use Rattle.rly_world.proofs.RelayAnswers.{AreBelow, asked_none, below_drop, below_take, fewer_calls, greatest_below}
use Rattle.rly_world.proofs.RelayAnswers.{refused_below, refused_none, served_below}
use Rattle.rly_world.proofs.RelayBegins.{roomy_group}
use Rattle.rly_world.proofs.RelayCalls.{broke_held, calm_kept, failed_read_held, failed_sync_held, failed_write_held}
use Rattle.rly_world.proofs.RelayCalls.{in_phase, placed_from, read_held, round_at, running_at, sync_held, write_held}
use Rattle.rly_world.proofs.RelayCalls.{written_kept}
use Rattle.rly_world.proofs.RelayHolds.{Core, Holds, IsAt, IsCalm, IsHeld, IsKept, IsPlaced, IsRunning, IsWritten}
use Rattle.rly_world.proofs.RelayHolds.{core_of, whole_state}
use Rattle.rly_world.proofs.RelayPhases.{Begins, IsPhaseImage, first_image}

-- a model state whose round is known
pub in_round : (P : World → Type 0) (w : World) (round : Option Round) → w.round ≡ round → P w
    → P (record w { round = round })
in_round P w round is = subst (λ r. P (record w { round = r })) is

pub from_round : (P : World → Type 0) (w : World) (round : Option Round) → w.round ≡ round
    → P (record w { round = round })
    → P w
from_round P w round is = subst (λ r. P (record w { round = r })) (sym is)

-- a round at some stage
pub at_stage : (w : World) (round : Round) (stage : Stage) → w.round ≡ Some round → round.stage ≡ stage
    → w.round ≡ round_at stage round
at_stage w round stage is at = is ∙ ap (λ s. Some (record round { stage = s })) at

-- the accepted commands lead to a sound state with their number
sound_of : (k : Core) (open_ broken : Bool) (round : Option Round) → Holds k open_ broken round
    → IsSound length (whole_state k)
sound_of k open_ broken round held = sound_from_new length k.params k.accepted held.within

count_of : (k : Core) → AllAccepted length (new_state k.params) k.accepted → (whole_state k).seq ≡ length k.accepted
count_of k accepted = omega (arith, seq_fold length (new_state k.params) k.accepted accepted)

-- no more commands are acknowledged than were accepted
told_most : (k : Core) (open_ broken : Bool) (round : Option Round) → Holds k open_ broken round
    → k.told ≤ length k.accepted
told_most k open_ broken round held = let kept = held.kept (seen_of k.device) held.seen in
    omega (arith, kept.told, kept.most)

-- ---- taking

-- the round may take another batch
abbrev TakesMore : Option Round → Type 0
TakesMore round = (round ≡ None) ⊎ ((r : Round) × (round ≡ Some r) × (r.stage ≡ Taking))

-- and then has it
abbrev with_batch : Option Round → Batch → Round
with_batch round batch = record {
  stage = Taking;
  batches = batches_in round ++ batch ∷ [];
  answers = [];
  read_failed = has_failed_read round;
}

taking_placed : (k : Core) (broken : Bool) (batch : Batch) (round : Option Round) → TakesMore round
    → IsPlaced k true broken round → IsPlaced k true broken (Some (with_batch round batch))
taking_placed k true batch round first running = tt
taking_placed k false batch None first running = (tt, running)
taking_placed k false batch (Some round) first running =
    elim first [
      | inl none ↦ (let e : Some round ≡ None = none in absurd cc)
      | inr taking ↦ (tt, subst (IsAt k) ((let e : round ≡ taking.0 = cc in ap (λ r. r.stage) e) ∙ taking.2) running.1)
    ]

joined_held : (w : World) (batch : Batch) → w.is_open ≡ true → TakesMore w.round → IsHeld w
    → IsHeld (world_after_join w batch)
joined_held w batch opened first held =
    by_room (nat_le (length (calls_of (batches_in w.round ++ batch ∷ []))) 64) refl
  where
    by_room : (fits : Bool) → nat_le (length (calls_of (batches_in w.round ++ batch ∷ []))) 64 ≡ fits
        → IsHeld
        (if fits then record w { round = Some (with_batch w.round batch) } else record w { kept = Some batch })
    by_room false full = held
    by_room true fits = record {
      within = held.within;
      accepted = held.accepted;
      few = leb-true _ _ fits;
      seen = held.seen;
      kept = held.kept;
      placed = subst (λ b. IsPlaced (core_of w) b w.is_broken (Some (with_batch w.round batch))) (sym opened)
          (taking_placed (core_of w) w.is_broken batch w.round first
          (subst (λ b. IsPlaced (core_of w) b w.is_broken w.round) opened held.placed));
    }

may_take : (kept : Option Batch) (line : List Batch) (round : Option Round) → MayTake kept line round → TakesMore round
may_take (Some batch) line None may = inl refl
may_take (Some batch) line (Some round) may = absurd may
may_take None [] round may = absurd may
may_take None (batch ∷ line) None may = inl refl
may_take None (batch ∷ line) (Some round) may = inr (round, refl, may)

taken_held : (w : World) (kept : Option Batch) (line : List Batch) → w.is_open ≡ true → TakesMore w.round → IsHeld w
    → IsHeld (world_after_take w kept line)
taken_held w (Some batch) line opened first held = joined_held (record w { kept = None }) batch opened first held
taken_held w None (batch ∷ line) opened first held = joined_held (record w { line = line }) batch opened first held
taken_held w None [] opened first held = held

-- ---- the first phase

calm_of : (k : Core) (opened broken : Bool) (round : Round)
    → (round.stage ≡ Taking) ⊎ (round.stage ≡ Ready) → broken ≡ false
    → IsPlaced k opened broken (Some round) → AreBelow (length k.accepted) round.answers × IsCalm k
calm_of k true true round first whole placed = absurd (true≢false whole)
calm_of k true false round first whole placed =
    (placed.0, elim first [ inl taking ↦ subst (IsAt k) taking placed.1 | inr ready ↦ subst (IsAt k) ready placed.1 ])
calm_of k false broken round first whole placed =
    let e : Some round ≡ None = placed in absurd cc

opens_held : (w : World) (segment : ℕ) (copy : State Stored) (round : Round)
    → w.is_broken ≡ false → MayOpen w.device.synced segment copy
    → IsHeld (record w { round = round_at Taking round })
    → IsHeld (record w { round = round_at (Writing (Seal segment copy)) round })
opens_held w segment copy round whole may held =
    let taking : Round = record round { stage = Taking } in
    let now = calm_of (core_of w) w.is_open w.is_broken taking (inl refl) whole held.placed in
    let calm : IsCalm (core_of w) = now.1 in
    let state : state_in may.0 ≡ whole_state (core_of w) = stands_for_one w.device.synced (state_in may.0)
    (whole_state (core_of w)) (may.0, may.1, refl) calm.stands in
    let none : drop w.position w.accepted ≡ [] = drop_all w.position w.accepted (omega (arith, calm.counted)) in
    let all : take w.position w.accepted ≡ w.accepted = take_all w.position w.accepted (omega (arith, calm.counted)) in
    record {
      within = held.within;
      accepted = held.accepted;
      few = held.few;
      seen = held.seen;
      kept = held.kept;
      placed =
          placed_from (core_of w) (core_of w) w.is_open w.is_broken w.is_broken
          taking (round_at (Writing (Seal segment copy)) round) held.placed
          (λ running. running_at (core_of w) w.is_broken (Writing (Seal segment copy)) round whole now.0
          (record {
            x = may.0;
            stands = may.1;
            state = state ∙ ap (state_from w.params) (sym all);
            told = omega (
              arith,
              told_most (core_of w) w.is_open w.is_broken (round_at Taking round) held,
              calm.counted,
            );
            counted = omega (arith, calm.counted);
            begins = (may.2, none);
            images =
                λ c image. subst (IsPhaseImage (Seal segment copy) may.0 (round_commands w) w.device.synced)
                (sym (calm.only c image)) (first_image (Seal segment copy) may.0 (round_commands w) w.device.synced);
          }));
    }

-- ---- evaluation

record IsServed (k : Core) (calls : List Call) (given : List Answer) (commands : Commands) : Type 0 where
  accepted : AllAccepted length (whole_state k) commands
  below : AreBelow (length k.accepted + length commands) given

served_of : (k : Core) (calls : List Call) (given : List Answer) → AllAccepted length (new_state k.params) k.accepted
    → length given ≡ length calls → Legal (whole_state k) (zip calls given)
    → IsServed k calls given (accepted_of (zip calls given))
served_of k calls given all counted legal =
    let made = folds 0 (whole_state k) (zip calls given)
    (legal_but_for_bytes 0 (whole_state k) (zip calls given) legal) in
    let count : (state_after (whole_state k) (zip calls given)).seq ≡ length k.accepted + length
    (accepted_of (zip calls given)) = omega (arith, made.2, count_of k all) in
    record {
      accepted = made.1;
      below = subst (λ n. AreBelow n given) count (served_below 0 (whole_state k) calls given counted legal);
    }

-- a round that has other replies
abbrev giving : Round → List Answer → Round
giving round given = record round { answers = given }

-- no command was accepted, and the replies acknowledge nothing new
evaluated_none : (w : World) (round : Round) (given : List Answer)
    → IsHeld (record w { round = Some round })
    → (IsRunning (core_of w) w.is_broken (Some round)
    → IsRunning (core_of w) w.is_broken (round_at Answering (giving round given)))
    → IsHeld (world_after_evaluation (record w { round = Some round }) given [])
evaluated_none w round given held leads =
    subst (λ a. Holds (record (core_of w) { accepted = a }) w.is_open w.is_broken
    (round_at Answering (giving round given))) (sym (append-nil w.accepted))
    (record {
      within = held.within;
      accepted = held.accepted;
      few = held.few;
      seen = held.seen;
      kept = held.kept;
      placed =
          placed_from (core_of w) (core_of w) w.is_open w.is_broken w.is_broken
          round (round_at Answering (giving round given)) held.placed leads;
    })

-- some command was accepted, and is written
evaluated_some : (w : World) (round : Round) (given : List Answer) (commands : Commands)
    → (round.stage ≡ Taking) ⊎ (round.stage ≡ Ready) → w.is_broken ≡ false
    → 1 ≤ length commands → length commands ≤ 64 → (IsDueIn w.device.synced → ⊥)
    → IsHeld (record w { round = Some round })
    → IsServed (core_of w) (calls_of round.batches) given commands
    → Holds (record (core_of w) { accepted = w.accepted ++ commands }) w.is_open w.is_broken
    (round_at (Writing Body) (giving round given))
evaluated_some w round given commands first whole some few roomy held served =
    let now = calm_of (core_of w) w.is_open w.is_broken round first whole held.placed in
    let calm : IsCalm (core_of w) = now.1 in
    let next : Core = record (core_of w) { accepted = w.accepted ++ commands } in
    let x : Recovery = calm.stands.0 in
    let stands : IsRecovery w.device.synced calm.stands.0 = calm.stands.1 in
    let state : state_in calm.stands.0 ≡ whole_state (core_of w) = sym calm.stands.2 in
    let sound : IsSound length (state_in calm.stands.0) = subst (IsSound length) (sym state)
    (sound_of (core_of w) w.is_open w.is_broken (Some round) held) in
    let front : take w.position (w.accepted ++ commands) ≡ w.accepted = take_at w.accepted commands w.position
    (sym calm.counted) in
    let back : drop w.position (w.accepted ++ commands) ≡ commands = drop_at w.accepted commands w.position
    (sym calm.counted) in
    let size = length-append w.accepted commands in
    let group = roomy_group calm.stands.0 commands stands sound (λ due. roomy (calm.stands.0, stands, due)) some few
    (subst (λ s. AllAccepted length s commands) (sym state) served.accepted) in
    let written : IsWritten Body (record (core_of w) { accepted = w.accepted ++ commands }) = record {
      x = calm.stands.0;
      stands = stands;
      state = state ∙ ap (state_from w.params) (sym front);
      told = omega
          (arith, told_most (core_of w) w.is_open w.is_broken (Some round) held, calm.counted);
      counted = omega (arith, calm.counted, size);
      begins = subst (λ c. Begins Body calm.stands.0 c w.device.synced) (sym back) group;
      images =
          λ c image. subst (IsPhaseImage Body calm.stands.0 (drop w.position (w.accepted ++ commands)) w.device.synced)
          (sym (calm.only c image))
          (first_image Body calm.stands.0 (drop w.position (w.accepted ++ commands)) w.device.synced);
    } in
    record {
      within = held.within;
      accepted = accepted_append length (new_state w.params) w.accepted commands held.accepted served.accepted;
      few = held.few;
      seen = held.seen;
      kept = written_kept Body next written;
      placed =
          placed_from (core_of w) next w.is_open w.is_broken w.is_broken
          round (round_at (Writing Body) (giving round given)) held.placed
          (λ running. running_at next w.is_broken (Writing Body) (giving round given) whole
          (subst (λ n. AreBelow n given) (sym size) served.below) written);
    }

-- calls with accepted commands have commands
by_test : (b : Bool) → (b ≡ false → ⊥) → b ≡ true
by_test true never = refl
by_test false never = absurd (never refl)

some_asked : (calls : List Call) (given : List Answer) → 1 ≤ length (accepted_of (zip calls given))
    → holds_command calls ≡ true
some_asked calls given some =
    by_test (holds_command calls) (λ none. omega (arith, some, ap length (asked_none calls given none)))

answered_held : (w : World) (round : Round) (given : List Answer)
    → (round.stage ≡ Taking) ⊎ (round.stage ≡ Ready) → w.is_broken ≡ false
    → AreAnswered w (calls_of round.batches) given → IsHeld (record w { round = Some round })
    → IsHeld (world_after_evaluation (record w { round = Some round }) given (accepted_of (zip (calls_of round.batches) given)))
answered_held w round given first whole evaluation held =
    by_commands (accepted_of (zip (calls_of round.batches) given)) refl
    (served_of (core_of w) (calls_of round.batches) given held.accepted evaluation.count evaluation.legal)
  where
    few_commands : (commands : Commands) → accepted_of (zip (calls_of round.batches) given) ≡ commands
        → length commands ≤ 64
    few_commands commands are = omega (arith, few_accepted (calls_of round.batches) given, held.few, ap length are)

    by_commands : (commands : Commands) → accepted_of (zip (calls_of round.batches) given) ≡ commands
        → IsServed (core_of w) (calls_of round.batches) given commands
        → IsHeld (world_after_evaluation (record w { round = Some round }) given commands)
    by_commands [] are served =
        let now = calm_of (core_of w) w.is_open w.is_broken round first whole held.placed in
        evaluated_none w round given held
        (λ running. running_at (core_of w) w.is_broken Answering (giving round given) whole
        (subst (λ n. AreBelow n given) (let e : length w.accepted + 0 ≡ length w.accepted = omega arith in e)
        served.below) now.1)
    by_commands (command ∷ commands) are served =
        evaluated_some w round given (command ∷ commands) first whole (omega arith)
        (few_commands (command ∷ commands) are)
        (λ due. evaluation.not_due (some_asked (calls_of round.batches) given (omega (arith, ap length are)), due)) held
        served

-- all calls are refused, for a failure
refused_held : (w : World) (round : Round) (given : List Answer) (refusal : Refusal)
    → is_failure (Refused refusal) ≡ true
    → given ≡ refusals refusal w.position (calls_of round.batches)
    → IsHeld (record w { round = Some round })
    → (((n : ℕ) → AreBelow n given) → IsRunning (core_of w) w.is_broken (round_at Answering (giving round given)))
    → IsHeld (world_after_evaluation (record w { round = Some round }) given (accepted_of (zip (calls_of round.batches) given)))
refused_held w round given refusal fails refused held leads =
    let none : accepted_of (zip (calls_of round.batches) given) ≡ [] =
    ap (λ l. accepted_of (zip (calls_of round.batches) l)) refused
    ∙ refused_none refusal w.position (calls_of round.batches) in
    subst (λ c. IsHeld (world_after_evaluation (record w { round = Some round }) given c)) (sym none)
    (evaluated_none w round given held
    (λ running. leads (λ n. subst (AreBelow n) (sym refused)
    (refused_below refusal n w.position (calls_of round.batches) fails))))

shut_held : (w : World) (round : Round) (given : List Answer)
    → (round.stage ≡ Taking) ⊎ (round.stage ≡ Ready) → w.is_broken ≡ false
    → AreShut w (calls_of round.batches) given → IsHeld (record w { round = Some round })
    → IsHeld (world_after_evaluation (record w { round = Some round }) given (accepted_of (zip (calls_of round.batches) given)))
shut_held w round given first whole shut held = ⊎_elim
    (λ refused. refused_held w round given OutOfMemory refl refused held still)
    (λ refused. refused_held w round given DeviceRead refl refused held still)
    shut.1
  where
    still : ((n : ℕ) → AreBelow n given) → IsRunning (core_of w) w.is_broken (round_at Answering (giving round given))
    still below = running_at (core_of w) w.is_broken Answering (giving round given) whole (below (length w.accepted))
        (calm_of (core_of w) w.is_open w.is_broken round first whole held.placed).1

evaluates_held : (w : World) (round : Round) (given : List Answer)
    → (round.stage ≡ Taking) ⊎ (round.stage ≡ Ready) → (broken : Bool) → w.is_broken ≡ broken
    → IsEvaluated broken w (calls_of round.batches) given
    → IsHeld (record w { round = Some round })
    → IsHeld (world_after_evaluation (record w { round = Some round }) given (accepted_of (zip (calls_of round.batches) given)))
evaluates_held w round given first true broken refused held =
    refused_held w round given Broken refl refused held
    (λ below. subst (λ b. IsRunning (core_of w) b (round_at Answering (giving round given))) (sym broken) below)
evaluates_held w round given first false whole evaluation held = ⊎_elim
    (λ answered. answered_held w round given first whole answered held)
    (λ shut. shut_held w round given first whole shut held)
    evaluation

-- ---- replies

-- with the commands acknowledged since
abbrev with_told : Core → ℕ → Core
with_told k told = record k { told = told }

told_calm : (k : Core) (told : ℕ) → IsCalm k → IsCalm (with_told k told)
told_calm k told calm = record { only = calm.only; stands = calm.stands; counted = calm.counted }

put_running : (k : Core) (told : ℕ) (broken : Bool) (round : Round) (rest : List Batch) (count : ℕ)
    → IsRunning k broken (round_at Answering round)
    → IsRunning (with_told k told) broken (rest_of (record round { stage = Answering }) rest count)
put_running k told true round [] count running = tt
put_running k told true round (batch ∷ rest) count running = λ n. below_drop n count round.answers (running n)
put_running k told false round [] count running = told_calm k told running.1
put_running k told false round (batch ∷ rest) count running =
    (below_drop (length k.accepted) count round.answers running.0, told_calm k told running.1)

put_kept : (k : Core) (opened broken : Bool) (round : Round) (count : ℕ)
    → Holds k opened broken (round_at Answering round)
    → (image : List ℕ) → IsImageOf k.device image
    → IsKept (with_told k (greatest_position k.told (take count round.answers))) image
put_kept k true true round count held image left =
    let was = held.kept image left in
    let most = greatest_below k.told k.told (take count round.answers) (omega arith)
    (below_take k.told count round.answers (held.placed k.told)) in
    record { n = was.n; told = omega (arith, most, was.told); most = was.most; stands = was.stands }
put_kept k true false round count held image left =
    let most = greatest_below (length k.accepted) k.told (take count round.answers)
    (told_most k true false (round_at Answering round) held)
    (below_take (length k.accepted) count round.answers held.placed.0) in
    let kept = calm_kept (with_told k (greatest_position k.told (take count round.answers)))
    (told_calm k (greatest_position k.told (take count round.answers)) held.placed.1) most image left in
    kept
put_kept k false broken round count held image left =
    let e : round_at Answering round ≡ None = held.placed in absurd cc

few_left : (round : Round) (batch : Batch) (rest : List Batch) (count : ℕ) → length (calls_of (batch ∷ rest)) ≤ 64
    → length (calls_of (batches_in (rest_of round rest count))) ≤ 64
few_left round batch [] count few = omega arith
few_left round batch (next ∷ rest) count few = omega (arith, few, fewer_calls batch (next ∷ rest))

put_held : (w : World) (round : Round) (batches : List Batch) → round.batches ≡ batches
    → IsHeld (record w { round = round_at Answering round })
    → IsHeld
    (answered_first (record w { round = round_at Answering round }) (record round { stage = Answering }) batches)
put_held w round [] are held = held
put_held w round (batch ∷ rest) are held =
    let told : ℕ = greatest_position w.told (take (length batch) round.answers) in
    record {
      within = held.within;
      accepted = held.accepted;
      few = few_left (record round { stage = Answering }) batch rest (length batch)
          (subst (λ l. length (calls_of l) ≤ 64) are held.few);
      seen = held.seen;
      kept = put_kept (core_of w) w.is_open w.is_broken round (length batch) held;
      placed =
          placed_from (core_of w) (with_told (core_of w) told) w.is_open w.is_broken w.is_broken
          (record round { stage = Answering }) (rest_of (record round { stage = Answering }) rest (length batch))
          held.placed (put_running (core_of w) told w.is_broken round rest (length batch));
    }

-- ---- crashes and openings

-- a device with exactly one image
stopped_held : (w : World) (image : List ℕ) → IsHeld w → IsKept (core_of w) image
    → IsHeld (world_after_stop w (record { synced = image; since = [] }))
stopped_held w image held kept = record {
  within = held.within;
  accepted = held.accepted;
  few = omega arith;
  seen = refl;
  kept = λ c is.
      record {
        n = kept.n;
        told = kept.told;
        most = kept.most;
        stands = subst
            (λ i. Stands i (state_from w.params (take kept.n w.accepted))) (sym is) kept.stands;
      };
  placed = refl;
}

unsynced_held : (w : World) → IsHeld w → IsHeld (world_after_stop w (asked_of w.device FailedSync))
unsynced_held w held =
    let still = failed_sync_held w held in
    record {
      within = still.within;
      accepted = still.accepted;
      few = omega arith;
      seen = still.seen;
      kept = still.kept;
      placed = refl;
    }

opening_held : (w : World) (s : State (List ℕ)) → Stands (seen_of w.device) s → IsHeld w → IsHeld (event.world_after_opening w s)
opening_held w s found held =
    let kept = held.kept (seen_of w.device) held.seen in
    let same : s ≡ state_from w.params (take kept.n w.accepted) = stands_for_one (seen_of w.device) s
    (state_from w.params (take kept.n w.accepted)) found kept.stands in
    let parts = accepted_parts length (new_state w.params) (take kept.n w.accepted) (drop kept.n w.accepted)
    (subst (AllAccepted length (new_state w.params)) (sym (take-append-drop kept.n w.accepted)) held.accepted) in
    let size : length (take kept.n w.accepted) ≡ kept.n = omega (arith, length-take kept.n w.accepted, kept.most) in
    let count : s.seq ≡ kept.n = omega
    (arith, ap (λ t. t.seq) same, seq_fold length (new_state w.params) (take kept.n w.accepted) parts.0, size) in
    let cut : take s.seq w.accepted ≡ take kept.n w.accepted = ap (λ n. take n w.accepted) count in
    let next : Core = core_of (event.world_after_opening w s) in
    let calm : IsCalm (core_of (event.world_after_opening w s)) = record {
      only = λ c is. is;
      stands = subst (Stands (seen_of w.device)) (same ∙ ap (state_from w.params) (sym cut)) found;
      counted = omega (arith, count, ap length cut, size);
    } in
    record {
      within = held.within;
      accepted = subst (AllAccepted length (new_state w.params)) (sym cut) parts.0;
      few = omega arith;
      seen = refl;
      kept = calm_kept next calm (omega (arith, kept.told, count, ap length cut, size));
      placed = calm;
    }

-- ---- all events

called_held : (w : World) (call : DeviceEvent) → HasPlace w (event.Calls call) → IsHeld w → IsHeld (world_after_call w call)
called_held w (Read place count) may held = read_held w place count held
called_held w (FailedRead place count) may held = failed_read_held w place count held
called_held w (Write place bytes) may held =
    let is = at_stage w may.0 (Writing may.2.0) may.1 may.2.1 in
    from_round (λ v. IsHeld (world_after_call v (Write place bytes))) w (round_at (Writing may.2.0) may.0) is
    (write_held w may.2.0 may.0 place bytes
    (in_round IsHeld w (round_at (Writing may.2.0) may.0) is held) may.2.2)
called_held w (FailedWrite place bytes left) may held =
    let is = at_stage w may.0 (Writing may.2.0) may.1 may.2.1 in
    from_round (λ v. IsHeld (world_after_call v (FailedWrite place bytes left))) w (round_at (Writing may.2.0) may.0) is
    (broke_held (record w { device = asked_of w.device (FailedWrite place bytes left) }) may.2.0 may.0
    (failed_write_held w may.2.0 may.0 place bytes left
    (in_round IsHeld w (round_at (Writing may.2.0) may.0) is held) may.2.2))
called_held w Sync may held =
    let is = at_stage w may.0 (Writing may.2.0) may.1 may.2.1 in
    from_round (λ v. IsHeld (world_after_call v Sync)) w (round_at (Writing may.2.0) may.0) is
    (sync_held w may.2.0 may.0 (in_round IsHeld w (round_at (Writing may.2.0) may.0) is held) may.2.2)
called_held w FailedSync may held =
    let is = at_stage w may.0 (Writing may.2.0) may.1 may.2.1 in
    from_round (λ v. IsHeld (world_after_call v FailedSync)) w (round_at (Writing may.2.0) may.0) is
    (broke_held (record w { device = asked_of w.device FailedSync }) may.2.0 may.0
    (failed_sync_held (in_phase w may.2.0 may.0) (in_round IsHeld w (round_at (Writing may.2.0) may.0) is held)))

pub after_held : (w : World) (e : Event) → HasPlace w e → IsHeld w → IsHeld (world_after w e)
after_held w (event.Put seat asks) may held = held
after_held w event.Takes may held = taken_held w w.kept w.line may.0 (may_take w.kept w.line w.round may.1) held
after_held w (event.Opens segment copy) may held =
    let is = at_stage w may.2.0 Taking may.2.1 may.2.2.0 in
    from_round (λ v. IsHeld (world_after v (event.Opens segment copy))) w (round_at Taking may.2.0) is
    (opens_held w segment copy may.2.0 may.0 may.1 (in_round IsHeld w (round_at Taking may.2.0) is held))
after_held w (event.Evaluates given) may held =
    from_round (λ v. IsHeld (world_after v (event.Evaluates given))) w (Some may.0) may.1
    (evaluates_held w may.0 given may.2.0 w.is_broken refl may.2.1
    (in_round IsHeld w (Some may.0) may.1 held))
after_held w (event.Calls call) may held = called_held w call may held
after_held w event.Answers may held =
    let is = at_stage w may.0 Answering may.1 may.2.0 in
    from_round (λ v. IsHeld (world_after v event.Answers)) w (round_at Answering may.0) is
    (put_held w may.0 may.0.batches refl (in_round IsHeld w (round_at Answering may.0) is held))
after_held w (event.Hears seat) may held = held
after_held w event.Packet may held = held
after_held w (event.Crash image) may held = stopped_held w image held (held.kept image may)
after_held w (event.Opening s) may held = opening_held w s may.1 held
after_held w (event.FailedOpening true) may held =
    stopped_held w (seen_of w.device) held (held.kept (seen_of w.device) held.seen)
after_held w (event.FailedOpening false) may held = unsynced_held w held

pub happens_held : (old new : World) (e : Event) → event.Happens old e new → IsHeld old → IsHeld new
happens_held old new e happens held = ⊎_elim
    (λ led. subst IsHeld (sym led.1) (after_held old e led.0 held))
    (λ stayed. subst IsHeld (sym stayed.1) held)
    happens

pub run_held : (old new : World) (events : List Event) → event.Run old events new → IsHeld old → IsHeld new
run_held old new [] is held = subst IsHeld (sym is) held
run_held old new (e ∷ events) run held = run_held run.0 new events run.2 (happens_held old run.0 e run.1 held)
