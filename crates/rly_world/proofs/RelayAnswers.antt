-- The replies of a round, and their positions.
use Rattle.std.proofs.Common.{ℕ, ◌≡◌, ◌≤◌, ◌++◌, max, suc, zero, Bool, true, false, List, [], ◌∷◌, length}
use Rattle.std.proofs.Common.{length-append, take, drop, refl, arith, ap, sym, ◌∙◌}
use Rattle.std.specs.Prelude.{if◌then◌else◌}
use Rattle.std.proofs.lemmas.Bool.{false≢true, or_parts}
use Rattle.std.specs.List.{zip}
use Rattle.rly_core.specs.declared.refusal.Refusal.{Refusal}
use Rattle.rly_machine.specs.declared.call.Answer.{Answer}
use Rattle.rly_machine.specs.declared.call.Call.{Call}
use Rattle.rly_machine.specs.declared.command.Ask.{Ask}
use Rattle.rly_machine.specs.declared.command.Ask.TheVariants.{Command, Query}
use Rattle.rly_machine.specs.declared.reply.Reply.{Reply}
use Rattle.rly_machine.specs.declared.reply.Reply.TheVariants.{Refused}
use Rattle.rly_machine.specs.History.{LegalBy, accepted_by, accepted_of, harm, is_failure, next_state, state_after}
use Rattle.rly_machine.specs.State.{State}
use Rattle.rly_machine.proofs.Histories.{folds, legal_but_for_bytes}
use Rattle.rly_journal.specs.Journal.{holds_command, is_command}
use Rattle.rly_journal.specs.Rounds.{refusals}
use Rattle.rly_world.specs.RelaySteps.{greatest_position}
use Rattle.rly_world.specs.RelayWorld.{Batch, calls_of}

-- no reply has a position above n, except those that acknowledge nothing
pub record IsBelow (n : ℕ) (answer : Answer) : Type 0 where
  pub below : is_failure answer.reply ≡ false → answer.position ≤ n

abbrev pub AreBelow : ℕ → List Answer → Type 0
AreBelow n [] = Unit {0}
AreBelow n (answer ∷ answers) = IsBelow n answer × AreBelow n answers

pub below_take : (n k : ℕ) (answers : List Answer) → AreBelow n answers → AreBelow n (take k answers)
below_take n zero answers below = tt
below_take n (suc k) [] below = tt
below_take n (suc k) (answer ∷ answers) below = (below.0, below_take n k answers below.1)

pub below_drop : (n k : ℕ) (answers : List Answer) → AreBelow n answers → AreBelow n (drop k answers)
below_drop n zero answers below = below
below_drop n (suc k) [] below = tt
below_drop n (suc k) (answer ∷ answers) below = below_drop n k answers below.1

greater : (n told position : ℕ) (fails : Bool) → told ≤ n → (fails ≡ false → position ≤ n)
    → (if fails then told else max told position) ≤ n
greater n told position true least below = least
greater n told position false least below = omega (arith, least, below refl)

pub greatest_below : (n told : ℕ) (answers : List Answer) → told ≤ n → AreBelow n answers → greatest_position told answers ≤ n
greatest_below n told [] least below = least
greatest_below n told (answer ∷ answers) least below =
    greatest_below n (if is_failure answer.reply then told else max told answer.position) answers
    (greater n told answer.position (is_failure answer.reply) least below.0.below) below.1

-- refused calls
pub refused_below : (refusal : Refusal) (n position : ℕ) (calls : List Call) → is_failure (Refused refusal) ≡ true
    → AreBelow n (refusals refusal position calls)
refused_below refusal n position [] fails = tt
refused_below refusal n position (call ∷ calls) fails =
    (record { below = λ real. absurd (false≢true (sym real ∙ fails)) }, refused_below refusal n position calls fails)

none_by : (refusal : Refusal) (an : Ask) → accepted_by an (Refused refusal) ≡ []
none_by refusal (Command command) = refl
none_by refusal (Query query) = refl

pub refused_none : (refusal : Refusal) (position : ℕ) (calls : List Call)
    → accepted_of (zip calls (refusals refusal position calls)) ≡ []
refused_none refusal position [] = refl
refused_none refusal position (call ∷ calls) =
    ap (λ l. l ++ accepted_of (zip calls (refusals refusal position calls))) (none_by refusal call.ask)
    ∙ refused_none refusal position calls

-- calls that were served
later : (harmed : ℕ) (s : State (List ℕ)) (calls : List Call) (given : List Answer)
    → LegalBy (λ reply. reply) harmed s (zip calls given) → s.seq ≤ (state_after s (zip calls given)).seq
later harmed s calls given legal =
    let made = folds harmed s (zip calls given) (legal_but_for_bytes harmed s (zip calls given) legal) in
    omega (arith, made.2)

pub served_below : (harmed : ℕ) (s : State (List ℕ)) (calls : List Call) (given : List Answer)
    → length given ≡ length calls
    → LegalBy (λ reply. reply) harmed s (zip calls given) → AreBelow (state_after s (zip calls given)).seq given
served_below harmed s calls [] same legal = tt
served_below harmed s [] (answer ∷ given) same legal = absurd (omega (arith, same))
served_below harmed s (call ∷ calls) (answer ∷ given) same legal = (
  record {
    below = λ real. omega
        (arith, legal.0.position, later (harm answer.reply) (next_state s (call, answer)) calls given legal.1);
  },
  served_below (harm answer.reply) (next_state s (call, answer)) calls given (omega (arith, same)) legal.1,
)

-- queries change nothing
none_asked : (an : Ask) (reply : Reply) → is_command an ≡ false → accepted_by an reply ≡ []
none_asked (Command command) reply none = absurd (false≢true (sym none))
none_asked (Query query) reply none = refl

pub asked_none : (calls : List Call) (given : List Answer) → holds_command calls ≡ false
    → accepted_of (zip calls given) ≡ []
asked_none [] given none = refl
asked_none (call ∷ calls) [] none = refl
asked_none (call ∷ calls) (answer ∷ given) none =
    let parts = or_parts (is_command call.ask) (holds_command calls) none in
    ap (λ l. l ++ accepted_of (zip calls given)) (none_asked call.ask answer.reply parts.0)
    ∙ asked_none calls given parts.1

-- the calls without a batch are at most those with it
pub fewer_calls : (batch : Batch) (batches : List Batch)
    → length (calls_of batches) ≤ length (calls_of (batch ∷ batches))
fewer_calls batch batches = omega (arith, length-append batch (calls_of batches))
