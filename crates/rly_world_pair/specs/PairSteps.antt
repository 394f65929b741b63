-- The event of the model for each step of two simulated relays.
use Rattle.std.specs.Prelude.{◌≡◌, ◌⊎◌, ◌≤◌, ◌==◌, ◌&&◌, ℕ, Bool, true, nat_le, nat_lt, IsTrue}
use Rattle.std.specs.Prelude.{List, [], ◌∷◌, length, Option, Some, None}
use Rattle.rly_core.specs.declared.params.Params.{Params}
use Rattle.rly_machine.specs.declared.command.Ask.{Ask}
use Rattle.rly_machine.specs.declared.reply.Reply.{Reply}
use Rattle.rly_world.specs.PairEnd.{Asked, End, CallFate, Replied, Done, Unsure, Broken, DeviceRead, OutOfMemory}
use Rattle.rly_world.specs.PairEnd.{after_call, may_want, reply_at, reply_by, state_of, reported_by}
use Rattle.rly_world.specs.PairCores.{is_for_receiver, is_for_sender}
use Rattle.rly_world.specs.PairWorld.{PairSetup, PairWorld, pair_step, Turns, Timeout, FetchesAhead, PicksAhead}
use Rattle.rly_world.specs.PairWorld.{UpperHears, LowerHears, UpperMakes, LowerMakes, UpperAnswers, LowerAnswers}
use Rattle.rly_world.specs.PairWorld.{UpperServes, LowerServes, UpperCrashes, LowerCrashes}
use Rattle.rly_world_pair.specs.declared.step.Step.{Step}
use Rattle.rly_world_pair.specs.declared.step.Step.TheVariants as step
use Rattle.rly_world.specs.PairEnd.{with_crash, with_made, with_other, end_after_answer}

-- The possible outcomes of a call of an end. An end whose device failed is broken until the next crash. If it fails in
-- a call, the command counts as accepted, until a crash removes it. Only for a request that may need one does an
-- allocation or a read fail, which breaks nothing.
abbrev pub can_go : End → Ask → CallFate → Bool
can_go e ask Done = e.harm == 0
can_go e ask (Unsure stands) = (e.harm == 0) && stands
can_go e ask Broken = nat_lt 0 e.harm && nat_le e.harm 2
can_go e ask DeviceRead = (e.harm == 0) && may_want (state_of e) ask
can_go e ask OutOfMemory = (e.harm == 0) && may_want (state_of e) ask

-- the possible outcomes of the first waiting call, if there is one
abbrev pub can_make : End → List Asked → CallFate → Bool
can_make e [] outcome = true
can_make e (call ∷ calls) outcome = can_go e call.ask outcome

-- a call of an end was made: its reply, and the number of accepted commands that it acknowledges
pub record Calls (old new : End) (ask : Ask) (reply : Reply) (position : ℕ) : Type 0 where
  pub outcome : CallFate
  pub can : IsTrue (can_go old ask outcome)
  pub reply_is : reply ≡ reply_by outcome (reply_at old ask)
  pub after : new ≡ after_call old ask outcome
  pub tells : position ≡ reported_by outcome (length new.accepted)

-- the first waiting call was made, if there is one
pub record Makes (old new : End) : Type 0 where
  pub outcome : CallFate
  pub can : IsTrue (can_make old old.asked outcome)
  pub after : new ≡ with_made old outcome old.asked

-- a call of another client was made, with a reply or without
pub record Serves (old new : End) (ask : Ask) (is_answered : Bool) : Type 0 where
  pub outcome : CallFate
  pub can : IsTrue (can_go old ask outcome)
  pub after : new ≡ with_other old ask outcome is_answered

-- the first call that was made got its reply, if there is one
abbrev pub Answers : End → End → Option Replied → Type 0
Answers old new None = (old.replied ≡ []) × (new ≡ old)
Answers old new (Some r) =
    (rest : List Replied) × (old.replied ≡ r ∷ rest)
    × (new ≡ end_after_answer (record old { replied = rest }) r.reply r.position)

-- an end crashed: all acknowledged commands are kept
pub record Crashes (old new : End) : Type 0 where
  pub kept : ℕ
  pub opens : Bool
  pub has_told : old.told ≤ kept
  pub within : kept ≤ length old.accepted
  pub after : new ≡ with_crash old kept opens

-- ---- the steps of two real relays

-- the setup: stations 1 and 2, hop 1 of the upper, peer 1 of the lower, and as many receiving cores as the window
-- allows datagrams
abbrev pub setup_of : Params → Params → PairSetup
setup_of upper lower = record {
  upper_params = upper;
  lower_params = lower;
  upper = record { 0 = 1 };
  lower = record { 0 = 2 };
  hop = record { 0 = 1 };
  window = upper.window;
  peer = record { 0 = 1 };
  receivers = upper.window;
}

-- the step of two simulated relays: its event, with the outcome on the device
abbrev pub IsStep : Step → PairWorld → PairWorld → Type 0
IsStep (step.Turns is_open moment) old new = new ≡ pair_step old (Turns is_open moment)
IsStep step.Timeout old new = new ≡ pair_step old Timeout
IsStep (step.FetchesAhead number) old new = new ≡ pair_step old (FetchesAhead number)
IsStep (step.PicksAhead moment) old new = new ≡ pair_step old (PicksAhead moment)
IsStep (step.UpperHears packet) old new = new ≡ pair_step old (UpperHears packet)
IsStep (step.LowerHears packet core hop stamp) old new = new ≡ pair_step old (LowerHears packet core hop stamp)
IsStep step.UpperMakes old new =
    (outcome : CallFate) × IsTrue (can_make old.upper old.upper.asked outcome)
    × (new ≡ pair_step old (UpperMakes outcome))
IsStep step.LowerMakes old new =
    (outcome : CallFate) × IsTrue (can_make old.lower old.lower.asked outcome)
    × (new ≡ pair_step old (LowerMakes outcome))
IsStep (step.UpperAnswers is_sent) old new = new ≡ pair_step old (UpperAnswers is_sent)
IsStep (step.LowerAnswers is_sent) old new = new ≡ pair_step old (LowerAnswers is_sent)
IsStep (step.UpperServes ask is_answered) old new =
    (IsTrue (is_for_sender old.setup.hop ask) × (new ≡ old))
    ⊎ ((outcome : CallFate) × IsTrue (can_go old.upper ask outcome)
    × (new ≡ pair_step old (UpperServes ask outcome is_answered)))
IsStep (step.LowerServes ask is_answered) old new =
    (IsTrue (is_for_receiver old.setup.peer ask) × (new ≡ old))
    ⊎ ((outcome : CallFate) × IsTrue (can_go old.lower ask outcome)
    × (new ≡ pair_step old (LowerServes ask outcome is_answered)))
IsStep (step.UpperCrashes torn fault) old new =
    (kept : ℕ) × (opens : Bool) × (old.upper.told ≤ kept) × (kept ≤ length old.upper.accepted)
    × (new ≡ pair_step old (UpperCrashes kept opens))
IsStep (step.LowerCrashes torn fault) old new =
    (kept : ℕ) × (opens : Bool) × (old.lower.told ≤ kept) × (kept ≤ length old.lower.accepted)
    × (new ≡ pair_step old (LowerCrashes kept opens))
