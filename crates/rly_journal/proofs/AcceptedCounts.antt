-- The number of accepted commands of a round, and commands that are never accepted.
use Rattle.std.proofs.Common.{◌≡◌, ℕ, ◌+◌, ◌-◌, ◌<◌, ◌≤◌, List, [], ◌∷◌, length, Bool, true, false, Option, Some, None, refl, arith, length-append}
use Rattle.std.specs.Prelude.{if◌then◌else◌}
use Rattle.std.specs.List.{zip}
use Rattle.std.proofs.lemmas.List.Elements.{All-get_or}
use Rattle.rly_machine.specs.declared.call.Answer.{Answer}
use Rattle.rly_machine.specs.declared.call.Call.{Call}
use Rattle.rly_machine.specs.declared.command.Ask.{Ask}
use Rattle.rly_machine.specs.declared.command.Ask.TheVariants as ask
use Rattle.rly_machine.specs.declared.command.Command.{Command}
use Rattle.rly_machine.specs.declared.command.Command.TheVariants.{Take, Pick, Release}
use Rattle.rly_machine.specs.declared.reply.Reply.{Reply}
use Rattle.rly_machine.specs.Accepted.{is_accepted, unless}
use Rattle.rly_machine.specs.History.{accepted_by, accepted_of}
use Rattle.rly_machine.specs.Sound.{IsSound}
use Rattle.rly_machine.specs.State.{State, last_at}
use Rattle.rly_machine.specs.Step.{step}
use Rattle.rly_machine.specs.Take.{take_refusal}
use Rattle.rly_machine.proofs.RealReplies.{counted}
use Rattle.rly_machine.proofs.Refusals.{may_take}
use Rattle.rly_record.specs.Spelling.{IsRecordable}

-- the number of accepted commands
accepted_once : (an : Ask) (reply : Reply) → length (accepted_by an reply) ≤ 1
accepted_once (ask.Command command) reply = at_most (is_accepted reply)
  where
    at_most : (b : Bool) → length (if b then command ∷ [] else []) ≤ 1
    at_most true = omega arith
    at_most false = omega arith
accepted_once (ask.Query query) reply = omega arith

pub few_accepted : (calls : List Call) (given : List Answer) → length (accepted_of (zip calls given)) ≤ length calls
few_accepted [] given = omega arith
few_accepted (call ∷ calls) [] = omega arith
few_accepted (call ∷ calls) (answer ∷ given) =
    omega (arith, accepted_once call.ask answer.reply, few_accepted calls given, length-append (accepted_by call.ask answer.reply) (accepted_of (zip calls given)))

-- a command that fails a check isn't accepted
accepted_none : (refusal : Option Reply) (s : State (List ℕ)) (accepted : State (List ℕ) × Reply)
    → (is_accepted (unless refusal s accepted).1 ≡ true → (unless refusal s accepted).0.seq ≡ s.seq + 1)
    → is_accepted (unless refusal s accepted).1 ≡ true → refusal ≡ None
accepted_none None s accepted more accepts = refl
accepted_none (Some reply) s accepted more accepts = let counts : s.seq ≡ s.seq + 1 = more accepts in absurd (omega (arith, counts))

never_true : (b : Bool) → (b ≡ true → ⊥) → b ≡ false
never_true true never = absurd (never refl)
never_true false _ = refl

-- each accepted command can be recorded: its payload is within the spool's limit, and its numbers are within the
-- spool's limits
pub accepted_recordable : (s : State (List ℕ)) (command : Command (List ℕ)) → IsSound length s → is_accepted (step length s command).1 ≡ true
    → IsRecordable s.params.payload command
accepted_recordable s (Take peer number hop stamp limit payload) sound accepts =
    let may = may_take length s peer number hop stamp limit (length payload)
    (accepted_none (take_refusal length s peer number hop stamp limit (length payload)) s _ (counted length s (Take peer number hop stamp limit payload)) accepts) in
    let place : peer.0 - 1 < length s.lasts = omega (arith, may.peer_from, may.peer_to) in
    let last : last_at s peer ≤ s.seq = All-get_or (λ last. last ≤ s.seq) s.lasts (peer.0 - 1) 0 place sound.lasts in (
      may.short,
      λ limited. record {
        peer = (omega (arith, may.peer_from), omega (arith, may.peer_to, sound.peer_count, sound.params.peers));
        number = omega (arith, may.next, may.seq, last);
        hop = (omega (arith, may.hop_from), omega (arith, may.hop_to, sound.hop_count, sound.params.hops));
        stamp = may.moment;
        limit = may.limit;
      },
    )
accepted_recordable s (Pick hop now) sound accepts = tt
accepted_recordable s (Release hop number) sound accepts = tt

-- so a command that can't be recorded isn't accepted
pub long_leaves : (s : State (List ℕ)) (command : Command (List ℕ)) → IsSound length s → (IsRecordable s.params.payload command → ⊥)
    → is_accepted (step length s command).1 ≡ false
long_leaves s command sound long = never_true _ (λ accepts. long (accepted_recordable s command sound accepts))
