-- An accepted command has a record, and accepted commands of one round can form one group.
use Rattle.std.proofs.Common.{ℕ, ◌≡◌, ◌≤◌, ◌<◌, ◌+◌, ◌-◌, true, List, [], ◌∷◌, Option, Some, None, length, ap, refl, subst, arith}
use Rattle.std.specs.List.{AllByRecursion}
use Rattle.std.proofs.lemmas.List.Elements.{All-get_or}
use Rattle.rly_core.specs.declared.params.Params.{Params}
use Rattle.rly_machine.specs.declared.command.Command.{Command}
use Rattle.rly_machine.specs.declared.command.Command.TheVariants.{Take, Pick, Release}
use Rattle.rly_machine.specs.declared.reply.Reply.{Reply}
use Rattle.rly_machine.specs.Accepted.{is_accepted, unless}
use Rattle.rly_machine.specs.Fold.{AllAccepted}
use Rattle.rly_machine.specs.Pick.{pick_refusal}
use Rattle.rly_machine.specs.Release.{release_refusal}
use Rattle.rly_machine.specs.Sound.{IsSound, IsSoundHop}
use Rattle.rly_machine.specs.State.{State, last_at, new_hop}
use Rattle.rly_machine.specs.Step.{step}
use Rattle.rly_machine.specs.Take.{take_refusal}
use Rattle.rly_machine.proofs.Folding.{params_step}
use Rattle.rly_machine.proofs.RealReplies.{counted}
use Rattle.rly_machine.proofs.Refusals.{may_pick, may_release, may_take}
use Rattle.rly_machine.proofs.Runs.{sound_step}
use Rattle.rly_record.specs.Spelling.{HasRecord, IsShort}
use Rattle.rly_journal.specs.Recovery.{Commands}

-- a step that is counted passed all checks
pub unrefused : (refusal : Option Reply) (s : State (List ℕ)) (accepted : State (List ℕ) × Reply)
    → (unless refusal s accepted).0.seq ≡ s.seq + 1 → refusal ≡ None
unrefused None s accepted counts = refl
unrefused (Some reply) s accepted counts = absurd (omega (arith, counts))

pub accepted_record : (s : State (List ℕ)) (command : Command (List ℕ)) → IsSound length s
    → is_accepted (step length s command).1 ≡ true → HasRecord command
accepted_record s (Take peer number hop stamp limit payload) sound accepts =
    let may = may_take length s peer number hop stamp limit (length payload)
    (unrefused (take_refusal length s peer number hop stamp limit (length payload)) s _
    (counted length s (Take peer number hop stamp limit payload) accepts)) in
    let place : peer.0 - 1 < length s.lasts = omega (arith, may.peer_from, may.peer_to) in
    let last : last_at s peer ≤ s.seq = All-get_or (λ last. last ≤ s.seq) s.lasts (peer.0 - 1) 0 place sound.lasts in (
      omega (arith, may.peer_to, sound.peer_count, sound.params.peers),
      omega (arith, may.next, last, sound.seq),
      omega (arith, may.hop_to, sound.hop_count, sound.params.hops),
      omega (arith, may.moment),
      omega (arith, may.short, sound.params.payload),
      λ limited. record {
        peer = omega (arith, may.peer_to, sound.peer_count, sound.params.peers);
        number = omega (arith, may.next, may.seq, last);
        hop = omega (arith, may.hop_to, sound.hop_count, sound.params.hops);
        stamp = omega (arith, may.moment);
        limit = may.limit;
      },
    )
accepted_record s (Pick hop now) sound accepts =
    let may = may_pick s hop now (unrefused (pick_refusal s hop now) s _ (counted length s (Pick hop now) accepts)) in
    (omega (arith, may.hop_to, sound.hop_count, sound.params.hops), omega (arith, may.moment))
accepted_record s (Release hop number) sound accepts =
    let may = may_release s hop number
    (unrefused (release_refusal s hop number) s _ (counted length s (Release hop number) accepts)) in
    let place : hop.0 - 1 < length s.hops = omega (arith, may.hop_from, may.hop_to) in
    let h = All-get_or (IsSoundHop length s.params s.seq) s.hops (hop.0 - 1) new_hop place sound.hops in (
      omega (arith, may.hop_to, sound.hop_count, sound.params.hops),
      omega
          (arith, may.given, h.balance, h.taken, sound.seq),
    )

pub accepted_records : (s : State (List ℕ)) (commands : Commands) → IsSound length s → AllAccepted length s commands
    → AllByRecursion HasRecord commands
accepted_records s [] sound all = tt
accepted_records s (command ∷ commands) sound all = (
  accepted_record s command sound all.0,
  accepted_records (step length s command).0 commands
      (sound_step length s command sound) all.1,
)

-- and its payload is within its spool's limit
accepted_short : (s : State (List ℕ)) (command : Command (List ℕ)) → is_accepted (step length s command).1 ≡ true
    → IsShort s.params.payload command
accepted_short s (Take peer number hop stamp limit payload) accepts =
    (may_take length s peer number hop stamp limit (length payload)
    (unrefused (take_refusal length s peer number hop stamp limit (length payload)) s _
    (counted length s (Take peer number hop stamp limit payload) accepts))).short
accepted_short s (Pick hop now) accepts = tt
accepted_short s (Release hop number) accepts = tt

pub accepted_shorts : (s : State (List ℕ)) (commands : Commands) → AllAccepted length s commands
    → AllByRecursion (IsShort s.params.payload) commands
accepted_shorts s [] all = tt
accepted_shorts s (command ∷ commands) all = (
  accepted_short s command all.0,
  subst (λ most. AllByRecursion (IsShort most) commands)
      (ap (λ (p : Params). p.payload) (params_step length s command))
      (accepted_shorts (step length s command).0 commands all.1),
)
