-- A sum over all payloads, after a step.
use Rattle.std.proofs.Common.{ℕ, ◌≡◌, ◌+◌, true, [], ◌∷◌, map, take, Option, Some, None, sum_by, arith, refl}
use Rattle.std.proofs.lemmas.List.Sums.{sum_by-cons}
use Rattle.rly_machine.specs.declared.command.Command.{Command}
use Rattle.rly_machine.specs.declared.command.Command.TheVariants.{Take, Pick, Release}
use Rattle.rly_machine.specs.declared.hop.Item.{Item}
use Rattle.rly_machine.specs.declared.reply.Reply.{Reply}
use Rattle.rly_machine.specs.Accepted.{is_accepted, unless}
use Rattle.rly_machine.specs.Map.{payload_of}
use Rattle.rly_machine.specs.Expiry.{expired_count}
use Rattle.rly_machine.specs.Pick.{pick_outcome, pick_refusal}
use Rattle.rly_machine.specs.Release.{covered_count, release_refusal}
use Rattle.rly_machine.specs.State.{State, hop_at, live_bytes}
use Rattle.rly_machine.specs.Step.{step}
use Rattle.rly_machine.specs.Take.{take_refusal}
use Rattle.rly_machine.proofs.Picking.{bytes_picked}
use Rattle.rly_machine.proofs.RealReplies.{counted}
use Rattle.rly_machine.proofs.Refusals.{may_pick, may_release, may_take}
use Rattle.rly_machine.proofs.Soundness.{bytes_released, bytes_taken}
use Rattle.rly_reclaim.specs.RemovedPayloads.{removed_payloads}
use Rattle.rly_reclaim.proofs.Emptying.{names_sum}

-- a command that is counted passed all checks
unless_counts : {P : Type 0} (o : Option Reply) (s : State P) (accepted : State P × Reply) (G : State P → Type 0)
    → (unless o s accepted).0.seq ≡ s.seq + 1 → (o ≡ None → G accepted.0) → G (unless o s accepted).0
unless_counts None s accepted G counts gives = gives refl
unless_counts (Some reply) s accepted G counts gives = absurd (omega (arith, counts))

pub leaves_sum : {P : Type 0} (len w : P → ℕ) (s : State P) (command : Command P) → is_accepted (step len s command).1 ≡ true
    → live_bytes w (step len s command).0 + sum_by w (removed_payloads len s command) ≡ live_bytes w s + sum_by w (payload_of command)
leaves_sum {P} len w s (Take peer number hop stamp limit payload) accepted =
    unless_counts (take_refusal len s peer number hop stamp limit (len payload)) s _
    (λ (t : State P). live_bytes w t + 0 ≡ live_bytes w s + sum_by w (payload ∷ []))
    (counted len s (Take peer number hop stamp limit payload) accepted)
    (λ none.
    let may = may_take len s peer number hop stamp limit (len payload) none in
    omega (arith, bytes_taken w s hop stamp limit payload may.hop_from may.hop_to, sum_by-cons w payload []))
leaves_sum {P} len w s (Pick hop now) accepted =
    let late = expired_count (hop_at s hop) now in
    let outcome = pick_outcome len s.params (hop_at s hop) now in
    let gone = take (late + outcome.dropped) (hop_at s hop).queue in
    unless_counts (pick_refusal s hop now) s _
    (λ (t : State P). live_bytes w t + sum_by w (map (λ (item : Item P). item.payload) gone) ≡ live_bytes w s + 0)
    (counted len s (Pick hop now) accepted)
    (λ none.
    let may = may_pick s hop now none in
    omega (arith, bytes_picked w s hop now late outcome may.hop_from may.hop_to, names_sum w gone))
leaves_sum {P} len w s (Release hop number) accepted =
    let gone = take (covered_count (hop_at s hop) number) (hop_at s hop).flight in
    unless_counts (release_refusal s hop number) s _
    (λ (t : State P). live_bytes w t + sum_by w (map (λ (item : Item P). item.payload) gone) ≡ live_bytes w s + 0)
    (counted len s (Release hop number) accepted)
    (λ none.
    let may = may_release s hop number none in
    omega (arith, bytes_released w s hop (covered_count (hop_at s hop) number) may.hop_from may.hop_to, names_sum w gone))
