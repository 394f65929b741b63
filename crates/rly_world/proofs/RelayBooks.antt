-- The account of a hop: the released datagrams are those that accepted Releases covered.
use Rattle.std.proofs.Common.{ℕ, ◌≡◌, ◌≤◌, ◌<◌, ◌+◌, ◌-◌, ◌∙◌, max, cond, Bool, true, false, List, [], ◌∷◌, Option}
use Rattle.std.proofs.Common.{Some, None, length, get_or, set, replicate, arith, ap, refl, sym, inl, inr}
use Rattle.std.specs.Prelude.{nat_eq}
use Rattle.std.proofs.lemmas.Bool.{cases_eq, eq-eqb, ne_eqb}
use Rattle.std.proofs.lemmas.List.{get_or-replicate, get_or-set_other, get_or-set_same, length-replicate}
use Rattle.std.proofs.lemmas.List.Elements.{All-get_or}
use Rattle.rly_core.specs.declared.ids.HopId.{HopId}
use Rattle.rly_core.specs.declared.ids.PeerId.{PeerId}
use Rattle.rly_core.specs.declared.params.Params.{Params}
use Rattle.rly_core.specs.Limits.{IsWithinLimits}
use Rattle.rly_machine.specs.declared.command.Command.TheVariants.{Pick, Release, Take}
use Rattle.rly_machine.specs.declared.reply.Reply.{Reply}
use Rattle.rly_machine.specs.Accepted.{accept, is_accepted, unless}
use Rattle.rly_machine.specs.Fold.{AllAccepted, fold}
use Rattle.rly_machine.specs.Pick.{after_pick, pick_refusal}
use Rattle.rly_machine.specs.Release.{covered_count, release_refusal, with_released}
use Rattle.rly_machine.specs.Sound.{IsSoundHop}
use Rattle.rly_machine.specs.State.{HopState, State, has_hop, hop_at, new_hop, new_state}
use Rattle.rly_machine.specs.Step.{step}
use Rattle.rly_machine.specs.Take.{take_refusal, with_taken}
use Rattle.rly_machine.proofs.CustodyRuns.{custody_kept}
use Rattle.rly_machine.proofs.Folding.{params_fold}
use Rattle.rly_machine.proofs.RealReplies.{counted}
use Rattle.rly_machine.proofs.Refusals.{among, may_pick, may_release, may_take}
use Rattle.rly_machine.proofs.Runs.{sound_from_new}
use Rattle.rly_journal.specs.Recovery.{Commands}
use Rattle.rly_world.specs.RelayLaw.{KeepsBooks, greatest_of, releases_of}
use Rattle.rly_world.specs.RelayWorld.{state_from}
use Rattle.rly_world.proofs.RelayRecords.{unrefused}

-- the number released at a hop after an accepted command, at it and at the others
record Released (s : State (List ℕ)) (to hop : HopId) (count : ℕ) (after : State (List ℕ)) : Type 0 where
  own : to.0 ≡ hop.0 → (hop_at after hop).released ≡ count
  other : (to.0 ≡ hop.0 → ⊥) → (hop_at after hop).released ≡ (hop_at s hop).released

released_at : (s : State (List ℕ)) (to hop : HopId) (h : HopState (List ℕ)) (lasts : List ℕ) → 0 < to.0
    → to.0 ≤ length s.hops → 0 < hop.0
    → Released s to hop h.released (record (accept s to h) { lasts = lasts })
released_at s to hop h lasts from below hop_from = record {
  own = λ same. ap (λ n. (get_or (set s.hops (to.0 - 1) h) (n - 1) new_hop).released) (sym same)
      ∙ ap (λ (g : HopState (List ℕ)). g.released) (get_or-set_same s.hops (to.0 - 1) h new_hop (omega arith));
  other = λ differ. ap (λ (g : HopState (List ℕ)). g.released) (get_or-set_other s.hops (to.0 - 1) (hop.0 - 1) h new_hop
      (λ same. differ (let e : to.0 ≡ hop.0 = omega (arith, same, from, hop_from) in e)));
}

-- a command that releases nothing
released_still : (s : State (List ℕ)) (to hop : HopId) (after : State (List ℕ))
    → Released s to hop (hop_at s to).released after → (hop_at after hop).released ≡ (hop_at s hop).released
released_still s to hop after left = elim (cases_eq to.0 hop.0) [
  | inl same ↦ left.own same ∙ ap (λ n. (get_or s.hops (n - 1) new_hop).released) same
  | inr differs ↦ left.other differs
]

-- of a step that passed all checks
through : (refusal : Option Reply) (s : State (List ℕ)) (accepted : State (List ℕ) × Reply) (hop : HopId) (count : ℕ)
    → refusal ≡ None → (hop_at accepted.0 hop).released ≡ count
    → (hop_at (unless refusal s accepted).0 hop).released ≡ count
through None s accepted hop count none is = is
through (Some reply) s accepted hop count none is = let e : Some reply ≡ None = none in absurd cc

-- the greater of two numbers that a Release covered
covered : (h : HopState (List ℕ)) (number : ℕ) → h.released < number
    → (with_released h (covered_count h number)).released ≡ max h.released number
covered h number some = omega arith

released_own : (s : State (List ℕ)) (to hop : HopId) (number : ℕ) (after : State (List ℕ))
    → (hop_at s to).released < number
    → Released s to hop (with_released (hop_at s to) (covered_count (hop_at s to) number)).released after
    → (hop_at after hop).released ≡ cond (nat_eq to.0 hop.0) (max (hop_at s hop).released number)
    (hop_at s hop).released
released_own s to hop number after some left = elim (cases_eq to.0 hop.0) [
  | inl same ↦ left.own same ∙ covered (hop_at s to) number some
      ∙ ap (λ n. max (get_or s.hops (n - 1) new_hop).released number) same
      ∙ sym (ap (λ b. cond b (max (hop_at s hop).released number) (hop_at s hop).released) (eq-eqb to.0 hop.0 same))
  | inr differs ↦ left.other differs
      ∙ sym (ap (λ b. cond b (max (hop_at s hop).released number) (hop_at s hop).released) (ne_eqb to.0 hop.0 differs))
]

released_take : (s : State (List ℕ)) (peer : PeerId) (number : ℕ) (to : HopId) (stamp limit : ℕ) (payload : List ℕ)
    (hop : HopId) → 0 < hop.0
    → is_accepted (step length s (Take peer number to stamp limit payload)).1 ≡ true
    → (hop_at (step length s (Take peer number to stamp limit payload)).0 hop).released ≡ (hop_at s hop).released
released_take s peer number to stamp limit payload hop from accepts =
    let none = unrefused (take_refusal length s peer number to stamp limit (length payload)) s _
    (counted length s (Take peer number to stamp limit payload) accepts) in
    let may = may_take length s peer number to stamp limit (length payload) none in
    through (take_refusal length s peer number to stamp limit (length payload)) s _ hop (hop_at s hop).released none
    (released_still s to hop _
    (released_at s to hop (with_taken (hop_at s to) (s.seq + 1) stamp limit payload) (set s.lasts (peer.0 - 1) number)
    may.hop_from may.hop_to from))

released_pick : (s : State (List ℕ)) (to : HopId) (now : ℕ) (hop : HopId) → 0 < hop.0
    → is_accepted (step length s (Pick to now)).1 ≡ true
    → (hop_at (step length s (Pick to now)).0 hop).released ≡ (hop_at s hop).released
released_pick s to now hop from accepts =
    let none = unrefused (pick_refusal s to now) s _ (counted length s (Pick to now) accepts) in
    let may = may_pick s to now none in
    through (pick_refusal s to now) s _ hop (hop_at s hop).released none
    (released_still s to hop _
    (released_at s to hop (after_pick length s.params (hop_at s to) now) s.lasts may.hop_from may.hop_to from))

released_release : (s : State (List ℕ)) (to : HopId) (number : ℕ) (hop : HopId) → 0 < hop.0
    → is_accepted (step length s (Release to number)).1 ≡ true
    → (hop_at (step length s (Release to number)).0 hop).released ≡ cond (nat_eq to.0 hop.0)
    (max (hop_at s hop).released number) (hop_at s hop).released
released_release s to number hop from accepts =
    let none = unrefused (release_refusal s to number) s _ (counted length s (Release to number) accepts) in
    let may = may_release s to number none in
    through (release_refusal s to number) s _ hop
    (cond (nat_eq to.0 hop.0) (max (hop_at s hop).released number) (hop_at s hop).released) none
    (released_own s to hop number _ may.some
    (released_at s to hop (with_released (hop_at s to) (covered_count (hop_at s to) number)) s.lasts may.hop_from
    may.hop_to from))

one_more : (b : Bool) (released number : ℕ) (numbers : List ℕ)
    → greatest_of (cond b (max released number) released) numbers ≡ greatest_of released
    (cond b (number ∷ numbers) numbers)
one_more true released number numbers = refl
one_more false released number numbers = refl

-- after accepted commands
released_all : (s : State (List ℕ)) (commands : Commands) (hop : HopId) → 0 < hop.0 → AllAccepted length s commands
    → (hop_at (fold length s commands) hop).released ≡ greatest_of (hop_at s hop).released (releases_of hop commands)
released_all s [] hop from all = refl
released_all s (Take peer number to stamp limit payload ∷ commands) hop from all =
    released_all (step length s (Take peer number to stamp limit payload)).0 commands hop from all.1
    ∙ ap (λ r. greatest_of r (releases_of hop commands))
    (released_take s peer number to stamp limit payload hop from all.0)
released_all s (Pick to now ∷ commands) hop from all =
    released_all (step length s (Pick to now)).0 commands hop from all.1
    ∙ ap (λ r. greatest_of r (releases_of hop commands)) (released_pick s to now hop from all.0)
released_all s (Release to number ∷ commands) hop from all =
    released_all (step length s (Release to number)).0 commands hop from all.1
    ∙ ap (λ r. greatest_of r (releases_of hop commands)) (released_release s to number hop from all.0)
    ∙ one_more (nat_eq to.0 hop.0) (hop_at s hop).released number (releases_of hop commands)

pub books_kept : (params : Params) (commands : Commands) (hop : HopId) → IsWithinLimits params
    → AllAccepted length (new_state params) commands
    → has_hop (state_from params []) hop ≡ true → KeepsBooks params commands hop
books_kept params commands hop within all there =
    let found = among (length (replicate params.hops (let h : HopState (List ℕ) = new_hop in h))) hop.0 there in
    let size = length-replicate params.hops (let h : HopState (List ℕ) = new_hop in h) in
    let start : hop_at (new_state params) hop ≡ new_hop = get_or-replicate params.hops (hop.0 - 1)
    (let h : HopState (List ℕ) = new_hop in h) new_hop (omega (arith, found.0, found.1, size)) in
    let sound = sound_from_new length params commands within in
    let same = params_fold length (let s : State (List ℕ) = new_state params in s) commands in
    let place : hop.0 - 1 < length (state_from params commands).hops = omega
    (arith, found.0, found.1, size, sound.hop_count, ap (λ p. p.hops) same) in
    let h = All-get_or (IsSoundHop length (state_from params commands).params (state_from params commands).seq)
    (state_from params commands).hops (hop.0 - 1) new_hop place sound.hops in
    record {
      custody = custody_kept length params commands hop there;
      released =
          released_all (new_state params) commands hop found.0 all
          ∙ ap (λ (g : HopState (List ℕ)). greatest_of g.released (releases_of hop commands)) start;
      balance = h.balance;
    }
