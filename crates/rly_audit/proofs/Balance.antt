-- The books of a sound state balance.
use Rattle.std.proofs.Common.{◌≡◌, ℕ, ◌+◌, ◌==◌, List, [], ◌∷◌, length, map, sum, sum_by, true, refl, sym, ◌∙◌, arith, eq-eqb}
use Rattle.std.specs.List.{All, fold, list_all}
use Rattle.std.proofs.lemmas.List.Elements.{All-drop, All-get_or}
use Rattle.rly_core.specs.declared.params.Params.{Params}
use Rattle.rly_machine.specs.Query.{status_of}
use Rattle.rly_machine.specs.Sound.{IsSound, IsSoundHop}
use Rattle.rly_machine.specs.State.{HopState, State}
use Rattle.rly_audit.specs.Report.{balances, books_of, hop_balances}

hop_balance : (params : Params) (seq : ℕ) (h : HopState (List ℕ)) → IsSoundHop length params seq h → hop_balances (status_of h) ≡ true
hop_balance params seq h sound = eq-eqb h.taken (length h.queue + length h.flight + h.dropped + h.expired + h.released) sound.balance

hops_balance : (params : Params) (seq : ℕ) (hops : List (HopState (List ℕ))) → All (IsSoundHop length params seq) hops → list_all hop_balances (map status_of hops) ≡ true
hops_balance params seq [] sound = refl
hops_balance params seq (h ∷ hops) sound =
    let first : hop_balances (status_of h) ≡ true = hop_balance params seq h (All-get_or (IsSoundHop length params seq) (h ∷ hops) 0 h (omega arith) sound) in
    rw first (hops_balance params seq hops (All-drop (IsSoundHop length params seq) 1 (h ∷ hops) sound))

taken_from : (a : ℕ) (hops : List (HopState (List ℕ))) → fold (λ a h. a + h.taken) a (map status_of hops) ≡ fold (λ a h. a + h.taken) a hops
taken_from a [] = refl
taken_from a (h ∷ hops) = taken_from (a + h.taken) hops

pub balance_of : (s : State (List ℕ)) → IsSound length s → balances (books_of s) ≡ true
unfolding balances
balance_of s sound =
    let same : (sum s.lasts == sum_by (λ h. h.taken) (map status_of s.hops)) ≡ true = eq-eqb _ _ (sound.numbers ∙ sym (taken_from 0 s.hops)) in
    rw (hops_balance s.params s.seq s.hops sound.hops, same) refl
