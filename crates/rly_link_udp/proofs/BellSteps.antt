-- A worker that sleeps though a datagram was stored has a ring, or one is on its way.
use Rattle.std.proofs.Common.{◌≡◌, ◌∙◌, ◌⊎◌, ◌≤◌, ◌+◌, ◌++◌, ℕ, zero, suc, true, false, List, [], ◌∷◌, refl, inl, inr, ap, arith, subst, sym, true≢false}
use Rattle.std.specs.List.{AllByRecursion}
use Rattle.rly_link_udp.specs.Bells.{Bell, BellStep, HasRing, Keeps, bell_step, bell_steps, on_begin, on_ring, owed_on_store}
use Rattle.rly_link_udp.specs.Bells.{Listening, Waiting, Woken, Listens, Begins, Ends, Stores, Rings}

-- a datagram was stored since the worker asked
abbrev Stored : Bell → Type 0
Stored b = (b.word ≡ Woken) × (b.sleeps ≡ true → HasRing b)

-- the worker asked something, and a datagram may have been stored since
abbrev Asked : Bell → Type 0
Asked b = ((b.word ≡ Listening) × (b.sleeps ≡ false)) ⊎ ((b.word ≡ Waiting) ⊎ Stored b)

ring_word : (b : Bell) (owed : ℕ) → (on_ring b owed).word ≡ b.word
ring_word b zero = refl
ring_word b (suc owed) = refl

ring_sleeps : (b : Bell) (owed : ℕ) → (on_ring b owed).sleeps ≡ b.sleeps
ring_sleeps b zero = refl
ring_sleeps b (suc owed) = refl

stored_rings : (b : Bell) (owed : ℕ) → Stored b → Stored (on_ring b owed)
stored_rings b zero h = h
stored_rings b (suc owed) h = (h.0, λ _. inl refl)

stored_step : (b : Bell) (step : BellStep) → Stored b → Keeps step → Stored (bell_step b step)
stored_step b Listens h k = absurd k
stored_step b Ends h k = absurd k
stored_step b Begins h k = subst Stored (sym (ap (on_begin b) h.0)) h
stored_step b Stores h k =
    let same : owed_on_store b.owed b.word ≡ b.owed = ap (owed_on_store b.owed) h.0 in
    (refl, λ e. elim (h.1 e) [ inl rung ↦ inl rung | inr owed ↦ inr (subst (λ n. 1 ≤ n) (sym same) owed) ])
stored_step b Rings h k = stored_rings b b.owed h

asked_stores : (b : Bell) → Asked b → Stored (bell_step b Stores)
asked_stores b (inl asked) = (refl, λ e. absurd (true≢false (sym e ∙ asked.1)))
asked_stores b (inr (inl waits)) =
    let more : owed_on_store b.owed b.word ≡ b.owed + 1 = ap (owed_on_store b.owed) waits in
    (refl, λ _. inr (subst (λ n. 1 ≤ n) (sym more) (omega arith)))
asked_stores b (inr (inr stored)) = stored_step b Stores stored tt

asked_step : (b : Bell) (step : BellStep) → Asked b → Keeps step → Asked (bell_step b step)
asked_step b Listens h k = absurd k
asked_step b Ends h k = absurd k
asked_step b Stores h k = inr (inr (asked_stores b h))
asked_step b Begins (inl asked) k = inr (inl (ap (λ w. (on_begin b w).word) asked.0))
asked_step b Begins (inr (inl waits)) k = inr (inl (ap (λ w. (on_begin b w).word) waits ∙ waits))
asked_step b Begins (inr (inr stored)) k = inr (inr (stored_step b Begins stored k))
asked_step b Rings (inl asked) k = inl (ring_word b b.owed ∙ asked.0, ring_sleeps b b.owed ∙ asked.1)
asked_step b Rings (inr (inl waits)) k = inr (inl (ring_word b b.owed ∙ waits))
asked_step b Rings (inr (inr stored)) k = inr (inr (stored_step b Rings stored k))

stored_steps : (b : Bell) (steps : List BellStep) → Stored b → AllByRecursion Keeps steps → Stored (bell_steps b steps)
stored_steps b [] h k = h
stored_steps b (step ∷ steps) h k = stored_steps (bell_step b step) steps (stored_step b step h k.0) k.1

asked_steps : (b : Bell) (steps : List BellStep) → Asked b → AllByRecursion Keeps steps → Asked (bell_steps b steps)
asked_steps b [] h k = h
asked_steps b (step ∷ steps) h k = asked_steps (bell_step b step) steps (asked_step b step h k.0) k.1

steps_both : (b : Bell) (one other : List BellStep) → bell_steps b (one ++ other) ≡ bell_steps (bell_steps b one) other
steps_both b [] other = refl
steps_both b (step ∷ one) other = steps_both (bell_step b step) one other

pub stored_ends_sleep : (b : Bell) (before after : List BellStep) → b.sleeps ≡ false → AllByRecursion Keeps before → AllByRecursion Keeps after
    → (bell_steps b (Listens ∷ before ++ Stores ∷ after)).sleeps ≡ true → HasRing (bell_steps b (Listens ∷ before ++ Stores ∷ after))
stored_ends_sleep b before after awake first then sleeps =
    let listening : Bell = bell_step b Listens in
    let asked : Asked (bell_steps listening before) = asked_steps listening before (inl (refl, awake)) first in
    let stored : Stored (bell_steps (bell_step (bell_steps listening before) Stores) after) =
    stored_steps (bell_step (bell_steps listening before) Stores) after (asked_stores (bell_steps listening before) asked) then in
    (subst Stored (sym (steps_both listening before (Stores ∷ after))) stored).1 sleeps
