-- The next change of a link, by its contacts in order.
use Rattle.std.proofs.Common.{◌≡◌, ℕ, zero, suc, ◌<◌, ◌≤◌, Bool, true, false, not, List, [], ◌∷◌, Option, Some, None, option_map, refl, sym, ◌∙◌, ap, arith, le-ltb, lt-ltb, le-leb, eq-eqb, inl, inr}
use Rattle.std.specs.Prelude.{IfSome, unwrap_or}
use Rattle.std.specs.List.{All, AllPairs}
use Rattle.std.proofs.lemmas.Bool.{cases_eq, cases_lt, lt-leb, ne_eqb}
use Rattle.rly_core.specs.declared.limits.TheConstants.{MOMENT_LIMIT}
use Rattle.rly_plan.specs.declared.contacts.Contact.{Contact}
use Rattle.rly_plan.specs.declared.contacts.Summed.{Summed}
use Rattle.rly_plan.specs.Changes.{IsNextChange, change_after, closing_after}
use Rattle.rly_plan.specs.HelpersContacts.{AreSummed, contacts_in}
use Rattle.rly_plan.specs.LinkClock.{lies_in, lies_in_any}
use Rattle.rly_core.specs.declared.ids.HopId.{HopId}
use Rattle.rly_plan.specs.ContactPlan.{ContactPlan, at_number, is_open, next_change}
use Rattle.rly_plan.specs.Sound.{AreInOrder, IsSoundNeighbour, IsSoundPlan}
use Rattle.rly_plan.specs.declared.plan.NextHop.{NextHop}

-- contacts that last, each of which begins when those before it have ended, and none before the front
abbrev pub Follow : ℕ → List Contact → Type 0
Follow front [] = Unit {0}
Follow front (c ∷ cs) = (front ≤ c.begin) × (c.begin < c.end) × Follow c.end cs

pub follow_of : (front : ℕ) (cs : List Contact) → All (λ c. (c.begin < c.end) × (c.end < MOMENT_LIMIT)) cs → AllPairs (λ c d. c.end ≤ d.begin) cs
    → All (λ c. front ≤ c.begin) cs → Follow front cs
follow_of front [] lasting apart behind = tt
follow_of front (c ∷ cs) lasting apart behind = (
  behind 0 c (omega arith),
  (lasting 0 c (omega arith)).0,
  follow_of c.end cs (λ i d within. lasting (suc i) d (omega arith)) (λ i j d order within. apart (suc i) (suc j) d (omega arith) (omega arith))
      (λ j d within. apart 0 (suc j) d (omega arith) (omega arith)),
)

-- before, in and after the first contact
before_it : (c : Contact) (u : ℕ) → u < c.begin → lies_in u c ≡ false
before_it c u early = rw (lt-leb c.begin u early)

within_it : (c : Contact) (u : ℕ) → c.begin ≤ u → u < c.end → lies_in u c ≡ true
within_it c u begun inside = rw (le-leb c.begin u begun, lt-ltb u c.end inside)

behind_it : (c : Contact) (u : ℕ) → c.begin ≤ u → c.end ≤ u → lies_in u c ≡ false
behind_it c u begun ended = rw (le-leb c.begin u begun, le-ltb u c.end ended)

-- no contact is open before the front
closed_until : (front : ℕ) (cs : List Contact) (u : ℕ) → Follow front cs → u < front → lies_in_any cs u ≡ false
closed_until front [] u kept early = refl
closed_until front (c ∷ cs) u kept early =
    let before : u < c.begin = omega (arith, kept.0) in
    rw (before_it c u before) (closed_until c.end cs u kept.2 (omega (arith, kept.1)))

-- up to its closing a link stays open, and then it is closed
pub record Closes (end close : ℕ) (cs : List Contact) : Type 0 where
  pub behind : end ≤ close
  pub closed : lies_in_any cs close ≡ false
  pub stays : (u : ℕ) → end ≤ u → u < close → lies_in_any cs u ≡ true

closing : (end : ℕ) (cs : List Contact) → Follow end cs → Closes end (closing_after end cs) cs
closing end [] kept = record { behind = omega arith; closed = refl; stays = λ u from below. absurd (omega arith) }
closing end (c ∷ cs) kept =
    elim (cases_eq c.begin end) [
      | inl same ↦
          let rest = closing c.end cs kept.2 in
          let taken : closing_after end (c ∷ cs) ≡ closing_after c.end cs = rw (eq-eqb c.begin end same) in
          rw taken (record {
            behind = omega (arith, kept.0, kept.1, rest.behind);
            closed = rw (behind_it c (closing_after c.end cs) (omega (arith, kept.1, rest.behind)) rest.behind) rest.closed;
            stays = λ u from below. elim (cases_lt u c.end) [
              | inl inside ↦ rw (within_it c u (omega (arith, same)) inside)
              | inr after ↦ rw (behind_it c u (omega (arith, same)) after) (rest.stays u after below)
            ];
          })
      | inr other ↦
          let stays : closing_after end (c ∷ cs) ≡ end = rw (ne_eqb c.begin end other) in
          rw stays (record {
            behind = omega arith;
            closed = rw (before_it c end (omega (arith, kept.0, other))) (closed_until c.end cs end kept.2 (omega (arith, kept.0, kept.1)));
            stays = λ u from below. absurd (omega arith);
          })
    ]

-- a change is also one of any other link that is open at the same moments from then on
same_change : (f g : ℕ → Bool) (m : ℕ) (o : Option ℕ) → ((u : ℕ) → m ≤ u → f u ≡ g u) → IsNextChange g m o → IsNextChange f m o
same_change f g m None same is = λ u from. same u from ∙ is u from ∙ sym (same m (omega arith))
same_change f g m (Some t) same is = (
  is.0,
  same t (omega (arith, is.0)) ∙ is.1 ∙ ap not (sym (same m (omega arith))),
  λ u from below. same u from ∙ is.2 u from below ∙ sym (same m (omega arith)),
)

pub change_is : (front : ℕ) (cs : List Contact) (m : ℕ) → Follow front cs → IsNextChange (lies_in_any cs) m (change_after cs m)
change_is front [] m kept = λ u from. refl
change_is front (c ∷ cs) m kept =
    elim (cases_lt m c.begin) [
      | inl early ↦
          let closed : (u : ℕ) → u < c.begin → lies_in_any (c ∷ cs) u ≡ false = λ u before. rw (before_it c u before) (closed_until c.end cs u kept.2 (omega (arith, kept.1))) in
          let opens : lies_in_any (c ∷ cs) c.begin ≡ true = rw (within_it c c.begin (omega arith) kept.1) in
          rw (lt-ltb m c.begin early) (early, opens ∙ ap not (sym (closed m early)), λ u from below. closed u below ∙ sym (closed m early))
      | inr begun ↦ elim (cases_lt m c.end) [
        | inl inside ↦
            let rest = closing c.end cs kept.2 in
            let close = closing_after c.end cs in
            let here : lies_in_any (c ∷ cs) m ≡ true = rw (within_it c m begun inside) in
            let closes : lies_in_any (c ∷ cs) close ≡ false = rw (behind_it c close (omega (arith, kept.1, rest.behind)) rest.behind) rest.closed in
            let stays : (u : ℕ) → m ≤ u → u < close → lies_in_any (c ∷ cs) u ≡ true =
            λ u from below. elim (cases_lt u c.end) [
              | inl within ↦ rw (within_it c u (omega (arith, begun)) within)
              | inr after ↦ rw (behind_it c u (omega (arith, begun)) after) (rest.stays u after below)
            ] in
            rw (le-ltb m c.begin begun, lt-ltb m c.end inside)
            (omega (arith, inside, rest.behind), closes ∙ ap not (sym here), λ u from below. stays u from below ∙ sym here)
        | inr after ↦
            let same : (u : ℕ) → m ≤ u → lies_in_any (c ∷ cs) u ≡ lies_in_any cs u = λ u from. rw (behind_it c u (omega (arith, begun)) (omega (arith, after))) in
            rw (le-ltb m c.begin begun, le-ltb m c.end after)
            (same_change (lies_in_any (c ∷ cs)) (lies_in_any cs) m (change_after cs m) same (change_is c.end cs m kept.2))
      ]
    ]

-- ---- below the limit

closing_bounded : (front sum end : ℕ) (es : List Summed) → AreSummed front sum es → end < MOMENT_LIMIT → closing_after end (contacts_in es) < MOMENT_LIMIT
closing_bounded front sum end [] kept below = below
closing_bounded front sum end (e ∷ es) kept below =
    elim (cases_eq e.contact.begin end) [
      | inl same ↦ rw (eq-eqb e.contact.begin end same) (closing_bounded e.contact.end _ e.contact.end es kept.4 kept.2)
      | inr other ↦ rw (ne_eqb e.contact.begin end other) below
    ]

pub change_bounded : (front sum : ℕ) (es : List Summed) (m : ℕ) → AreSummed front sum es → IfSome (change_after (contacts_in es) m) (λ t. t < MOMENT_LIMIT)
change_bounded front sum [] m kept = tt
change_bounded front sum (e ∷ es) m kept =
    elim (cases_lt m e.contact.begin) [
      | inl early ↦ rw (lt-ltb m e.contact.begin early) (omega (arith, kept.1, kept.2))
      | inr begun ↦ elim (cases_lt m e.contact.end) [
        | inl inside ↦ rw (le-ltb m e.contact.begin begun, lt-ltb m e.contact.end inside) (closing_bounded e.contact.end _ e.contact.end es kept.4 kept.2)
        | inr after ↦ rw (le-ltb m e.contact.begin begun, le-ltb m e.contact.end after) (change_bounded e.contact.end _ es m kept.4)
      ]
    ]

-- ---- of a plan

at_either : (plan : ContactPlan) (o : Option NextHop) (m : ℕ) → IfSome o (λ h. AreInOrder h.contacts)
    → IsNextChange (lies_in_any (unwrap_or (option_map (λ h. h.contacts) o) [])) m (change_after (unwrap_or (option_map (λ h. h.contacts) o) []) m)
at_either plan None m kept = λ u from. refl
at_either plan (Some h) m kept = change_is 0 h.contacts m (follow_of 0 h.contacts kept.lasting kept.apart (λ i d within. omega arith))

nth_is : (hops : List NextHop) (n : ℕ) → All (λ h. IsSoundNeighbour h.neighbour × AreInOrder h.contacts) hops → IfSome (at_number hops n) (λ h. AreInOrder h.contacts)
nth_is hops zero sound = tt
nth_is [] (suc n) sound = tt
nth_is (h ∷ hops) (suc zero) sound = (sound 0 h (omega arith)).1
nth_is (h ∷ hops) (suc (suc n)) sound = nth_is hops (suc n) (λ i d within. sound (suc i) d (omega arith))

pub next_change_is : (plan : ContactPlan) (hop : HopId) (m : ℕ) → IsSoundPlan plan → IsNextChange (is_open plan hop) m (next_change plan hop m)
next_change_is plan hop m sound = at_either plan (at_number plan.hops hop.0) m (nth_is plan.hops hop.0 sound.hops)
