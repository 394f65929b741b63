-- The stretches in which two plans differ, one more.
use Rattle.std.proofs.Common.{◌≡◌, ℕ, zero, suc, ◌+◌, ◌*◌, ◌-◌, ◌<◌, ◌≤◌, Bool, List, [], ◌++◌, length, Some, None, append_assoc, arith, refl, sym, ap, ◌∙◌}
use Rattle.std.proofs.lemmas.List.{append-nil}
use Rattle.rly_plan.specs.LinkClock.{lies_in_any}
use Rattle.rly_plan.specs.declared.contacts.Contact.{Contact}
use Rattle.rly_plan_syntax.specs.declared.key_path.KeyPath.{KeyPath}
use Rattle.rly_plan_syntax.specs.declared.key_path.PlanKey.TheVariants as key
use Rattle.rly_plan_syntax.specs.declared.key_path.Row.TheVariants as row
use Rattle.rly_plan_changes.specs.PlanChanges.{at_key, contact_changes, next_change, number_change, stretch_line, stretches, stretches_then}

none_then : (number : ℕ) (old new : List Contact) (n from : ℕ) → None ≡ next_change old new from → stretches number old new n from ≡ []
unfolding stretches
none_then number old new zero from none = refl
none_then number old new (suc n) from none = ap (stretches_then number old new from (stretches number old new n)) (sym none)

one_then : (number : ℕ) (old new : List Contact) (n from until : ℕ) → Some until ≡ next_change old new from
    → stretches number old new (suc n) from ≡ stretch_line number (lies_in_any old from) (lies_in_any new from) from until ++ stretches number old new n until
unfolding stretches
one_then number old new n from until next = ap (stretches_then number old new from (stretches number old new n)) (sym next)

pub begun : (text first : List ℕ) (number : ℕ) (old new : List Contact) (place : KeyPath) (count others : ℕ)
    → place ≡ at_key row.Hop number key.Contacts → count ≡ length old → others ≡ length new
    → first ≡ text ++ number_change place (Some count) (Some others)
    → first ++ stretches number old new ((length old + length new) * 2 - 0) 0 ≡ text ++ contact_changes number old new
begun text first number old new place count others at one other written =
    let all : (length old + length new) * 2 - 0 ≡ (length old + length new) * 2 = omega arith in
    ap (λ n. first ++ stretches number old new n 0) all ∙
    let same : first ≡ text ++ number_change (at_key row.Hop number key.Contacts) (Some (length old)) (Some (length new)) = rw (at, one, other) at written in
    ap (λ t. t ++ stretches number old new ((length old + length new) * 2) 0) same
    ∙ append_assoc text (number_change (at_key row.Hop number key.Contacts) (Some (length old)) (Some (length new))) (stretches number old new ((length old + length new) * 2) 0)

pub more : (text now all : List ℕ) (number : ℕ) (old new : List Contact) (m i from until : ℕ) (one other : Bool) → i < m → Some until ≡ next_change old new from
    → one ≡ lies_in_any old from → other ≡ lies_in_any new from → now ≡ text ++ stretch_line number one other from until
    → text ++ stretches number old new (m - i) from ≡ all → now ++ stretches number old new (m - (i + 1)) until ≡ all
more text now all number old new m i from until one other within next first second line before =
    let left : m - i ≡ suc (m - (i + 1)) = omega (arith, within) in
    let rest = stretches number old new (m - (i + 1)) until in
    let here = stretch_line number (lies_in_any old from) (lies_in_any new from) from until in
    let written : now ≡ text ++ here = rw (first, second) at line in
    ap (λ t. t ++ rest) written ∙ append_assoc text here rest
    ∙ ap (λ s. text ++ s) (sym (ap (λ n. stretches number old new n from) left ∙ one_then number old new (m - (i + 1)) from until next))
    ∙ before

pub ended : (text all : List ℕ) (number : ℕ) (old new : List Contact) (n from : ℕ) → None ≡ next_change old new from
    → text ++ stretches number old new n from ≡ all → text ≡ all
ended text all number old new n from none before =
    sym (ap (λ s. text ++ s) (none_then number old new n from none) ∙ append-nil text) ∙ before

pub run_out : (text all : List ℕ) (number : ℕ) (old new : List Contact) (m i from : ℕ) → m ≤ i
    → text ++ stretches number old new (m - i) from ≡ all → text ≡ all
unfolding stretches
run_out text all number old new m i from past before =
    let left : m - i ≡ 0 = omega (arith, past) in
    sym (ap (λ n. text ++ stretches number old new n from) left ∙ append-nil text) ∙ before
