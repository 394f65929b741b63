-- The warnings of one link more.
use Rattle.std.proofs.Common.{◌≡◌, ℕ, ◌+◌, ◌-◌, ◌<◌, List, ◌∷◌, ◌++◌, length, get_or, drop, take, find, append_assoc, arith, sym, ◌∙◌, ap}
use Rattle.std.specs.Str.{bytes_eq}
use Rattle.std.proofs.lemmas.List.{drop_more, length-drop, take_all}
use Rattle.rly_plan_show.specs.PlanWarnings.{Listening, same_listens, same_warning}
use Rattle.rly_plan_show.specs.declared.plan_warning.PlanWarning.{PlanWarning}

-- all that is left of a list from one on
pub all_after : (ls : List Listening) (k : ℕ) → take (length ls - k) (drop k ls) ≡ drop k ls
all_after ls k = take_all (length ls - k) (drop k ls) (omega (arith, length-drop k ls))

abbrev same_of : Listening → List Listening → List PlanWarning
same_of l later = same_warning l.place (find (λ (m : Listening). bytes_eq m.address l.address) later)

pub same_more : (old new all : List PlanWarning) (ls rest : List Listening) (i : ℕ) (l : Listening) → i < length ls → l ≡ get_or ls i l
    → rest ≡ drop (i + 1) ls → new ≡ old ++ same_of l rest → old ++ same_listens (drop i ls) ≡ all → new ++ same_listens (drop (i + 1) ls) ≡ all
same_more old new all ls rest i l within is after one before =
    let later = drop (i + 1) ls in
    ap (λ ws. ws ++ same_listens later) (one ∙ ap (λ ms. old ++ same_of l ms) after)
    ∙ append_assoc old (same_of l later) (same_listens later)
    ∙ ap (λ (m : Listening). old ++ same_listens (m ∷ later)) is
    ∙ ap (λ ms. old ++ same_listens ms) (sym (drop_more ls i l within))
    ∙ before
