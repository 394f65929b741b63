-- The stations of one number, and one station more.
use Rattle.std.proofs.Common.{◌≡◌, ℕ, ◌+◌, ◌-◌, ◌<◌, List, ◌∷◌, ◌++◌, length, get_or, drop, take, append_assoc, arith, sym, ◌∙◌, ap}
use Rattle.std.proofs.lemmas.List.{drop_more, length-drop, take_all}
use Rattle.rly_network.specs.Check.{same_station, same_stations}
use Rattle.rly_network.specs.declared.disagreement.Disagreement.{Disagreement}
use Rattle.rly_network.specs.declared.station_plan.StationPlan.{StationPlan}

-- all that is left of a list from one on
pub all_after : (ss : List StationPlan) (k : ℕ) → take (length ss - k) (drop k ss) ≡ drop k ss
all_after ss k = take_all (length ss - k) (drop k ss) (omega (arith, length-drop k ss))

pub same_more : (old new all : List Disagreement) (ss rest : List StationPlan) (i : ℕ) (s : StationPlan) → i < length ss → s ≡ get_or ss i s
    → rest ≡ drop (i + 1) ss → new ≡ old ++ same_station s rest → old ++ same_stations (drop i ss) ≡ all → new ++ same_stations (drop (i + 1) ss) ≡ all
same_more old new all ss rest i s within is after one before =
    let later = drop (i + 1) ss in
    ap (λ ds. ds ++ same_stations later) (one ∙ ap (λ ts. old ++ same_station s ts) after)
    ∙ append_assoc old (same_station s later) (same_stations later)
    ∙ ap (λ (t : StationPlan). old ++ same_stations (t ∷ later)) is
    ∙ ap (λ ts. old ++ same_stations ts) (sym (drop_more ss i s within))
    ∙ before
