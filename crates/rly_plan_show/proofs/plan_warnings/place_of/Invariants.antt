use Rattle.std.proofs.Common.{◌≡◌, drop, find, option_map}
use Rattle.std.specs.Str.{bytes_eq}
use Rattle.rly_plan_show.specs.PlanWarnings.{Listening}
use Rattle.rly_plan_show.proofs.plan_warnings.place_of.Given as goal

-- the link is the first from here on
abbrev pub invariant-loop-listen : goal.invariant-loop-listen
invariant-loop-listen l =
    option_map (λ (m : Listening). m.place) (find (λ (m : Listening). bytes_eq m.address l.address) (drop l.listen-index l.listens))
    ≡ option_map (λ (m : Listening). m.place) (find (λ (m : Listening). bytes_eq m.address l.address) l.listens)
