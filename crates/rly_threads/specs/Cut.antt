-- A worker's clock, which its relay may stop early.
use Rattle.std.specs.Prelude.{◌&&◌, ◌||◌, not, Bool, List}
use Rattle.std.specs.List.{list_all, list_any}
use Rattle.rly_link.specs.LinkHistory.{Handed}

-- a tick, and whether the worker was stopped there
pub record Look : Type 0 where
  pub handed : Handed
  pub cut : Bool

-- the tick that the worker got: a stop if it was stopped there
abbrev pub handed_at : Look → Handed
handed_at l = (l.handed.0, l.handed.1, record l.handed.2 { on = l.handed.2.on && not l.cut })

-- whether it was stopped at one of them
abbrev pub was_cut : List Look → Bool
was_cut looks = list_any (λ l. l.cut) looks

-- whether its clock let it continue at each of them
abbrev pub all_on : List Look → Bool
all_on looks = list_all (λ l. l.handed.2.on) looks

-- whether its clock would have let it continue wherever it was stopped
abbrev pub is_cut_short : List Look → Bool
is_cut_short looks = list_all (λ l. not l.cut || l.handed.2.on) looks
