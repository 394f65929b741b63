-- The ids of neighbours, and what keeps their meaning (docs/NETWORK.md, "Ids").
use Rattle.std.specs.Prelude.{ℕ, ◌==◌, Bool, not, ◌&&◌, ◌||◌, List, map}
use Rattle.std.specs.List.{list_all, list_any, starts_with}
use Rattle.rly_plan.specs.Passes.{repeats}

-- the neighbours of a station in the order of their ids, which count from 1
pub record Neighbours : Type 0 where
  pub number : ℕ
  pub peers : List ℕ
  pub hops : List ℕ

-- each id that the station had means the same neighbour: its ids begin with those that it had before
abbrev pub begins : (after before : Neighbours) → Bool
begins after before =
    (after.number == before.number)
    && (starts_with (λ a b. a == b) after.peers before.peers && starts_with (λ a b. a == b) after.hops before.hops)

abbrev pub is_kept : List Neighbours → Neighbours → Bool
is_kept after before = list_any (λ a. begins a before) after

abbrev pub keeps : (before after : List Neighbours) → Bool
keeps before after = list_all (is_kept after) before

-- no station is there twice, and no neighbour of a station has two ids
abbrev pub rows_repeat : List Neighbours → Bool
rows_repeat stations = list_any (λ s. repeats s.peers || repeats s.hops) stations

abbrev pub are_distinct : List Neighbours → Bool
are_distinct stations = not (repeats (map (λ s. s.number) stations)) && not (rows_repeat stations)
