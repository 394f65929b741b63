-- The way of a datagram, and one station more.
use Rattle.std.proofs.Common.{◌≡◌, ℕ, suc, ◌+◌, ◌-◌, ◌<◌, List, length, Option, Ok, sym, ap, ◌∙◌, arith}
use Rattle.rly_core.specs.declared.ids.HopId.{HopId}
use Rattle.rly_network.specs.Paths.{onward, trouble_of, trouble_then}
use Rattle.rly_network.specs.declared.disagreement.Trouble.{Trouble}
use Rattle.rly_network.specs.declared.station_plan.StationPlan.{StationPlan}

pub step_more : (stations : List StationPlan) (to : Option ℕ) (i : ℕ) (at next : StationPlan) (hop later : HopId) (all : Option Trouble) → i < length stations
    → onward stations to at hop ≡ Ok (next, later) → trouble_of stations to (length stations - i) at hop ≡ all
    → trouble_of stations to (length stations - (i + 1)) next later ≡ all
step_more stations to i at next hop later all within on before =
    let left : length stations - i ≡ suc (length stations - (i + 1)) = omega (arith, within) in
    sym (ap (trouble_then (trouble_of stations to (length stations - (i + 1)))) on)
    ∙ sym (ap (λ n. trouble_of stations to n at hop) left)
    ∙ before
