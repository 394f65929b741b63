-- A part of a hop's items.
use Rattle.std.proofs.Common.{ℕ, ◌≡◌, ◌+◌, ◌-◌, ◌<◌, ◌≤◌, List, length, drop, get_or, map, take, arith, sym, ap, ◌∙◌, true, Option, Some, None}
use Rattle.std.proofs.lemmas.List.{get_or-drop, get_or-take, length-drop, length-map, length-take}
use Rattle.std.proofs.lemmas.List.Sums.{get_or-le-sum_by, sum_by-take-drop, sum_by-take-le}
use Rattle.rly_core.specs.declared.ids.HopId.{HopId}
use Rattle.rly_core.specs.declared.params.Geometry.{Geometry}
use Rattle.rly_machine.specs.Kept.{hop_state}
use Rattle.rly_machine.specs.State.{HopState, State, bytes_of, has_hop, hop_at, live_line, new_hop}
use Rattle.rly_machine.specs.declared.hop.Hop.{Hop}
use Rattle.rly_machine.specs.declared.hop.Item.{Item}
use Rattle.rly_machine.proofs.Keeping.{read_hop}
use Rattle.rly_segment_checkpoint.specs.declared.stored.Stored.{Stored}
use Rattle.rly_reclaim.specs.Places.{bytes_in, live_in}
use Rattle.rly_journal_relocate.proofs.MovedPayloads.{hop_below}
use Rattle.rly_journal_index.specs.HelpersCounters.{IsPart, IsPartIfAny, items_of, part_in}
use Rattle.rly_journal_index.specs.declared.segment_counters.Part.{Part}

pub hop_read : (s : State Stored) (hop : HopId) (hops : List (Hop Stored)) (found : Hop Stored) → map hop_state hops ≡ s.hops → has_hop s hop ≡ true
    → found ≡ get_or hops (hop.0 - 1) found → hop_state found ≡ hop_at s hop
hop_read s hop hops found same there read =
    let view : Hop Stored → HopState Stored = hop_state in
    let below : hop.0 - 1 < length hops = omega (arith, hop_below s hop there, ap (λ (l : List (HopState Stored)). length l) same, length-map hops view) in
    read_hop hops (hop.0 - 1) found below read ∙ ap (λ (l : List (HopState Stored)). get_or l (hop.0 - 1) new_hop) same

-- the item at an index of a part
pub part_below : (line : List (Item Stored)) (from count i : ℕ) → i < count → from + count ≤ length line → i < length (take count (drop from line))
part_below line from count i below within = omega (arith, length-take count (drop from line), length-drop from line)

pub part_at : (line : List (Item Stored)) (from count i : ℕ) (item : Item Stored) → i < count → item ≡ get_or line (from + i) item
    → item ≡ get_or (take count (drop from line)) i item
part_at line from count i item below is = is ∙ sym (get_or-take count (drop from line) i item below ∙ get_or-drop from line i item)

pub part_item : (s : State Stored) (part : Part) (hops : List (Hop Stored)) (found : Hop Stored) (i : ℕ) (item : Item Stored) → IsPart s part
    → map hop_state hops ≡ s.hops → found ≡ get_or hops (part.hop.0 - 1) found → i < part.count → item ≡ get_or (live_line (hop_state found)) (part.from + i) item
    → (i < length (items_of s (Some part))) × (item ≡ get_or (items_of s (Some part)) i item)
part_item s part hops found i item is same read below at =
    let line : List (Item Stored) = live_line (hop_at s part.hop) in
    let here : item ≡ get_or line (part.from + i) item =
    at ∙ ap (λ (h : HopState Stored). get_or (live_line h) (part.from + i) item) (hop_read s part.hop hops found same is.there read) in
    (part_below line part.from part.count i below is.within, part_at line part.from part.count i item below here)

-- no part weighs more than all
pub part_least : (g : Geometry) (t : ℕ) (s : State Stored) (part : Option Part) → IsPartIfAny s part → part_in g t s part ≤ live_in g t s
part_least g t s None is = omega arith
part_least g t s (Some part) is =
    let w : Item Stored → ℕ = λ item. bytes_in g t item.payload in
    let all : HopState Stored → ℕ = λ h. bytes_of (bytes_in g t) (live_line h) in
    let line : List (Item Stored) = live_line (hop_at s part.hop) in
    omega (
      arith,
      sum_by-take-le w (drop part.from line) part.count,
      sum_by-take-drop w line part.from,
      get_or-le-sum_by all s.hops (part.hop.0 - 1) new_hop (hop_below s part.hop is.there),
    )
