-- Relocation: the content of one live item is replaced. Nothing else changes.
use Rattle.std.specs.Prelude.{ℕ, zero, suc, ◌-◌, nat_lt, if◌then◌else◌}
use Rattle.std.specs.Prelude.{List, [], ◌∷◌, length, map, slice_get, slice_set, Option}
use Rattle.rly_core.specs.declared.ids.HopId.{HopId}
use Rattle.rly_machine.specs.declared.hop.Item.{Item}
use Rattle.rly_machine.specs.State.{State, HopState, hop_at}

-- the value of a map at the payload of the item at an index, if there is one: its length, or the bytes that it refers
-- to
abbrev pub carried_at : {P Q : Type 0} → (P → Q) → List (Item P) → ℕ → Option Q
carried_at f items index = slice_get (map (λ item. f item.payload) items) index

-- items, with other content for the item at an index
abbrev pub with_payload : {P : Type 0} → List (Item P) → ℕ → P → List (Item P)
with_payload [] index payload = []
with_payload (item ∷ others) zero payload = record item { payload = payload } ∷ others
with_payload (item ∷ others) (suc index) payload = item ∷ with_payload others index payload

-- a hop, with other content for its live item at an index, which counts those in flight first
abbrev pub with_relocated : {P : Type 0} → HopState P → ℕ → P → HopState P
with_relocated h index payload =
    if nat_lt index (length h.flight)
    then record h { flight = with_payload h.flight index payload }
    else record h { queue = with_payload h.queue (index - length h.flight) payload }

-- a spool, with other content for one live item of a hop
abbrev pub state_with_relocated : {P : Type 0} → State P → HopId → ℕ → P → State P
state_with_relocated s hop index payload =
    record s { hops = slice_set s.hops (hop.0 - 1) (with_relocated (hop_at s hop) index payload) }
