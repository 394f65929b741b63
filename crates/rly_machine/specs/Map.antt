-- A state, and a command, with each payload replaced by its image under a map.
use Rattle.std.specs.Prelude.{◌≡◌, ℕ, List, [], ◌∷◌, map, All}
use Rattle.std.specs.List.{flat_map}
use Rattle.rly_machine.specs.declared.command.Command.{Command}
use Rattle.rly_machine.specs.declared.command.Command.TheVariants.{Take, Pick, Release}
use Rattle.rly_machine.specs.declared.hop.Item.{Item}
use Rattle.rly_machine.specs.State.{State, HopState, live_line}

abbrev pub map_item : {P Q : Type 0} → (P → Q) → Item P → Item Q
map_item f item = record { id = item.id; stamp = item.stamp; limit = item.limit; payload = f item.payload }

abbrev pub map_hop : {P Q : Type 0} → (P → Q) → HopState P → HopState Q
map_hop f h = record {
  queue = map (map_item f) h.queue;
  flight = map (map_item f) h.flight;
  codel = h.codel;
  moment = h.moment;
  taken = h.taken;
  dropped = h.dropped;
  expired = h.expired;
  released = h.released;
}

abbrev pub map_state : {P Q : Type 0} → (P → Q) → State P → State Q
map_state f s = record { params = s.params; hops = map (map_hop f) s.hops; lasts = s.lasts; seq = s.seq }

abbrev pub map_command : {P Q : Type 0} → (P → Q) → Command P → Command Q
map_command f (Take peer number hop stamp limit payload) = Take peer number hop stamp limit (f payload)
map_command f (Pick hop now) = Pick hop now
map_command f (Release hop number) = Release hop number

-- the payloads of a state, hop by hop, and the payload of a command
abbrev pub payloads_of : {P : Type 0} → State P → List P
payloads_of s = flat_map (λ h. map (λ item. item.payload) (live_line h)) s.hops

abbrev pub payload_of : {P : Type 0} → Command P → List P
payload_of (Take peer number hop stamp limit payload) = payload ∷ []
payload_of (Pick hop now) = []
payload_of (Release hop number) = []

-- a map keeps the lengths of these payloads; it may change other lengths
abbrev pub KeepsLengths : {P Q : Type 0} → (P → ℕ) → (Q → ℕ) → (P → Q) → List P → Type 0
KeepsLengths len len' f payloads = All (λ payload. len' (f payload) ≡ len payload) payloads
