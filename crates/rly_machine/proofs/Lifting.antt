-- A map that keeps the lengths of some payloads: over those payloads alone, each with its proof, it keeps all lengths.
-- So a law for maps that keep all lengths also holds for this one.
use Rattle.std.proofs.Common.{ℕ, ◌≡◌, ◌+◌, List, [], ◌∷◌, ◌++◌, length, map, arith, refl, sym, ap, subst, ◌∙◌, length-append}
use Rattle.std.specs.Prelude.{All}
use Rattle.std.specs.List.{flat_map}
use Rattle.std.proofs.lemmas.List.{map-append, get_or_append_left, get_or-append-add}
use Rattle.std.proofs.lemmas.List.Concat.{flat_map-cons}
use Rattle.std.proofs.lemmas.List.Elements.{All-append, All-cons, All-head, All-nil, All-tail}
use Rattle.rly_machine.specs.declared.command.Command.{Command}
use Rattle.rly_machine.specs.declared.command.Command.TheVariants.{Take, Pick, Release}
use Rattle.rly_machine.specs.declared.hop.Item.{Item}
use Rattle.rly_machine.specs.declared.reply.Reply.{Reply}
use Rattle.rly_machine.specs.Fold.{fold}
use Rattle.rly_machine.specs.Map.{map_item, map_hop, map_state, map_command, payloads_of, payload_of, KeepsLengths}
use Rattle.rly_machine.specs.State.{State, HopState, live_line}
use Rattle.rly_machine.specs.Step.{step}
use Rattle.rly_machine.proofs.Mapping.{mapped_step}

-- ---- two maps in order

items_twice : {P Q R : Type 0} (f : Q → R) (g : P → Q) (items : List (Item P))
    → map (map_item f) (map (map_item g) items) ≡ map (map_item (λ p. f (g p))) items
items_twice f g [] = refl
items_twice {P} {Q} {R} f g (item ∷ items) = ap (λ (rest : List (Item R)). map_item (λ p. f (g p)) item ∷ rest) (items_twice f g items)

hop_twice : {P Q R : Type 0} (f : Q → R) (g : P → Q) (h : HopState P)
    → map_hop f (map_hop g h) ≡ map_hop (λ p. f (g p)) h
hop_twice {P} {Q} {R} f g h =
    let with_lines : List (Item R) → List (Item R) → HopState R = λ queue flight. record (map_hop (λ p. f (g p)) h) { queue = queue; flight = flight } in
    ap (λ queue. with_lines queue (map (map_item f) (map (map_item g) h.flight))) (items_twice f g h.queue)
    ∙ ap (with_lines (map (map_item (λ p. f (g p))) h.queue)) (items_twice f g h.flight)

hops_twice : {P Q R : Type 0} (f : Q → R) (g : P → Q) (hops : List (HopState P))
    → map (map_hop f) (map (map_hop g) hops) ≡ map (map_hop (λ p. f (g p))) hops
hops_twice f g [] = refl
hops_twice {P} {Q} {R} f g (h ∷ hops) =
    ap (λ (x : HopState R). x ∷ map (map_hop f) (map (map_hop g) hops)) (hop_twice f g h)
    ∙ ap (λ (rest : List (HopState R)). map_hop (λ p. f (g p)) h ∷ rest) (hops_twice f g hops)

pub state_twice : {P Q R : Type 0} (f : Q → R) (g : P → Q) (s : State P)
    → map_state f (map_state g s) ≡ map_state (λ p. f (g p)) s
state_twice {P} {Q} {R} f g s = ap (λ (hops : List (HopState R)). let t : State R = record { params = s.params; hops = hops; lasts = s.lasts; seq = s.seq } in t) (hops_twice f g s.hops)

command_twice : {P Q R : Type 0} (f : Q → R) (g : P → Q) (command : Command P)
    → map_command f (map_command g command) ≡ map_command (λ p. f (g p)) command
command_twice f g (Take peer number hop stamp limit payload) = refl
command_twice f g (Pick hop now) = refl
command_twice f g (Release hop number) = refl

-- ---- payloads with a proof each

all_left : {A : Type 0} (T : A → Type 0) (xs ys : List A) → All T (xs ++ ys) → All T xs
all_left T xs ys all k d lt = subst T (get_or_append_left xs ys d k lt) (all k d (omega (arith, lt, length-append xs ys)))

all_right : {A : Type 0} (T : A → Type 0) (xs ys : List A) → All T (xs ++ ys) → All T ys
all_right T xs ys all k d lt = subst T (get_or-append-add xs ys k d) (all (length xs + k) d (omega (arith, lt, length-append xs ys)))

-- a payload with a known property
abbrev Known : (P : Type 0) → (P → Type 0) → Type 0
Known P T = (payload : P) × T payload

abbrev plain : {P : Type 0} (T : P → Type 0) → Known P T → P
plain T known = known.0

abbrev payloads : {P : Type 0} → List (Item P) → List P
payloads items = map (λ item. item.payload) items

lift_items : {P : Type 0} (T : P → Type 0) (items : List (Item P)) → All T (payloads items)
    → (known : List (Item (Known P T))) × (map (map_item (plain T)) known ≡ items)
lift_items T [] all = ([], refl)
lift_items {P} T (item ∷ items) all =
    let rest = lift_items T items (All-tail T item.payload (payloads items) all) in
    let first : Item (Known P T) = record { id = item.id; stamp = item.stamp; limit = item.limit; payload = (item.payload, All-head T item.payload (payloads items) all) } in
    (first ∷ rest.0, ap (λ (others : List (Item P)). item ∷ others) rest.1)

lift_hop : {P : Type 0} (T : P → Type 0) (h : HopState P) → All T (payloads (live_line h))
    → (known : HopState (Known P T)) × (map_hop (plain T) known ≡ h)
lift_hop {P} T h all =
    let name : Item P → P = λ item. item.payload in
    let parts = subst (All T) (map-append name h.flight h.queue) all in
    let flight = lift_items T h.flight (all_left T (payloads h.flight) (payloads h.queue) parts) in
    let queue = lift_items T h.queue (all_right T (payloads h.flight) (payloads h.queue) parts) in
    let with_lines : List (Item P) → List (Item P) → HopState P = λ queue flight. record h { queue = queue; flight = flight } in (
      record { queue = queue.0; flight = flight.0; codel = h.codel; moment = h.moment; taken = h.taken; dropped = h.dropped; expired = h.expired; released = h.released },
      ap (λ q. with_lines q (map (map_item (plain T)) flight.0)) queue.1 ∙ ap (with_lines h.queue) flight.1,
    )

abbrev of_hop : {P : Type 0} → HopState P → List P
of_hop h = payloads (live_line h)

lift_hops : {P : Type 0} (T : P → Type 0) (hops : List (HopState P)) → All T (flat_map of_hop hops)
    → (known : List (HopState (Known P T))) × (map (map_hop (plain T)) known ≡ hops)
lift_hops T [] all = ([], refl)
lift_hops {P} T (h ∷ hops) all =
    let parts = subst (All T) (flat_map-cons of_hop h hops) all in
    let first = lift_hop T h (all_left T (of_hop h) (flat_map of_hop hops) parts) in
    let rest = lift_hops T hops (all_right T (of_hop h) (flat_map of_hop hops) parts) in (
      first.0 ∷ rest.0,
      ap (λ (x : HopState P). x ∷ map (map_hop (plain T)) rest.0) first.1
          ∙ ap (λ (others : List (HopState P)). h ∷ others) rest.1,
    )

lift_state : {P : Type 0} (T : P → Type 0) (s : State P) → All T (payloads_of s)
    → (known : State (Known P T)) × (map_state (plain T) known ≡ s)
lift_state {P} T s all =
    let hops = lift_hops T s.hops all in (
      record { params = s.params; hops = hops.0; lasts = s.lasts; seq = s.seq },
      ap (λ (hs : List (HopState P)). let t : State P = record { params = s.params; hops = hs; lasts = s.lasts; seq = s.seq } in t) hops.1,
    )

lift_command : {P : Type 0} (T : P → Type 0) (command : Command P) → All T (payload_of command)
    → (known : Command (Known P T)) × (map_command (plain T) known ≡ command)
lift_command T (Take peer number hop stamp limit payload) all = (Take peer number hop stamp limit (payload, All-head T payload [] all), refl)
lift_command T (Pick hop now) all = (Pick hop now, refl)
lift_command T (Release hop number) all = (Release hop number, refl)

-- ---- and with a property of the payloads of a state that has them

known_items : {P : Type 0} (T : P → Type 0) (items : List (Item (Known P T)))
    → All T (payloads (map (map_item (plain T)) items))
known_items T [] = All-nil T
known_items {P} T (item ∷ items) = All-cons T item.payload.0 (payloads (map (map_item (plain T)) items)) item.payload.1 (known_items T items)

known_hop : {P : Type 0} (T : P → Type 0) (h : HopState (Known P T)) → All T (of_hop (map_hop (plain T) h))
known_hop {P} T h =
    let name : Item P → P = λ item. item.payload in
    let g = map_hop (plain T) h in
    subst (All T) (sym (map-append name g.flight g.queue)) (All-append T (payloads g.flight) (payloads g.queue) (known_items T h.flight) (known_items T h.queue))

known_hops : {P : Type 0} (T : P → Type 0) (hops : List (HopState (Known P T)))
    → All T (flat_map of_hop (map (map_hop (plain T)) hops))
known_hops T [] = All-nil T
known_hops {P} T (h ∷ hops) =
    let g = map_hop (plain T) h in
    let gs = map (map_hop (plain T)) hops in
    subst (All T) (sym (flat_map-cons of_hop g gs)) (All-append T (of_hop g) (flat_map of_hop gs) (known_hop T h) (known_hops T hops))

-- ---- the laws

-- one step, if each payload has its proof: the step without the proofs, and the step of the mapped payloads
step_known : {P Q : Type 0} (len : P → ℕ) (len' : Q → ℕ) (f : P → Q) (s : State (Known P (λ p. len' (f p) ≡ len p))) (command : Command (Known P (λ p. len' (f p) ≡ len p)))
    → let t : State P = map_state (λ known. known.0) s in let c : Command P = map_command (λ known. known.0) command in
    (step len' (map_state f t) (map_command f c) ≡ (map_state f (step len t c).0, (step len t c).1)) × KeepsLengths len len' f (payloads_of (step len t c).0)
step_known {P} {Q} len len' f s command =
    let T : P → Type 0 = λ p. len' (f p) ≡ len p in
    let len'' : Known P T → ℕ = λ known. len known.0 in
    let there : Known P T → Q = λ known. f known.0 in
    let after = step len'' s command in
    let plainly : step len (map_state (plain T) s) (map_command (plain T) command) ≡ (map_state (plain T) after.0, after.1) =
    mapped_step len'' len (plain T) (λ known. refl) s command in
    let mapped : step len' (map_state there s) (map_command there command) ≡ (map_state there after.0, after.1) =
    mapped_step len'' len' there (λ known. known.1) s command in (
      ap (λ (t : State Q). step len' t (map_command f (map_command (plain T) command))) (state_twice f (plain T) s)
          ∙ ap (λ (c : Command Q). step len' (map_state there s) c) (command_twice f (plain T) command)
          ∙ mapped
          ∙ ap (λ (t : State Q). let r : State Q × Reply = (t, after.1) in r) (sym (state_twice f (plain T) after.0))
          ∙ ap (λ (r : State P × Reply). let x : State Q × Reply = (map_state f r.0, r.1) in x) (sym plainly),
      subst (λ (r : State P × Reply). KeepsLengths len len' f (payloads_of r.0)) (sym plainly) (known_hops T after.0.hops),
    )

pub step_map : {P Q : Type 0} (len : P → ℕ) (len' : Q → ℕ) (f : P → Q) (s : State P) (command : Command P)
    → KeepsLengths len len' f (payloads_of s ++ payload_of command)
    → (step len' (map_state f s) (map_command f command) ≡ (map_state f (step len s command).0, (step len s command).1))
    × KeepsLengths len len' f (payloads_of (step len s command).0)
step_map {P} {Q} len len' f s command kept =
    let T : P → Type 0 = λ p. len' (f p) ≡ len p in
    let known = lift_state T s (all_left T (payloads_of s) (payload_of command) kept) in
    let brought = lift_command T command (all_right T (payloads_of s) (payload_of command) kept) in
    let R : State P → Command P → Type 0 = λ t c.
    (step len' (map_state f t) (map_command f c) ≡ (map_state f (step len t c).0, (step len t c).1)) × KeepsLengths len len' f (payloads_of (step len t c).0) in
    subst (R s) brought.1 (subst (λ (t : State P). R t (map_command (plain T) brought.0)) known.1 (step_known len len' f known.0 brought.0))

-- and so a list of commands
pub fold_map : {P Q : Type 0} (len : P → ℕ) (len' : Q → ℕ) (f : P → Q) (s : State P) (commands : List (Command P))
    → KeepsLengths len len' f (payloads_of s ++ flat_map payload_of commands)
    → fold len' (map_state f s) (map (map_command f) commands) ≡ map_state f (fold len s commands)
fold_map len len' f s [] kept = refl
fold_map {P} {Q} len len' f s (command ∷ commands) kept =
    let T : P → Type 0 = λ p. len' (f p) ≡ len p in
    let held = all_left T (payloads_of s) (flat_map payload_of (command ∷ commands)) kept in
    let brought = subst (All T) (flat_map-cons payload_of command commands) (all_right T (payloads_of s) (flat_map payload_of (command ∷ commands)) kept) in
    let first = all_left T (payload_of command) (flat_map payload_of commands) brought in
    let later = all_right T (payload_of command) (flat_map payload_of commands) brought in
    let one = step_map len len' f s command (All-append T (payloads_of s) (payload_of command) held first) in
    ap (λ (r : State Q × Reply). fold len' r.0 (map (map_command f) commands)) one.0
    ∙ fold_map len len' f (step len s command).0 commands (All-append T (payloads_of (step len s command).0) (flat_map payload_of commands) one.1 later)
