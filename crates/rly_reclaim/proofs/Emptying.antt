-- Segments without live bytes.
use Rattle.std.proofs.Common.{ℕ, suc, ◌≡◌, ◌≢◌, ◌+◌, ◌*◌, ◌-◌, ◌/◌, ◌<◌, ◌≤◌, Bool, cond, List, [], ◌∷◌, get_or, map, arith, rules, refl, sym, ap, ◌∙◌, sum_by}
use Rattle.std.specs.Prelude.{All}
use Rattle.std.specs.List.{flat_map}
use Rattle.std.proofs.lemmas.Bool.{eq-eqb}
use Rattle.std.proofs.lemmas.List.Elements.{All-append, All-head, All-tail}
use Rattle.std.proofs.lemmas.List.Sums.{get_or-le-sum_by, sum_by-append, sum_by-cons}
use Rattle.std.proofs.lemmas.Nat.{div_below, le-div}
use Rattle.rly_core.specs.declared.params.Geometry.{Geometry}
use Rattle.rly_machine.specs.declared.hop.Item.{Item}
use Rattle.rly_machine.specs.Map.{payload_of, payloads_of}
use Rattle.rly_machine.specs.State.{State, HopState, bytes_of, live_bytes, live_line}
use Rattle.rly_machine.specs.Step.{step}
use Rattle.rly_machine.specs.declared.command.Command.{Command}
use Rattle.rly_machine.proofs.Lifting.{step_map}
use Rattle.rly_machine.proofs.Mapping.{sum_mapped}
use Rattle.rly_segment_checkpoint.specs.Stored.{IsStorable, stored_length}
use Rattle.rly_segment_checkpoint.specs.declared.head_form.HeadForm.{HeadForm}
use Rattle.rly_segment_checkpoint.specs.declared.stored.Stored.{Stored}
use Rattle.rly_segment_checkpoint.specs.declared.stored.Stored.TheVariants.{Inline, Placed}
use Rattle.rly_reclaim.specs.SegmentChoice.{MayOpen}
use Rattle.rly_reclaim.specs.Places.{LiesNotIn, bytes_in, live_by_segment, live_in, segment_of}
use Rattle.rly_reclaim.proofs.LiveRooms.{live_at, live_length}

-- a sum over a state's payloads is one over their list
pub names_sum : {P : Type 0} (w : P → ℕ) (items : List (Item P)) → sum_by w (map (λ item. item.payload) items) ≡ bytes_of w items
names_sum {P} w items = sum_mapped (λ (item : Item P). w item.payload) w (λ (item : Item P). item.payload) (λ item. refl) items

hops_sum : {P : Type 0} (w : P → ℕ) (hops : List (HopState P))
    → sum_by w (flat_map (λ h. map (λ item. item.payload) (live_line h)) hops) ≡ sum_by (λ h. bytes_of w (live_line h)) hops
hops_sum w [] = refl
hops_sum {P} w (h ∷ hops) =
    let all : HopState P → List P = λ x. map (λ item. item.payload) (live_line x) in
    omega (
      arith,
      sum_by-append w (all h) (flat_map all hops),
      names_sum w (live_line h),
      hops_sum w hops,
      sum_by-cons (λ (x : HopState P). bytes_of w (live_line x)) h hops,
    )

pub payloads_sum : {P : Type 0} (w : P → ℕ) (s : State P) → sum_by w (payloads_of s) ≡ live_bytes w s
payloads_sum w s = hops_sum w s.hops

-- a sum of zeros is zero
pub none_each : {X : Type 0} (w : X → ℕ) (xs : List X) → sum_by w xs ≡ 0 → All (λ x. w x ≡ 0) xs
none_each w xs none = λ k d below. omega (arith, none, get_or-le-sum_by w xs k d below)

pub each_none : {X : Type 0} (w : X → ℕ) (xs : List X) → All (λ x. w x ≡ 0) xs → sum_by w xs ≡ 0
each_none w [] all = refl
each_none {X} w (x ∷ xs) all =
    let none : X → Type 0 = λ y. w y ≡ 0 in
    let here : w x ≡ 0 = All-head none x xs all in
    omega (arith, here, sum_by-cons w x xs, each_none w xs (All-tail none x xs all))

-- a step brings no byte into a segment if its command doesn't
pub stays_empty : (g : Geometry) (segment : ℕ) (s : State Stored) (command : Command Stored) → live_in g segment s ≡ 0
    → All (λ payload. bytes_in g segment payload ≡ 0) (payload_of command) → live_in g segment (step stored_length s command).0 ≡ 0
stays_empty g segment s command none brought =
    let w : Stored → ℕ = bytes_in g segment in
    let more : Stored → ℕ = λ p. stored_length p + w p in
    let same : Stored → Type 0 = λ p. more p ≡ stored_length p in
    let held : All same (payloads_of s) = λ k d below. omega (arith, none_each w (payloads_of s) (payloads_sum w s ∙ none) k d below) in
    let new : All same (payload_of command) = λ k d below. omega (arith, brought k d below) in
    let kept = (step_map stored_length (λ (n : ℕ). n) more s command (All-append same (payloads_of s) (payload_of command) held new)).1 in
    let after = (step stored_length s command).0 in
    sym (payloads_sum w after) ∙ each_none w (payloads_of after) (λ k d below. omega (arith, kept k d below))

suc_times : (n m : ℕ) → suc n * m ≡ m + n * m
suc_times n m = search rules

-- the segment that a device address lies in
pub in_segment : (g : Geometry) (segment start : ℕ) → segment * g.length ≤ start → start < segment * g.length + g.length → start / g.length ≡ segment
in_segment g segment start from to =
    let some : 0 < g.length = omega (arith, from, to) in
    let below : start / g.length < suc segment = div_below start g.length (suc segment) some (omega (arith, to, suc_times segment g.length)) in
    omega (arith, below, le-div segment start g.length some from)

one_lies_not : (which : HeadForm) (g : Geometry) (segment : ℕ) (p : Stored) → IsStorable which p → bytes_in g segment p ≡ 0 → LiesNotIn g segment p
one_lies_not which g segment (Inline payload) storable none = tt
one_lies_not which g segment (Placed place) storable none = λ lies.
    let here : segment_of g place.start ≡ segment =
    in_segment g segment (place.start - 64) (omega (arith, lies.from)) (omega (arith, lies.from, lies.to, storable.1)) in
    let all : bytes_in g segment (Placed place) ≡ place.length = ap (λ (b : Bool). cond b place.length 0) (eq-eqb (segment_of g place.start) segment here) in
    omega (arith, none, all, storable.1)

pub none_lies : (which : HeadForm) (g : Geometry) (segment : ℕ) (s : State Stored) → All (IsStorable which) (payloads_of s)
    → live_in g segment s ≡ 0 → All (LiesNotIn g segment) (payloads_of s)
none_lies which g segment s storable none = λ k d below.
    one_lies_not which g segment (get_or (payloads_of s) k d) (storable k d below)
    (none_each (bytes_in g segment) (payloads_of s) (payloads_sum (bytes_in g segment) s ∙ none) k d below)

pub may_open : (g : Geometry) (current segment : ℕ) (s : State Stored) → segment < g.segments → segment ≢ current
    → live_in g segment s ≡ 0 → MayOpen (live_by_segment g s) current segment
may_open g current segment s below other none = record {
  there = omega (arith, below, live_length g s);
  other = other;
  empty = live_at g s segment below ∙ none;
}
