-- The counters of live bytes, from step to step.
use Rattle.std.proofs.Common.{ℕ, ◌≡◌, ◌≢◌, ◌+◌, ◌-◌, ◌<◌, ◌≤◌, List, [], ◌∷◌, length, get_or, map, set, take, arith, refl, sym, ap, subst, ◌∙◌, sum_by, slice_index, true, false, Option, inl, inr}
use Rattle.std.specs.Prelude.{All}
use Rattle.std.proofs.lemmas.Bool.{cases_eq}
use Rattle.std.proofs.lemmas.List.{ext_get_or, get_or-set_other, get_or-set_same, get_or-take, length-set, length-take-le}
use Rattle.std.proofs.lemmas.List.Elements.{All-head, All-tail, All-weaker}
use Rattle.std.proofs.lemmas.List.Sums.{sum_by-cons}
use Rattle.rly_core.specs.declared.params.Geometry.{Geometry}
use Rattle.rly_machine.specs.Accepted.{is_accepted}
use Rattle.rly_machine.specs.Map.{payload_of}
use Rattle.rly_machine.specs.State.{State}
use Rattle.rly_machine.specs.Step.{step}
use Rattle.rly_machine.specs.declared.command.Command.{Command}
use Rattle.rly_machine.proofs.Folding.{params_step}
use Rattle.rly_machine.proofs.RealReplies.{unaccepted}
use Rattle.rly_segment_checkpoint.specs.Stored.{stored_form, stored_length, stored_spelled}
use Rattle.rly_segment_checkpoint.specs.declared.head_form.HeadForm.{HeadForm}
use Rattle.rly_segment_checkpoint.specs.declared.stored.Stored.{Stored}
use Rattle.rly_segment_checkpoint.specs.declared.stored.Stored.TheVariants.{Inline, Placed}
use Rattle.rly_reclaim.specs.RemovedPayloads.{removed_payloads}
use Rattle.rly_reclaim.specs.Places.{bytes_in, live_by_segment, live_in}
use Rattle.rly_reclaim.specs.Placed.{IsPlaced}
use Rattle.rly_reclaim.specs.LiveRoom.{collected_state}
use Rattle.rly_reclaim.proofs.Emptying.{in_segment, names_sum}
use Rattle.rly_reclaim.proofs.RemovedPayloads.{leaves_sum}
use Rattle.rly_reclaim.proofs.LiveRooms.{live_at, live_length}
use Rattle.rly_segment.specs.Device.{IsLayout, device_length}
use Rattle.rly_segment.specs.Heads.{IsHeadOf, gate_after, segment_end, segment_place}
use Rattle.rly_segment.specs.HeadAddresses.{state_in_head}
use Rattle.rly_journal_relocate.specs.Relocation.{MayMove, relocated_state, zeros_at}
use Rattle.rly_journal_relocate.proofs.Moves.{moved_others, moved_target, moved_victim}
use Rattle.rly_journal_index.specs.IndexRelation.{IsBrought, LiesBetween}
use Rattle.rly_journal_index.proofs.Lying.{all_there, between_other}
use Rattle.rly_journal_index.proofs.Opened.{begun, opened}
use Rattle.rly_journal_index.proofs.Stepping.{commanded}
use Rattle.rly_journal_index.specs.HelpersCounters.{KeepsIndex, items_of, part_in}
use Rattle.rly_journal_index.specs.declared.segment_counters.Part.{Part}

-- ---- one counter, and all of them

pub counter_is : (g : Geometry) (s : State Stored) (live : List ℕ) (t : ℕ) → take g.segments live ≡ live_by_segment g s → t < g.segments
    → slice_index live t ≡ live_in g t s
counter_is g s live t same below =
    sym (get_or-take g.segments live t 0 below) ∙ ap (λ (l : List ℕ). get_or l t 0) same ∙ live_at g s t below

pub counters_are : (g : Geometry) (s : State Stored) (live : List ℕ) → g.segments ≤ length live
    → ((t : ℕ) → t < g.segments → slice_index live t ≡ live_in g t s) → take g.segments live ≡ live_by_segment g s
counters_are g s live long each =
    let size : length (take g.segments live) ≡ g.segments = length-take-le g.segments live long in
    ext_get_or 0 (take g.segments live) (live_by_segment g s) (size ∙ sym (live_length g s))
    (λ t lt.
    let below : t < g.segments = omega (arith, lt, size) in
    get_or-take g.segments live t 0 below ∙ each t below ∙ sym (live_at g s t below))

-- ---- the payload of a command

one_here : (g : Geometry) (segment used next : ℕ) → segment_place g segment ≤ used → next ≤ segment_end g segment → (p : Stored) → LiesBetween used next p
    → bytes_in g segment p ≡ stored_length p
one_here g segment used next above within (Inline payload) lies = sym lies
one_here g segment used next above within (Placed place) lies =
    all_there g segment place (in_segment g segment (place.start - 64) (omega (arith, above, lies.1)) (omega (arith, above, within, lies.0, lies.1, lies.2)))

sum_all : (v w : Stored → ℕ) (payloads : List Stored) → All (λ p. v p ≡ w p) payloads → sum_by v payloads ≡ sum_by w payloads
sum_all v w [] same = refl
sum_all v w (p ∷ payloads) same =
    let Same : Stored → Type 0 = λ q. v q ≡ w q in
    let here : v p ≡ w p = All-head Same p payloads same in
    omega (arith, here, sum_by-cons v p payloads, sum_by-cons w p payloads, sum_all v w payloads (All-tail Same p payloads same))

sum_zero : (payloads : List Stored) → sum_by (λ p. 0) payloads ≡ 0
sum_zero [] = refl
sum_zero (p ∷ payloads) = omega (arith, sum_by-cons (λ (q : Stored). 0) p payloads, sum_zero payloads)

module _ (g : Geometry) (segment used next : ℕ) (command : Command Stored) (brought : IsBrought g segment used next command) where
  pub brought_here : sum_by (bytes_in g segment) (payload_of command) ≡ sum_by stored_length (payload_of command)
  brought_here =
      let Same : Stored → Type 0 = λ p. bytes_in g segment p ≡ stored_length p in
      sum_all (bytes_in g segment) stored_length (payload_of command)
      (All-weaker (LiesBetween used next) Same (one_here g segment used next brought.from brought.to) (payload_of command) brought.lies)

  pub brought_elsewhere : (t : ℕ) → t ≢ segment → sum_by (bytes_in g t) (payload_of command) ≡ 0
  brought_elsewhere t other =
      let None : Stored → Type 0 = λ p. bytes_in g t p ≡ 0 in
      sum_all (bytes_in g t) (λ p. 0) (payload_of command)
      (All-weaker (LiesBetween used next) None (between_other g segment used next brought.there brought.from brought.to t other) (payload_of command) brought.lies)
      ∙ sum_zero (payload_of command)

-- ---- a command

abbrev after : State Stored → Command Stored → State Stored
after s command = (step stored_length s command).0

-- the weight of a removed part is that of its items
part_leaves : (g : Geometry) (t : ℕ) (s : State Stored) (command : Command Stored) (part : Option Part)
    → map (λ item. item.payload) (items_of s part) ≡ removed_payloads stored_length s command → part_in g t s part ≡ sum_by (bytes_in g t) (removed_payloads stored_length s command)
part_leaves g t s command part leaves =
    sym (names_sum (bytes_in g t) (items_of s part)) ∙ ap (λ (l : List Stored). sum_by (bytes_in g t) l) leaves

module _ (g : Geometry) (segment used next : ℕ) (s : State Stored) (live less : List ℕ) (command : Command Stored) (part : Option Part)
    (keeps : KeepsIndex g segment used s live) (same_length : length less ≡ length live) (long : g.segments ≤ length live)
    (off : (t : ℕ) → t < g.segments → slice_index less t + part_in g t s part ≡ slice_index live t) where
  module _ (accepted : is_accepted (step stored_length s command).1 ≡ true) (brought : IsBrought g segment used next command)
      (leaves : map (λ item. item.payload) (items_of s part) ≡ removed_payloads stored_length s command) where
    -- a segment's count before and after the new payload
    pub counted_off : (t : ℕ) → t < g.segments → slice_index less t + sum_by (bytes_in g t) (payload_of command) ≡ live_in g t (after s command)
    counted_off t below =
        omega (
          arith,
          off t below,
          counter_is g s live t keeps.live below,
          part_leaves g t s command part leaves,
          leaves_sum stored_length (bytes_in g t) s command accepted,
        )

    pub counted_here : slice_index less segment + sum_by stored_length (payload_of command) ≡ live_in g segment (after s command)
    counted_here = omega (arith, counted_off segment keeps.holds.there, brought_here g segment used next command brought)

    pub keeps_accepted : (bytes : ℕ) → bytes ≡ sum_by stored_length (payload_of command)
        → KeepsIndex g segment next (after s command) (set less segment (slice_index less segment + bytes))
    keeps_accepted bytes is = record {
      holds = record {
        layout = keeps.holds.layout;
        params = params_step stored_length s command ∙ keeps.holds.params;
        there = keeps.holds.there;
        from = omega (arith, keeps.holds.from, brought.on);
        to = brought.to;
        index = commanded g segment used next s command keeps.holds.index brought;
      };
      live = counters_are g (after s command) more (omega (arith, length-set less segment (slice_index less segment + bytes), same_length, long)) each;
    }
      where
        more : List ℕ
        more = set less segment (slice_index less segment + bytes)

        each : (t : ℕ) → t < g.segments → slice_index more t ≡ live_in g t (after s command)
        each t below = elim (cases_eq t segment) [
          | inl same ↦ ap (λ (k : ℕ). slice_index more k) same ∙ get_or-set_same less segment (slice_index less segment + bytes) 0 (omega (arith, keeps.holds.there, same_length, long))
              ∙ ap (λ (n : ℕ). slice_index less segment + n) is ∙ counted_here ∙ ap (λ (k : ℕ). live_in g k (after s command)) (sym same)
          | inr other ↦ get_or-set_other less segment t (slice_index less segment + bytes) 0 other
              ∙ omega (arith, counted_off t below, brought_elsewhere g segment used next command brought t other)
        ]

  pub keeps_refused : is_accepted (step stored_length s command).1 ≡ false → (back : List ℕ) → length back ≡ length live
      → ((t : ℕ) → t < g.segments → slice_index back t ≡ slice_index less t + part_in g t (after s command) part)
      → KeepsIndex g segment used (after s command) back
  keeps_refused refused back size again =
      let stays : after s command ≡ s = unaccepted stored_length s command refused in
      let same : take g.segments back ≡ live_by_segment g s =
      counters_are g s back (omega (arith, size, long))
      (λ t below.
      omega (arith, again t below, ap (λ (u : State Stored). part_in g t u part) stays, off t below, counter_is g s live t keeps.live below)) in
      subst (λ (u : State Stored). KeepsIndex g segment used u back) (sym stays) (record { holds = keeps.holds; live = same })

-- ---- a head that was read

pub keeps_begun : (which : HeadForm) (g : Geometry) (segment generation : ℕ) (s : State Stored) (live : List ℕ) → IsLayout g (device_length g) → segment < g.segments
    → IsHeadOf stored_length (stored_spelled which) g segment generation s → IsPlaced g segment s → take g.segments live ≡ live_by_segment g (state_in_head which g segment s)
    → KeepsIndex g segment (gate_after stored_length (stored_spelled which) g segment s) (state_in_head which g segment s) live
keeps_begun which g segment generation s live layout below head placed same = record {
  holds = record {
    layout = layout;
    params = head.params;
    there = below;
    from = omega arith;
    to = omega (arith, head.room);
    index = begun which g segment generation s below head placed;
  };
  live = same;
}

-- ---- the next segment

module _ (g : Geometry) (segment used target victim : ℕ) (s : State Stored) (live : List ℕ) (keeps : KeepsIndex g segment used s live) (long : g.segments ≤ length live)
    (may : MayMove g target victim s) (below : victim < g.segments) where
  pub keeps_moved : KeepsIndex g target (gate_after stored_length stored_form g target (collected_state g victim zeros_at s)) (relocated_state g target victim s)
      (set (set live target (slice_index live victim)) victim 0)
  keeps_moved = record {
    holds = record {
      layout = keeps.holds.layout;
      params = keeps.holds.params;
      there = may.there;
      from = omega arith;
      to = omega (arith, may.room);
      index = opened g target victim s may below;
    };
    live = counters_are g (relocated_state g target victim s) given size each;
  }
    where
      first : List ℕ
      first = set live target (slice_index live victim)

      given : List ℕ
      given = set first victim 0

      size : g.segments ≤ length given
      size = omega (arith, length-set first victim 0, length-set live target (slice_index live victim), long)

      each : (t : ℕ) → t < g.segments → slice_index given t ≡ live_in g t (relocated_state g target victim s)
      each t within = elim (cases_eq t victim) [
        | inl same ↦ ap (λ (k : ℕ). slice_index given k) same
            ∙ get_or-set_same first victim 0 0 (omega (arith, length-set live target (slice_index live victim), below, long))
            ∙ sym (moved_victim g target victim s may) ∙ ap (λ (k : ℕ). live_in g k (relocated_state g target victim s)) (sym same)
        | inr apart ↦ get_or-set_other first victim t 0 0 apart
            ∙ elim (cases_eq t target) [
              | inl same ↦ ap (λ (k : ℕ). slice_index first k) same
                  ∙ get_or-set_same live target (slice_index live victim) 0 (omega (arith, may.there, long))
                  ∙ counter_is g s live victim keeps.live below
                  ∙ sym (moved_target g target victim s may) ∙ ap (λ (k : ℕ). live_in g k (relocated_state g target victim s)) (sym same)
              | inr other ↦ get_or-set_other live target t (slice_index live victim) 0 other
                  ∙ counter_is g s live t keeps.live within
                  ∙ sym (moved_others g target victim s may t other apart)
            ]
      ]
