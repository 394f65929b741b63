-- The effect of commands on a spool of device addresses, and on the spool with bytes.
use Rattle.std.proofs.Common.{ℕ, ◌≡◌, ◌+◌, ◌<◌, List, length, arith, refl, sym, ap, ◌∙◌}
use Rattle.std.specs.Prelude.{All}
use Rattle.std.proofs.lemmas.List.Elements.{All-append, All-weaker}
use Rattle.rly_core.specs.declared.params.Geometry.{Geometry}
use Rattle.rly_machine.specs.Map.{map_command, map_state, payload_of, payloads_of}
use Rattle.rly_machine.specs.State.{State}
use Rattle.rly_machine.specs.Step.{step}
use Rattle.rly_machine.specs.declared.command.Command.{Command}
use Rattle.rly_machine.specs.declared.reply.Reply.{Reply}
use Rattle.rly_machine.proofs.Lifting.{step_map}
use Rattle.rly_machine.proofs.Mapping.{mapped_step}
use Rattle.rly_segment_checkpoint.specs.Stored.{stored_length}
use Rattle.rly_segment_checkpoint.specs.declared.stored.Stored.{Stored}
use Rattle.rly_reclaim.specs.Places.{bytes_in, live_by_segment, live_in}
use Rattle.rly_reclaim.specs.LiveRoom.{inline_length}
use Rattle.rly_reclaim.proofs.Emptying.{each_none, may_open, none_each, payloads_sum, stays_empty}
use Rattle.rly_reclaim.proofs.LiveRooms.{live_at, live_length}
use Rattle.rly_reclaim.specs.SegmentChoice.{MayOpen}
use Rattle.rly_segment.specs.Heads.{segment_end}
use Rattle.rly_journal_relocate.specs.Relocation.{LiesThere}
use Rattle.rly_journal_index.specs.IndexRelation.{IsAlike, IsBrought, IsCommandAlike, IsIndex, LiesBetween, LiesClear}
use Rattle.rly_journal_index.proofs.Lying.{astray, between_clear, between_inline, between_other, between_there, clear_more, clear_not_met, met, not_astray_there, not_met_clear, there_not_astray}

-- a number that is zero for each payload of a state and of a command is zero for each after the step
pub step_none : (w : Stored → ℕ) (s : State Stored) (command : Command Stored) → All (λ p. w p ≡ 0) (payloads_of s) → All (λ p. w p ≡ 0) (payload_of command)
    → All (λ p. w p ≡ 0) (payloads_of (step stored_length s command).0)
step_none w s command held brought =
    let more : Stored → ℕ = λ p. stored_length p + w p in
    let Same : Stored → Type 0 = λ p. more p ≡ stored_length p in
    let None : Stored → Type 0 = λ p. w p ≡ 0 in
    let before : All Same (payloads_of s) = All-weaker None Same (λ p none. omega (arith, none)) (payloads_of s) held in
    let new : All Same (payload_of command) = All-weaker None Same (λ p none. omega (arith, none)) (payload_of command) brought in
    let kept = (step_map stored_length (λ (n : ℕ). n) more s command (All-append Same (payloads_of s) (payload_of command) before new)).1 in
    All-weaker Same None (λ p same. omega (arith, same)) (payloads_of (step stored_length s command).0) kept

-- and so is a sum of such numbers
step_keeps : (T : Stored → Type 0) (w : Stored → ℕ) → ((p : Stored) → T p → w p ≡ 0) → ((p : Stored) → w p ≡ 0 → T p)
    → (s : State Stored) (command : Command Stored) → All T (payloads_of s) → All T (payload_of command) → All T (payloads_of (step stored_length s command).0)
step_keeps T w there back s command held brought =
    let None : Stored → Type 0 = λ p. w p ≡ 0 in
    All-weaker None T back (payloads_of (step stored_length s command).0)
    (step_none w s command (All-weaker T None there (payloads_of s) held) (All-weaker T None there (payload_of command) brought))

-- a segment that may be opened still may
free_still : (g : Geometry) (segment t : ℕ) (s : State Stored) (command : Command Stored) → MayOpen (live_by_segment g s) segment t
    → All (λ p. bytes_in g t p ≡ 0) (payload_of command) → MayOpen (live_by_segment g (step stored_length s command).0) segment t
free_still g segment t s command may brought =
    let below : t < g.segments = omega (arith, may.there, live_length g s) in
    let none : live_in g t s ≡ 0 = sym (live_at g s t below) ∙ may.empty in
    may_open g segment t (step stored_length s command).0 below may.other (stays_empty g t s command none brought)

pub commanded : (g : Geometry) (segment used next : ℕ) (s : State Stored) (placed : Command Stored) → IsIndex g segment used s
    → IsBrought g segment used next placed → IsIndex g segment next (step stored_length s placed).0
commanded g segment used next s placed index brought =
    let after : State Stored = (step stored_length s placed).0 in
    let end : ℕ = segment_end g segment in
    let Lies : Stored → Type 0 = LiesBetween used next in
    let None : Stored → Type 0 = λ p. inline_length p ≡ 0 in
    let payloads : List Stored = payload_of placed in
    record {
      there = step_keeps (LiesThere g) (astray g) (there_not_astray g) (not_astray_there g) s placed index.there
          (All-weaker Lies (LiesThere g) (between_there g segment used next brought.there brought.from brought.to) payloads brought.lies);
      clear = step_keeps (LiesClear next end) (met next end) (clear_not_met next end) (not_met_clear next end) s placed
          (All-weaker (LiesClear used end) (LiesClear next end) (λ p clear. clear_more next used end p brought.on clear) (payloads_of s) index.clear)
          (All-weaker Lies (LiesClear next end) (between_clear g segment used next brought.there brought.from brought.to) payloads brought.lies);
      inline = sym (payloads_sum inline_length after)
          ∙ each_none inline_length (payloads_of after)
          (step_none inline_length s placed (none_each inline_length (payloads_of s) (payloads_sum inline_length s ∙ index.inline))
          (All-weaker Lies None (between_inline g segment used next brought.there brought.from brought.to) payloads brought.lies));
      free = (
        index.free.0,
        free_still g segment index.free.0 s placed index.free.1
            (All-weaker Lies (λ (p : Stored). bytes_in g index.free.0 p ≡ 0)
            (between_other g segment used next brought.there brought.from brought.to index.free.0 index.free.1.other) payloads brought.lies),
      );
    }

-- ---- the reply, and the new state, on any disk

both_step : (s : State Stored) (t : State (List ℕ)) (placed : Command Stored) (command : Command (List ℕ)) → IsAlike s t → IsCommandAlike placed command
    → ◌≡◌ {A = State ℕ × Reply} (map_state stored_length (step stored_length s placed).0, (step stored_length s placed).1)
    (map_state length (step length t command).0, (step length t command).1)
both_step s t placed command alike same =
    let itself : ℕ → ℕ = λ n. n in
    sym (mapped_step stored_length itself stored_length (λ p. refl) s placed)
    ∙ ap (λ (u : State ℕ). step itself u (map_command stored_length placed)) alike
    ∙ ap (λ (c : Command ℕ). step itself (map_state length t) c) same
    ∙ mapped_step length itself length (λ p. refl) t command

pub same_reply : (s : State Stored) (t : State (List ℕ)) (placed : Command Stored) (command : Command (List ℕ)) → IsAlike s t → IsCommandAlike placed command
    → (step stored_length s placed).1 ≡ (step length t command).1
same_reply s t placed command alike same = ap (λ (x : State ℕ × Reply). x.1) (both_step s t placed command alike same)

pub alike_after : (s : State Stored) (t : State (List ℕ)) (placed : Command Stored) (command : Command (List ℕ)) → IsAlike s t → IsCommandAlike placed command
    → IsAlike (step stored_length s placed).0 (step length t command).0
alike_after s t placed command alike same = ap (λ (x : State ℕ × Reply). x.0) (both_step s t placed command alike same)
