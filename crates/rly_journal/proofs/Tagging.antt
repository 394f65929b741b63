-- The segments of the payloads in a spool of device addresses, and in the content of an image.
use Rattle.rly_journal.proofs.Common.{[], All, All-cons, All-head, All-nil, all_there, AllAccepted, ap, appended, arith, astray, between_other, blank_payload}
use Rattle.rly_journal.proofs.Common.{blank_length, blank_state, body_of, body_size, bytes_alike, Command, Commands, collected_state, elsewhere_apart, first_of}
use Rattle.rly_journal.proofs.Common.{flat_map, fold, fold_map, gate_above, gate_of, Geometry, get_or, group_of, HaveBody, HeadForm, in_segment, Inline}
use Rattle.rly_journal.proofs.Common.{inline_length, IsBrought, IsLogged, IsSameButForBytes, IsScanned, IsRecovery, IsTagged, IsTaggedIn, length, length-append}
use Rattle.rly_journal.proofs.Common.{length-frame, LiesApart, LiesBetween, LiesElsewhere, LiesThere, List, logged_within, stored_at, map, map_command}
use Rattle.rly_journal.proofs.Common.{map_state, maps_same, maps_settled, MayMove, relocated_state, none_each, none_there, not_astray_there, bytes_after_write}
use Rattle.rly_journal.proofs.Common.{part-overwritten, payload_of, payloads_of, payloads_sum, DeviceAddress, Placed, placed_at, placed_brought, placed_from}
use Rattle.rly_journal.proofs.Common.{placed_group, record_length, record_of, records_size, refl, SameOutside, Second, segment_end, segment_once, segment_place}
use Rattle.rly_journal.proofs.Common.{stored_in_head, state_in_head, Recovery, recovery_end, standing_once, StandsAt, State, state_spelled, state_twice, step}
use Rattle.rly_journal.proofs.Common.{step_none, Stored, stored-more, stored_after, stored_commands, stored_form_of, stored_in, stored_length, stored_spelled}
use Rattle.rly_journal.proofs.Common.{subst, sym, length_and_live_bytes, Tail, there_not_astray, zeros_at, with_group, ℕ, ◌+◌, ◌-◌, ◌<◌, ◌^◌, ◌∙◌, ◌∷◌, ◌≡◌, ◌≢◌, ◌≤◌}
use Rattle.rly_segment_checkpoint.specs.Widths.{entry_width}
use Rattle.rly_segment_checkpoint.proofs.Parts.{length-entry}
use Rattle.rly_segment_checkpoint.proofs.Sizes.{length-numbers, length-parts}
use Rattle.rly_reclaim.specs.Places.{segment_of, bytes_in, live_in}
use Rattle.rly_disk.proofs.Overwritten.{overwritten_outside}
use Rattle.rly_machine.specs.declared.command.Command.TheVariants.{Take}

-- ---- in any segment but the head's own

module _ (g : Geometry) (segment u : ℕ) (other : u ≢ segment) where
  one_tagged : (at : ℕ) (p : Stored) → segment_place g segment ≤ at → at + inline_length p ≤ segment_end g segment → length_and_live_bytes g u (stored_in_head at p) ≡ length_and_live_bytes g u p
  one_tagged at (Inline (byte ∷ bytes)) above within =
      let place : DeviceAddress = record { start = at; length = length (byte ∷ bytes) } in
      let here : segment_of g at ≡ segment = in_segment g segment (at - 64) (omega (arith, above)) (omega (arith, above, within)) in
      λ i. (length (byte ∷ bytes), none_there g u place (λ same. other (sym same ∙ here)) i)
  one_tagged at p above within = refl

  -- the head has there only its payloads by device address, before its inline ones get theirs and after
  pub head_tagged : (which : HeadForm) (s : State Stored) → 13 + length (state_spelled stored_length (stored_spelled which) s) ≤ g.length
      → map_state (length_and_live_bytes g u) (state_in_head which g segment s) ≡ map_state (length_and_live_bytes g u) s
  head_tagged which s room =
      maps_settled (λ at bytes. (segment_place g segment ≤ at) × (at + length bytes ≤ segment_end g segment))
      (λ at a b in_both. search (arith, length-append a b)) which (length_and_live_bytes g u) (length_and_live_bytes g u)
      (λ at item lies. let size = length-entry stored_length (stored_spelled which) item in
      let least : 1 + inline_length item.payload ≤ length (stored_form_of which item.payload) = grind arith in
      one_tagged (at + entry_width which) item.payload (omega (arith, lies)) (omega (arith, lies, size, least)))
      g segment s (omega arith, omega (arith, room, length-parts stored_length (stored_spelled which) s, length-numbers s.lasts))

-- ---- after the victim's payloads moved, each other segment has the payloads of the copy

pub moved_tagged : (g : Geometry) (target victim : ℕ) (s copy : State Stored) → MayMove g target victim s
    → IsSameButForBytes copy (collected_state g victim zeros_at s)
    → (u : ℕ) → u ≢ target → map_state (length_and_live_bytes g u) (relocated_state g target victim s) ≡ map_state (length_and_live_bytes g u) copy
moved_tagged g target victim s copy may like u other =
    let blanked : (v : State Stored) → map_state (length_and_live_bytes g u) (blank_state v) ≡ map_state (length_and_live_bytes g u) v =
    λ v. state_twice (length_and_live_bytes g u) blank_payload v ∙ maps_same (λ p. length_and_live_bytes g u (blank_payload p)) (length_and_live_bytes g u) (λ p. grind (arith, blank_length p)) v in
    head_tagged g target u other Second (collected_state g victim zeros_at s) may.room ∙ sym (blanked (collected_state g victim zeros_at s))
    ∙ ap (λ (v : State Stored). map_state (length_and_live_bytes g u) v) (sym like) ∙ blanked copy

-- ---- the content that was read, by the numbers of the end

abbrev pub standing_at : Tail → Recovery → Recovery
standing_at tail x = record x { geometry = tail.geometry; segment = tail.segment; generation = tail.generation }

module _ {image : List ℕ} {tail : Tail} {s : State (List ℕ)} (logged : IsLogged image tail s) where
  pub same_at : logged.x ≡ standing_at tail logged.x
  same_at = let ends = logged.ends in sym (λ i. record logged.x { geometry = ends.geometry i; segment = ends.segment i; generation = ends.generation i })

  pub standing_there : IsRecovery image (standing_at tail logged.x)
  standing_there = subst (IsRecovery image) same_at logged.stands

-- bytes that were written over others
pub written_there : {old new : List ℕ} (place : ℕ) (bytes : List ℕ) → new ≡ bytes_after_write place bytes old → place + length bytes ≤ length old
    → SameOutside place (length bytes) old new × StandsAt new place bytes
written_there {old} place bytes written fits = rw written (overwritten_outside place bytes old fits, part-overwritten place bytes old (omega (arith, fits)))

-- ---- commands

module _ (g : Geometry) (t segment : ℕ) (other : t ≢ segment) (there : segment < g.segments) where
  command_tagged : (used next place : ℕ) (command : Command (List ℕ)) → IsBrought g segment used next (placed_at place command)
      → map_command (length_and_live_bytes g t) (placed_at place command) ≡ map_command (length_and_live_bytes g t) (map_command Inline command)
  command_tagged used next place (Take peer number hop stamp limit (byte ∷ bytes)) brought =
      let lies = All-head (LiesBetween used next) (stored_at (place + 23) (byte ∷ bytes)) [] brought.lies in
      let none = between_other g segment used next brought.there brought.from brought.to t other (stored_at (place + 23) (byte ∷ bytes)) lies in
      λ i. Take peer number hop stamp limit (length (byte ∷ bytes), none i)
  command_tagged used next place _ brought = refl

  -- the commands of a group in another segment
  commands_tagged : (place : ℕ) (commands : Commands) → segment_place g segment ≤ place → place + length (flat_map record_of commands) ≤ segment_end g segment
      → map (map_command (length_and_live_bytes g t)) (placed_from place commands) ≡ map (map_command (length_and_live_bytes g t)) (stored_commands commands)
  commands_tagged place [] above within = refl
  commands_tagged place (command ∷ commands) above within =
      let size = records_size command commands in let next : ℕ = place + record_length length command in
      let brought = placed_brought g segment place place command there above (omega arith) (omega (arith, within, size)) in
      let rest = commands_tagged next commands (omega (arith, above)) (omega (arith, within, size)) in
      λ i. command_tagged place next place command brought i ∷ rest i

-- ---- one more group

pub tagged_more : {image : List ℕ} (x : Recovery) (s : State Stored) (gate : ℕ) (commands : Commands) → IsScanned image x → gate ≡ gate_of x
    → gate + 6 + length (body_of commands) ≤ recovery_end x → IsTagged x s
    → IsTagged (with_group x commands) (fold stored_length s (placed_group gate commands))
tagged_more x s gate commands scanned is room same t other =
    let above : segment_place x.geometry x.segment ≤ gate = omega (arith, is, gate_above (first_of x) x.groups) in
    let one =
    commands_tagged x.geometry t x.segment other scanned.newest.there (gate + 7) commands (omega (arith, above)) (omega (arith, room, body_size commands)) in
    let mapped = λ (u : State Stored) (l : List (Command Stored)). fold_map stored_length (λ (q : ℕ × ℕ). q.0) (length_and_live_bytes x.geometry t) u l (λ k d lt. refl) in
    rw (stored-more x.head x.groups commands)
    (sym (mapped s (placed_group gate commands)) ∙ (λ i. fold (λ q. q.0) (same t other i) (one i)) ∙ mapped (stored_in x) (stored_commands commands))

-- the accepted commands of a round were written as a group at the end: the tags still agree, if the spool applied them
pub tagged_appended : {old new : List ℕ} {tail : Tail} {s : State (List ℕ)} (commands : Commands) (places : State Stored) → IsLogged old tail s
    → HaveBody commands → AllAccepted length s commands → length (body_of commands) < 2 ^ 32
    → tail.gate + 6 + length (body_of commands) ≤ segment_end tail.geometry tail.segment → new ≡ bytes_after_write tail.gate (group_of (body_of commands)) old
    → IsTaggedIn old places → IsTaggedIn new (fold stored_length places (placed_group tail.gate commands))
tagged_appended {old} {new} {tail} {s} commands places logged have accepted few room written before y reads =
    let x : Recovery = standing_at tail logged.x in let stands : IsRecovery old x = standing_there logged in
    let gate : tail.gate ≡ gate_of x = logged.ends.gate ∙ ap gate_of (same_at logged) in
    let accepts = rw logged.state at accepted in let framed = length-frame (body_of commands) in
    let there = rw gate at (written_there tail.gate (group_of (body_of commands)) written (omega (arith, framed, room, logged_within old tail s logged))) in
    let grown : IsRecovery new (with_group x commands) = appended x commands stands have accepts few (omega (arith, gate, room, framed)) there.0 there.1 in
    rw (← standing_once (with_group x commands) y grown reads) (tagged_more x places tail.gate commands stands.scanned gate room (before x stands))

-- ---- a segment without payloads

pub apart_elsewhere : (g : Geometry) (t : ℕ) (p : Stored) → LiesApart g t p → LiesElsewhere g t p
apart_elsewhere g t (Inline payload) lies = tt
apart_elsewhere g t (Placed place) lies =
    let there = lies.0.1 in let once = segment_once g there.0 place lies.0.0 there.1 in
    (lies.0.0, (there.0, (λ same. omega (arith, lies.0.0, lies.1, all_there g t place (once ∙ same))), there.1))

module _ (g : Geometry) where
  abbrev None : Stored → Type 0
  None p = astray g p ≡ 0

  brought_there : (command : Command (List ℕ)) → All None (payload_of (map_command Inline command))
  brought_there (Take peer number hop stamp limit payload) = All-cons None (Inline payload) [] refl (All-nil None)
  brought_there _ = All-nil None

  groups_there : (s : State Stored) (groups : List Commands) → All None (payloads_of s) → All None (payloads_of (stored_after s groups))
  groups_there s [] all = all
  groups_there s ([] ∷ groups) all = groups_there s groups all
  groups_there s ((command ∷ commands) ∷ groups) all =
      groups_there (step stored_length s (map_command Inline command)).0 (commands ∷ groups)
      (step_none (astray g) s (map_command Inline command) all (brought_there command))

-- if a tagged spool has no live bytes in another segment, no payload of the content lies there
pub tagged_free : {image : List ℕ} (x : Recovery) (s : State Stored) (t : ℕ) → IsScanned image x → IsTagged x s → t ≢ x.segment → live_in x.geometry t s ≡ 0
    → All (LiesElsewhere x.geometry t) (payloads_of (stored_in x))
tagged_free x s t scanned same other none =
    let g : Geometry = x.geometry in
    let twice = state_twice (λ (q : ℕ × ℕ). q.1) (length_and_live_bytes g t) in
    let shares = rw (twice s, twice (stored_in x)) at (ap (map_state (λ (q : ℕ × ℕ). q.1)) (same t other)) in
    let there : All (LiesThere g) (payloads_of (stored_in x)) = λ k d lt.
    not_astray_there g _ (groups_there g x.head x.groups
    (λ j e below. there_not_astray g _ (elsewhere_apart g x.segment _ (scanned.head.placed.elsewhere j e below)).0) k d lt) in
    let live : live_in g t (stored_in x) ≡ 0 = sym (bytes_alike (bytes_in g t) (bytes_in g t) s (stored_in x) shares) ∙ none in
    let apart = none_each (bytes_in g t) (payloads_of (stored_in x)) (payloads_sum (bytes_in g t) (stored_in x) ∙ live) in
    λ k d lt. apart_elsewhere g t (get_or (payloads_of (stored_in x)) k d) (there k d lt, apart k d lt)
