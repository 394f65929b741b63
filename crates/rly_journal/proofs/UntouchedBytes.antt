-- The frame law, with payloads elsewhere on the device, and with it the crash images of the opening of a segment.
use Rattle.std.proofs.Common.{◌≡◌, ◌≢◌, ◌≤◌, ◌+◌, ◌-◌, ◌∷◌, [], ◌∙◌, ℕ, List, length, length-take, length-drop, drop, arith, sym, ap, refl, subst, inl, inr}
use Rattle.std.specs.Prelude.{All, IsTrue}
use Rattle.std.proofs.lemmas.Bool.{cases_eq}
use Rattle.std.proofs.lemmas.List.Elements.{All-append, All-cons, All-nil, All-weaker}
use Rattle.rly_core.specs.declared.params.Geometry.{Geometry}
use Rattle.rly_disk.specs.DiskModel.{SameOutside}
use Rattle.rly_machine.specs.declared.command.Command.{Command}
use Rattle.rly_machine.specs.declared.command.Command.TheVariants.{Take, Pick, Release}
use Rattle.rly_machine.specs.declared.reply.Reply.{Reply}
use Rattle.rly_machine.specs.Accepted.{is_accepted}
use Rattle.rly_machine.specs.Fold.{AllAccepted, fold}
use Rattle.rly_machine.specs.Map.{map_command, payload_of, payloads_of}
use Rattle.rly_machine.specs.State.{State}
use Rattle.rly_machine.specs.Step.{step}
use Rattle.rly_machine.proofs.Lifting.{step_map}
use Rattle.rly_segment_checkpoint.specs.Stored.{payload_in, stored_form, stored_length}
use Rattle.rly_segment_checkpoint.specs.Stored.{state_in as state_over}
use Rattle.rly_segment_checkpoint.specs.declared.stored.Stored.{Stored}
use Rattle.rly_segment_checkpoint.specs.declared.stored.Stored.TheVariants.{Inline, Placed}
use Rattle.rly_reclaim.specs.Placed.{LiesElsewhere}
use Rattle.rly_segment.specs.Device.{IsLayout}
use Rattle.rly_segment.specs.Heads.{IsOpeningOf, IsPassedOver, segment_place}
use Rattle.rly_segment.proofs.Segments.{segment_within}
use Rattle.rly_journal.specs.UntouchedBytes.{IsHeadFor, IsUntouched, SamePayload}
use Rattle.rly_journal.specs.Recovery.{AreAccepted, Commands, IsScanned, IsRecovery, Recovery, Stands, first_of, gate_of, state_after_groups, recovery_end, state_in, stored_after, stored_commands, stored_in}
use Rattle.rly_journal.proofs.Agreeing.{other_bytes, same_before}
use Rattle.rly_journal.proofs.Frame.{device_still, gate_above, geometry_still, groups_still, head_still, newest_still}
use Rattle.rly_journal.proofs.Growing.{gate_of-within, long_segments, opened_with, other_heads, with_head}
use Rattle.rly_journal.proofs.Inlining.{elsewhere_still, lies_still, state_same}

-- ---- an image contains all bytes of the payloads that lie in its segments

abbrev Whole : List ℕ → Stored → Type 0
Whole image payload = length (payload_in image payload) ≡ stored_length payload

lies_whole : (image : List ℕ) (g : Geometry) (own : ℕ) (payload : Stored) → IsLayout g (length image) → LiesElsewhere g own payload → Whole image payload
lies_whole image g own (Inline payload) fits lies = refl
lies_whole image g own (Placed place) fits lies =
    let there = lies.1.2 in
    let within : place.start + place.length ≤ length image = omega (arith, there.to, segment_within g lies.1.0 (length image) fits there.there) in
    omega (arith, within, length-take ((place.start + place.length) - place.start) (drop place.start image), length-drop place.start image)

all_whole : (image : List ℕ) (g : Geometry) (own : ℕ) (s : State Stored) → IsLayout g (length image) → All (LiesElsewhere g own) (payloads_of s)
    → All (Whole image) (payloads_of s)
all_whole image g own s fits lie = All-weaker (LiesElsewhere g own) (Whole image) (λ p lies. lies_whole image g own p fits lies) (payloads_of s) lie

-- ---- groups applied to a state whose payloads recover to bytes

brought_whole : (image : List ℕ) (command : Command (List ℕ)) → All (Whole image) (payload_of (map_command Inline command))
brought_whole image (Take peer number hop stamp limit payload) = All-cons (Whole image) (Inline payload) [] refl (All-nil (Whole image))
brought_whole image (Pick hop now) = All-nil (Whole image)
brought_whole image (Release hop number) = All-nil (Whole image)

command_again : (image : List ℕ) (command : Command (List ℕ)) → map_command (payload_in image) (map_command Inline command) ≡ command
command_again image (Take peer number hop stamp limit payload) = refl
command_again image (Pick hop now) = refl
command_again image (Release hop number) = refl

module _ (image : List ℕ) where
  -- a step of one is a step of the other
  step_over : (s : State Stored) (command : Command (List ℕ)) → All (Whole image) (payloads_of s)
      → (step length (state_over image s) command ≡ (state_over image (step stored_length s (map_command Inline command)).0, (step stored_length s (map_command Inline command)).1))
      × All (Whole image) (payloads_of (step stored_length s (map_command Inline command)).0)
  step_over s command whole =
      let placed : Command Stored = map_command Inline command in
      let one = step_map stored_length length (payload_in image) s placed (All-append (Whole image) (payloads_of s) (payload_of placed) whole (brought_whole image command)) in
      (ap (step length (state_over image s)) (sym (command_again image command)) ∙ one.0, one.1)

  fold_over : (s : State Stored) (commands : Commands) → All (Whole image) (payloads_of s)
      → (fold length (state_over image s) commands ≡ state_over image (fold stored_length s (stored_commands commands)))
      × All (Whole image) (payloads_of (fold stored_length s (stored_commands commands)))
  fold_over s [] whole = (refl, whole)
  fold_over s (command ∷ commands) whole =
      let one = step_over s command whole in
      let rest = fold_over (step stored_length s (map_command Inline command)).0 commands one.1 in
      (ap (λ (r : State (List ℕ) × Reply). fold length r.0 commands) one.0 ∙ rest.0, rest.1)

  pub replayed_over : (s : State Stored) (groups : List Commands) → All (Whole image) (payloads_of s)
      → state_after_groups (state_over image s) groups ≡ state_over image (stored_after s groups)
  replayed_over s [] whole = refl
  replayed_over s (commands ∷ groups) whole =
      let one = fold_over s commands whole in
      ap (λ t. state_after_groups t groups) one.0 ∙ replayed_over (fold stored_length s (stored_commands commands)) groups one.1

  -- and so are the accepted commands
  accepted_over : (s : State Stored) (commands : Commands) → All (Whole image) (payloads_of s)
      → AllAccepted stored_length s (stored_commands commands) → AllAccepted length (state_over image s) commands
  accepted_over s [] whole accepted = tt
  accepted_over s (command ∷ commands) whole accepted =
      let one = step_over s command whole in (
        subst (λ (r : State (List ℕ) × Reply). IsTrue (is_accepted r.1)) (sym one.0) accepted.0,
        subst (λ (r : State (List ℕ) × Reply). AllAccepted length r.0 commands) (sym one.0)
            (accepted_over (step stored_length s (map_command Inline command)).0 commands one.1 accepted.1),
      )

  accepted_under : (s : State Stored) (commands : Commands) → All (Whole image) (payloads_of s)
      → AllAccepted length (state_over image s) commands → AllAccepted stored_length s (stored_commands commands)
  accepted_under s [] whole accepted = tt
  accepted_under s (command ∷ commands) whole accepted =
      let one = step_over s command whole in (
        subst (λ (r : State (List ℕ) × Reply). IsTrue (is_accepted r.1)) one.0 accepted.0,
        accepted_under (step stored_length s (map_command Inline command)).0 commands one.1
            (subst (λ (r : State (List ℕ) × Reply). AllAccepted length r.0 commands) one.0 accepted.1),
      )

-- groups that are accepted over one image are over another
groups_over : (old new : List ℕ) (s : State Stored) (groups : List Commands) → All (Whole old) (payloads_of s) → All (Whole new) (payloads_of s)
    → AreAccepted (state_over old s) groups → AreAccepted (state_over new s) groups
groups_over old new s [] whole_old whole_new accepted = tt
groups_over old new s (commands ∷ groups) whole_old whole_new accepted =
    let before = fold_over old s commands whole_old in
    let after = fold_over new s commands whole_new in (
      accepted_over new s commands whole_new (accepted_under old s commands whole_old accepted.0),
      subst (λ t. AreAccepted t groups) (sym after.0)
          (groups_over old new (fold stored_length s (stored_commands commands)) groups before.1 after.1
          (subst (λ t. AreAccepted t groups) before.0 accepted.1)),
    )

-- ---- the frame law

-- the content that is read, with the payloads of the new image
abbrev pub read_in : List ℕ → Recovery → Recovery
read_in new x = record x { checkpoint = state_over new x.head }

head_whole : {image : List ℕ} (x : Recovery) → IsScanned image x → All (Whole image) (payloads_of x.head)
head_whole {image} x scanned = all_whole image x.geometry x.segment x.head scanned.fits scanned.head.placed.elsewhere

-- the recovered state is that of its payloads at their addresses
pub state_stored : {image : List ℕ} (x : Recovery) → IsScanned image x → state_in x ≡ state_over image (stored_in x)
state_stored {image} x scanned = ap (λ t. state_after_groups t x.groups) scanned.payloads ∙ replayed_over image x.head x.groups (head_whole x scanned)

pub untouched : {old new : List ℕ} (x : Recovery) → IsRecovery old x → IsUntouched x old new → IsRecovery new (read_in new x) × (state_in (read_in new x) ≡ state_in x)
untouched {old} {new} x stands same =
    let scanned = stands.scanned in
    let fits : IsLayout x.geometry (length new) = subst (IsLayout x.geometry) (sym same.header.same_length) scanned.fits in
    let whole_old = head_whole x scanned in
    let whole_new = all_whole new x.geometry x.segment x.head fits scanned.head.placed.elsewhere in
    let now : IsScanned new (read_in new x) = record {
      device = device_still same.header scanned.device;
      geometry = scanned.geometry ∙ sym (geometry_still same.header);
      fits = fits;
      newest = newest_still x same.heads same.own scanned.newest;
      head = head_still x same.own scanned.head;
      payloads = refl;
      groups = groups_still (recovery_end x) (segment_place x.geometry x.segment) (first_of x) x.groups (omega arith) same.own scanned.groups;
      accepted = groups_over old new x.head x.groups whole_old whole_new (subst (λ t. AreAccepted t x.groups) scanned.payloads scanned.accepted);
    } in (
      record { scanned = now; closed = same.gate },
      replayed_over new x.head x.groups whole_new
          ∙ state_same (payload_in new) (payload_in old) (stored_in x) same.payloads
          ∙ sym (state_stored x scanned),
    )

pub frame_law : (old new : List ℕ) (x : Recovery) → IsRecovery old x → IsUntouched x old new → Stands new (state_in x)
frame_law old new x stands same = let still = untouched x stands same in (read_in new x, still.0, sym still.1)

-- ---- the opening of a segment

-- nothing changed outside a segment without live payloads, and its head isn't newer
passed_by : {old new : List ℕ} (x : Recovery) (t : ℕ) → IsRecovery old x → t ≢ x.segment → All (LiesElsewhere x.geometry t) (payloads_of (stored_in x))
    → SameOutside (segment_place x.geometry t) x.geometry.length old new → IsPassedOver x.geometry t old new → IsUntouched x old new
passed_by {old} {new} x t stands other free outside over =
    let within = gate_of-within x stands.scanned in
    let own = other_bytes x.geometry x.segment t other outside in
    let above = gate_above (first_of x) x.groups in
    record {
      header = same_before (segment_place x.geometry t) x.geometry.length 0 64 (omega arith) outside;
      heads = λ u below apart_u. elim (cases_eq u t) [
        | inl same ↦ subst (λ k. IsPassedOver x.geometry k old new) (sym same) over
        | inr differs ↦ other_heads x.geometry t u (omega (arith, long_segments stands.scanned)) differs outside
      ];
      own = record { same_length = own.same_length; each = λ i low high. own.each i low (omega (arith, high, within)) };
      gate = λ now_open. stands.closed (sym (own.each (gate_of x) (omega (arith, above)) within) ∙ now_open);
      payloads = All-weaker (LiesElsewhere x.geometry t) (SamePayload old new) (λ p lies. lies_still x.geometry t p lies outside) (payloads_of (stored_in x)) free;
    }

pub opening_law : (old image : List ℕ) (x : Recovery) (t : ℕ) (s : State Stored) → IsRecovery old x → IsHeadFor old x t s
    → IsOpeningOf stored_length stored_form x.geometry t (x.generation + 1) s old image → Stands image (state_in x)
opening_law old image x t s stands for left =
    elim left.whole [
      | inl over ↦ frame_law old image x stands (passed_by x t stands for.other for.free left.outside over)
      | inr whole ↦
          let same : state_over image s ≡ state_in x = elsewhere_still x.geometry t s for.placed.elsewhere left.outside ∙ for.same in
          (with_head x t s (state_over image s), opened_with x t s (state_over image s) stands for.there for.other for.sound for.head for.placed for.small refl left.outside whole, sym same)
    ]
