-- If no segment is due accepted commands have room; and one is due by the bytes that the device reads if it is by the
-- journal's end.
use Rattle.std.proofs.Common.{ℕ, ◌≡◌, ◌≤◌, ◌+◌, ◌-◌, ◌∙◌, ◌↔◌, List, [], ◌∷◌, length, arith, ap, refl, sym, subst, ⊎_elim}
use Rattle.std.specs.List.{AllByRecursion}
use Rattle.std.proofs.lemmas.Bool.{cases_lt}
use Rattle.rly_core.specs.declared.params.Params.{Params}
use Rattle.rly_machine.specs.Fold.{AllAccepted, fold}
use Rattle.rly_machine.specs.Sound.{IsSound}
use Rattle.rly_machine.specs.State.{State}
use Rattle.rly_machine.proofs.Folding.{params_fold}
use Rattle.rly_gate.proofs.Frames.{length-frame}
use Rattle.rly_reclaim.specs.Room.{IsDue, group_room}
use Rattle.rly_record.specs.Spelling.{IsShort, body_of, longest_body}
use Rattle.rly_segment.specs.Heads.{segment_place}
use Rattle.rly_journal.specs.Recovery.{Commands, IsRecovery, Recovery, first_of, gate_of, state_after_groups, state_in}
use Rattle.rly_journal.specs.declared.tail.Tail.{Tail}
use Rattle.rly_journal.specs.Log.{IsFull, IsLogged}
use Rattle.rly_world.specs.RelayPhases.{IsDueIn}
use Rattle.rly_journal.proofs.Frame.{gate_above}
use Rattle.rly_journal.proofs.Gathering.{spelled_most}
use Rattle.rly_journal.proofs.Once.{standing_once}
use Rattle.rly_world.proofs.RelayPhases.{IsGroup}
use Rattle.rly_world.proofs.RelayRecords.{accepted_records, accepted_shorts}

pub one_standing : {image : List ℕ} (x y : Recovery) → IsRecovery image x → IsRecovery image y → x ≡ y
one_standing {image} x y first second = standing_once x y first second

-- the offset of the first closed gate
abbrev pub offset_of : Recovery → ℕ
offset_of x = gate_of x - segment_place x.geometry x.segment

room_left : (x : Recovery) → (IsDue x.geometry (offset_of x) → ⊥) → offset_of x + group_room x.geometry.params.payload ≤ x.geometry.length
room_left x room =
    ⊎_elim (λ due. absurd (room due)) (λ left. left)
    (cases_lt x.geometry.length (offset_of x + group_room x.geometry.params.payload))

-- commands leave the parameters unchanged: those of the state are the device's
replayed_params : (s : State (List ℕ)) (groups : List Commands) → (state_after_groups s groups).params ≡ s.params
replayed_params s [] = refl
replayed_params s (commands ∷ groups) =
    replayed_params (fold length s commands) groups ∙ params_fold length s commands

standing_params : {image : List ℕ} (x : Recovery) → IsRecovery image x → (state_in x).params ≡ x.geometry.params
standing_params x stands =
    replayed_params x.checkpoint x.groups
    ∙ ap (λ (s : State (List ℕ)). s.params) stands.scanned.payloads
    ∙ stands.scanned.head.head.head.params

pub roomy_group : {image : List ℕ} (x : Recovery) (commands : Commands) → IsRecovery image x
    → IsSound length (state_in x) → (IsDue x.geometry (offset_of x) → ⊥)
    → 1 ≤ length commands → length commands ≤ 64 → AllAccepted length (state_in x) commands → IsGroup x commands
roomy_group {image} x commands stands sound roomy some few accepted =
    let have = accepted_records (state_in x) commands sound accepted in
    let payload : ℕ = x.geometry.params.payload in
    let shorts : AllByRecursion (IsShort payload) commands = subst (λ most. AllByRecursion (IsShort most) commands)
    (ap (λ (p : Params). p.payload) (standing_params x stands)) (accepted_shorts (state_in x) commands accepted) in
    let most : length (body_of commands) ≤ longest_body payload = spelled_most payload commands shorts few in
    let above = gate_above (first_of x) x.groups in
    record {
      body = ((some, few), have);
      accepted = accepted;
      small = omega (arith, most, stands.scanned.fits.params.payload);
      room = omega (arith, room_left x roomy, most, above, length-frame (body_of commands));
    }

-- a segment is due by the bytes that the device reads if and only if it is by the end that a journal keeps
same_due : {image : List ℕ} (tail : Tail) (s : State (List ℕ)) (logged : IsLogged image tail s)
    → IsDue logged.x.geometry (offset_of logged.x) ≡ IsFull tail
same_due tail s logged =
    ap (λ g. IsDue g (gate_of logged.x - segment_place g logged.x.segment)) (sym logged.ends.geometry)
    ∙ ap (λ n. IsDue tail.geometry (gate_of logged.x - segment_place tail.geometry n)) (sym logged.ends.segment)
    ∙ ap (λ n. IsDue tail.geometry (n - segment_place tail.geometry tail.segment)) (sym logged.ends.gate)

pub due_in_image : (image : List ℕ) (tail : Tail) (s : State (List ℕ)) → IsLogged image tail s
    → IsDueIn image ↔ IsFull tail
due_in_image image tail s logged = (
  λ due. subst (λ A. A) (same_due tail s logged)
      (subst (λ y. IsDue y.geometry (offset_of y)) (one_standing due.0 logged.x due.1 logged.stands) due.2),
  λ full. (logged.x, logged.stands, subst (λ A. A) (sym (same_due tail s logged)) full),
)
