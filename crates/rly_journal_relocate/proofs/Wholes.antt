-- A whole spool whose parts were all copied.
use Rattle.std.proofs.Common.{◌≡◌, ℕ, List, map, sym, ap, ◌∙◌}
use Rattle.std.proofs.lemmas.List.{length-replicate}
use Rattle.rly_core.specs.declared.params.Geometry.{Geometry}
use Rattle.rly_core.specs.declared.params.Params.{Params}
use Rattle.rly_machine.specs.Map.{map_hop}
use Rattle.rly_machine.specs.Sound.{IsSound}
use Rattle.rly_machine.specs.State.{HopState, State}
use Rattle.rly_machine.proofs.Lifting.{state_twice}
use Rattle.rly_segment_checkpoint.specs.Stored.{stored_length}
use Rattle.rly_segment_checkpoint.specs.declared.stored.Stored.{Stored}
use Rattle.rly_reclaim.specs.LiveRoom.{collected_payload, collected_state}
use Rattle.rly_reclaim.proofs.Collection.{drawn_sound}
use Rattle.rly_journal_relocate.specs.Relocation.{zeros_at}
use Rattle.rly_journal_relocate.specs.Collection.{IsSameButForBytes, blank_payload, bytes_at}
use Rattle.rly_journal_relocate.specs.HelpersCollection.{collected_blank, collected_in}
use Rattle.rly_journal_relocate.proofs.Blank.{same_sound}

abbrev pub of_parts : Params → List (HopState Stored) → List ℕ → ℕ → State Stored
of_parts params hops lasts seq = record { params = params; hops = hops; lasts = lasts; seq = seq }

-- equal parts make equal spools
parts_same : (p p' : Params) (h h' : List (HopState Stored)) (l l' : List ℕ) (q q' : ℕ) → p ≡ p' → h ≡ h' → l ≡ l' → q ≡ q' → of_parts p h l q ≡ of_parts p' h' l' q'
parts_same p p' h h' l l' q q' ps hs ls qs =
    ap (λ (x : Params). of_parts x h l q) ps ∙ ap (λ (x : List (HopState Stored)). of_parts p' x l q) hs
    ∙ ap (λ (x : List ℕ). of_parts p' h' x q) ls ∙ ap (λ (x : ℕ). of_parts p' h' l' x) qs

module _ (g : Geometry) (victim : ℕ) (s : State Stored) (params : Params) (hops : List (HopState Stored)) (lasts : List ℕ) (seq : ℕ)
    (same_params : params ≡ s.params) (same_lasts : lasts ≡ s.lasts) (same_seq : seq ≡ s.seq) where
  pub whole_drawn : (image : List ℕ) → hops ≡ map (map_hop (collected_in image g victim)) s.hops → of_parts params hops lasts seq ≡ collected_state g victim (bytes_at image) s
  whole_drawn image same = parts_same params s.params hops (map (map_hop (collected_in image g victim)) s.hops) lasts s.lasts seq s.seq same_params same same_lasts same_seq

  pub whole_lengths : map (map_hop blank_payload) hops ≡ map (map_hop (collected_blank g victim)) s.hops → IsSameButForBytes (of_parts params hops lasts seq) (collected_state g victim zeros_at s)
  whole_lengths same =
      parts_same params s.params (map (map_hop blank_payload) hops) (map (map_hop (collected_blank g victim)) s.hops) lasts s.lasts seq s.seq same_params same same_lasts same_seq
      ∙ sym (state_twice blank_payload (collected_payload g victim zeros_at) s)

  pub whole_sound : map (map_hop blank_payload) hops ≡ map (map_hop (collected_blank g victim)) s.hops → IsSound stored_length s → IsSound stored_length (of_parts params hops lasts seq)
  whole_sound same sound =
      same_sound (collected_state g victim zeros_at s) (of_parts params hops lasts seq) (sym (whole_lengths same))
      (drawn_sound g victim zeros_at s (λ place. length-replicate place.length 0) sound)
