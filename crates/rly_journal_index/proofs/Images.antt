-- The state that a spool of device addresses recovers to over images.
use Rattle.std.proofs.Common.{ℕ, ◌≡◌, ◌⊎◌, ◌+◌, ◌-◌, ◌≤◌, List, [], ◌∷◌, length, drop, map, arith, refl, sym, ap, subst, ◌∙◌, inl, inr, length-drop, length-take}
use Rattle.std.specs.Prelude.{All}
use Rattle.std.proofs.Math.Seq.{drop-append_seam, take-append_seam}
use Rattle.std.proofs.lemmas.List.Elements.{All-append, All-drop, All-head, All-tail, All-take, All-weaker}
use Rattle.rly_core.specs.declared.params.Geometry.{Geometry}
use Rattle.rly_disk.specs.DiskModel.{SameOutside}
use Rattle.rly_disk.proofs.Ranges.{part}
use Rattle.rly_machine.specs.Map.{map_command, map_hop, map_item, map_state, payload_of, payloads_of}
use Rattle.rly_machine.specs.State.{HopState, State, live_line}
use Rattle.rly_machine.specs.Step.{step}
use Rattle.rly_machine.specs.declared.command.Command.{Command}
use Rattle.rly_machine.specs.declared.hop.Item.{Item}
use Rattle.rly_machine.specs.declared.reply.Reply.{Reply}
use Rattle.rly_machine.proofs.Lifting.{step_map}
use Rattle.rly_segment_checkpoint.specs.Stored.{payload_in, state_in, stored_length}
use Rattle.rly_segment_checkpoint.specs.declared.stored.Stored.{Stored}
use Rattle.rly_segment_checkpoint.specs.declared.stored.Stored.TheVariants.{Inline, Placed}
use Rattle.rly_reclaim.specs.Places.{LiesIn}
use Rattle.rly_reclaim.proofs.Placing.{of_items}
use Rattle.rly_segment.specs.Device.{device_length}
use Rattle.rly_segment.specs.Heads.{segment_end}
use Rattle.rly_journal_relocate.specs.Relocation.{LiesThere}
use Rattle.rly_journal_index.specs.IndexRelation.{IsBrought, IsIndex, LiesBetween, LiesClear}
use Rattle.rly_journal_index.proofs.Lying.{apart, between_there}

-- ---- maps with the same values at all payloads of a state

items_held : {P Q : Type 0} (f g : P → Q) (items : List (Item P)) → All (λ item. f item.payload ≡ g item.payload) items → map (map_item f) items ≡ map (map_item g) items
items_held f g [] same = refl
items_held {P} {Q} f g (item ∷ items) same =
    let Same : Item P → Type 0 = λ x. f x.payload ≡ g x.payload in
    ap (λ (q : Q). let x : Item Q = record { id = item.id; stamp = item.stamp; limit = item.limit; payload = q } in x ∷ map (map_item f) items) (All-head Same item items same)
    ∙ ap (λ (rest : List (Item Q)). map_item g item ∷ rest) (items_held f g items (All-tail Same item items same))

hop_held : {P Q : Type 0} (f g : P → Q) (h : HopState P) → All (λ item. f item.payload ≡ g item.payload) (live_line h) → map_hop f h ≡ map_hop g h
hop_held {P} {Q} f g h same =
    let Same : Item P → Type 0 = λ x. f x.payload ≡ g x.payload in
    let flight : All Same h.flight = subst (All Same) (take-append_seam h.flight h.queue) (All-take Same (length h.flight) (live_line h) same) in
    let queue : All Same h.queue = subst (All Same) (drop-append_seam h.flight h.queue) (All-drop Same (length h.flight) (live_line h) same) in
    let with_lines : List (Item Q) → List (Item Q) → HopState Q = λ q l. record (map_hop f h) { queue = q; flight = l } in
    ap (λ (q : List (Item Q)). with_lines q (map (map_item f) h.flight)) (items_held f g h.queue queue)
    ∙ ap (with_lines (map (map_item g) h.queue)) (items_held f g h.flight flight)

hops_held : {P Q : Type 0} (f g : P → Q) (hops : List (HopState P)) → All (λ h. All (λ item. f item.payload ≡ g item.payload) (live_line h)) hops
    → map (map_hop f) hops ≡ map (map_hop g) hops
hops_held f g [] same = refl
hops_held {P} {Q} f g (h ∷ hops) same =
    let Each : HopState P → Type 0 = λ x. All (λ (item : Item P). f item.payload ≡ g item.payload) (live_line x) in
    ap (λ (x : HopState Q). x ∷ map (map_hop f) hops) (hop_held f g h (All-head Each h hops same))
    ∙ ap (λ (rest : List (HopState Q)). map_hop g h ∷ rest) (hops_held f g hops (All-tail Each h hops same))

pub maps_held : {P Q : Type 0} (f g : P → Q) (s : State P) → All (λ p. f p ≡ g p) (payloads_of s) → map_state f s ≡ map_state g s
maps_held {P} {Q} f g s same =
    ap (λ (hops : List (HopState Q)). let t : State Q = record { params = s.params; hops = hops; lasts = s.lasts; seq = s.seq } in t)
    (hops_held f g s.hops (of_items (λ (p : P). f p ≡ g p) s.hops same))

-- ---- changed bytes outside all payloads

pub still : {old new : List ℕ} (from n to : ℕ) → SameOutside from n old new → from + n ≤ to → (p : Stored) → LiesClear from to p → payload_in new p ≡ payload_in old p
still from n to same within (Inline payload) clear = refl
still {old} {new} from n to same within (Placed place) clear =
    let k : ℕ = place.start + place.length - place.start in
    let out : (place.start + k ≤ from) ⊎ (from + n ≤ place.start) =
    elim clear [ inl before ↦ inl (omega (arith, before)) | inr after ↦ inr (omega (arith, after, within)) ] in
    part from n same place.start k out

pub written : {old new : List ℕ} (g : Geometry) (segment used n : ℕ) (s : State Stored) → IsIndex g segment used s → used + n ≤ segment_end g segment
    → SameOutside used n old new → state_in new s ≡ state_in old s
written {old} {new} g segment used n s index within same =
    let Clear : Stored → Type 0 = LiesClear used (segment_end g segment) in
    let Same : Stored → Type 0 = λ p. payload_in new p ≡ payload_in old p in
    maps_held (payload_in new) (payload_in old) s
    (All-weaker Clear Same (still used n (segment_end g segment) same within) (payloads_of s) index.clear)

-- ---- an image contains all bytes of a payload that lies in a segment

pub whole : (image : List ℕ) (g : Geometry) → device_length g ≤ length image → (p : Stored) → LiesThere g p → length (payload_in image p) ≡ stored_length p
whole image g long (Inline payload) lies = refl
whole image g long (Placed place) lies =
    let k : ℕ = lies.1.0 in
    let there : LiesIn g k place = lies.1.1 in
    let within : place.start + place.length ≤ length image = omega (arith, there.to, apart k g.segments g.length there.there, long) in
    omega (arith, within, length-take ((place.start + place.length) - place.start) (drop place.start image), length-drop place.start image)

-- over an image with its record, a command may be applied by its bytes
pub recorded : (image : List ℕ) (g : Geometry) (segment used next : ℕ) (s : State Stored) (t : State (List ℕ)) (placed : Command Stored) (command : Command (List ℕ))
    → device_length g ≤ length image → IsIndex g segment used s → IsBrought g segment used next placed
    → map_command (payload_in image) placed ≡ command → state_in image s ≡ t
    → state_in image (step stored_length s placed).0 ≡ (step length t command).0
recorded image g segment used next s t placed command long index brought same stands =
    let Whole : Stored → Type 0 = λ p. length (payload_in image p) ≡ stored_length p in
    let held : All Whole (payloads_of s) = All-weaker (LiesThere g) Whole (whole image g long) (payloads_of s) index.there in
    let new : All Whole (payload_of placed) =
    All-weaker (LiesBetween used next) Whole (λ p lies. whole image g long p (between_there g segment used next brought.there brought.from brought.to p lies)) (payload_of placed) brought.lies in
    let one = (step_map stored_length length (payload_in image) s placed (All-append Whole (payloads_of s) (payload_of placed) held new)).0 in
    sym (ap (λ (x : State (List ℕ) × Reply). x.0) one)
    ∙ ap (λ (u : State (List ℕ)). (step length u (map_command (payload_in image) placed)).0) stands
    ∙ ap (λ (c : Command (List ℕ)). (step length t c).0) same
