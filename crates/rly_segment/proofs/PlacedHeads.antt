-- Heads with payloads by device address.
use Rattle.rly_segment.proofs.Common.{◌<◌, ◌^◌, ◌∙◌, ◌≡◌, ◌≤◌, All, arith, Err, Geometry, get_or, HaveForms, HeadForm, HoldsHeadOf, IsLayout, IsOfForm}
use Rattle.rly_segment.proofs.Common.{IsPlaced, IsReadHeadOf, IsSound, IsStorable, LiesElsewhere, List, payloads_of, Placed, State, state_spelled, Stored}
use Rattle.rly_segment.proofs.Common.{stored_form_of, stored_length, stored_spelled, sym, ℕ}
use Rattle.rly_segment_checkpoint.specs.declared.stored.DeviceAddress.{DeviceAddress}
use Rattle.rly_reclaim.proofs.Placing.{of_items}
use Rattle.rly_reclaim.specs.Places.{LiesIn}
use Rattle.rly_segment.specs.PlacedHeads.{IsReadPlaced}
use Rattle.rly_segment.specs.declared.heads.HeadFault.{HeadFault}
use Rattle.rly_segment.specs.declared.heads.HeadFault.TheVariants as head
use Rattle.rly_segment.proofs.HeadBytes.{head_parts, its_start, read_as, start_is}

-- the offset of a payload in a segment fits 5 bytes
pub lies_storable : (g : Geometry) (size segment : ℕ) (place : DeviceAddress) → IsLayout g size → LiesIn g segment place → place.start < 2 ^ 40
lies_storable g size segment place geometry lies = grind (arith, lies, geometry.segments.1, geometry.length)

-- so it has a form, in both forms of a head
pub place_storable : (which : HeadForm) (place : DeviceAddress) → place.start < 2 ^ 40 → 1 ≤ place.length → IsStorable which (Placed place)
place_storable which place below some = (grind arith, some)

-- a payload in another segment has a form
storable : (which : HeadForm) (g : Geometry) (size own : ℕ) (p : Stored) → IsLayout g size → LiesElsewhere g own p → IsStorable which p
storable which g size own p geometry elsewhere = grind (arith, lies_storable g size, place_storable which)

pub forms_of : (which : HeadForm) (g : Geometry) (size own : ℕ) (s : State Stored) → IsLayout g size → IsPlaced g own s
    → All (HaveForms (IsStorable which)) s.hops
forms_of which g size own s geometry placed =
    of_items (IsStorable which) s.hops (λ k d lt. storable which g size own (get_or (payloads_of s) k d) geometry (placed.elsewhere k d lt))

-- one encoding is one state: the law of `rly_segment_checkpoint`
abbrev pub OneSpelling : Type 0
OneSpelling = (which : HeadForm) (a b : State Stored) → IsSound stored_length a → IsSound stored_length b
    → All (HaveForms (IsStorable which)) a.hops → All (HaveForms (IsStorable which)) b.hops → IsOfForm which a → IsOfForm which b
    → a.params ≡ b.params → state_spelled stored_length (stored_spelled which) a ≡ state_spelled stored_length (stored_spelled which) b → a ≡ b

-- two heads of one segment, of any forms
pub stored_once : OneSpelling → (image : List ℕ) (g : Geometry) (segment : ℕ) (w v : HeadForm) (n m : ℕ) (a b : State Stored) → g.length < 2 ^ 31
    → HoldsHeadOf stored_length (stored_spelled w) image g segment n a → HoldsHeadOf stored_length (stored_spelled v) image g segment m b
    → All (HaveForms (IsStorable w)) a.hops → All (HaveForms (IsStorable v)) b.hops → (w ≡ v) × (n ≡ m) × (a ≡ b)
stored_once one image g segment w v n m a b short first second forms_a forms_b =
    let start = its_start stored_form_of w short first in
    let its = start_is stored_form_of start v second in
    let same = read_as stored_form_of start (sym (head_parts first).1) IsStorable (λ t. a ≡ t)
    (λ t sound has plain params same. one w a t first.sound sound forms_a has first.plain plain (first.head.params ∙ sym params) same) v forms_b second in
    (its.1, its.0, same)

-- if no state is held, none with allowed addresses is
pub fault_placed : (image : List ℕ) {g : Geometry} {size : ℕ} (segment : ℕ) (fault : HeadFault) → IsLayout g size
    → IsReadHeadOf stored_length stored_form_of IsStorable image g segment (Err fault) → IsReadPlaced image g segment (Err fault)
fault_placed image {g} {size} segment head.Damaged geometry none = λ v m s other. none v m s (forms_of v g size segment s geometry other.placed) other.head
fault_placed image segment fault geometry none = tt
