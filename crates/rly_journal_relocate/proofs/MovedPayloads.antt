-- One payload, before and after its head is written: its content, and the length of its entry.
use Rattle.std.proofs.Common.{ℕ, zero, suc, ◌≡◌, ◌+◌, ◌*◌, ◌-◌, ◌<◌, ◌≤◌, Bool, true, false, cond, eqb, List, [], ◌∷◌, length, get_or, map, set, arith, refl, sym, ap, subst, ◌∙◌}
use Rattle.std.specs.Prelude.{Some, nat_le, ◌&&◌, ◌^◌}
use Rattle.std.proofs.Math.Nat.{mul-le-mul_right}
use Rattle.std.proofs.lemmas.Bool.{le-leb, lt-ltb}
use Rattle.std.proofs.lemmas.List.{length-append, length-map, length-replicate, set-get_or}
use Rattle.std.proofs.lemmas.Option.{slice_get-get_or}
use Rattle.rly_core.specs.declared.ids.HopId.{HopId}
use Rattle.rly_core.specs.declared.params.Geometry.{Geometry}
use Rattle.rly_machine.specs.Map.{map_item}
use Rattle.rly_machine.specs.Relocate.{carried_at, state_with_relocated, with_payload, with_relocated}
use Rattle.rly_machine.specs.Sound.{IsLive, IsSound}
use Rattle.rly_machine.specs.State.{HopState, State, has_hop, hop_at, is_among, live_line, new_hop}
use Rattle.rly_machine.specs.declared.hop.Item.{Item}
use Rattle.rly_machine.proofs.Mapping.{get_mapped}
use Rattle.rly_machine.proofs.Refusals.{among}
use Rattle.rly_segment_checkpoint.specs.Stored.{stored_form_of, stored_length, stored_spelled}
use Rattle.rly_segment_checkpoint.specs.Widths.{entry_width, place_width}
use Rattle.rly_segment_checkpoint.specs.declared.head_form.HeadForm.{HeadForm}
use Rattle.rly_segment_checkpoint.specs.declared.head_form.HeadForm.TheVariants.{First, Second}
use Rattle.rly_segment_checkpoint.specs.declared.stored.DeviceAddress.{DeviceAddress}
use Rattle.rly_segment_checkpoint.specs.declared.stored.Stored.{Stored}
use Rattle.rly_segment_checkpoint.specs.declared.stored.Stored.TheVariants.{Inline, Placed}
use Rattle.rly_segment_checkpoint.proofs.Parts.{length-entry}
use Rattle.rly_reclaim.specs.Places.{segment_of}
use Rattle.rly_segment.specs.Heads.{segment_place}
use Rattle.rly_segment.specs.HeadAddresses.{stored_in_head}
use Rattle.rly_journal_relocate.specs.HelpersRelocation.{HasBytes, IsInline, collected_blank}
use Rattle.rly_journal_relocate.specs.Relocation.{LiesThere, zeros_at}
use Rattle.rly_journal_relocate.proofs.Relocations.{entry_size, lined, lined_put, lined_self}

-- ---- a payload that is inline in the new head, and one that isn't

settled_some : (at : ℕ) (bytes : List ℕ) → 1 ≤ length bytes → stored_in_head at (Inline bytes) ≡ Placed (record { start = at; length = length bytes })
settled_some at [] some = absurd (omega (arith, some))
settled_some at (byte ∷ bytes) some = refl

module _ (g : Geometry) (victim : ℕ) where
  pub stays_there : (at : ℕ) (p : Stored) → (IsInline (collected_blank g victim p) → ⊥) → stored_in_head at (collected_blank g victim p) ≡ p
  stays_there at (Inline payload) other = absurd (other tt)
  stays_there at (Placed place) other = by_cases (eqb (segment_of g place.start) victim) other
    where
      by_cases : (b : Bool) → (IsInline (cond b (Inline (zeros_at place)) (Placed place)) → ⊥) → stored_in_head at (cond b (Inline (zeros_at place)) (Placed place)) ≡ Placed place
      by_cases true never = absurd (never tt)
      by_cases false never = refl

  pub empty_stays : (at : ℕ) (p : Stored) → HasBytes p → stored_length p ≡ 0 → stored_in_head at (collected_blank g victim p) ≡ p
  empty_stays at (Inline []) some none = refl
  empty_stays at (Inline (byte ∷ bytes)) some none = absurd (omega (arith, none))
  empty_stays at (Placed place) some none = absurd (omega (arith, some, none))

  pub settles : (at : ℕ) (p : Stored) → IsInline (collected_blank g victim p) → 1 ≤ stored_length p
      → stored_in_head at (collected_blank g victim p) ≡ Placed (record { start = at; length = stored_length p })
  settles at (Inline payload) inline some = settled_some at payload some
  settles at (Placed place) inline some = by_cases (eqb (segment_of g place.start) victim) inline
    where
      by_cases : (b : Bool) → IsInline (cond b (Inline (zeros_at place)) (Placed place))
          → stored_in_head at (cond b (Inline (zeros_at place)) (Placed place)) ≡ Placed (record { start = at; length = place.length })
      by_cases true here =
          let n : length (zeros_at place) ≡ place.length = length-replicate place.length 0 in
          settled_some at (zeros_at place) (omega (arith, n, some)) ∙ ap (λ (k : ℕ). let p : Stored = Placed (record { start = at; length = k }) in p) n
      by_cases false here = absurd here

-- the form of its entry

module _ (which : HeadForm) (g : Geometry) (victim : ℕ) where
  placed_form : (place : DeviceAddress) → length (stored_form_of which (Placed place)) ≡ 1 + place_width which
  placed_form place = by_form which
    where
      by_form : (w : HeadForm) → length (stored_form_of w (Placed place)) ≡ 1 + place_width w
      by_form First = refl
      by_form Second = refl

  form_there : (p : Stored) → (IsInline (collected_blank g victim p) → ⊥) → length (stored_form_of which (collected_blank g victim p)) ≡ 1 + place_width which
  form_there (Inline payload) other = absurd (other tt)
  form_there (Placed place) other = by_cases (eqb (segment_of g place.start) victim) other
    where
      by_cases : (b : Bool) → (IsInline (cond b (Inline (zeros_at place)) (Placed place)) → ⊥)
          → length (stored_form_of which (cond b (Inline (zeros_at place)) (Placed place))) ≡ 1 + place_width which
      by_cases true never = absurd (never tt)
      by_cases false never = placed_form place

  form_here : (p : Stored) → IsInline (collected_blank g victim p) → length (stored_form_of which (collected_blank g victim p)) ≡ 1 + stored_length p
  form_here (Inline payload) inline = omega arith
  form_here (Placed place) inline = by_cases (eqb (segment_of g place.start) victim) inline
    where
      by_cases : (b : Bool) → IsInline (cond b (Inline (zeros_at place)) (Placed place))
          → length (stored_form_of which (cond b (Inline (zeros_at place)) (Placed place))) ≡ 1 + place.length
      by_cases true here = let n : length (zeros_at place) ≡ place.length = length-replicate place.length 0 in omega (arith, n)
      by_cases false here = absurd here

  pub size_there : (item : Item Stored) → (IsInline (collected_blank g victim item.payload) → ⊥)
      → entry_size which (map_item (collected_blank g victim) item) ≡ entry_width which + place_width which
  size_there item other =
      omega (arith, length-entry stored_length (stored_spelled which) (map_item (collected_blank g victim) item), form_there item.payload other)

  pub size_here : (item : Item Stored) → IsInline (collected_blank g victim item.payload)
      → entry_size which (map_item (collected_blank g victim) item) ≡ entry_width which + stored_length item.payload
  size_here item inline =
      omega (arith, length-entry stored_length (stored_spelled which) (map_item (collected_blank g victim) item), form_here item.payload inline)

-- an entry without the bytes of its payload is short
pub entry_short : (which : HeadForm) → entry_width which + place_width which ≤ 27
entry_short First = omega arith
entry_short Second = omega arith

-- ---- an item of a spool

with_same : {P : Type 0} (items : List (Item P)) (i : ℕ) (item : Item P) → i < length items → item ≡ get_or items i item → with_payload items i item.payload ≡ items
with_same [] i item lt is = absurd (omega (arith, lt))
with_same {P} (x ∷ items) zero item lt is = ap (λ (y : Item P). record x { payload = y.payload } ∷ items) is
with_same {P} (x ∷ items) (suc i) item lt is = ap (λ (l : List (Item P)). x ∷ l) (with_same items i item (omega (arith, lt)) is)

line_long : {P : Type 0} (h : HopState P) → length h.flight ≤ length (live_line h)
line_long h = omega (arith, length-append h.flight h.queue)

-- a hop whose item has the same content
hop_same : {P : Type 0} (h : HopState P) (i : ℕ) (item : Item P) → i < length (live_line h) → item ≡ get_or (live_line h) i item → with_relocated h i item.payload ≡ h
hop_same {P} h i item lt is =
    ap (λ (k : HopState P). with_relocated k i item.payload) (sym (lined_self h))
    ∙ lined_put h (live_line h) i item.payload (line_long h)
    ∙ ap (λ (l : List (Item P)). lined h l) (with_same (live_line h) i item lt is)
    ∙ lined_self h

module _ {P : Type 0} (s : State P) (hop : HopId) where
  abbrev with_hops : List (HopState P) → State P
  with_hops hops = record { params = s.params; hops = hops; lasts = s.lasts; seq = s.seq }

  -- a spool too
  pub same_relocated : (i : ℕ) (item : Item P) (p : P) → i < length (live_line (hop_at s hop)) → item ≡ get_or (live_line (hop_at s hop)) i item
      → p ≡ item.payload → s ≡ state_with_relocated s hop i p
  same_relocated i item p lt is same =
      sym (
      ap (λ (q : P). state_with_relocated s hop i q) same
      ∙ ap (λ (h : HopState P). with_hops (set s.hops (hop.0 - 1) h)) (hop_same (hop_at s hop) i item lt is)
      ∙ ap with_hops (set-get_or s.hops (hop.0 - 1) new_hop)
      )

pub carried : (items : List (Item Stored)) (i : ℕ) (item : Item Stored) → i < length items → item ≡ get_or items i item
    → carried_at stored_length items i ≡ Some (stored_length item.payload)
carried items i item lt is =
    let n : Item Stored → ℕ = λ x. stored_length x.payload in
    slice_get-get_or (map n items) i (n item) (omega (arith, lt, length-map items n))
    ∙ ap (λ (k : ℕ). Some k) (get_mapped n items i item ∙ ap n (sym is))

-- the payload of a live item is short
pub live_short : (s : State Stored) (hop : HopId) (i : ℕ) (item : Item Stored) → IsSound stored_length s → hop.0 - 1 < length s.hops
    → i < length (live_line (hop_at s hop)) → item ≡ get_or (live_line (hop_at s hop)) i item → stored_length item.payload ≤ 8192
live_short s hop i item sound below lt is =
    let h : HopState Stored = hop_at s hop in
    let live : IsLive stored_length s.params h.moment s.seq (get_or (live_line h) i item) = (sound.hops (hop.0 - 1) new_hop below).items i item lt in
    omega (arith, ap (λ (x : Item Stored). stored_length x.payload) is, live.length, sound.params.payload.1)

-- the index of an existing hop
pub hop_below : {P : Type 0} (s : State P) (hop : HopId) → has_hop s hop ≡ true → hop.0 - 1 < length s.hops
hop_below s hop there = let found = among (length s.hops) hop.0 there in omega (arith, found.0, found.1)

pub is_there : (count number : ℕ) → 0 < number → number ≤ count → is_among count number ≡ true
is_there count number some le =
    subst (λ (b : Bool). (b && nat_le number count) ≡ true) (sym (lt-ltb 0 number some)) (le-leb number count le)

-- a segment's offset is far below the maximum of 64 bits
pub place_below : (g : Geometry) (segment : ℕ) → segment < 256 → g.length < 2 ^ 31 → segment_place g segment < 2 ^ 40
place_below g segment few short =
    let most : segment * g.length ≤ 256 * g.length = mul-le-mul_right g.length (let le : segment ≤ 256 = omega (arith, few) in le) in
    omega (arith, most, short)

pub have_bytes : (g : Geometry) (p : Stored) → LiesThere g p → HasBytes p
have_bytes g (Inline payload) lies = tt
have_bytes g (Placed place) lies = lies.0
