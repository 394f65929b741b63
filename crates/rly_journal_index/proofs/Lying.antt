-- The device address of one payload.
use Rattle.std.proofs.Common.{ℕ, suc, ◌≡◌, ◌≢◌, ◌+◌, ◌*◌, ◌-◌, ◌/◌, ◌%◌, ◌<◌, ◌≤◌, Bool, true, false, cond, eqb, List, [], ◌∷◌, min, arith, rules, refl, sym, ap, ◌∙◌, inl, inr}
use Rattle.std.proofs.Math.Nat.{mul-le-mul_right}
use Rattle.std.proofs.lemmas.Bool.{cases_lt, eq-eqb, ne_eqb}
use Rattle.rly_core.specs.declared.params.Geometry.{Geometry}
use Rattle.rly_segment_checkpoint.specs.declared.stored.DeviceAddress.{DeviceAddress}
use Rattle.rly_segment_checkpoint.specs.declared.stored.Stored.{Stored}
use Rattle.rly_segment_checkpoint.specs.declared.stored.Stored.TheVariants.{Inline, Placed}
use Rattle.rly_reclaim.specs.Placed.{LiesElsewhere}
use Rattle.rly_reclaim.specs.Places.{LiesIn, bytes_in, segment_of}
use Rattle.rly_reclaim.specs.LiveRoom.{collected_payload, inline_length}
use Rattle.rly_reclaim.proofs.Placing.{lies_there, segment_once, short_enough}
use Rattle.rly_segment.specs.Heads.{segment_end, segment_place}
use Rattle.rly_segment.specs.HeadAddresses.{stored_in_head}
use Rattle.rly_journal_relocate.specs.Relocation.{LiesThere}
use Rattle.rly_journal_index.specs.IndexRelation.{LiesBetween, LiesClear}

suc_times : (n m : ℕ) → suc n * m ≡ m + n * m
suc_times n m = search rules

-- one segment lies before another
pub apart : (s t size : ℕ) → s < t → s * size + size ≤ t * size
apart s t size below =
    let grown : suc s * size ≤ t * size = mul-le-mul_right size (let le : suc s ≤ t = omega (arith, below) in le) in
    omega (arith, grown, suc_times s size)

-- a payload lies in a segment, and not in the given one
abbrev pub LiesApart : Geometry → ℕ → Stored → Type 0
LiesApart g segment p = LiesThere g p × (bytes_in g segment p ≡ 0)

-- it has all its bytes there
pub all_there : (g : Geometry) (segment : ℕ) (place : DeviceAddress) → segment_of g place.start ≡ segment → bytes_in g segment (Placed place) ≡ place.length
all_there g segment place here = ap (λ (b : Bool). cond b place.length 0) (eq-eqb (segment_of g place.start) segment here)

pub none_there : (g : Geometry) (segment : ℕ) (place : DeviceAddress) → segment_of g place.start ≢ segment → bytes_in g segment (Placed place) ≡ 0
none_there g segment place other = ap (λ (b : Bool). cond b place.length 0) (ne_eqb (segment_of g place.start) segment other)

-- so it ends before that segment, or begins after it
pub lies_apart : (g : Geometry) (segment : ℕ) (p : Stored) → LiesApart g segment p → LiesClear (segment_place g segment) (segment_end g segment) p
lies_apart g segment (Inline payload) lies = tt
lies_apart g segment (Placed place) lies =
    let some : 1 ≤ place.length = lies.0.0 in
    let k : ℕ = lies.0.1.0 in
    let there : LiesIn g k place = lies.0.1.1 in
    let once : segment_of g place.start ≡ k = segment_once g k place some there in
    let other : k ≢ segment = λ same. omega (arith, some, lies.1, all_there g segment place (once ∙ same)) in
    elim (cases_lt k segment) [
      | inl before ↦ inl (omega (arith, there.to, apart k segment g.length before))
      | inr after ↦ inr (omega (arith, there.from, apart segment k g.length (omega (arith, after, other))))
    ]

pub clear_more : (from less to : ℕ) (p : Stored) → less ≤ from → LiesClear less to p → LiesClear from to p
clear_more from less to (Inline payload) le clear = tt
clear_more from less to (Placed place) le clear =
    elim clear [ inl before ↦ inl (omega (arith, le, before)) | inr after ↦ inr after ]

-- a payload in another segment lies there
pub elsewhere_apart : (g : Geometry) (own : ℕ) (p : Stored) → LiesElsewhere g own p → LiesApart g own p
elsewhere_apart g own (Inline payload) lies = (tt, refl)
elsewhere_apart g own (Placed place) lies =
    let once : segment_of g place.start ≡ lies.1.0 = segment_once g lies.1.0 place lies.0 lies.1.2 in (
      (lies.0, (lies.1.0, lies.1.2)),
      none_there g own place (λ same. lies.1.1 (sym once ∙ same)),
    )

-- a payload that the next head has inline, and one that it hasn't, if the target held none
pub drawn_apart : (g : Geometry) (victim target : ℕ) (read : DeviceAddress → List ℕ) (p : Stored) → LiesApart g target p → LiesApart g target (collected_payload g victim read p)
drawn_apart g victim target read (Inline payload) lies = (tt, refl)
drawn_apart g victim target read (Placed place) lies = by_cases (eqb (segment_of g place.start) victim)
  where
    by_cases : (b : Bool) → LiesApart g target (cond b (Inline (read place)) (Placed place))
    by_cases true = (tt, refl)
    by_cases false = lies

-- a payload of a head before a gate, after it got its address
pub settled_clear : (g : Geometry) (segment gate : ℕ) → segment_place g segment ≤ gate → (at : ℕ) (p : Stored) → segment_place g segment ≤ at
    → at + inline_length p ≤ gate → LiesApart g segment p → LiesClear gate (segment_end g segment) (stored_in_head at p)
settled_clear g segment gate above at (Inline []) from within lies = tt
settled_clear g segment gate above at (Inline (byte ∷ bytes)) from within lies = inl (omega (arith, within))
settled_clear g segment gate above at (Placed place) from within lies =
    clear_more gate (segment_place g segment) (segment_end g segment) (Placed place) above (lies_apart g segment (Placed place) lies)

-- ---- as numbers that are zero

abbrev pub astray : Geometry → Stored → ℕ
astray g (Inline payload) = 0
astray g (Placed place) =
    (1 - place.length) + (64 - place.start) + ((place.start - 64) / g.length + 1 - g.segments)
    + ((place.start - 64) % g.length + place.length - g.length)

pub there_not_astray : (g : Geometry) (p : Stored) → LiesThere g p → astray g p ≡ 0
there_not_astray g (Inline payload) lies = refl
there_not_astray g (Placed place) lies =
    let k : ℕ = lies.1.0 in
    let there : LiesIn g k place = lies.1.1 in
    omega (arith, lies.0, there.from, segment_once g k place lies.0 there, there.there, short_enough g k place lies.0 there)

pub not_astray_there : (g : Geometry) (p : Stored) → astray g p ≡ 0 → LiesThere g p
not_astray_there g (Inline payload) none = tt
not_astray_there g (Placed place) none = (
  omega (arith, none),
  ((place.start - 64) / g.length, lies_there g place (omega (arith, none)) (omega (arith, none)) (omega (arith, none))),
)

abbrev pub met : ℕ → ℕ → Stored → ℕ
met from to (Inline payload) = 0
met from to (Placed place) = min (place.start + place.length - from) (to - place.start)

pub clear_not_met : (from to : ℕ) (p : Stored) → LiesClear from to p → met from to p ≡ 0
clear_not_met from to (Inline payload) clear = refl
clear_not_met from to (Placed place) clear = elim clear [ inl before ↦ omega (arith, before) | inr after ↦ omega (arith, after) ]

pub not_met_clear : (from to : ℕ) (p : Stored) → met from to p ≡ 0 → LiesClear from to p
not_met_clear from to (Inline payload) none = tt
not_met_clear from to (Placed place) none =
    elim (cases_lt from (place.start + place.length)) [
      | inl over ↦ inr (omega (arith, none, over))
      | inr within ↦ inl within
    ]

-- ---- the payload of a record

module _ (g : Geometry) (segment used next : ℕ) (below : segment < g.segments) (above : segment_place g segment ≤ used) (within : next ≤ segment_end g segment) where
  pub between_there : (p : Stored) → LiesBetween used next p → LiesThere g p
  between_there (Inline payload) lies = tt
  between_there (Placed place) lies = (
    lies.0,
    (segment, record { there = below; from = omega (arith, above, lies.1); to = omega (arith, within, lies.2) }),
  )

  pub between_clear : (p : Stored) → LiesBetween used next p → LiesClear next (segment_end g segment) p
  between_clear (Inline payload) lies = tt
  between_clear (Placed place) lies = inl lies.2

  pub between_inline : (p : Stored) → LiesBetween used next p → inline_length p ≡ 0
  between_inline (Inline payload) lies = lies
  between_inline (Placed place) lies = refl

  pub between_other : (t : ℕ) → t ≢ segment → (p : Stored) → LiesBetween used next p → bytes_in g t p ≡ 0
  between_other t other (Inline payload) lies = refl
  between_other t other (Placed place) lies =
      let there : LiesIn g segment place = record { there = below; from = omega (arith, above, lies.1); to = omega (arith, within, lies.2) } in
      let once : segment_of g place.start ≡ segment = segment_once g segment place lies.0 there in
      none_there g t place (λ same. other (sym same ∙ once))
