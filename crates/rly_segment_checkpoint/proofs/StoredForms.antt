-- For payloads inline or by device address reading inverts writing.
use Rattle.std.proofs.Common.{◌≡◌, ℕ, ◌+◌, ◌<◌, ◌≤◌, ◌^◌, Bool, true, false, cond, eqb, List, [], ◌∷◌, ◌++◌, length, Option, Some, None, refl, sym, ap, subst, ◌∙◌, arith, inl, inr}
use Rattle.std.proofs.lemmas.Bool.{eqb-true, eqb-false, ne_eqb}
use Rattle.byteorder.specs.Endian.{big_bytes}
use Rattle.byteorder.specs.Numbers.{length-bytes_high_first}
use Rattle.rly_record.specs.HelpersReader.{◌>>=◌, field_at}
use Rattle.rly_record.proofs.Fields.{IsBytes, IsBytes-rest, bind_some, bind_is, chosen, some_is}
use Rattle.rly_segment_checkpoint.specs.Forms.{AreForms}
use Rattle.rly_segment_checkpoint.specs.HelpersReader.{inline_at}
use Rattle.rly_segment_checkpoint.specs.HelpersStored.{inlined_at, placed_at, stored_at}
use Rattle.rly_segment_checkpoint.specs.Stored.{IsStorable, stored_form_of, stored_length, stored_spelled}
use Rattle.rly_segment_checkpoint.specs.Widths.{place_width}
use Rattle.rly_segment_checkpoint.specs.declared.head_form.HeadForm.{HeadForm}
use Rattle.rly_segment_checkpoint.specs.declared.stored.DeviceAddress.{DeviceAddress}
use Rattle.rly_segment_checkpoint.specs.declared.stored.Stored.{Stored}
use Rattle.rly_segment_checkpoint.specs.declared.stored.Stored.TheVariants.{Inline, Placed}
use Rattle.rly_segment_checkpoint.proofs.Parts.{inline_forms, place_reads}

-- the result of reading a form
abbrev Given : HeadForm → (size : ℕ) (bytes : List ℕ) → Stored → List ℕ → Type 0
Given which size bytes stored rest = (bytes ≡ stored_form_of which stored ++ rest) × (stored_length stored ≡ size) × IsStorable which stored

inlined_takes : (which : HeadForm) (size : ℕ) (bytes : List ℕ) (stored : Stored) (rest : List ℕ) → IsBytes bytes
    → inlined_at size bytes ≡ Some (stored, rest) → Given which size bytes stored rest
unfolding inlined_at
inlined_takes which size bytes stored rest fits e =
    let x = bind_some (inline_at size bytes) (λ (p : List ℕ × List ℕ). Some (Inline p.0, p.1)) (stored, rest) e in
    let t = (inline_forms which).takes size bytes x.0.0 x.0.1 fits x.1 in
    subst (λ (y : Stored × List ℕ). Given which size bytes y.0 y.1) (some_is (Inline x.0.0, x.0.1) (stored, rest) x.2) (t.0, t.1, tt)

-- a test that has to fail for a value to be read
passed : {A : Type 0} (b : Bool) (read : Option A) (x : A) → cond b None read ≡ Some x → (b ≡ false) × (read ≡ Some x)
passed true read x e = absurd cc
passed false read x e = (refl, e)

placed_takes : (which : HeadForm) (size : ℕ) (bytes : List ℕ) (stored : Stored) (rest : List ℕ) → IsBytes bytes
    → placed_at which size bytes ≡ Some (stored, rest) → Given which size (1 ∷ bytes) stored rest
unfolding placed_at
placed_takes which size bytes stored rest fits e =
    let made : ℕ × List ℕ → Option (Stored × List ℕ) = λ start. Some (Placed (record { start = start.0; length = size }), start.1) in
    let g = passed (eqb size 0) (field_at (place_width which) bytes >>= made) (stored, rest) e in
    let x = bind_some (field_at (place_width which) bytes) made (stored, rest) g.1 in
    let t = (place_reads which).takes bytes x.0.0 x.0.1 fits x.1 in
    let some : 1 ≤ size = let n = eqb-false size 0 g.0 in omega arith in
    subst (λ (y : Stored × List ℕ). Given which size (1 ∷ bytes) y.0 y.1) (some_is (Placed (record { start = x.0.0; length = size }), x.0.1) (stored, rest) x.2)
    (ap (λ (l : List ℕ). 1 ∷ l) t.0.parts, refl, (t.1, some))

stored_takes : (which : HeadForm) (size : ℕ) (bytes : List ℕ) (stored : Stored) (rest : List ℕ) → IsBytes bytes
    → stored_at which size bytes ≡ Some (stored, rest) → Given which size bytes stored rest
unfolding stored_at
stored_takes which size [] stored rest fits e = absurd cc
stored_takes which size (form ∷ bytes) stored rest fits e =
    elim (chosen (eqb form 1) (placed_at which size bytes) (inlined_at size (form ∷ bytes)) (Some (stored, rest)) e) [
      | inl placed ↦ subst (λ (n : ℕ). Given which size (n ∷ bytes) stored rest) (sym (eqb-true _ _ placed.0)) (placed_takes which size bytes stored rest (IsBytes-rest form bytes fits) placed.1)
      | inr inlined ↦ inlined_takes which size (form ∷ bytes) stored rest fits inlined.1
    ]

placed_again : (which : HeadForm) (place : DeviceAddress) (rest : List ℕ) → place.start < 256 ^ place_width which → 1 ≤ place.length
    → placed_at which place.length (big_bytes (place_width which) place.start ++ rest) ≡ Some (Placed place, rest)
unfolding placed_at
placed_again which place rest start some =
    let made : ℕ × List ℕ → Option (Stored × List ℕ) = λ start. Some (Placed (record { start = start.0; length = place.length }), start.1) in
    let no : eqb place.length 0 ≡ false = ne_eqb place.length 0 (λ e. absurd (omega arith)) in
    let text : List ℕ = big_bytes (place_width which) place.start ++ rest in
    ap (λ (b : Bool). cond b None (field_at (place_width which) text >>= made)) no
    ∙ bind_is (field_at (place_width which) text) (place.start, rest) made (Some (Placed place, rest)) ((place_reads which).again place.start rest start) refl

stored_again : (which : HeadForm) (stored : Stored) (rest : List ℕ) → IsStorable which stored
    → stored_at which (stored_length stored) (stored_form_of which stored ++ rest) ≡ Some (stored, rest)
unfolding stored_at inlined_at
stored_again which (Inline payload) rest storable =
    bind_is (inline_at (length payload) (0 ∷ payload ++ rest)) (payload, rest) (λ (p : List ℕ × List ℕ). Some (Inline p.0, p.1)) (Some (Inline payload, rest)) ((inline_forms which).again payload rest tt) refl
stored_again which (Placed place) rest storable = placed_again which place rest storable.0 storable.1

form_few : (which : HeadForm) (stored : Stored) → length (stored_form_of which stored) ≤ stored_length stored + 1 + place_width which
form_few which (Inline payload) = omega arith
form_few which (Placed place) = omega (arith, length-bytes_high_first (place_width which) place.start)

form_some : (which : HeadForm) (stored : Stored) → 1 ≤ length (stored_form_of which stored)
form_some which (Inline payload) = omega arith
form_some which (Placed place) = omega arith

pub stored_forms : (which : HeadForm) → AreForms stored_length (stored_spelled which) (IsStorable which) (stored_at which)
stored_forms which = record { takes = stored_takes which; again = stored_again which; some = form_some which; few = form_few which }
