-- For each part of a checkpoint reading inverts writing.
use Rattle.std.proofs.Common.{◌≡◌, ℕ, ◌+◌, ◌*◌, ◌<◌, ◌≤◌, Bool, true, false, cond, ◌||◌, not, eqb, ltb, List, [], ◌∷◌, ◌++◌, length, get_or, take, drop, Option, Some, None, refl, sym, ap, subst, ◌∙◌, append_assoc, arith, length-append, inl, inr}
use Rattle.std.specs.List.{flat_map}
use Rattle.std.proofs.lemmas.Bool.{eqb-true, ltb-false, le-ltb, or_parts}
use Rattle.std.proofs.lemmas.Grind.{flat_map-append}
use Rattle.std.proofs.lemmas.List.Concat.{flat_map-cons}
use Rattle.std.proofs.lemmas.List.{append-nil, nil_from_length, take_at, drop_at, take-append-drop, length-take, get_or-drop, get_or-append-add}
use Rattle.byteorder.specs.Endian.{big_bytes}
use Rattle.byteorder.specs.Numbers.{length-bytes_high_first}
use Rattle.rly_core.specs.declared.params.Params.{Params}
use Rattle.rly_codel.specs.declared.state.CodelState.{CodelState}
use Rattle.rly_machine.specs.declared.hop.Item.{Item}
use Rattle.rly_machine.specs.State.{State, HopState}
use Rattle.rly_record.specs.HelpersReader.{Reader, ◌⊗◌, many_at, field_at, then_at}
use Rattle.rly_record.proofs.Fields.{IsBytes, IsBytes-rest, bind_some, bind_is, guard_some, chosen, some_is, Takes}
use Rattle.rly_segment_checkpoint.specs.Checkpoint.{Spelled, flag_byte, codel_of, entry_spelled, hop_spelled, inline_form_of, spelled_by, state_spelled}
use Rattle.rly_segment_checkpoint.specs.Forms.{AreForms}
use Rattle.rly_segment_checkpoint.specs.HelpersFitting.{FitsBytes, CodelFits, EntryFits, LinesFit, HopFits}
use Rattle.rly_segment_checkpoint.specs.HelpersReader.{flag_at, codel_at, inline_at, entry_at, entries_at, lines_at, counts_at, hop_bytes_at, state_at, whole_state}
use Rattle.rly_segment_checkpoint.specs.Widths.{moment_width, count_width, expired_width, limit_width, place_width, entry_width}
use Rattle.rly_segment_checkpoint.specs.declared.head_form.HeadForm.{HeadForm}
use Rattle.rly_segment_checkpoint.specs.declared.head_form.HeadForm.TheVariants.{First, Second}
use Rattle.rly_record.proofs.Readers.{Reads, Fit, none_reads, u16_reads, u32_reads, u40_reads, u48_reads, u56_reads, u64_reads, then_reads, pair_reads, made_reads, many_reads}

-- ---- numbers, by the form of the head

abbrev Wide : ℕ → Type 0
Wide width = Reads (field_at width) (big_bytes width) (FitsBytes width)

moment_reads : (which : HeadForm) → Wide (moment_width which)
moment_reads First = u64_reads
moment_reads Second = u56_reads

count_reads : (which : HeadForm) → Wide (count_width which)
count_reads First = u64_reads
count_reads Second = u48_reads

expired_reads : (which : HeadForm) → Wide (expired_width which)
expired_reads First = none_reads
expired_reads Second = u48_reads

limit_reads : (which : HeadForm) → Wide (limit_width which)
limit_reads First = none_reads
limit_reads Second = u40_reads

pub place_reads : (which : HeadForm) → Wide (place_width which)
place_reads First = u64_reads
place_reads Second = u40_reads

-- ---- flags and CoDel's state

flag_takes : (bytes : List ℕ) (flag : Bool) (rest : List ℕ) → IsBytes bytes → flag_at bytes ≡ Some (flag, rest)
    → Takes bytes (flag_byte flag ∷ []) rest × Unit {0}
unfolding flag_at
flag_takes [] flag rest fits e = absurd cc
flag_takes (b ∷ bytes) flag rest fits e =
    let P : Bool × List ℕ → ℕ → Type 0 = λ x k. Takes (k ∷ bytes) (flag_byte x.0 ∷ []) x.1 × Unit {0} in
    let whole : (x : Bool) → P (x, bytes) (flag_byte x) = λ x. (record { parts = refl; rest_fits = IsBytes-rest b bytes fits }, tt) in
    elim (chosen (eqb b 0) (Some (false, bytes)) (cond (eqb b 1) (Some (true, bytes)) None) (Some (flag, rest)) e) [
      | inl clear ↦ subst (λ (x : Bool × List ℕ). P x b) (some_is (false, bytes) (flag, rest) clear.1) (subst (P (false, bytes)) (sym (eqb-true _ _ clear.0)) (whole false))
      | inr others ↦ elim (chosen (eqb b 1) (Some (true, bytes)) None (Some (flag, rest)) others.1) [
        | inl raised ↦ subst (λ (x : Bool × List ℕ). P x b) (some_is (true, bytes) (flag, rest) raised.1) (subst (P (true, bytes)) (sym (eqb-true _ _ raised.0)) (whole true))
        | inr neither ↦ let not_found : None ≡ Some (flag, rest) = neither.1 in absurd cc
      ]
    ]

flag_again : (flag : Bool) (rest : List ℕ) → flag_at (flag_byte flag ∷ [] ++ rest) ≡ Some (flag, rest)
unfolding flag_at
flag_again true rest = refl
flag_again false rest = refl

flag_reads : Reads flag_at (λ flag. flag_byte flag ∷ []) (λ _. Unit {0})
flag_reads = record { takes = flag_takes; again = λ flag rest fits. flag_again flag rest }

-- five parts in order
five_parts : (a b c d e : List ℕ) → a ++ (b ++ (c ++ (d ++ e))) ≡ a ++ b ++ c ++ d ++ e
five_parts a b c d e = simp append_assoc

codel_reads : (which : HeadForm) → Reads (codel_at which) (codel_of which) (CodelFits which)
unfolding codel_at codel_of
codel_reads which = made_reads
    (λ (x : ℕ × (ℕ × (ℕ × (ℕ × Bool)))). record { first_above_time = x.0; drop_next = x.1.0; count = x.1.1.0; lastcount = x.1.1.1.0; dropping = x.1.1.1.1 })
    (λ (c : CodelState). (c.first_above_time, (c.drop_next, (c.count, (c.lastcount, c.dropping)))))
    (codel_of which) (CodelFits which)
    (pair_reads (moment_reads which) (pair_reads (moment_reads which) (pair_reads (count_reads which) (pair_reads (count_reads which) flag_reads))))
    (λ x fits. five_parts (big_bytes (moment_width which) x.0) (big_bytes (moment_width which) x.1.0) (big_bytes (count_width which) x.1.1.0) (big_bytes (count_width which) x.1.1.1.0) (flag_byte x.1.1.1.1 ∷ []))
    (λ x fits. record { first_above_time = fits.0; drop_next = fits.1.0; count = fits.1.1.0; lastcount = fits.1.1.1.0 })
    (λ c fits. ((fits.first_above_time, (fits.drop_next, (fits.count, (fits.lastcount, tt)))), refl))

-- ---- entries

not-false : (b : Bool) → not b ≡ false → b ≡ true
not-false true e = refl
not-false false e = absurd cc

inline_takes : (size : ℕ) (bytes payload rest : List ℕ) → IsBytes bytes → inline_at size bytes ≡ Some (payload, rest)
    → Takes bytes (0 ∷ payload) rest × (length payload ≡ size)
unfolding inline_at
inline_takes size [] payload rest fits e = absurd cc
inline_takes size (form ∷ bytes) payload rest fits e =
    let g = guard_some (not (eqb form 0) || ltb (length bytes) size) (take size bytes, drop size bytes) (payload, rest) e in
    let tests = or_parts (not (eqb form 0)) (ltb (length bytes) size) g.0 in
    let is_0 : form ≡ 0 = eqb-true _ _ (not-false _ tests.0) in
    let long : size ≤ length bytes = ltb-false _ _ tests.1 in
    let len : length (take size bytes) ≡ size = omega (arith, length-take size bytes) in
    let parts : form ∷ bytes ≡ 0 ∷ take size bytes ++ drop size bytes = ap (λ (t : List ℕ). form ∷ t) (sym (take-append-drop size bytes)) ∙ ap (λ (n : ℕ). n ∷ take size bytes ++ drop size bytes) is_0 in
    subst (λ (x : List ℕ × List ℕ). Takes (form ∷ bytes) (0 ∷ x.0) x.1 × (length x.0 ≡ size)) g.1
    (record { parts = parts; rest_fits = λ i. rw get_or-drop (IsBytes-rest form bytes fits (size + i)) }, len)

inline_again : (size : ℕ) (payload rest : List ℕ) → length payload ≡ size
    → inline_at size (0 ∷ payload ++ rest) ≡ Some (payload, rest)
unfolding inline_at
inline_again size payload rest len =
    let long : ltb (length (payload ++ rest)) size ≡ false = le-ltb _ _ (omega (arith, length-append payload rest)) in
    rw (long, take_at payload rest size len, drop_at payload rest size len) refl

-- the suffix of bytes is bytes
rest_are_bytes : (text rest bytes : List ℕ) → bytes ≡ text ++ rest → IsBytes bytes → IsBytes rest
rest_are_bytes text rest bytes is all i = subst (λ (n : ℕ). n < 256) (ap (λ (l : List ℕ). get_or l (length text + i) 0) is ∙ get_or-append-add text rest i 0) (all (length text + i))

-- the form of inline payloads
pub inline_forms : (which : HeadForm) → AreForms length (spelled_by inline_form_of which) (λ payload. Unit {0}) inline_at
inline_forms which = record {
  takes = λ size bytes payload rest fits e. let t = inline_takes size bytes payload rest fits e in (t.0.parts, t.1, tt);
  again = λ payload rest has. inline_again (length payload) payload rest refl;
  some = λ payload. omega arith;
  few = λ payload. omega arith;
}

-- a form as a parser takes and returns it
form_reads : {P : Type 0} {len : P → ℕ} {form : Spelled P} {HasForm : P → Type 0} {form_at : ℕ → Reader P} (forms : AreForms len form HasForm form_at) (size : ℕ) → Reads (form_at size) form.form (λ payload. (len payload ≡ size) × HasForm payload)
form_reads {P} {len} {form} {HasForm} {form_at} forms size = record {
  takes = λ bytes payload rest fits e.
      let t = forms.takes size bytes payload rest fits e in
      (record { parts = t.0; rest_fits = rest_are_bytes (form.form payload) rest bytes t.0 fits }, (t.1, t.2));
  again = λ payload rest fits. ap (λ (n : ℕ). form_at n (form.form payload ++ rest)) (sym fits.0)
      ∙ forms.again payload rest fits.1;
}

entry_reads : {P : Type 0} {len : P → ℕ} {form : Spelled P} {HasForm : P → Type 0} {form_at : ℕ → Reader P} (forms : AreForms len form HasForm form_at) → Reads (entry_at form.which form_at) (entry_spelled len form) (EntryFits form.which len HasForm)
unfolding entry_at entry_spelled
entry_reads {P} {len} {form} {HasForm} {form_at} forms =
    let ids : ℕ → List ℕ = big_bytes (count_width form.which) in
    let stamps : ℕ → List ℕ = big_bytes (moment_width form.which) in
    let limits : ℕ → List ℕ = big_bytes (limit_width form.which) in
    made_reads
    (λ (x : ℕ × (ℕ × (ℕ × (ℕ × P)))). record { id = x.0; stamp = x.1.0; limit = x.1.1.0; payload = x.1.1.1.1 })
    (λ (item : Item P). (item.id, (item.stamp, (item.limit, (len item.payload, item.payload)))))
    (entry_spelled len form) (EntryFits form.which len HasForm)
    (pair_reads (count_reads form.which) (pair_reads (moment_reads form.which) (pair_reads (limit_reads form.which) (then_reads form_at form.form (λ size payload. (len payload ≡ size) × HasForm payload) u16_reads (form_reads forms)))))
    (λ x fits. five_parts (ids x.0) (stamps x.1.0) (limits x.1.1.0) (big_bytes 2 x.1.1.1.0) (form.form x.1.1.1.1)
    ∙ ap (λ (n : ℕ). ids x.0 ++ stamps x.1.0 ++ limits x.1.1.0 ++ big_bytes 2 n ++ form.form x.1.1.1.1) (sym fits.1.1.1.1.0))
    (λ x fits. record { id = fits.0; stamp = fits.1.0; limit = fits.1.1.0; payload = subst (FitsBytes 2) (sym fits.1.1.1.1.0) fits.1.1.1.0; form = fits.1.1.1.1.1 })
    (λ item fits. ((fits.id, (fits.stamp, (fits.limit, (fits.payload, (refl, fits.form))))), refl))

-- the front of an entry, and its form
pub length-entry : {P : Type 0} (len : P → ℕ) (form : Spelled P) (item : Item P)
    → length (entry_spelled len form item) + 1 ≡ entry_width form.which + length (form.form item.payload)
unfolding entry_spelled
length-entry len form item =
    let a : List ℕ = big_bytes (count_width form.which) item.id in
    let b : List ℕ = big_bytes (moment_width form.which) item.stamp in
    let c : List ℕ = big_bytes (limit_width form.which) item.limit in
    let d : List ℕ = big_bytes 2 (len item.payload) in
    omega (
      arith,
      length-append (a ++ b ++ c ++ d) (form.form item.payload),
      length-append (a ++ b ++ c) d,
      length-append (a ++ b) c,
      length-append a b,
      length-bytes_high_first (count_width form.which) item.id,
      length-bytes_high_first (moment_width form.which) item.stamp,
      length-bytes_high_first (limit_width form.which) item.limit,
      length-bytes_high_first 2 (len item.payload),
    )

pub length-entries : {P : Type 0} {len : P → ℕ} {form : Spelled P} {HasForm : P → Type 0} {form_at : ℕ → Reader P} (forms : AreForms len form HasForm form_at) (items : List (Item P)) → entry_width form.which * length items ≤ length (flat_map (entry_spelled len form) items)
length-entries forms [] = omega arith
length-entries {P} {len} {form} forms (item ∷ items) =
    let spell : Item P → List ℕ = entry_spelled len form in
    let cut : length (flat_map spell (item ∷ items)) ≡ length (spell item) + length (flat_map spell items) = ap (λ (t : List ℕ). length t) (flat_map-cons spell item items) ∙ length-append (spell item) (flat_map spell items) in
    omega (arith, cut, length-entry len form item, forms.some item.payload, length-entries forms items)

-- ---- the items of a hop

-- a test after which a parse continues
guard_goes : {A : Type 0} (b : Bool) (read : Option A) (x : A) → cond b None read ≡ Some x
    → (b ≡ false) × (read ≡ Some x)
guard_goes true read x e = absurd cc
guard_goes false read x e = (refl, e)

line_reads : {P : Type 0} {len : P → ℕ} {form : Spelled P} {HasForm : P → Type 0} {form_at : ℕ → Reader P} (forms : AreForms len form HasForm form_at) (n : ℕ) → Reads (entries_at form.which form_at n) (flat_map (entry_spelled len form)) (Fit (EntryFits form.which len HasForm) n)
unfolding entries_at
line_reads {P} {len} {form} {HasForm} {form_at} forms n =
    let many = many_reads n (entry_reads forms) in
    record {
      takes = λ bytes items rest fits e. many.takes bytes items rest fits (guard_goes (ltb (length bytes) (entry_width form.which * n)) (many_at (entry_at form.which form_at) n bytes) (items, rest) e).1;
      again = λ items rest fits.
          let text : List ℕ = flat_map (entry_spelled len form) items in
          let count : length items ≡ n = fits.count in
          let long : ltb (length (text ++ rest)) (entry_width form.which * n) ≡ false = le-ltb _ _ (omega (arith, length-append text rest, length-entries forms items, ap (λ (k : ℕ). entry_width form.which * k) count)) in
          rw long (many.again items rest fits);
    }

-- the bytes of the items in flight and the waiting ones
abbrev lines_of : {P : Type 0} → (P → ℕ) → Spelled P → List (Item P) × List (Item P) → List ℕ
lines_of len form x = big_bytes 2 (length x.0) ++ (big_bytes 4 (length x.1) ++ (flat_map (entry_spelled len form) x.0 ++ flat_map (entry_spelled len form) x.1))

lines_reads : {P : Type 0} {len : P → ℕ} {form : Spelled P} {HasForm : P → Type 0} {form_at : ℕ → Reader P} (forms : AreForms len form HasForm form_at) → Reads (lines_at form.which form_at) (lines_of len form) (λ x. LinesFit form.which len HasForm x.0 x.1)
unfolding lines_at
lines_reads {P} {len} {form} {HasForm} {form_at} forms =
    let spell : List (Item P) → List ℕ = flat_map (entry_spelled len form) in
    made_reads
    (λ (x : ℕ × (ℕ × (List (Item P) × List (Item P)))). x.1.1)
    (λ (x : List (Item P) × List (Item P)). (length x.0, (length x.1, x)))
    (lines_of len form) (λ x. LinesFit form.which len HasForm x.0 x.1)
    (then_reads (λ n. then_at (field_at 4) (λ m. entries_at form.which form_at n ⊗ entries_at form.which form_at m)) (λ (x : ℕ × (List (Item P) × List (Item P))). big_bytes 4 x.0 ++ (spell x.1.0 ++ spell x.1.1))
    (λ n x. FitsBytes 4 x.0 × (Fit (EntryFits form.which len HasForm) n x.1.0 × Fit (EntryFits form.which len HasForm) x.0 x.1.1)) u16_reads
    (λ n. then_reads (λ m. entries_at form.which form_at n ⊗ entries_at form.which form_at m) (λ (x : List (Item P) × List (Item P)). spell x.0 ++ spell x.1) (λ m x. Fit (EntryFits form.which len HasForm) n x.0 × Fit (EntryFits form.which len HasForm) m x.1) u32_reads
    (λ m. pair_reads (line_reads forms n) (line_reads forms m))))
    (λ x fits. ap (λ (n : ℕ). big_bytes 2 n ++ (big_bytes 4 x.1.0 ++ (spell x.1.1.0 ++ spell x.1.1.1))) (sym fits.1.1.0.count)
    ∙ ap (λ (m : ℕ). big_bytes 2 (length x.1.1.0) ++ (big_bytes 4 m ++ (spell x.1.1.0 ++ spell x.1.1.1))) (sym fits.1.1.1.count))
    (λ x fits. record { in_flight = subst (FitsBytes 2) (sym fits.1.1.0.count) fits.0; waiting = subst (FitsBytes 4) (sym fits.1.1.1.count) fits.1.0; flight = fits.1.1.0.each; queue = fits.1.1.1.each })
    (λ x fits. ((fits.in_flight, (fits.waiting, (record { count = refl; each = fits.flight }, record { count = refl; each = fits.queue }))), refl))

-- ---- hops

regroup : (a b c d e k f g x y : List ℕ)
    → a ++ (b ++ ((c ++ (d ++ (e ++ k))) ++ (f ++ (g ++ (x ++ y))))) ≡ a ++ b ++ c ++ d ++ e ++ k ++ f ++ g ++ (x ++ y)
regroup a b c d e k f g x y = simp append_assoc

-- the bytes of a hop's counts
abbrev counts_of : HeadForm → ℕ × (ℕ × (ℕ × ℕ)) → List ℕ
counts_of which x =
    big_bytes (count_width which) x.0 ++ (big_bytes (count_width which) x.1.0 ++ (big_bytes (count_width which) x.1.1.0 ++ big_bytes (expired_width which) x.1.1.1))

counts_reads : (which : HeadForm)
    → Reads (counts_at which) (counts_of which)
    (λ x. FitsBytes (count_width which) x.0 × (FitsBytes (count_width which) x.1.0 × (FitsBytes (count_width which) x.1.1.0 × FitsBytes (expired_width which) x.1.1.1)))
unfolding counts_at
counts_reads which = pair_reads (count_reads which) (pair_reads (count_reads which) (pair_reads (count_reads which) (expired_reads which)))

hop_parts : {P : Type 0} → HopState P → ℕ × (CodelState × ((ℕ × (ℕ × (ℕ × ℕ))) × (List (Item P) × List (Item P))))
hop_parts h = (h.moment, (h.codel, ((h.taken, (h.dropped, (h.released, h.expired))), (h.flight, h.queue))))

pub hop_reads : {P : Type 0} {len : P → ℕ} {form : Spelled P} {HasForm : P → Type 0} {form_at : ℕ → Reader P} (forms : AreForms len form HasForm form_at) → Reads (hop_bytes_at form.which form_at) (hop_spelled len form) (HopFits form.which len HasForm)
unfolding hop_bytes_at hop_spelled hop_parts
hop_reads {P} {len} {form} {HasForm} {form_at} forms =
    let which : HeadForm = form.which in
    let spell : List (Item P) → List ℕ = flat_map (entry_spelled len form) in
    made_reads
    (λ (x : ℕ × (CodelState × ((ℕ × (ℕ × (ℕ × ℕ))) × (List (Item P) × List (Item P))))). record {
      queue = x.1.1.1.1;
      flight = x.1.1.1.0;
      codel = x.1.0;
      moment = x.0;
      taken = x.1.1.0.0;
      dropped = x.1.1.0.1.0;
      expired = x.1.1.0.1.1.1;
      released = x.1.1.0.1.1.0;
    })
    hop_parts (hop_spelled len form) (HopFits which len HasForm) (pair_reads (moment_reads which) (pair_reads (codel_reads which) (pair_reads (counts_reads which) (lines_reads forms))))
    (λ x fits.
    let f : List (Item P) = x.1.1.1.0 in
    let q : List (Item P) = x.1.1.1.1 in
    let m : List ℕ = big_bytes (moment_width which) x.0 in
    let t : List ℕ = big_bytes (count_width which) x.1.1.0.0 in
    let d : List ℕ = big_bytes (count_width which) x.1.1.0.1.0 in
    let r : List ℕ = big_bytes (count_width which) x.1.1.0.1.1.0 in
    let e : List ℕ = big_bytes (expired_width which) x.1.1.0.1.1.1 in
    regroup m (codel_of which x.1.0) t d r e (big_bytes 2 (length f)) (big_bytes 4 (length q)) (spell f) (spell q)
    ∙ ap (λ (l : List ℕ). m ++ codel_of which x.1.0 ++ t ++ d ++ r ++ e ++ big_bytes 2 (length f) ++ big_bytes 4 (length q) ++ l) (sym (flat_map-append (entry_spelled len form) f q)))
    (λ x fits. record { moment = fits.0; codel = fits.1.0; taken = fits.1.1.0.0; dropped = fits.1.1.0.1.0; released = fits.1.1.0.1.1.0; expired = fits.1.1.0.1.1.1; lines = fits.1.1.1 })
    (λ h fits. ((fits.moment, (fits.codel, ((fits.taken, (fits.dropped, (fits.released, fits.expired))), fits.lines))), refl))

-- ---- whole states

-- a state is encoded by its bytes, with its parameters
pub record StateFits {P : Type 0} (which : HeadForm) (len : P → ℕ) (HasForm : P → Type 0) (given : Params) (s : State P) : Type 0 where
  pub params : s.params ≡ given
  pub seq : FitsBytes 8 s.seq
  pub lasts : Fit (FitsBytes 8) given.peers s.lasts
  pub hops : Fit (HopFits which len HasForm) given.hops s.hops

state_reads : {P : Type 0} {len : P → ℕ} {form : Spelled P} {HasForm : P → Type 0} {form_at : ℕ → Reader P} (forms : AreForms len form HasForm form_at) (params : Params) → Reads (state_at form.which form_at params) (state_spelled len form) (StateFits form.which len HasForm params)
unfolding state_at state_spelled
state_reads {P} {len} {form} {HasForm} {form_at} forms params = made_reads
    (λ (x : ℕ × (List ℕ × List (HopState P))). record { params = params; hops = x.1.1; lasts = x.1.0; seq = x.0 })
    (λ (s : State P). (s.seq, (s.lasts, s.hops)))
    (state_spelled len form) (StateFits form.which len HasForm params) (pair_reads u64_reads (pair_reads (many_reads params.peers u64_reads) (many_reads params.hops (hop_reads forms))))
    (λ x fits. sym (append_assoc (big_bytes 8 x.0) (flat_map (big_bytes 8) x.1.0) (flat_map (hop_spelled len form) x.1.1)))
    (λ x fits. record { params = refl; seq = fits.0; lasts = fits.1.0; hops = fits.1.1 })
    (λ s fits. ((fits.seq, (fits.lasts, fits.hops)), ap (λ (p : Params). record { params = p; hops = s.hops; lasts = s.lasts; seq = s.seq }) (sym fits.params)))

guard_ends : {A : Type 0} (b : Bool) (x y : A) → cond b (Some x) None ≡ Some y → (b ≡ true) × (x ≡ y)
guard_ends true x y e = (refl, cc)
guard_ends false x y e = absurd cc

-- the test that no bytes are left
abbrev ended : {P : Type 0} → State P × List ℕ → Option (State P)
ended x = cond (eqb (length x.1) 0) (Some x.0) None

pub whole_takes : {P : Type 0} {len : P → ℕ} {form : Spelled P} {HasForm : P → Type 0} {form_at : ℕ → Reader P} (forms : AreForms len form HasForm form_at) (params : Params) (bytes : List ℕ) (s : State P) → IsBytes bytes → whole_state form.which form_at params bytes ≡ Some s → (bytes ≡ state_spelled len form s) × StateFits form.which len HasForm params s
unfolding whole_state
whole_takes {P} {len} {form} {HasForm} {form_at} forms params bytes s fits e =
    let spell : State P → List ℕ = state_spelled len form in
    let a = bind_some (state_at form.which form_at params bytes) ended s e in
    let g = guard_ends (eqb (length a.0.1) 0) a.0.0 s a.2 in
    let t = (state_reads forms params).takes bytes a.0.0 a.0.1 fits a.1 in
    let nothing : a.0.1 ≡ [] = nil_from_length a.0.1 (eqb-true _ _ g.0) in
    let whole : bytes ≡ spell a.0.0 = t.0.parts ∙ ap (λ (rest : List ℕ). spell a.0.0 ++ rest) nothing
    ∙ append-nil (spell a.0.0) in
    subst (λ (v : State P). (bytes ≡ spell v) × StateFits form.which len HasForm params v) g.1 (whole, t.1)

pub whole_again : {P : Type 0} {len : P → ℕ} {form : Spelled P} {HasForm : P → Type 0} {form_at : ℕ → Reader P} (forms : AreForms len form HasForm form_at) (params : Params) (s : State P) → StateFits form.which len HasForm params s → whole_state form.which form_at params (state_spelled len form s) ≡ Some s
unfolding whole_state
whole_again {P} {len} {form} {HasForm} {form_at} forms params s fits =
    let text : List ℕ = state_spelled len form s in
    let read : state_at form.which form_at params text ≡ Some (s, []) = ap (state_at form.which form_at params) (sym (append-nil text))
    ∙ (state_reads forms params).again s [] fits in
    bind_is (state_at form.which form_at params text) (s, []) ended (Some s) read refl
