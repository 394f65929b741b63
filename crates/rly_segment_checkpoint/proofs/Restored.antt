-- The result of reading a checkpoint, and the states with that checkpoint.
use Rattle.std.proofs.Common.{◌≡◌, ℕ, ◌+◌, ◌*◌, ◌^◌, ◌<◌, ◌≤◌, List, [], ◌∷◌, length, get_or, map, Option, Some, None, arith, refl, sym, ap, subst, ◌∙◌}
use Rattle.std.specs.Prelude.{All}
use Rattle.std.specs.List.{AllByRecursion}
use Rattle.std.proofs.lemmas.List.{length-map}
use Rattle.std.proofs.lemmas.List.Elements.{All-cons, All-nil}
use Rattle.rly_core.specs.declared.params.Params.{Params}
use Rattle.rly_machine.specs.declared.hop.Hop.{Hop}
use Rattle.rly_machine.specs.Kept.{hop_state}
use Rattle.rly_machine.specs.Sound.{IsSound}
use Rattle.rly_machine.specs.State.{HopState, State, live_line}
use Rattle.rly_record.specs.HelpersReader.{Reader}
use Rattle.rly_record.proofs.Fields.{IsBytes, some_is}
use Rattle.rly_segment_checkpoint.specs.Checkpoint.{IsOfForm, Spelled, least_checkpoint_length, state_spelled}
use Rattle.rly_segment_checkpoint.specs.HelpersFitting.{EntryFits, HopFits}
use Rattle.rly_segment_checkpoint.specs.Forms.{AreForms, HaveForms}
use Rattle.rly_segment_checkpoint.specs.HelpersReader.{whole_state}
use Rattle.rly_segment_checkpoint.specs.Widths.{hop_width}
use Rattle.rly_segment_checkpoint.specs.declared.head_form.HeadForm.{HeadForm}
use Rattle.rly_segment_checkpoint.specs.declared.head_form.HeadForm.TheVariants.{First, Second}
use Rattle.rly_segment_checkpoint.proofs.Fitness.{live_fit, state_fits}
use Rattle.rly_segment_checkpoint.proofs.Parts.{whole_again, whole_takes}
use Rattle.rly_segment_checkpoint.proofs.Sizes.{length-hops, length-numbers, length-parts}

-- a sound state is read back
pub sound_again : {P : Type 0} {len : P → ℕ} {form : Spelled P} {HasForm : P → Type 0} {form_at : ℕ → Reader P} (forms : AreForms len form HasForm form_at) (params : Params) (bytes : List ℕ) (s : State P) → IsSound len s → All (HaveForms HasForm) s.hops → IsOfForm form.which s → s.params ≡ params → bytes ≡ state_spelled len form s
    → whole_state form.which form_at params bytes ≡ Some s
sound_again {P} {len} {form} {HasForm} {form_at} forms params bytes s sound has plain given same =
    let read : Params → List ℕ → Option (State P) = whole_state form.which form_at in
    ap (read params) same
    ∙ subst (λ (p : Params). read p (state_spelled len form s) ≡ Some s) given (whole_again forms s.params s (state_fits form.which len HasForm s sound plain has))

-- the state that was read is the only possible one
pub same_state : {P : Type 0} {len : P → ℕ} {form : Spelled P} {HasForm : P → Type 0} {form_at : ℕ → Reader P} (forms : AreForms len form HasForm form_at) (params : Params) (bytes : List ℕ) (found s : State P) → whole_state form.which form_at params bytes ≡ Some found → IsSound len s → All (HaveForms HasForm) s.hops → IsOfForm form.which s → s.params ≡ params
    → bytes ≡ state_spelled len form s → found ≡ s
same_state forms params bytes found s is sound has plain given same = some_is found s (sym is ∙ sound_again forms params bytes s sound has plain given same)

-- the number of hops and peers that were read
pub hops_read : {P : Type 0} {len : P → ℕ} {form : Spelled P} {HasForm : P → Type 0} {form_at : ℕ → Reader P} (forms : AreForms len form HasForm form_at) (params : Params) (bytes : List ℕ) (s : State P) (hops : List (Hop P)) → IsBytes bytes → whole_state form.which form_at params bytes ≡ Some s → s.hops ≡ map hop_state hops → length hops ≡ params.hops
hops_read {P} forms params bytes s hops fits found same =
    let view : Hop P → HopState P = hop_state in
    sym (length-map hops view) ∙ sym (ap (λ (l : List (HopState P)). length l) same)
    ∙ (whole_takes forms params bytes s fits found).1.hops.count

pub peers_read : {P : Type 0} {len : P → ℕ} {form : Spelled P} {HasForm : P → Type 0} {form_at : ℕ → Reader P} (forms : AreForms len form HasForm form_at) (params : Params) (bytes : List ℕ) (s : State P) → IsBytes bytes → whole_state form.which form_at params bytes ≡ Some s → length s.lasts ≡ params.peers
peers_read forms params bytes s fits found = (whole_takes forms params bytes s fits found).1.lasts.count

-- the content that was read has forms
recursion_all : {A : Type 0} (T : A → Type 0) (xs : List A) → AllByRecursion T xs → All T xs
recursion_all T [] all = All-nil T
recursion_all T (x ∷ xs) all = All-cons T x xs all.0 (recursion_all T xs all.1)

pub forms_read : {P : Type 0} {len : P → ℕ} {form : Spelled P} {HasForm : P → Type 0} {form_at : ℕ → Reader P} (forms : AreForms len form HasForm form_at) (params : Params) (bytes : List ℕ) (s : State P) → IsBytes bytes → whole_state form.which form_at params bytes ≡ Some s → All (HaveForms HasForm) s.hops
forms_read {P} {len} {form} {HasForm} forms params bytes s fits found k d lt i item below =
    let hops = recursion_all (HopFits form.which len HasForm) s.hops (whole_takes forms params bytes s fits found).1.hops.each in
    (recursion_all (EntryFits form.which len HasForm) _ (live_fit form.which len HasForm (get_or s.hops k d) (hops k d lt)) i item below).form

-- a state read in a head of a form fits that form
fits_none : (n : ℕ) → n < 256 ^ 0 → n ≡ 0
fits_none n lt = omega (arith, lt)

plain_read : {P : Type 0} (which : HeadForm) (len : P → ℕ) (HasForm : P → Type 0) (s : State P) → All (HopFits which len HasForm) s.hops → IsOfForm which s
plain_read First len HasForm s hops = λ k d lt.
    let h = get_or s.hops k d in
    let fits : HopFits First len HasForm h = hops k d lt in
    let items = recursion_all (EntryFits First len HasForm) (live_line h) (live_fit First len HasForm h fits) in
    (fits_none h.expired fits.expired, λ i item below. fits_none (get_or (live_line h) i item).limit (items i item below).limit)
plain_read Second len HasForm s hops = tt

pub of_form_read : {P : Type 0} {len : P → ℕ} {form : Spelled P} {HasForm : P → Type 0} {form_at : ℕ → Reader P} (forms : AreForms len form HasForm form_at) (params : Params) (bytes : List ℕ) (s : State P) → IsBytes bytes → whole_state form.which form_at params bytes ≡ Some s → IsOfForm form.which s
of_form_read {P} {len} {form} {HasForm} forms params bytes s fits found =
    plain_read form.which len HasForm s (recursion_all (HopFits form.which len HasForm) s.hops (whole_takes forms params bytes s fits found).1.hops.each)

-- the parts that were read, and the state made of them
pub spelled_found : {P : Type 0} {len : P → ℕ} {form : Spelled P} {HasForm : P → Type 0} {form_at : ℕ → Reader P} (forms : AreForms len form HasForm form_at) (params : Params) (bytes : List ℕ) (found state : State P) → IsBytes bytes → whole_state form.which form_at params bytes ≡ Some found → state ≡ found
    → bytes ≡ state_spelled len form state
spelled_found {P} {len} {form} forms params bytes found state fits is same = (whole_takes forms params bytes found fits is).0 ∙ ap (state_spelled len form) (sym same)

pub forms_found : {P : Type 0} {len : P → ℕ} {form : Spelled P} {HasForm : P → Type 0} {form_at : ℕ → Reader P} (forms : AreForms len form HasForm form_at) (params : Params) (bytes : List ℕ) (found state : State P) → IsBytes bytes → whole_state form.which form_at params bytes ≡ Some found → state ≡ found
    → All (HaveForms HasForm) state.hops
forms_found {P} {HasForm = HasForm} forms params bytes found state fits is same = subst (λ (s : State P). All (HaveForms HasForm) s.hops) (sym same) (forms_read forms params bytes found fits is)

pub plain_found : {P : Type 0} {len : P → ℕ} {form : Spelled P} {HasForm : P → Type 0} {form_at : ℕ → Reader P} (forms : AreForms len form HasForm form_at) (params : Params) (bytes : List ℕ) (found state : State P) → IsBytes bytes → whole_state form.which form_at params bytes ≡ Some found → state ≡ found
    → IsOfForm form.which state
plain_found {P} {form = form} forms params bytes found state fits is same = subst (IsOfForm form.which) (sym same) (of_form_read forms params bytes found fits is)

pub only_found : {P : Type 0} {len : P → ℕ} {form : Spelled P} {HasForm : P → Type 0} {form_at : ℕ → Reader P} (forms : AreForms len form HasForm form_at) (params : Params) (bytes : List ℕ) (found state s : State P) → whole_state form.which form_at params bytes ≡ Some found → state ≡ found
    → IsSound len s → All (HaveForms HasForm) s.hops → IsOfForm form.which s → s.params ≡ params → bytes ≡ state_spelled len form s → state ≡ s
only_found forms params bytes found state s is made sound has plain given same = made ∙ same_state forms params bytes found s is sound has plain given same

-- it is sound if another state could have been read
pub sound_found : {P : Type 0} {len : P → ℕ} {form : Spelled P} {HasForm : P → Type 0} {form_at : ℕ → Reader P} (forms : AreForms len form HasForm form_at) (params : Params) (bytes : List ℕ) (found s : State P) → whole_state form.which form_at params bytes ≡ Some found → IsSound len s → All (HaveForms HasForm) s.hops → IsOfForm form.which s → s.params ≡ params
    → bytes ≡ state_spelled len form s → IsSound len found
sound_found {len = len} forms params bytes found s is sound has plain given same = subst (IsSound len) (sym (same_state forms params bytes found s is sound has plain given same)) sound

-- if no state can be read, none is
none_from : {A : Type 0} (read : Option A) → ((x : A) → read ≡ Some x → ⊥) → read ≡ None
none_from (Some x) never = absurd (never x refl)
none_from None never = refl

-- bytes that are too few for the peers and hops
pub too_short : {P : Type 0} {len : P → ℕ} {form : Spelled P} {HasForm : P → Type 0} {form_at : ℕ → Reader P} (forms : AreForms len form HasForm form_at) (params : Params) (bytes : List ℕ) → IsBytes bytes → length bytes < least_checkpoint_length form.which params → whole_state form.which form_at params bytes ≡ None
too_short {P} {len} {form} {HasForm} {form_at} forms params bytes fits short = none_from (whole_state form.which form_at params bytes) (λ s found.
    let t = whole_takes forms params bytes s fits found in
    let enough : least_checkpoint_length form.which params ≤ 8 + 8 * length s.lasts + hop_width form.which * length s.hops =
    subst (λ (n : ℕ). least_checkpoint_length form.which params ≤ 8 + 8 * length s.lasts + hop_width form.which * n) (sym t.1.hops.count)
    (subst (λ (n : ℕ). least_checkpoint_length form.which params ≤ 8 + 8 * n + hop_width form.which * params.hops) (sym t.1.lasts.count) (omega arith)) in
    omega (arith, short, enough, ap (λ (b : List ℕ). length b) t.0, length-parts len form s, length-numbers s.lasts, length-hops len form s.hops))
