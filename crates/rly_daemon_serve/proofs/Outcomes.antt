-- What is known of an outcome that is handed on.
use Rattle.std.proofs.Common.{◌≡◌, ◌∙◌, Bool, ap, false, refl, subst, sym, true}
use Rattle.std.proofs.lemmas.Option.{none-some}
use Rattle.std.specs.Prelude.{Err, IfErr, IfOk, None, Ok, Result}
use Rattle.rly_daemon_serve.specs.ServedRelay.{end_fault}

pub same_ok : {A B E F : Type 0} (P : A → Type 0) (f : B → A) (outcome : Result A E) (result : Result B F) → IfOk result (λ s. outcome ≡ Ok (f s)) → IfOk outcome P → IfOk result (λ s. P (f s))
same_ok P f outcome (Err e) same holds = tt
same_ok {A} {B} {E} P f outcome (Ok s) same holds = subst (λ (o : Result A E). IfOk o P) same holds

-- what is handed back with an error is as it was
pub untouched : {A B C D J : Type 0} (disk : J → D) (journal : J) (outcome : Result A J) (result : Result B (C × D)) → IfErr result (λ f. (back : J) × (outcome ≡ Err back) × (f.1 ≡ disk back)) → IfErr outcome (λ back. back ≡ journal) → IfErr result (λ f. f.1 ≡ disk journal)
untouched disk journal outcome (Ok s) failed refused = tt
untouched {A} {B} {C} {D} {J} disk journal outcome (Err f) (back, is, same) refused = same ∙ ap disk (subst (λ (o : Result A J). IfErr o (λ b. b ≡ journal)) is refused)

-- a relay that ended well was complete, and its journal isn't broken
pub well_is_complete : (broken complete told : Bool) → end_fault broken complete told ≡ None → complete ≡ true
well_is_complete true complete told e = absurd (none-some _ (sym e))
well_is_complete false false told e = absurd (none-some _ (sym e))
well_is_complete false true told e = refl

pub well_is_whole : (broken complete told : Bool) → end_fault broken complete told ≡ None → broken ≡ false
well_is_whole true complete told e = absurd (none-some _ (sym e))
well_is_whole false complete told e = refl
