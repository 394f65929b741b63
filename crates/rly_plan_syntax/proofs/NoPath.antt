-- No fault is located by two tests, of a test and of a row, iff each of them is met.
use Rattle.std.proofs.Common.{◌≡◌, Bool, true, false, not, ◌&&◌, Option, Some, None, is_some, is_none, option_map, refl}
use Rattle.std.specs.Option.{option_or}
use Rattle.rly_plan_syntax.specs.DocumentPaths.{unless}

-- a test that is met iff it locates no fault
pub told : {A : Type 0} (o : Option A) (found test : Bool) → is_some o ≡ not found → is_none o ≡ test → found ≡ test
told None true test some none = none
told None false test some none = absurd cc
told (Some x) true test some none = absurd cc
told (Some x) false test some none = none

both : (a b c d : Bool) → a ≡ c → b ≡ d → (a && b) ≡ (c && d)
both a b c d p q = λ i. p i && q i

pub none_or : {A : Type 0} (a b : Option A) (c d : Bool) → is_none a ≡ c → is_none b ≡ d → is_none (option_or a b) ≡ (c && d)
none_or None b c d p q = both true (is_none b) c d p q
none_or (Some x) b c d p q = both false (is_none b) c d p q

pub none_unless : {A : Type 0} (b : Bool) (at : A) → is_none (unless b at) ≡ b
none_unless true at = refl
none_unless false at = refl

pub none_map : {A B : Type 0} (f : A → B) (o : Option A) (c : Bool) → is_none o ≡ c → is_none (option_map f o) ≡ c
none_map f None c p = p
none_map f (Some x) c p = p
