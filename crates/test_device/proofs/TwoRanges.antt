-- The crash images of two writes.
use Rattle.std.proofs.Common.{◌≡◌, ◌≤◌, ◌+◌, ◌∷◌, [], ◌∙◌, ℕ, List, length, arith, refl, subst, sym, ⊎_elim}
use Rattle.rly_disk.specs.DiskModel.{SameOutside, bytes_after_write}
use Rattle.rly_disk.specs.Trace.{Sync, Write, images_within}
use Rattle.rly_disk.proofs.Overwritten.{overwritten_outside}
use Rattle.test_device.specs.TwoRanges.{SameOutsideBoth}

module _ (place n other m : ℕ) where
  unchanged : (old : List ℕ) → SameOutsideBoth place n other m old old
  unchanged old = record { same_length = refl; each = λ i first second. refl }

  of_first : {old new : List ℕ} → SameOutside place n old new → SameOutsideBoth place n other m old new
  of_first same = record { same_length = same.same_length; each = λ i first second. same.each i first }

  of_second : {old mid new : List ℕ} → SameOutside place n old mid → SameOutside other m mid new → SameOutsideBoth place n other m old new
  of_second first second = record {
    same_length = second.same_length ∙ first.same_length;
    each = λ i out_of_first out_of_second. second.each i out_of_second ∙ first.each i out_of_first;
  }

pub both_image : (place other : ℕ) (first second old c : List ℕ) → place + length first ≤ length old → other + length second ≤ length old
    → images_within (Write place first ∷ Write other second ∷ Sync ∷ []) old (λ d. d ≡ old) c → SameOutsideBoth place (length first) other (length second) old c
both_image place other first second old c fits fits_too image =
    let n : ℕ = length first in
    let m : ℕ = length second in
    let mid : List ℕ = bytes_after_write place first old in
    let one = overwritten_outside place first old fits in
    ⊎_elim
    (λ now. subst (SameOutsideBoth place n other m old) (sym now) (unchanged place n other m old))
    (λ later. ⊎_elim
    (λ torn. of_first place n other m (subst (λ d. SameOutside place n d c) torn.1 torn.2))
    (λ more. ⊎_elim
    (λ twice. of_second place n other m (subst (λ d. SameOutside place n d twice.0) twice.1.1 twice.1.2) twice.2)
    (λ done. subst (SameOutsideBoth place n other m old) (sym done)
    (of_second place n other m one (overwritten_outside other second mid (omega (arith, one.same_length, fits_too)))))
    more)
    later)
    image
