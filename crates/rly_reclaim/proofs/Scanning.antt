-- The progress of a scan of the segments.
use Rattle.std.proofs.Common.{◌≡◌, ◌≢◌, ◌⊎◌, ⊎_elim, ℕ, ◌+◌, ◌<◌, ◌≤◌, List, length, rules, arith, slice_index, subst, sym}
use Rattle.std.proofs.lemmas.Bool.{cases_eq}
use Rattle.rly_reclaim.specs.SegmentChoice.{IsVictim, MayOpen}

-- none of the segments before this one may be opened
abbrev pub NoneBefore : List ℕ → ℕ → ℕ → Type 0
NoneBefore live current segment = (s : ℕ) → MayOpen live current s → segment ≤ s

-- the same of the next, if this one may not be opened either
pub none_further : (live : List ℕ) (current segment : ℕ) → NoneBefore live current segment → ¬ MayOpen live current segment
    → NoneBefore live current (segment + 1)
none_further live current segment none not s may =
    ⊎_elim (λ same. absurd (not (subst (λ at. MayOpen live current at) same may)))
    (λ other. omega (arith, none s may, other)) (cases_eq s segment)

-- of the segments before this one, the first with the fewest live bytes, except the free one
pub record IsLeastBefore (live : List ℕ) (free segment least : ℕ) : Type 0 where
  pub scanned : least < segment
  pub there : least < length live
  pub other : least ≢ free
  pub fewest : (s : ℕ) → s < segment → s ≢ free → slice_index live least ≤ slice_index live s
  pub first : (s : ℕ) → s < least → s ≢ free → slice_index live least < slice_index live s

-- it begins with the first that isn't free
pub least_first : (live : List ℕ) (free least : ℕ) → least < length live → least ≢ free
    → ((s : ℕ) → s < least → s ≡ free) → IsLeastBefore live free (least + 1) least
least_first live free least there other only = record {
  scanned = search rules;
  there = there;
  other = other;
  fewest = λ s before not. ⊎_elim (λ same. subst (λ at. slice_index live least ≤ slice_index live at) (sym same) (search rules))
      (λ differs. absurd (not (only s (omega (arith, before, differs))))) (cases_eq s least);
  first = λ s before not. absurd (not (only s before));
}

-- a segment that is free, or doesn't have fewer, changes nothing
pub least_stays : (live : List ℕ) (free segment least : ℕ) → IsLeastBefore live free segment least
    → (segment ≡ free) ⊎ (slice_index live least ≤ slice_index live segment) → IsLeastBefore live free (segment + 1) least
least_stays live free segment least found more = record {
  scanned = omega (arith, found.scanned);
  there = found.there;
  other = found.other;
  fewest = λ s before not. ⊎_elim (λ same. ⊎_elim (λ is_free. absurd (not (search (rules, same, is_free))))
      (λ no_fewer. subst (λ at. slice_index live least ≤ slice_index live at) (sym same) no_fewer) more)
      (λ differs. found.fewest s (omega (arith, before, differs)) not) (cases_eq s segment);
  first = found.first;
}

-- one that isn't free and has fewer takes its place
pub least_moves : (live : List ℕ) (free segment least : ℕ) → IsLeastBefore live free segment least → segment < length live
    → segment ≢ free → slice_index live segment < slice_index live least → IsLeastBefore live free (segment + 1) segment
least_moves live free segment least found there other fewer = record {
  scanned = search rules;
  there = there;
  other = other;
  fewest = λ s before not. ⊎_elim (λ same. subst (λ at. slice_index live segment ≤ slice_index live at) (sym same) (search rules))
      (λ differs. omega (arith, found.fewest s (omega (arith, before, differs)) not, fewer)) (cases_eq s segment);
  first = λ s before not. omega (arith, found.fewest s before not, fewer);
}

-- the last of them is the victim
pub victim_at_end : (live : List ℕ) (free segment least : ℕ) → IsLeastBefore live free segment least → length live ≤ segment
    → IsVictim live free least
victim_at_end live free segment least found all = record {
  there = found.there;
  other = found.other;
  fewest = λ s there not. found.fewest s (omega (arith, there, all)) not;
  first = found.first;
}
