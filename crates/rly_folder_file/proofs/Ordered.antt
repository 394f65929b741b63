-- Numbers that were sorted, each once.
use Rattle.std.proofs.Common.{◌≡◌, ℕ, List, eqb}
use Rattle.std.proofs.lemmas.List.Kept.{Contains-dedup_nat, Contains-from_dedup}
use Rattle.std.proofs.lemmas.List.Sorted.{Contains-permutation, IsPermutation-sym}
use Rattle.std.proofs.lemmas.Map.Keys.{IsStrictlyIncreasing-dedup}
use Rattle.std.specs.List.Sorted.{IsPermutation, IsSorted}
use Rattle.std.specs.List.{dedup}
use Rattle.std.specs.Ordering.{nat_cmp}
use Rattle.rly_folder_file.specs.Listing.{IsInOrder}

pub in_order : (numbers sorted ordered : List ℕ) → IsPermutation numbers sorted → IsSorted nat_cmp sorted → ordered ≡ dedup eqb sorted → IsInOrder numbers ordered
in_order numbers sorted ordered permuted order is = record {
  increasing = rw is (IsStrictlyIncreasing-dedup sorted order);
  each = λ number. (
    λ has. Contains-permutation sorted numbers number (IsPermutation-sym _ _ permuted) (Contains-from_dedup eqb sorted number (rw is at has)),
    λ has. rw is (Contains-dedup_nat sorted number (Contains-permutation numbers sorted number permuted has)),
  );
}
