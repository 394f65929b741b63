use Rattle.std.proofs.Common.{◌≡◌, true, ◌++◌, map}
use Rattle.std.specs.List.{list_all}
use Rattle.std.specs.Vec.Iter.{into_iter_items}
use Rattle.rly_plan.specs.Passes.{all_adjacent, are_apart, contact_in_range, hop_from}
use Rattle.rly_plan.proofs.plan.hops_of_draft.Given as goal

-- the hops so far, before those of the remaining drafts
abbrev pub invariant-loop-draft : goal.invariant-loop-draft
invariant-loop-draft l = record {
  made : l.hops.items ++ map hop_from (into_iter_items l.draft-iterator) ≡ map hop_from l.fn.drafts.items;
  ranged : list_all (λ h. list_all contact_in_range h.contacts) (into_iter_items l.draft-iterator) ≡ true;
  apart : list_all (λ h. all_adjacent are_apart h.contacts) (into_iter_items l.draft-iterator) ≡ true;
}
