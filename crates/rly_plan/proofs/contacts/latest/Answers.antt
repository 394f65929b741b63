-- The search parts the entries into those that have begun and those that have not.
use Rattle.std.proofs.Common.{Option, sym, subst, arith, rules}
use Rattle.std.specs.Prelude.{IfSome}
use Rattle.std.proofs.lemmas.List.Sorted.{IsPartitionPoint-from_clause, IsPartitionedBy-leb}
use Rattle.rly_plan.specs.declared.contacts.Summed.{Summed}
use Rattle.rly_plan.specs.HelpersContacts.{HasBegun}
use Rattle.rly_plan.proofs.LinkLemmas.{begins_ascend, has_begun, latest_none, latest_where, found_has_begun}
use Rattle.rly_plan.proofs.contacts.latest.Goals as goal

pub returns-then-begun-eq0-clause-last : goal.returns-then-begun-eq0-clause-last
returns-then-begun-eq0-clause-last c =
    let parted = IsPartitionedBy-leb (λ e. e.contact.begin) _ c.args.moment (begins_ascend 0 0 _ c.requires) in
    let parts = IsPartitionPoint-from_clause (has_begun c.args.moment) _ _ c.partition_point-begun.ensures.partitioned parted (λ a r q k. search rules) in
    sym (latest_none _ _ (λ k d low high. parts.1 k d (omega arith) high))

pub returns-else-begun-eq0-clause-last : goal.returns-else-begun-eq0-clause-last
returns-else-begun-eq0-clause-last c =
    let parted = IsPartitionedBy-leb (λ e. e.contact.begin) _ c.args.moment (begins_ascend 0 0 _ c.requires) in
    let parts = IsPartitionPoint-from_clause (has_begun c.args.moment) _ _ c.partition_point-begun.ensures.partitioned parted (λ a r q k. search rules) in
    latest_where _ _ _ _ c.partition_point-begun.ensures.bound (omega arith) parts

pub returns-else-begun-eq0-clause-begun : goal.returns-else-begun-eq0-clause-begun
returns-else-begun-eq0-clause-begun c =
    let P : Option Summed → Type 0 = λ o. IfSome o (HasBegun c.args.moment) in
    subst P (sym (returns-else-begun-eq0-clause-last c)) (found_has_begun 0 0 _ c.args.moment c.requires (omega arith))
