use Rattle.rly_journal.proofs.Records.{inline_alike, next_place, place_after, placed_alike, placed_told}
use Rattle.rly_journal.proofs.group_laws.law_places.Goals as goal

pub returns-clause-told : goal.returns-clause-told
returns-clause-told c = placed_told

pub returns-clause-next : goal.returns-clause-next
returns-clause-next c = next_place

pub returns-clause-after : goal.returns-clause-after
returns-clause-after c = place_after

pub returns-clause-alike : goal.returns-clause-alike
returns-clause-alike c = placed_alike

pub returns-clause-inline : goal.returns-clause-inline
returns-clause-inline c = inline_alike
