use Rattle.std.proofs.Common.{[], subst, sym}
use Rattle.rly_disk.specs.Trials.{Tries}
use Rattle.rly_disk.proofs.TriedRows.{none_tried, nothing_tried, tries_joined}
use Rattle.rly_disk.proofs.trials.law_joined_tries.Goals as goal

pub returns-clause-joined : goal.returns-clause-joined
returns-clause-joined g c rows more = tries_joined g.D.Disk.state rows more

pub returns-clause-none : goal.returns-clause-none
returns-clause-none g c = (
  none_tried g.D.Disk.state,
  λ same. subst (λ d. Tries g.D.Disk.state [] c.args.first.now d) (sym same) (nothing_tried g.D.Disk.state c.args.first.now),
)
