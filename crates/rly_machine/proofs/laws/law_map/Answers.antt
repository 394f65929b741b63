use Rattle.rly_machine.proofs.Lifting.{fold_map, step_map}
use Rattle.rly_machine.proofs.laws.law_map.Goals as goal

pub returns-clause-steps : goal.returns-clause-steps
returns-clause-steps g c f s command kept = (step_map g.P.Content.length_of g.Q.Content.length_of f s command kept).0

pub returns-clause-keeps : goal.returns-clause-keeps
returns-clause-keeps g c f s command kept = (step_map g.P.Content.length_of g.Q.Content.length_of f s command kept).1

pub returns-clause-folds : goal.returns-clause-folds
returns-clause-folds g c f s commands kept = fold_map g.P.Content.length_of g.Q.Content.length_of f s commands kept
