use Rattle.std.proofs.Common.{◌+◌, ◌++◌, ◌∙◌, [], ap}
use Rattle.rly_journal.specs.Groups.{GroupState}
use Rattle.rly_journal.proofs.Framed.{group_of, keep_is}
use Rattle.rly_journal.proofs.group.Group.keep.Goals as goal

pub returns : goal.returns
returns c =
    keep_is c.self.inside.kept c.self.inside.count c.self.inside.most c.len-self-inside.result c.self.inside.frame.items c.self.invariant.0 c.self.invariant.1
    (c.len-self-inside.ensures ∙ c.self.inside.frame.ok.0)
    ∙ ap (λ (g : GroupState). group_of (g.records ++ g.staged) (g.count + 1) [] g.most) c.self.view_is
