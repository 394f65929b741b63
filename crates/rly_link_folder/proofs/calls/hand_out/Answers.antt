use Rattle.std.proofs.Common.{inl, refl}
use Rattle.rly_link_folder.proofs.Made.{cut, joined, not_ok}
use Rattle.rly_link_folder.specs.OutboxCalls.{moving}
use Rattle.rly_link_folder.proofs.calls.hand_out.Goals as goal

pub returns-in_err-put : goal.returns-in_err-put
returns-in_err-put g c = let p = c.in_err-put.ensures in rw (not_ok _ c.from_residual.ensures.0)
    record { linked = p.0; steps = moving c.args.greatest c.args.number; keeping = inl refl; makes = cut g.F.Folder.state _ p.1 }

pub returns : goal.returns
returns g c = let p = c.in_ok-put.ensures in
    record { linked = p.0; steps = c.keep.ensures.steps; keeping = c.keep.ensures.keeping; makes = joined g.F.Folder.state p.1 c.keep.ensures.makes }
