use Rattle.std.proofs.Common.{refl, sym, ◌∙◌, subst, inl}
use Rattle.std.specs.Prelude.{IsTrue}
use Rattle.rly_world.specs.PairCores.{is_for_receiver}
use Rattle.rly_world.specs.PairWorld.{PairWorld}
use Rattle.rly_world_pair.proofs.relays.Pair.lower_serves.Goals as goal

pub returns-then-is_for_receiver-clause-ok : goal.returns-then-is_for_receiver-clause-ok
returns-then-is_for_receiver-clause-ok c =
    inl (subst (λ (w : PairWorld). IsTrue (is_for_receiver w.setup.peer c.args.ask)) c.self.view_is (sym c.is_for_receiver.ensures ∙ c.if-is_for_receiver.true), refl)
