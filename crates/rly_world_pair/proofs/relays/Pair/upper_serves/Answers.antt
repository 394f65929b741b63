use Rattle.std.proofs.Common.{refl, sym, ◌∙◌, subst, inl}
use Rattle.std.specs.Prelude.{IsTrue}
use Rattle.rly_world.specs.PairCores.{is_for_sender}
use Rattle.rly_world.specs.PairWorld.{PairWorld}
use Rattle.rly_world_pair.proofs.relays.Pair.upper_serves.Goals as goal

pub returns-then-is_for_sender-clause-ok : goal.returns-then-is_for_sender-clause-ok
returns-then-is_for_sender-clause-ok c =
    inl (subst (λ (w : PairWorld). IsTrue (is_for_sender w.setup.hop c.args.ask)) c.self.view_is (sym c.is_for_sender.ensures ∙ c.if-is_for_sender.true), refl)
