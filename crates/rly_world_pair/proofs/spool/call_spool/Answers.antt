use Rattle.std.proofs.Common.{◌∙◌, ap, Option, Some, sym, subst, refl}
use Rattle.std.specs.Prelude.{IfOk}
use Rattle.std.proofs.lemmas.Result.{IfOk-weaker}
use Rattle.rly_world_pair.specs.HelpersStation.{IsSpoolCalled}
use Rattle.rly_world_pair.specs.declared.spool.Spool.{Spool}
use Rattle.rly_world_pair.specs.declared.spool.Spool.TheVariants.{Open}
use Rattle.rly_world_pair.proofs.spool.call_spool.Goals as goal

pub returns-in-Some-Open-clause-called : goal.returns-in-Some-Open-clause-called
returns-in-Some-Open-clause-called c =
    subst (λ (o : Option Spool). IfOk c.call_journal.result (λ reply. IsSpoolCalled o (Some (Open c.call_journal.new.journal)) c.args.ask reply)) (sym (c.in-Some-Open.is ∙ ap (λ (w : Spool). Some w) c.in-Some-Open.field-0-is))
    (IfOk-weaker c.call_journal.result _ _ (λ reply called. (c.call_journal.new.journal, refl, called)) (c.call_journal.ensures.called tt))
