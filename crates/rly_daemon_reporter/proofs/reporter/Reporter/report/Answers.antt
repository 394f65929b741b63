use Rattle.std.proofs.Common.{[], ◌∷◌, List, refl, subst, sym}
use Rattle.std.specs.Prelude.{Err, None, Ok, Some}
use Rattle.rly_machine.specs.declared.call.Answer.{Answer}
use Rattle.rly_machine.specs.declared.command.Ask.{Ask}
use Rattle.rly_daemon_report.specs.Hops.{show_asks}
use Rattle.rly_link.specs.LinkHistory.{TellsMore}
use Rattle.rly_daemon_reporter.proofs.Dues.{made_closed, made_none, made_told}
use Rattle.rly_daemon_reporter.proofs.reporter.Reporter.report.Goals as goal

pub returns-in_default : goal.returns-in_default
returns-in_default g c =
    (record { moment = c.args.moment; made = None }, refl, made_none c.args.plan.now c.args.moment c.args.self.now (g.W.Write.contents c.args.writer.now))

pub returns-in-Ok-ask : goal.returns-in-Ok-ask
returns-in-Ok-ask g c =
    let answers : List Answer = c.deref.result.now in
    let asked : TellsMore c.args.self.now.asked c.ask.new.self.asked ((show_asks c.args.plan.now, Ok answers) ∷ []) =
    subst (λ (x : List Ask × List Answer). TellsMore c.args.self.now.asked c.ask.new.self.asked ((x.0, Ok x.1) ∷ []))
    (λ i. (c.in-Ok.ensures.asks i, sym c.deref.ensures.value i)) c.in-Ok-ask.ensures.asked in
    let told = c.tell.ensures in (
      record { moment = c.args.moment; made = Some (Ok (record { answers = answers; counted = told.0; refused = told.1 })) },
      refl,
      made_told c.args.plan.now c.args.moment c.args.self.now c.ask.new.self c.tell.new.self (g.W.Write.contents c.args.writer.now) (g.W.Write.contents c.tell.new.writer) answers told.0 told.1 c.tell.result asked
          c.ask.ensures.same told.2,
    )

pub returns : goal.returns
returns g c =
    let asked = subst (λ (asks : List Ask). TellsMore c.args.self.now.asked c.ask.new.self.asked ((asks, Err c.in-Err.field-0) ∷ [])) c.in-Ok.ensures.asks c.in-Err.ensures.asked in (
      record { moment = c.args.moment; made = Some (Err c.in-Err.field-0) },
      refl,
      made_closed c.args.plan.now c.args.moment c.args.self.now c.ask.new.self (g.W.Write.contents c.args.writer.now) c.in-Err.field-0 asked c.ask.ensures.same,
    )
