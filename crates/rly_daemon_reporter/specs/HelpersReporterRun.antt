-- Helpers of private functions: the effects of a reporter for one report.
use Rattle.std.specs.Prelude.{◌≡◌, ℕ, List, [], ◌∷◌, Bool, true, false, if◌then◌else◌, Option, Result, Ok, Err}
use Rattle.std.specs.Io.KnownBytes.{Appends}
use Rattle.rly_machine.specs.declared.call.Answer.{Answer}
use Rattle.rly_plan.specs.ContactPlan.{ContactPlan}
use Rattle.rly_daemon_report.specs.declared.counted_report.Counted.{Counted}
use Rattle.rly_daemon_report.specs.CountedReport.{text_of_answers}
use Rattle.rly_daemon_reporter.specs.declared.reporter.ReporterEnd.{ReporterEnd}
use Rattle.rly_daemon_reporter.specs.declared.reporter.ReporterEnd.TheVariants.{Closed, Output, NoneDue}
use Rattle.rly_daemon_reporter.specs.ReporterRun.{Due, ReporterView, asked_for, is_open, seen_for, text_for}
use Rattle.rly_daemon_reply.specs.Beginnings.{AppendsBeginning}
use Rattle.rly_link.specs.LinkHistory.{TellsMore}

-- whether it was answered, if it asked, given its end
abbrev pub GoesOn : Result (Unit {0}) ReporterEnd → Bool → Type 0
GoesOn (Ok _) answered = answered ≡ true
GoesOn (Err NoneDue) answered = ⊥
GoesOn (Err Closed) answered = answered ≡ false
GoesOn (Err Output) answered = answered ≡ true

-- the writer's content after it
abbrev pub HasAdded : Result (Unit {0}) ReporterEnd → Option (List ℕ) → Option (List ℕ) → List ℕ → Type 0
HasAdded (Ok _) old new text = Appends old new text
HasAdded (Err NoneDue) old new text = ⊥
HasAdded (Err Closed) old new text = Appends old new text
HasAdded (Err Output) old new text = AppendsBeginning old new text

-- it read the counts, and wrote the text with these answers, unless memory was refused for it
pub record HasWrittenText (plan : ContactPlan) (moment : ℕ) (answers : List Answer) (counted : Counted) (refused : Bool)
    (old new : ReporterView) (before after : Option (List ℕ)) (outcome : Result (Unit {0}) ReporterEnd) : Type 0 where
  pub open_still : GoesOn outcome true
  pub paced : new.paced ≡ old.paced
  pub asked : new.asked ≡ old.asked
  pub seen : TellsMore old.seen new.seen (counted ∷ [])
  pub written : HasAdded outcome before after (if refused then [] else text_of_answers plan moment answers counted)

-- it made one report
pub record HasMade (plan : ContactPlan) (due : Due) (old new : ReporterView) (before after : Option (List ℕ))
    (outcome : Result (Unit {0}) ReporterEnd) : Type 0 where
  pub open_still : GoesOn outcome (is_open due.made)
  pub paced : new.paced ≡ old.paced
  pub asked : TellsMore old.asked new.asked (asked_for plan due.made)
  pub seen : TellsMore old.seen new.seen (seen_for due.made)
  pub written : HasAdded outcome before after (text_for plan due.moment due.made)
