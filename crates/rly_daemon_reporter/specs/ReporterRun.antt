-- A reporter from its start to its end (docs/reference/DEFINITIONS.md, "Reports").
use Rattle.std.specs.Prelude.{◌≡◌, ℕ, List, [], ◌∷◌, ◌++◌, map, Bool, true, false, Option, Some, None, Result, Ok, Err}
use Rattle.std.specs.Prelude.{if◌then◌else◌}
use Rattle.std.specs.Io.KnownBytes.{Appends}
use Rattle.std.specs.List.{AllByRecursion, flat_map}
use Rattle.rly_line.specs.declared.call_error.BatchError.{BatchError}
use Rattle.rly_machine.specs.declared.call.Answer.{Answer}
use Rattle.rly_plan.specs.ContactPlan.{ContactPlan}
use Rattle.rly_daemon_report.specs.declared.counted_report.Counted.{Counted}
use Rattle.rly_daemon_report.specs.Hops.{show_asks}
use Rattle.rly_daemon_report.specs.CountedReport.{text_of_answers}
use Rattle.rly_daemon_reporter.specs.declared.reporter.ReporterEnd.{ReporterEnd}
use Rattle.rly_daemon_reporter.specs.declared.reporter.ReporterEnd.TheVariants.{NoneDue, Closed, Output}
use Rattle.rly_daemon_reply.specs.Beginnings.{AppendsBeginning}
use Rattle.rly_threads_workers.specs.DeskExchanges.{Asked}
use Rattle.rly_link.specs.LinkHistory.{TellsMore}

-- the ghost histories of a reporter's interfaces, each if it is recorded: asks, moments, and counts
pub record ReporterView : Type 0 where
  pub asked : Option (List Asked)
  pub paced : Option (List (Option ℕ))
  pub seen : Option (List Counted)

-- the inputs of a report: the answers to its Shows, the counts, and whether memory was refused for its text
pub record Numbers : Type 0 where
  pub answers : List Answer
  pub counted : Counted
  pub refused : Bool

-- a report that was due: its moment, and its outcome. None: memory was refused before its asks. An error: nothing
-- was answered
pub record Due : Type 0 where
  pub moment : ℕ
  pub made : Option (Result Numbers BatchError)

-- Show of each hop is submitted for it together
abbrev pub asked_for : ContactPlan → Option (Result Numbers BatchError) → List Asked
asked_for plan None = []
asked_for plan (Some (Ok n)) = (show_asks plan, Ok n.answers) ∷ []
asked_for plan (Some (Err error)) = (show_asks plan, Err error) ∷ []

-- the counts are read once for it
abbrev pub seen_for : Option (Result Numbers BatchError) → List Counted
seen_for None = []
seen_for (Some (Ok n)) = n.counted ∷ []
seen_for (Some (Err error)) = []

-- the text written for it: none if memory was refused or nothing was answered
abbrev pub text_for : ContactPlan → ℕ → Option (Result Numbers BatchError) → List ℕ
text_for plan moment None = []
text_for plan moment (Some (Ok n)) = if n.refused then [] else text_of_answers plan moment n.answers n.counted
text_for plan moment (Some (Err error)) = []

-- whether an answer came for it, or nothing was asked
abbrev pub is_open : Option (Result Numbers BatchError) → Bool
is_open None = true
is_open (Some (Ok n)) = true
is_open (Some (Err error)) = false

-- all reports that were due, in order
abbrev pub asked_in : ContactPlan → List Due → List Asked
asked_in plan dues = flat_map (λ d. asked_for plan d.made) dues

abbrev pub seen_in : List Due → List Counted
seen_in dues = flat_map (λ d. seen_for d.made) dues

abbrev pub text_in : ContactPlan → List Due → List ℕ
text_in plan dues = flat_map (λ d. text_for plan d.moment d.made) dues

abbrev pub moments_in : List Due → List (Option ℕ)
moments_in dues = map (λ d. Some d.moment) dues

-- the schedule's stop, if a reporter ended for it
abbrev pub end_moments : ReporterEnd → List (Option ℕ)
end_moments NoneDue = None ∷ []
end_moments Closed = []
end_moments Output = []

-- the writer's content after the reporter ended: the text, or a prefix of it if the writer failed
abbrev pub HasWritten : ReporterEnd → Option (List ℕ) → Option (List ℕ) → List ℕ → Type 0
HasWritten NoneDue old new text = Appends old new text
HasWritten Closed old new text = Appends old new text
HasWritten Output old new text = AppendsBeginning old new text

-- a reporter ends because the queue is closed iff its last asks weren't answered
abbrev pub EndsAt : ReporterEnd → List Due → Type 0
EndsAt NoneDue dues = AllByRecursion (λ d. is_open d.made ≡ true) dues
EndsAt Closed dues = (before : List Due) × (last : Due) × (dues ≡ before ++ last ∷ [])
    × AllByRecursion (λ d. is_open d.made ≡ true) before × (is_open last.made ≡ false)
EndsAt Output dues = AllByRecursion (λ d. is_open d.made ≡ true) dues

-- A reporter from its start to its end: for each moment of its schedule it submitted Show of each hop, read the
-- counts, and wrote the text of the answers and counts; it did nothing else.
pub record HasReported (plan : ContactPlan) (old new : ReporterView) (before after : Option (List ℕ))
    (end : ReporterEnd) : Type 0 where
  pub dues : List Due
  pub ends : EndsAt end dues
  pub paced : TellsMore old.paced new.paced (moments_in dues ++ end_moments end)
  pub asked : TellsMore old.asked new.asked (asked_in plan dues)
  pub seen : TellsMore old.seen new.seen (seen_in dues)
  pub written : HasWritten end before after (text_in plan dues)
