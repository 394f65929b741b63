-- A report from the answers to the Show of each hop and from the counts (docs/reference/DEFINITIONS.md, "Reports").
use Rattle.std.specs.Prelude.{ℕ, ◌+◌, ◌-◌, List, [], ◌∷◌, ◌++◌, length, take, Option, Some, None, Result, Ok, Err}
use Rattle.std.specs.Prelude.{slice_index_or}
use Rattle.rly_core.specs.declared.refusal.Refusal.{Refusal}
use Rattle.rly_machine.specs.declared.call.Answer.{Answer}
use Rattle.rly_machine.specs.declared.reply.HopStatus.{HopStatus}
use Rattle.rly_machine.specs.declared.reply.Reply.{Reply}
use Rattle.rly_machine.specs.declared.reply.Reply.TheVariants as reply
use Rattle.rly_plan.specs.ContactPlan.{ContactPlan}
use Rattle.rly_daemon_report.specs.declared.report.DeviceReport.{DeviceReport}
use Rattle.rly_daemon_report.specs.declared.report.HopReport.{HopReport}
use Rattle.rly_daemon_report.specs.declared.counted_report.Counted.{Counted}
use Rattle.rly_daemon_report.specs.Hops.{hop_report}
use Rattle.rly_daemon_report.specs.LinkCounts.{no_link_report}
use Rattle.rly_daemon_report.specs.declared.link_counts.LinkReport.{LinkReport}
use Rattle.rly_daemon_report.specs.ReportText.{text_for_report}

-- the numbers or the refusal in a reply. None if it is no reply to a Show
abbrev pub status_in_reply : Reply → Option (Result HopStatus Refusal)
status_in_reply (reply.Shown status) = Some (Ok status)
status_in_reply (reply.Refused refusal) = Some (Err refusal)
status_in_reply (reply.Taken id) = None
status_in_reply (reply.Already last) = None
status_in_reply (reply.Picked number id expired dropped) = None
status_in_reply (reply.Nothing expired) = None
status_in_reply (reply.Released count) = None
status_in_reply reply.Unchanged = None
status_in_reply (reply.Bytes payload limit) = None
status_in_reply (reply.WindowIs first next) = None

-- the report of a hop from that, if there is one
abbrev pub hop_if : ContactPlan → ℕ → LinkReport → ℕ → Option (Result HopStatus Refusal) → List HopReport
hop_if plan moment link id None = []
hop_if plan moment link id (Some answer) = hop_report plan (record { 0 = id }) moment answer link ∷ []

-- the link at a place
abbrev pub link_at : List LinkReport → ℕ → LinkReport
link_at links place = slice_index_or links place no_link_report

-- the reports of the hops from this id on, in order, from their answers
abbrev pub hops_from : ContactPlan → ℕ → List LinkReport → ℕ → List Answer → List HopReport
hops_from plan moment links id [] = []
hops_from plan moment links id (answer ∷ answers) =
    hop_if plan moment (link_at links (id - 1)) id (status_in_reply answer.reply)
    ++ hops_from plan moment links (id + 1) answers

-- the report of each hop, whose ids are 1, 2, 3, ..
abbrev pub hop_reports : ContactPlan → ℕ → List LinkReport → List Answer → List HopReport
hop_reports plan moment links answers = hops_from plan moment links 1 answers

-- the number of commands ever accepted, from the first answer
abbrev pub reported_seq : List Answer → ℕ
reported_seq [] = 0
reported_seq (answer ∷ answers) = answer.position

-- the report of the device
abbrev pub device_report : List Answer → Counted → DeviceReport
device_report answers c = record { seq = reported_seq answers; rounds = c.rounds; segments = c.segments }

-- the text of the report
abbrev pub text_of_answers : ContactPlan → ℕ → List Answer → Counted → List ℕ
text_of_answers plan moment answers c =
    text_for_report moment (hop_reports plan moment c.hops answers) (take (length plan.peers) c.peers)
    (device_report answers c)
