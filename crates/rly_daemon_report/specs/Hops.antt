-- The asks and the reports of hops (docs/reference/DEFINITIONS.md, "Reports").
use Rattle.std.specs.Prelude.{ℕ, List, map, length, Result}
use Rattle.std.specs.List.{range_with_len}
use Rattle.rly_core.specs.declared.ids.HopId.{HopId}
use Rattle.rly_core.specs.declared.refusal.Refusal.{Refusal}
use Rattle.rly_machine.specs.declared.command.Ask.{Ask}
use Rattle.rly_machine.specs.declared.command.Ask.TheVariants as ask
use Rattle.rly_machine.specs.declared.command.Query.TheVariants.{Show}
use Rattle.rly_machine.specs.declared.reply.HopStatus.{HopStatus}
use Rattle.rly_plan.specs.ContactPlan.{ContactPlan, is_open, next_change}
use Rattle.rly_daemon_report.specs.declared.link_counts.LinkReport.{LinkReport}
use Rattle.rly_daemon_report.specs.declared.report.HopReport.{HopReport}

-- Show of a hop
abbrev pub show_ask : ℕ → Ask
show_ask id = ask.Query (Show (record { 0 = id }))

-- Show of this many hops, whose ids are 1, 2, 3, ..
abbrev pub shows_of_hops : ℕ → List Ask
shows_of_hops count = map show_ask (range_with_len 1 count)

-- Show of each hop of a plan
abbrev pub show_asks : ContactPlan → List Ask
show_asks plan = shows_of_hops (length plan.hops)

-- the report of a hop of a plan at a moment, with the answer to its Show, and its link
abbrev pub hop_report : ContactPlan → HopId → ℕ → Result HopStatus Refusal → LinkReport → HopReport
hop_report plan hop moment answer link =
    record {
      hop = hop;
      answer = answer;
      is_open = is_open plan hop moment;
      change = next_change plan hop moment;
      link = link;
    }
