-- A sending worker that is asleep (docs/ARCHITECTURE.md, "Waiting times").
use Rattle.std.specs.Prelude.{ℕ, ◌≡◌, ◌<◌, ⊤, List}
use Rattle.std.specs.List.{All, flat_map}
use Rattle.rly_link.specs.declared.link.Sleep.{Sleep}
use Rattle.rly_link.specs.declared.link.Sleep.TheVariants as sleep
use Rattle.rly_machine.specs.declared.command.Ask.TheVariants.{Command}
use Rattle.rly_machine.specs.declared.command.Command.TheVariants as command
use Rattle.rly_plan.specs.ContactPlan.{link}
use Rattle.rly_threads_workers.specs.DeskExchanges.{Asked}
use Rattle.rly_threads_workers.specs.SenderTurns.{SenderWorker}

-- a sleep lasts at a moment of the monotonic clock, unless something ends it
abbrev pub Lasts : Sleep → ℕ → Type 0
Lasts sleep.No at = ⊥
Lasts (sleep.Until moment) at = at < moment
Lasts sleep.Woken at = ⊤

-- nothing is asked but to pick the hop's next datagram
abbrev pub AsksOnlyPicks : SenderWorker → (now : ℕ) → List Asked → Type 0
AsksOnlyPicks w now asked =
    All (λ ask. ask ≡ Command (command.Pick w.hop (link w.plan w.hop now))) (flat_map (λ batch. batch.0) asked)
