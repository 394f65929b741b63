-- The step of a request, over bytes: a command may change the state, a query does not.
use Rattle.std.specs.Prelude.{ℕ, List, length}
use Rattle.rly_machine.specs.declared.command.Ask.{Ask}
use Rattle.rly_machine.specs.declared.command.Ask.TheVariants as ask
use Rattle.rly_machine.specs.declared.reply.Reply.{Reply}
use Rattle.rly_machine.specs.State.{State, Spool}
use Rattle.rly_machine.specs.Step.{NeedsRoom, step}
use Rattle.rly_machine.specs.Query.{HasBytes, query_reply}

-- the state after a request, and the reply to it
abbrev pub ask_step : State (List ℕ) → Ask → State (List ℕ) × Reply
ask_step s (ask.Command command) = step length s command
ask_step s (ask.Query query) = (s, query_reply s query)

-- a request that allocates: a command that needs room, or a Fetch of a payload with bytes
abbrev pub NeedsMemory : Spool (List ℕ) → Ask → Type 0
NeedsMemory spool (ask.Command command) = NeedsRoom length spool command
NeedsMemory spool (ask.Query query) = HasBytes (query_reply spool.state query)
