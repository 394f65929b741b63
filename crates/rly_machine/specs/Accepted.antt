-- The common part of all commands: the list of checks, and the state after an accepted command.
use Rattle.std.specs.Prelude.{ℕ, ◌+◌, ◌-◌, ◌^◌, slice_set, Option, Some, None, Bool, true, false}
use Rattle.rly_core.specs.declared.ids.HopId.{HopId}
use Rattle.rly_machine.specs.declared.reply.Reply.{Reply}
use Rattle.rly_machine.specs.declared.reply.Reply.TheVariants.{Taken, Picked, Nothing, Released}
use Rattle.rly_machine.specs.State.{State, HopState}

-- the maximum number of accepted commands
abbrev pub max_seq : ℕ
max_seq = 2 ^ 48 - 1

-- the result of a step: the reply of the first failed check and the unchanged state, or else the result of the accepted
-- command
abbrev pub unless : {P : Type 0} → Option Reply → State P → State P × Reply → State P × Reply
unless (Some reply) s accepted = (s, reply)
unless None s accepted = accepted

-- the spool after an accepted command: one hop has a new state
abbrev pub accept : {P : Type 0} → State P → HopId → HopState P → State P
accept s hop h = record s { hops = slice_set s.hops (hop.0 - 1) h; seq = s.seq + 1 }

-- the replies to accepted commands
abbrev pub is_accepted : Reply → Bool
is_accepted (Taken _) = true
is_accepted (Picked _ _ _ _) = true
is_accepted (Nothing _) = true
is_accepted (Released _) = true
is_accepted _ = false
