-- The device addresses of a group's payloads, after it is written (docs/reference/DEFINITIONS.md, "Grouping").
use Rattle.std.specs.Prelude.{ℕ, ◌+◌, List, [], ◌∷◌, length}
use Rattle.rly_machine.specs.declared.command.Command.{Command}
use Rattle.rly_machine.specs.declared.command.Command.TheVariants.{Take, Pick, Release}
use Rattle.rly_record.specs.Spelling.{record_length}
use Rattle.rly_segment_checkpoint.specs.declared.stored.Stored.{Stored}
use Rattle.rly_segment_checkpoint.specs.declared.stored.Stored.TheVariants.{Inline, Placed}

-- the commands of one group
abbrev pub Commands : Type 0
Commands = List (Command (List ℕ))

-- a payload at an offset, by its device address; one without bytes is inline
abbrev pub stored_at : ℕ → List ℕ → Stored
stored_at place [] = Inline []
stored_at place (byte ∷ bytes) = Placed (record { start = place; length = length (byte ∷ bytes) })

-- a command whose record is at an offset, with its payload by device address: after the 23 bytes of a Take's other
-- fields, with a limit or without
abbrev pub placed_at : ℕ → Command (List ℕ) → Command Stored
placed_at place (Take peer number hop stamp limit payload) =
    Take peer number hop stamp limit (stored_at (place + 23) payload)
placed_at place (Pick hop now) = Pick hop now
placed_at place (Release hop number) = Release hop number

-- commands with consecutive records
abbrev pub placed_from : ℕ → Commands → List (Command Stored)
placed_from place [] = []
placed_from place (command ∷ commands) =
    placed_at place command ∷ placed_from (place + record_length length command) commands

-- the commands of a group at a gate, which is followed by its length in 4 bytes, the count in 2, and the records
abbrev pub placed_group : ℕ → Commands → List (Command Stored)
placed_group gate commands = placed_from (gate + 7) commands
