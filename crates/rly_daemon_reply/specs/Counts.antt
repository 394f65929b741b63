-- The counts of a hop, as `show` and an audit print them (docs/COMMANDS.md, "Replies").
use Rattle.std.specs.Prelude.{ℕ, nat_lt, if◌then◌else◌, List, [], ◌++◌, codes}
use Rattle.std.specs.Fmt.{decimal}
use Rattle.rly_machine.specs.declared.reply.HopStatus.{HopStatus}

-- the counts of a hop's datagrams by outcome
unfoldable pub counts_text : HopStatus → List ℕ
counts_text h =
    codes " taken " ++ decimal h.taken
    ++ codes " queued " ++ decimal h.queued
    ++ codes " flight " ++ decimal h.flight
    ++ codes " dropped " ++ decimal h.dropped
    ++ codes " released " ++ decimal h.released

-- the number of expired datagrams, if there are any
unfoldable pub expired_text : ℕ → List ℕ
expired_text count = if nat_lt 0 count then codes " expired " ++ decimal count else []
