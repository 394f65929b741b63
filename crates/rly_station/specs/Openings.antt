-- The links that a station opens while it serves (docs/COMMANDS.md, "rly serve").
use Rattle.std.specs.Prelude.{ℕ, ◌==◌, Bool, true, false, ◌&&◌, List, ◌++◌, codes, Option, None, Some}
use Rattle.rly_link.specs.declared.turn.Worker.{Worker}
use Rattle.rly_station.specs.Warnings.{kind_of, name_text}
use Rattle.rly_station.specs.declared.address_fault.End.{End}
use Rattle.rly_station.specs.declared.address_fault.End.TheVariants.{Listen, Remote}
use Rattle.rly_station.specs.declared.address_fault.EndFault.{EndFault}
use Rattle.rly_station.specs.declared.opening.Opening.{Opening}
use Rattle.rly_station.specs.declared.opening.Opening.TheVariants.{Opened, Refused}

abbrev pub is_same_end : End → End → Bool
is_same_end Listen Listen = true
is_same_end Remote Remote = true
is_same_end Listen Remote = false
is_same_end Remote Listen = false

-- two refusals have the same reason: of the same address, with the same number of the system
abbrev pub is_like : EndFault → EndFault → Bool
is_like a b = is_same_end a.end b.end && (kind_of a.word.0 == kind_of b.word.0)

-- the line, without its newline; that of a refusal has the system's text, which no clause knows
abbrev pub opening_text : Worker → Opening → Option (List ℕ)
opening_text w (Refused fault wait) = None
opening_text w Opened = Some (codes "rly: " ++ name_text w ++ codes ": link open")
