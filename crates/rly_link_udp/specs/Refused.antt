-- The fault of a link that the system refused.
use Rattle.std.specs.Prelude.{◌≡◌, ℕ, List, string_bytes}
use Rattle.rly_core.specs.declared.refusal.Refusal.TheVariants.{OutOfMemory}
use Rattle.rly_link.specs.declared.turn.Worker.{Worker}
use Rattle.rly_plan_syntax.specs.Endpoints.{Endpoints}
use Rattle.rly_station.specs.declared.address_fault.End.{End}
use Rattle.rly_station.specs.declared.address_fault.End.TheVariants.{Listen, Remote}
use Rattle.rly_station.specs.declared.address_fault.EndFault.{EndFault}
use Rattle.rly_station.specs.declared.serve_fault.ServeFault.{ServeFault}
use Rattle.rly_station.specs.declared.serve_fault.ServeFault.TheVariants.{Link, Refused}

abbrev pub address_at : Endpoints → End → List ℕ
address_at addresses Listen = addresses.listen
address_at addresses Remote = addresses.remote

-- the worker, the address and the system's error of a refusal, unless memory for the address was refused
abbrev pub IsFaultAt : Worker → Endpoints → EndFault → ServeFault → Type 0
IsFaultAt w addresses fault (Link told) = (told.worker ≡ w) × (told.end ≡ fault.end) × (told.word ≡ fault.word)
    × (string_bytes told.address ≡ address_at addresses fault.end)
IsFaultAt w addresses fault (Refused refusal cause) = refusal ≡ OutOfMemory
IsFaultAt w addresses fault told = ⊥
