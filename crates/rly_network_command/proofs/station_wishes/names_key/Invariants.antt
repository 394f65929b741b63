use Rattle.std.proofs.Common.{◌≡◌, drop}
use Rattle.std.specs.List.{list_any}
use Rattle.std.specs.Prelude.{String, string_bytes}
use Rattle.std.specs.Global.{Global}
use Rattle.std.specs.Str.{bytes_eq}
use Rattle.rly_network_command.proofs.station_wishes.names_key.Given as goal

-- whether the key is among those from here on
abbrev pub invariant-loop-one : goal.invariant-loop-one
invariant-loop-one l =
    list_any (λ (k : String Global). bytes_eq (string_bytes k) l.key) (drop l.one-index l.one-items)
    ≡ list_any (λ (k : String Global). bytes_eq (string_bytes k) l.key) l.one-items
