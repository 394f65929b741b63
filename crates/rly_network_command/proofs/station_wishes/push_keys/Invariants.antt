use Rattle.std.proofs.Common.{◌≡◌, ◌++◌, map, string_bytes, take}
use Rattle.std.specs.Prelude.{String}
use Rattle.std.specs.Global.{Global}
use Rattle.rly_network_command.specs.NetworkFiles.{key_wish, wish}
use Rattle.rly_network_command.proofs.station_wishes.push_keys.Given as goal

abbrev pub invariant-loop-key : goal.invariant-loop-key
invariant-loop-key l = map wish l.wanted.items
    ≡ map wish l.initial.wanted.items ++ map (λ (k : String Global). key_wish l.folder l.stations l.station (string_bytes k)) (take l.key-index l.key-items)
