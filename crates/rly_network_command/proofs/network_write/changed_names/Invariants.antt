use Rattle.std.proofs.Common.{◌≡◌, ◌++◌, drop, string_bytes}
use Rattle.rly_network_command.specs.NetworkWrite.{changed_lines}
use Rattle.rly_network_command.proofs.network_write.changed_names.Given as goal

-- what is told, and then what is left
abbrev pub invariant-loop-index : goal.invariant-loop-index
invariant-loop-index l = string_bytes l.names ++ changed_lines (drop l.index l.stations) (drop l.index l.new) ≡ changed_lines l.stations l.new
