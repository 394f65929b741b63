use Rattle.std.proofs.Common.{◌≡◌, string_bytes, take}
use Rattle.rly_network.specs.Texts.{disagreement_lines}
use Rattle.rly_network.proofs.disagreement.lines_of.Given as goal

abbrev pub invariant-loop-disagreement : goal.invariant-loop-disagreement
invariant-loop-disagreement l = string_bytes l.text ≡ disagreement_lines (take l.disagreement-index l.found)
