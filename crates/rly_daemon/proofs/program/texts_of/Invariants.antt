use Rattle.std.proofs.Common.{◌≡◌, map, take}
use Rattle.rly_daemon.proofs.program.texts_of.Given as goal

abbrev pub invariant-loop-word : goal.invariant-loop-word
invariant-loop-word g l = map (λ s. s.now) l.texts.items ≡ map g.S.AsStr.text (take l.word-index l.words)
