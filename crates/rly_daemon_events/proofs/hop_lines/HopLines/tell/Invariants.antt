use Rattle.rly_daemon_events.proofs.Written.{AreTold}
use Rattle.rly_daemon_events.proofs.hop_lines.HopLines.tell.Given as goal

abbrev pub invariant-loop-place : goal.invariant-loop-place
invariant-loop-place g l =
    AreTold l.plan l.now l.resting l.initial.self l.self (g.W.Write.contents l.initial.writer) (g.W.Write.contents l.writer) l.place
