use Rattle.std.proofs.Common.{◌≡◌, ◌++◌, string_bytes, take}
use Rattle.rly_plan_show.specs.PlanText.{peers_text}
use Rattle.rly_plan_show.proofs.plan_text.write_peers.Given as goal

abbrev pub invariant-loop-peer : goal.invariant-loop-peer
invariant-loop-peer l =
    (l.number ≡ l.peer-index) × (string_bytes l.text ≡ string_bytes l.initial.text ++ peers_text (take l.peer-index l.peers))
