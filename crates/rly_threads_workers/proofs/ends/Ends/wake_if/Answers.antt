use Rattle.std.proofs.Common.{subst, sym}
use Rattle.rly_link.specs.LinkHistory.{TellsMore}
use Rattle.rly_threads_workers.specs.Turns.{woken_if}
use Rattle.rly_threads_workers.proofs.Grown.{tells_nothing}
use Rattle.rly_threads_workers.proofs.ends.Ends.wake_if.Goals as goal

pub returns-else-is_taken-clause-woken : goal.returns-else-is_taken-clause-woken
returns-else-is_taken-clause-woken g c =
    let woken = c.args.self.now.woken in
    subst (λ t. TellsMore woken woken (woken_if t c.args.hop)) (sym c.if-is_taken.false) (tells_nothing woken)
