use Rattle.std.proofs.Common.{arith}
use Rattle.rly_journal.proofs.Inlining.{bytes_hold, inline_holds, inline_payloads, inlined}
use Rattle.rly_journal.proofs.recovery_laws.law_inline_head.Goals as goal

pub returns-clause-inline : goal.returns-clause-inline
returns-clause-inline c which image g segment generation s two below head = inline_holds which image g segment generation s (omega (arith, two)) head

pub returns-clause-only : goal.returns-clause-only
returns-clause-only c which image g segment generation s two below holds =
    (inlined image s (inline_payloads g segment s two below holds.placed), bytes_hold which image g segment generation s two below holds)
