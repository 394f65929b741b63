use Rattle.std.proofs.Common.{None, Some, refl}
use Rattle.rly_network_folder.proofs.Puts.{calls_then}
use Rattle.rly_network_folder.proofs.put.make_key.Goals as goal

pub returns-in-Some-clause-made : goal.returns-in-Some-clause-made
returns-in-Some-clause-made g c =
    let found = rw c.in-Some.is at c.in_ok-key.ensures.first in (
      Some c.in-Some.key.items,
      c.in-Some.key.items,
      found.0,
      refl,
      found.1,
      calls_then _ _ _ _ _ found.2 (rw c.deref.ensures.value at c.in_ok-make.ensures.called),
    )

pub returns-clause-made : goal.returns-clause-made
returns-clause-made g c =
    let found = rw c.in_default.is at c.in_ok-key.ensures.first in (
      None,
      c.in_ok-line.line,
      found.0,
      c.in_ok-line.ensures,
      found.1,
      calls_then _ _ _ _ _ found.2 c.in_ok-make-2.ensures.called,
    )
