use Rattle.std.proofs.Common.{refl}
use Rattle.rly_network_command.proofs.network_write.run_network_write.Goals as goal

pub returns-then-changed : goal.returns-then-changed
returns-then-changed g c =
    let it = c.in_ok-written.ensures.written in
    let printed = rw (c.deref.ensures.value, c.deref-then-changed.ensures.value) at c.in_ok-print_changed.ensures in
    (c.in_ok-written.written.0.items, c.in_ok-written.written.1.items, it.0, it.1, (rw c.if-changed.true printed))

pub returns : goal.returns
returns g c =
    let it = c.in_ok-written.ensures.written in
    (c.in_ok-written.written.0.items, c.in_ok-written.written.1.items, it.0, it.1, (rw c.if-changed.false refl))
