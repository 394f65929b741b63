use Rattle.std.proofs.Common.{◌≡◌, inl, rules, sym}
use Rattle.rly_machine.specs.State.{live_items}
use Rattle.rly_daemon_commands.proofs.format_check.check_unused.Goals as goal

pub returns-else-live-gt0-clause-looked : goal.returns-else-live-gt0-clause-looked
returns-else-live-gt0-clause-looked g c =
    let none : live_items c.in-Ok.journal.state ≡ 0 = search rules in
    inl (c.in-Ok.journal, c.in-Ok.ensures.whole.0, none, sym c.into_disk-disk.ensures, c.in-Ok.ensures.trace)
