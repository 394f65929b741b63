use Rattle.std.proofs.Common.{None, replicate, subst, sym}
use Rattle.rly_disk.specs.MemDisk.{mem_state}
use Rattle.rly_world.specs.RelayWorld.{new_seat, new_world}
use Rattle.rly_world_relay.specs.Relay.{Shows}
use Rattle.rly_world_relay.specs.declared.spool.Spool.TheVariants.{Shut}
use Rattle.rly_world_relay.proofs.RelayShows.{new_shows}
use Rattle.rly_world_relay.proofs.relay.Relay.new.Goals as goal

pub returns-clause-world : goal.returns-clause-world
returns-clause-world c = (
  (mem_state c.in_ok-disk.disk).seen,
  c.in_ok-disk.ensures.formatted,
  subst (λ s. Shows (record { seats = s; line = c.new.result.items; kept = None; spool = Shut c.in_ok-disk.disk }) (new_world c.args.geometry.now.params c.args.seats (mem_state c.in_ok-disk.disk).seen))
      (sym c.in-Ok.ensures)
      (subst (λ l. Shows (record { seats = replicate c.args.seats new_seat; line = l; kept = None; spool = Shut c.in_ok-disk.disk }) (new_world c.args.geometry.now.params c.args.seats (mem_state c.in_ok-disk.disk).seen))
      (sym c.new.ensures.items)
      (new_shows c.args.geometry.now c.args.seats c.in_ok-disk.disk c.in_ok-disk.ensures.formatted c.in_ok-disk.ensures.settled)),
)
