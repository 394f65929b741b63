use Rattle.std.proofs.Common.{subst}
use Rattle.rly_disk.specs.MemDisk.{IsLeft, mem_state}
use Rattle.rly_world_relay.specs.Relay.{Happened, IsCrash, disk_in}
use Rattle.rly_world_relay.specs.declared.spool.Spool.TheVariants.{Shut}
use Rattle.rly_world_relay.proofs.RelayShows.{crash_happened, forgets}
use Rattle.rly_world_relay.proofs.relay.Relay.crash.Goals as goal

pub returns : goal.returns
returns c =
    let made = c.stop-disk.ensures in
    record {
      event = subst (Happened (IsCrash c.args.torn (disk_in c.args.self.now.spool)) c.args.self.now)
          (forgets c.args.self.now c.stop-disk.new.self _ (Shut c.crash.result) made.seats made.line made.kept c.self.view_is)
          (crash_happened c.args.self.now c.args.torn c.crash.result
          (subst (λ d. IsLeft c.args.torn d (mem_state c.crash.result).seen) made.disk c.crash.ensures.left)
          (subst (λ d. (mem_state d).images (mem_state c.crash.result).seen) made.disk c.crash.ensures.image) c.crash.ensures.settled);
    }
