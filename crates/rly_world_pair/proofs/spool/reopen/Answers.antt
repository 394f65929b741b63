use Rattle.std.proofs.Common.{subst}
use Rattle.rly_disk.specs.MemDisk.{mem_state}
use Rattle.rly_disk.specs.declared.mem.MemDisk.{MemDisk}
use Rattle.rly_world_pair.proofs.spool.reopen.Goals as goal

pub returns-in-Err : goal.returns-in-Err
returns-in-Err c = (
  (mem_state c.crash-left.result).seen,
  subst (λ (m : MemDisk). (mem_state m).images (mem_state c.crash-left.result).seen) c.into_inner.ensures c.crash-left.ensures.image,
  λ i left. c.crash-left.ensures.settled.only i
      (subst (λ (m : MemDisk). (mem_state m).images i) c.new-disk.ensures.inner ((c.in-Err.ensures.only.crash tt).images i left)),
)
