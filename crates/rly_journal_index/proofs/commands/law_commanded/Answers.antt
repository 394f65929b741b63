use Rattle.std.proofs.Common.{◌≤◌, arith, length}
use Rattle.rly_segment.specs.Device.{device_length}
use Rattle.rly_journal_index.proofs.Images.{recorded}
use Rattle.rly_journal_index.proofs.Stepping.{alike_after, commanded, same_reply}
use Rattle.rly_journal_index.proofs.commands.law_commanded.Goals as goal

pub returns-clause-index : goal.returns-clause-index
returns-clause-index g c = commanded

pub returns-clause-reply : goal.returns-clause-reply
returns-clause-reply g c = same_reply

pub returns-clause-alike : goal.returns-clause-alike
returns-clause-alike g c = alike_after

pub returns-clause-kept : goal.returns-clause-kept
returns-clause-kept g c geometry segment used next s t placed command layout index brought alike same kept = record {
  alike = alike_after s t placed command kept.alike alike;
  bytes = λ honest.
      let disk = g.D.Disk.state c.args.disk.now in
      let long : device_length geometry ≤ length disk.seen = omega (arith, layout.room, (g.met.D.Disk.consistent c.args.disk.now honest).seen_size) in
      recorded disk.seen geometry segment used next s t placed command long index brought (same honest) (kept.bytes honest);
}
