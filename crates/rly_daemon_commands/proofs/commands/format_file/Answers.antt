use Rattle.std.proofs.Common.{ap}
use Rattle.rly_daemon_commands.specs.declared.file_disk.FileDisk.{FileDisk}
use Rattle.rly_daemon_commands.proofs.commands.format_file.Goals as goal

pub returns-in-Ok-clause-made : goal.returns-in-Ok-clause-made
returns-in-Ok-clause-made g c = record {
  within = c.requires;
  opened = c.in_ok-disk.disk;
  before = c.in_ok-disk-2.disk;
  looked = c.in_ok-disk-2.ensures.looked;
  ready = c.make_room.new.disk;
  same_calls = ap (λ (disk : FileDisk). disk.counts.calls) c.in_ok-make_room.ensures.same;
  long = rw (← c.device_size-size.ensures) c.in_ok-make_room.ensures.size;
  made = c.format.new.disk;
  closed = c.in-Ok.ensures.trace.0;
  makes = c.in-Ok.ensures.trace.2;
}
