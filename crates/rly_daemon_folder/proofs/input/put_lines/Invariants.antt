use Rattle.std.proofs.Common.{◌-◌, ◌^◌}
use Rattle.std.specs.Io.KnownBytes.{prepend_known}
use Rattle.rly_daemon_folder.proofs.Inputs.{HasPutLines}
use Rattle.rly_daemon_folder.proofs.input.put_lines.Given as goal

abbrev pub invariant-lines : goal.invariant-lines
invariant-lines g l = HasPutLines g.F.Folder.state l.limit l.destination (g.R.Read.remaining l.initial.reader)
    (prepend_known l.lines.ahead (g.R.Read.remaining l.reader)) l.initial.folder l.folder

abbrev pub decreases-lines : goal.decreases-lines
decreases-lines g l = 2 ^ 64 - l.lines.taken
