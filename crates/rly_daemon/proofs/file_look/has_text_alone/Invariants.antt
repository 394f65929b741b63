use Rattle.std.proofs.Common.{◌≡◌, take}
use Rattle.std.specs.List.{list_all}
use Rattle.rly_daemon.specs.FileLook.{is_text}
use Rattle.rly_daemon.proofs.file_look.has_text_alone.Given as goal

abbrev pub invariant-loop-byte : goal.invariant-loop-byte
invariant-loop-byte l = l.alone ≡ list_all is_text (take l.byte-index l.front)
