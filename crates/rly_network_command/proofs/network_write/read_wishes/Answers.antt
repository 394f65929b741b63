use Rattle.std.proofs.Common.{string_bytes}
use Rattle.rly_network_command.proofs.network_write.read_wishes.Goals as goal

pub returns-clause-wished : goal.returns-clause-wished
returns-clause-wished g c =
    let read = c.in_ok-path.ensures.read in (
      read.0,
      record {
        path = string_bytes c.in_ok-path.path;
        ids_text = string_bytes c.in_ok-path.text;
        read = read.1;
        kept = rw c.as_str.ensures.value at c.in_ok-wanted_ids.ensures;
        each = rw c.deref.ensures.value at c.in_ok-wanted.ensures;
      },
      read.2,
    )
