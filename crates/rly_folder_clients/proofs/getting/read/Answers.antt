use Rattle.std.proofs.Common.{rules, sym}
use Rattle.rly_folder_clients.proofs.GettingLists.{long_file, whole_file}
use Rattle.rly_folder_clients.proofs.getting.read.Goals as goal

pub returns-in-Ok-clause-err : goal.returns-in-Ok-clause-err
returns-in-Ok-clause-err g c = (c.in-Ok.ensures.trace, λ honest. long_file _ _ (c.in-Ok.ensures.file honest) (search rules))

pub returns-in-Ok-2-clause-ok : goal.returns-in-Ok-2-clause-ok
returns-in-Ok-2-clause-ok g c =
    record { makes = c.in-Ok.ensures.trace; file = λ honest. sym (whole_file _ _ (c.in-Ok.ensures.file honest) (search rules)) }
