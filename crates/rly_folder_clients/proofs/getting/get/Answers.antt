use Rattle.std.proofs.Common.{refl}
use Rattle.rly_folder_clients.specs.Getting.{AtList}
use Rattle.rly_folder_clients.proofs.GettingLists.{get_stops, opened_honest}
use Rattle.rly_folder_clients.proofs.getting.get.Goals as goal

pub returns-in_default-list-clause-stops : goal.returns-in_default-list-clause-stops
returns-in_default-list-clause-stops g c = AtList refl refl c.in-Ok.last _ c.in-Ok.ensures.ok c.in_default-list.ensures.trace

pub returns-clause-stops : goal.returns-clause-stops
returns-clause-stops g c = get_stops g.F.Folder.state c.args.form c.in-Ok.last c.deref.result.now _ _ _ _ _
    (record {
      opened = _;
      opens = c.in-Ok.ensures.ok;
      lists = c.in-Ok-list.ensures.trace;
      listing = λ honest. rw c.deref.ensures.value (c.in-Ok-list.ensures.names (opened_honest g.F.Folder.state c.in-Ok.last c.in-Ok.ensures.ok honest));
    })
    c.print_each.result c.print_each.ensures.err
