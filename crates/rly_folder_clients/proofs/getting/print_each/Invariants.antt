use Rattle.rly_folder_clients.proofs.GettingLists.{Handled}
use Rattle.rly_folder_clients.proofs.getting.print_each.Given as goal

abbrev pub invariant-loop-number : goal.invariant-loop-number
invariant-loop-number g l = Handled g.F.Folder.state l.form l.first l.numbers l.most l.number-index l.last l.count
    (g.W.Write.contents l.initial.out) (g.W.Write.contents l.out) l.initial.folder l.folder
