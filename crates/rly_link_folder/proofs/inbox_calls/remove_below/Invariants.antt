use Rattle.std.proofs.Common.{take, true}
use Rattle.rly_link_folder.specs.InboxCalls.{Removes}
use Rattle.rly_link_folder.proofs.inbox_calls.remove_below.Given as goal

abbrev pub invariant-loop-number : goal.invariant-loop-number
invariant-loop-number g l = Removes g.F.Folder.state l.custody (take l.number-index l.numbers) true l.initial.folder l.folder
