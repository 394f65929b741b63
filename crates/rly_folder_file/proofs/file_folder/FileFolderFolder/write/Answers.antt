use Rattle.std.proofs.Common.{rules}
use Rattle.rly_folder.proofs.Events.{not_counted}
use Rattle.rly_folder.specs.FolderCalls.{WriteHidden}
use Rattle.rly_folder_file.specs.FileFolder.{file_state}
use Rattle.rly_folder_file.proofs.FileCalls.{made_if}
use Rattle.rly_folder_file.proofs.file_folder.FileFolderFolder.write.Goals as goal

pub returns-then-is_spent-clause-trace : goal.returns-then-is_spent-clause-trace
returns-then-is_spent-clause-trace g c = not_counted file_state (WriteHidden _) (c.is_spent.ensures.0 c.if-is_spent.true)

pub returns-clause-trace : goal.returns-clause-trace
returns-clause-trace g c = made_if _ _ (WriteHidden _) (search rules) (search rules) _ (search rules)
