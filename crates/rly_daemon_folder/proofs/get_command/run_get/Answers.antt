use Rattle.rly_daemon_folder.proofs.get_command.run_get.Goals as goal

pub returns-in-Ok-clause-printed : goal.returns-in-Ok-clause-printed
returns-in-Ok-clause-printed g c = record {
  opened = c.in_ok-folder.folder;
  left = c.get_files-got.new.folder;
  path_is = c.in_ok-folder.ensures.path;
  looked = rw c.unwrap_or-most.ensures at c.in-Ok.ensures.ok;
}
