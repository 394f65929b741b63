use Rattle.rly_daemon_folder.proofs.put_command.run_put.Goals as goal

pub returns-in-Ok : goal.returns-in-Ok
returns-in-Ok g c = record {
  put = record {
    opened = c.in_ok-folder.folder;
    left = c.put_input-put.new.folder;
    path_is = c.in_ok-folder.ensures.path;
    puts = c.in_default.ensures.puts;
  };
}
