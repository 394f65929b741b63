use Rattle.rly_folder_clients.proofs.ReaderRuns.{files_printed}
use Rattle.rly_folder_clients.proofs.reader_laws.law_files_are_printed.Goals as goal

pub returns : goal.returns
returns g c waits given low high first last done numbers printed spares begins others each kept holds =
    files_printed g.F.Folder.state (g.met.F.Folder.consistent) waits given spares low high first last done numbers printed begins others each kept holds
