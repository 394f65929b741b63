use Rattle.rly_folder_clients.proofs.ReaderLaws.{file_printed}
use Rattle.rly_folder_clients.proofs.reader_laws.law_file_is_printed.Goals as goal

pub returns : goal.returns
returns g c waits given last number printed spares handles kept holds =
    file_printed g.F.Folder.state (g.met.F.Folder.consistent) waits given spares last number printed handles kept holds
