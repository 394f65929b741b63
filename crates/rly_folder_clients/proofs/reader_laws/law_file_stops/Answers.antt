use Rattle.rly_folder_clients.proofs.ReaderLaws.{file_stops}
use Rattle.rly_folder_clients.proofs.reader_laws.law_file_stops.Goals as goal

pub returns : goal.returns
returns g c waits given last number why printed spares stops kept holds =
    file_stops g.F.Folder.state (g.met.F.Folder.consistent) waits given spares last number why printed stops kept holds
