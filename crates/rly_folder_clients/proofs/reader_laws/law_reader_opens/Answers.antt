use Rattle.rly_folder_clients.proofs.ReaderLaws.{reader_opens}
use Rattle.rly_folder_clients.proofs.reader_laws.law_reader_opens.Goals as goal

pub returns : goal.returns
returns g c waits given low high last spares opens kept holds =
    reader_opens g.F.Folder.state (g.met.F.Folder.consistent) waits given spares low high last opens kept holds
