use Rattle.rly_journal_index.proofs.Fetched.{found_alike, found_bytes, refused_alike, show_alike, window_alike}
use Rattle.rly_journal_index.proofs.fetches.law_fetched.Goals as goal

pub returns-clause-found : goal.returns-clause-found
returns-clause-found g c = found_alike

pub returns-clause-bytes : goal.returns-clause-bytes
returns-clause-bytes g c s t hop number item honest kept is = found_bytes (g.D.Disk.state c.args.disk.now).seen s t hop number item (kept.bytes honest) is

pub returns-clause-refused : goal.returns-clause-refused
returns-clause-refused g c = refused_alike

pub returns-clause-window : goal.returns-clause-window
returns-clause-window g c = window_alike

pub returns-clause-show : goal.returns-clause-show
returns-clause-show g c = show_alike
