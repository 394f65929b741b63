use Rattle.rly_journal_fetch.proofs.Unread.{unread_tried}
use Rattle.rly_journal_fetch.proofs.payloads.read_payload.Goals as goal

pub returns-in_default-clause-trace : goal.returns-in_default-clause-trace
returns-in_default-clause-trace g c = λ limit. unread_tried g.D.Disk.state c.args.disk.now c.args.place c.in_default.not-Some
