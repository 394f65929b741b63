use Rattle.rly_daemon_reporter.proofs.Dues.{begins_whole}
use Rattle.rly_daemon_reporter.proofs.reporter.write_report.Goals as goal

-- all was written, and the flush failed
pub returns-in-Err-flush-clause-written : goal.returns-in-Err-flush-clause-written
returns-in-Err-flush-clause-written g c = begins_whole _ _ _ _ c.in-Ok.ensures.whole c.flush.ensures.bytes
