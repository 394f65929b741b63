use Rattle.std.proofs.Common.{◌∙◌}
use Rattle.rly_segment.proofs.HeadAddresses.{settled_stands}
use Rattle.rly_journal_index.proofs.Opened.{begun, begun_alike}
use Rattle.rly_journal_index.proofs.heads.law_begun.Goals as goal

pub returns-clause-index : goal.returns-clause-index
returns-clause-index g c = begun

pub returns-clause-kept : goal.returns-clause-kept
returns-clause-kept g c which geometry segment generation s t holds kept = record {
  alike = begun_alike which geometry segment s t kept.alike;
  bytes = λ honest. settled_stands which (g.D.Disk.state c.args.disk.now).seen geometry segment generation s (holds honest) ∙ kept.bytes honest;
}
