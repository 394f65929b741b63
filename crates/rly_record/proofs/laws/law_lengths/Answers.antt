use Rattle.std.proofs.Common.{refl}
use Rattle.rly_record.proofs.Bodies.{body_length-all, body_length-within, has_short, length-body_of, record_length-short}
use Rattle.rly_record.proofs.Records.{length-record_of}
use Rattle.rly_record.proofs.laws.law_lengths.Goals as goal

pub returns-clause-record : goal.returns-clause-record
returns-clause-record c command = length-record_of command

pub returns-clause-body : goal.returns-clause-body
returns-clause-body c commands = length-body_of commands

pub returns-clause-longest_record : goal.returns-clause-longest_record
returns-clause-longest_record c most command short = record_length-short most command short

pub returns-clause-longest_body : goal.returns-clause-longest_body
returns-clause-longest_body c most commands few short = body_length-within most commands short few

pub returns-clause-reached : goal.returns-clause-reached
returns-clause-reached c most commands count each = body_length-all most commands count each

pub returns-clause-short : goal.returns-clause-short
returns-clause-short c command has = has_short command has

pub returns-clause-worked : goal.returns-clause-worked
returns-clause-worked c = (refl, refl)
