use Rattle.rly_reclaim.proofs.Emptying.{may_open, none_lies}
use Rattle.rly_reclaim.proofs.live_laws.law_none_lies.Goals as goal

pub returns-clause-lies : goal.returns-clause-lies
returns-clause-lies c which g segment s storable none = none_lies which g segment s storable none

pub returns-clause-opens : goal.returns-clause-opens
returns-clause-opens c g current segment s below other none = may_open g current segment s below other none
