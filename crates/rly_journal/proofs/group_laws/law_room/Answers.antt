use Rattle.std.proofs.Common.{arith, refl}
use Rattle.rly_journal.proofs.group_laws.law_room.Goals as goal

pub returns-clause-room : goal.returns-clause-room
returns-clause-room c payload = omega arith

pub returns-clause-worked : goal.returns-clause-worked
returns-clause-worked c = (refl, refl)
