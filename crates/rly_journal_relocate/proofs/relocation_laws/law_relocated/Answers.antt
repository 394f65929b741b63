use Rattle.rly_journal_relocate.proofs.Moves.{moved_free, moved_inline, moved_others, moved_sound, moved_target, moved_there, moved_victim}
use Rattle.rly_journal_relocate.proofs.relocation_laws.law_relocated.Goals as goal

pub returns-clause-sound : goal.returns-clause-sound
returns-clause-sound c = moved_sound

pub returns-clause-inline : goal.returns-clause-inline
returns-clause-inline c = moved_inline

pub returns-clause-there : goal.returns-clause-there
returns-clause-there c = moved_there

pub returns-clause-target : goal.returns-clause-target
returns-clause-target c = moved_target

pub returns-clause-victim : goal.returns-clause-victim
returns-clause-victim c = moved_victim

pub returns-clause-others : goal.returns-clause-others
returns-clause-others c g target victim s segment may other apart = moved_others g target victim s may segment other apart

pub returns-clause-free : goal.returns-clause-free
returns-clause-free c = moved_free
