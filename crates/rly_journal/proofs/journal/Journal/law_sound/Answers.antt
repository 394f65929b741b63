use Rattle.rly_journal.proofs.Common.{length, sound_alike, stored_length}
use Rattle.rly_journal.proofs.journal.Journal.law_sound.Goals as goal

pub returns : goal.returns
returns g c = rw (← c.self.view_is) (sound_alike stored_length length c.self.inside.index.spool.state _ c.self.invariant.0.alike c.law_index.ensures.sound)
