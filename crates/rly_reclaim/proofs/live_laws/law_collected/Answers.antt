use Rattle.rly_reclaim.proofs.Collection.{drawn_empty, drawn_inline, drawn_other, drawn_sound, drawn_stands}
use Rattle.rly_reclaim.proofs.live_laws.law_collected.Goals as goal

pub returns-clause-bytes : goal.returns-clause-bytes
returns-clause-bytes c g victim read s long = drawn_inline g victim read s long

pub returns-clause-emptied : goal.returns-clause-emptied
returns-clause-emptied c g victim read s = drawn_empty g victim read s

pub returns-clause-others : goal.returns-clause-others
returns-clause-others c g victim read s segment differs = drawn_other g victim read s segment differs

pub returns-clause-sound : goal.returns-clause-sound
returns-clause-sound c g victim read s long sound = drawn_sound g victim read s long sound

pub returns-clause-same : goal.returns-clause-same
returns-clause-same c g victim image s = drawn_stands g victim image s
