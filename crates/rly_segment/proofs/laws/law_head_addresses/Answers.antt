use Rattle.rly_segment.proofs.HeadAddresses.{settled_inline, settled_sound, settled_stands}
use Rattle.rly_segment.proofs.laws.law_head_addresses.Goals as goal

pub returns : goal.returns
returns c = record { same = settled_stands; sound = settled_sound; inline = settled_inline }
