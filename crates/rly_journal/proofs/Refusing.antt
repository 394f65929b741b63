-- An image that fails a check recovers to no state.
use Rattle.rly_journal.proofs.Common.{IsOfImage, IsRefused, List, OpenFault, Stands, State, ℕ}
use Rattle.rly_journal.specs.declared.open_fault.OpenFault.TheVariants.{NotADevice, BadGeometry, Damaged}
use Rattle.rly_journal.proofs.Refusals.{not_damaged}

pub refused_stands_for_none : (image : List ℕ) (fault : OpenFault) → IsRefused image fault → IsOfImage fault → (s : State (List ℕ)) → Stands image s → ⊥
refused_stands_for_none image NotADevice refused said s stands = refused stands.1.scanned.device
refused_stands_for_none image BadGeometry refused said s stands = refused.1 (rw stands.1.scanned.geometry at stands.1.scanned.fits)
refused_stands_for_none image (Damaged place) refused said s stands = not_damaged place stands.0 refused.2 stands.1
refused_stands_for_none image _ refused said s stands = said
