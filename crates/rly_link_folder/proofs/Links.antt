-- A receive into a buffer that is shorter than a message.
use Rattle.std.proofs.Common.{◌≡◌, ◌<◌, arith, inl, refl, ℕ, Bool, false, List, Option}
use Rattle.std.proofs.lemmas.Bool.Decides.{nat_tests}
use Rattle.std.specs.Prelude.{nat_le}
use Rattle.rly_link.specs.LinkHistory.{Hearing}
use Rattle.rly_link.specs.declared.link.Sleep.{Sleep}
use Rattle.rly_link_folder.specs.FolderLink.{FindsNone, Rests}

pub too_short : {N L : Type 0} (heard : L → Option (List Hearing)) (gives : Option (List ℕ) → N → N → Type 0) (more pending : N → Bool)
    (wakes tries_again : N → N → Type 0) (sleep : Sleep) (room : ℕ) (old_bell new_bell : L) (old new : N) → room < 8215
    → Rests heard pending wakes tries_again sleep old_bell new_bell old new
    → FindsNone heard gives more pending wakes tries_again sleep room old_bell new_bell old new
too_short heard gives more pending wakes tries_again sleep room old_bell new_bell old new less rests =
    let test : nat_le 8215 room ≡ false = grind (arith, nat_tests, less) in
    record { asked = old; nothing = inl (less, refl); rests = rw test rests }
