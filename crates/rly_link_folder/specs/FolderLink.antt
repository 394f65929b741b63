-- A link whose far end is a folder: what a receive makes of the neighbour and of the bell.
use Rattle.std.specs.Prelude.{◌≡◌, ◌⊎◌, ◌≤◌, ◌<◌, ◌-◌, ◌^◌, ◌&&◌, ℕ, Bool, true, false, nat_le, List, [], ◌∷◌, Option, None, Some}
use Rattle.rly_link.specs.LinkHistory.{Hearing, TellsMore, new_hearing}
use Rattle.rly_link.specs.declared.link.Sleep.{Sleep}
use Rattle.rly_link.specs.declared.link.Sleep.TheVariants.{No, Until, Woken}

-- the neighbour after a receive of the bell that didn't fail: woken by a packet, or left alone, or silent for a while
abbrev pub IsAfter : {N : Type 0} → (N → N → Type 0) → (N → N → Type 0) → Option (List ℕ) → Sleep → N → N → Type 0
IsAfter wakes tries_again (Some packet) sleep old new = wakes old new
IsAfter wakes tries_again None No old new = new ≡ old
IsAfter wakes tries_again None (Until moment) old new = tries_again old new
IsAfter wakes tries_again None Woken old new = tries_again old new

-- The wait at the bell. If the neighbour has something to try again it has an end: the last moment of a clock, before which a
-- bell ends such a wait by itself.
abbrev pub bell_sleep : Bool → Sleep → Sleep
bell_sleep true No = No
bell_sleep true (Until moment) = Until moment
bell_sleep true Woken = Until (2 ^ 64 - 1)
bell_sleep false sleep = sleep

-- the bell was asked once
pub record Rests {N L : Type 0} (heard : L → Option (List Hearing)) (pending : N → Bool) (wakes tries_again : N → N → Type 0)
    (sleep : Sleep) (old_bell new_bell : L) (old new : N) : Type 0 where
  pub rung : Option (List ℕ)
  pub asked : TellsMore (heard old_bell) (heard new_bell) (new_hearing (bell_sleep (pending old) sleep) rung ∷ [])
  pub after : IsAfter wakes tries_again rung sleep old new

-- the neighbour has no packet, or a message of any length wouldn't fit into a buffer of this many bytes
abbrev pub FindsNothing : {N : Type 0} → (Option (List ℕ) → N → N → Type 0) → ℕ → N → N → Type 0
FindsNothing gives room old new = ((room < 8215) × (new ≡ old)) ⊎ ((8215 ≤ room) × gives None old new)

-- then the bell is asked, unless there may be a packet at once
abbrev pub RestsUnless : Bool → {N L : Type 0} → (L → Option (List Hearing)) → (N → Bool) → (N → N → Type 0) → (N → N → Type 0)
    → Sleep → L → L → N → N → Type 0
RestsUnless true heard pending wakes tries_again sleep old_bell new_bell old new = (new_bell ≡ old_bell) × (new ≡ old)
RestsUnless false heard pending wakes tries_again sleep old_bell new_bell old new =
    Rests heard pending wakes tries_again sleep old_bell new_bell old new

pub record FindsNone {N L : Type 0} (heard : L → Option (List Hearing)) (gives : Option (List ℕ) → N → N → Type 0)
    (more pending : N → Bool) (wakes tries_again : N → N → Type 0) (sleep : Sleep) (room : ℕ) (old_bell new_bell : L)
    (old new : N) : Type 0 where
  pub asked : N
  pub nothing : FindsNothing gives room old asked
  pub rests : RestsUnless (nat_le 8215 room && more asked) heard pending wakes tries_again sleep old_bell new_bell asked new
