-- The link clock of a hop: the number of moments before now at which its link was open.
use Rattle.std.specs.Prelude.{ℕ, zero, suc, ◌+◌, Bool, nat_le, nat_lt, ◌&&◌, List, if◌then◌else◌}
use Rattle.std.specs.List.{list_any}
use Rattle.rly_plan.specs.declared.contacts.Contact.{Contact}

-- the moment lies in the contact; the end is excluded
abbrev pub lies_in : ℕ → Contact → Bool
lies_in moment c = nat_le c.begin moment && nat_lt moment c.end

-- the moment lies in a contact
abbrev pub lies_in_any : List Contact → ℕ → Bool
lies_in_any contacts moment = list_any (lies_in moment) contacts

-- the number of n's predecessors that pass the test
unfoldable pub count_below : (ℕ → Bool) → ℕ → ℕ
count_below test zero = 0
count_below test (suc n) = count_below test n + (if test n then 1 else 0)

-- the link clock: the number of moments before this one that lie in a contact
abbrev pub open_moments : List Contact → ℕ → ℕ
open_moments contacts moment = count_below (lies_in_any contacts) moment
