-- Helpers of private functions: how the contacts of a hop are stored and searched. Each contact is stored with the
-- open time before it.
use Rattle.std.specs.Prelude.{◌≡◌, ℕ, ◌+◌, ◌-◌, ◌<◌, ◌≤◌, List, [], ◌∷◌, map}
use Rattle.std.specs.Prelude.{Option, Some, None, nat_lt, if◌then◌else◌}
use Rattle.rly_core.specs.declared.limits.TheConstants.{MOMENT_LIMIT}
use Rattle.rly_plan.specs.declared.contacts.Contact.{Contact}
use Rattle.rly_plan.specs.declared.contacts.Summed.{Summed}

-- the end of the last contact: 0 if there is none
abbrev pub last_end : List Contact → ℕ
last_end [] = 0
last_end (c ∷ []) = c.end
last_end (c ∷ d ∷ cs) = last_end (d ∷ cs)

-- the contacts alone
abbrev pub contacts_in : List Summed → List Contact
contacts_in = map (λ e. e.contact)

-- After contacts that ended by `front`, with `sum` of open time: each contact lasts, begins when the one before it
-- has ended, and is stored with the open time before it.
abbrev pub AreSummed : ℕ → ℕ → List Summed → Type 0
AreSummed front sum [] = Unit {0}
AreSummed front sum (e ∷ es) =
    (front ≤ e.contact.begin) × (e.contact.begin < e.contact.end) × (e.contact.end < MOMENT_LIMIT) × (e.before ≡ sum)
    × AreSummed e.contact.end (sum + (e.contact.end - e.contact.begin)) es

-- the open time in the contacts and before them, and when the last of them ends
abbrev pub sum_after : ℕ → List Summed → ℕ
sum_after sum [] = sum
sum_after sum (e ∷ es) = sum_after (sum + (e.contact.end - e.contact.begin)) es

abbrev pub end_after : ℕ → List Summed → ℕ
end_after front [] = front
end_after front (e ∷ es) = end_after e.contact.end es

-- the entries are in order with their sums, and the total is the open time in all of them
pub record AreTotalled (es : List Summed) (total : ℕ) : Type 0 where
  pub summed : AreSummed 0 0 es
  pub total_is : total ≡ sum_after 0 es

-- the later of two, if there is one
abbrev pub or_later : Summed → Option Summed → Option Summed
or_later e None = Some e
or_later e (Some later) = Some later

-- the last entry whose contact has begun by the moment
abbrev pub latest : List Summed → ℕ → Option Summed
latest [] moment = None
latest (e ∷ es) moment = if nat_lt moment e.contact.begin then None else or_later e (latest es moment)

-- the property of an entry that has begun by the moment
pub record HasBegun (moment : ℕ) (e : Summed) : Type 0 where
  pub begun : e.contact.begin ≤ moment
  pub lasts : e.contact.begin < e.contact.end
  pub bounded : e.contact.end < MOMENT_LIMIT
  pub no_longer : e.before ≤ e.contact.begin
