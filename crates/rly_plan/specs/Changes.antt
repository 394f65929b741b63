-- The next opening or closing of a hop's link.
use Rattle.std.specs.Prelude.{◌≡◌, ℕ, ◌<◌, ◌≤◌, ◌==◌, Bool, not, nat_lt, List, []}
use Rattle.std.specs.Prelude.{◌∷◌, Option, Some, None, if◌then◌else◌}
use Rattle.rly_plan.specs.declared.contacts.Contact.{Contact}

-- the end of an open time that lasts up to `end`: contacts that begin as the one before them ends are joined
abbrev pub closing_after : ℕ → List Contact → ℕ
closing_after end [] = end
closing_after end (c ∷ cs) = if c.begin == end then closing_after c.end cs else end

-- the first moment after this one at which a link opens or closes, by its contacts in order: None after the last
abbrev pub change_after : List Contact → ℕ → Option ℕ
change_after [] moment = None
change_after (c ∷ cs) moment =
    if nat_lt moment c.begin then Some c.begin
    else if nat_lt moment c.end then Some (closing_after c.end cs)
    else change_after cs moment

-- The property of a next change, for a link that is open at some moments: the link keeps its state up to the
-- change, and changes at that moment. Without a change it keeps its state for good.
abbrev pub IsNextChange : (ℕ → Bool) → ℕ → Option ℕ → Type 0
IsNextChange is_open moment None = (u : ℕ) → moment ≤ u → is_open u ≡ is_open moment
IsNextChange is_open moment (Some change) = (moment < change) × (is_open change ≡ not (is_open moment))
    × ((u : ℕ) → moment ≤ u → u < change → is_open u ≡ is_open moment)
