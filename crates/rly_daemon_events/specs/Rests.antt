-- What a link's receive says of its sender.
use Rattle.std.specs.Prelude.{Bool, true, false, Option, Some, None}
use Rattle.rly_link.specs.declared.link.Sleep.{Sleep}
use Rattle.rly_link.specs.declared.link.Sleep.TheVariants as sleep

-- A sender that sleeps until it is woken rests; one that sleeps until a moment doesn't. A receive that doesn't wait
-- says nothing.
abbrev pub rest_at : Sleep → Option Bool
rest_at sleep.No = None
rest_at (sleep.Until moment) = Some false
rest_at sleep.Woken = Some true
