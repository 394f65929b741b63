use Rattle.std.specs.Prelude.{ℕ, Err, List, Ok, OnOk, Option, Result}
use Rattle.rly_daemon_serve.proofs.served_relay.report_start.Goals as goal

-- what was there before
from_before : {A E : Type 0} (X : Option (List ℕ) → Type 0) (before : Option (List ℕ)) (r : Result A E) → OnOk r (X before) → OnOk r ((old : Option (List ℕ)) × X old)
from_before X before (Ok a) x = (before, x)
from_before X before (Err e) x = tt

pub returns : goal.returns
returns g c = record { codel = from_before _ (g.E.Write.contents c.report_open.new.errors) c.report_codel.result c.report_codel.ensures }
