use Rattle.std.proofs.Common.{ℕ, ◌≡◌, ◌<◌, true, get_or}
use Rattle.rly_machine.specs.Expiry.{is_expired}
use Rattle.rly_machine.specs.declared.hop.Item.{Item}
use Rattle.rly_machine.proofs.hop.Hop.expired_count.Given as goal

-- the items so far have expired
abbrev pub invariant-loop-index : goal.invariant-loop-index
invariant-loop-index g l = (k : ℕ) (d : Item g.row.C.Denot) → k < l.index → is_expired l.moment (get_or l.self.queue.items k d) ≡ true
