-- Expiry: the items that have passed their limit at a Pick. Only the front of the queue is checked, once, before CoDel
-- sees it.
use Rattle.std.specs.Prelude.{ℕ, ◌+◌, ◌-◌, nat_lt, ◌&&◌, max, Bool, drop}
use Rattle.std.specs.List.{prefix_len}
use Rattle.rly_machine.specs.declared.hop.Item.{Item}
use Rattle.rly_machine.specs.State.{HopState}

-- expired at a time: the item has a limit, and has waited for longer
abbrev pub is_expired : {P : Type 0} → ℕ → Item P → Bool
is_expired now item = nat_lt 0 item.limit && nat_lt item.limit (now - item.stamp)

-- the number of items that expire at a pick: the longest prefix of the queue whose items have all expired at the pick's
-- time, or at the hop's last time if that is later
abbrev pub expired_count : {P : Type 0} → HopState P → ℕ → ℕ
expired_count h now = prefix_len (is_expired (max now h.moment)) h.queue

-- a hop whose first waiting items expired
abbrev pub with_expired : {P : Type 0} → HopState P → ℕ → HopState P
with_expired h count = record h { queue = drop count h.queue; expired = h.expired + count }

-- a hop without the items that expire at a pick
abbrev pub after_expiry : {P : Type 0} → HopState P → ℕ → HopState P
after_expiry h now = with_expired h (expired_count h now)
