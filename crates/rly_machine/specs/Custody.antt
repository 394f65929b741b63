-- The effect of a list of commands on one hop, computed from their replies.
use Rattle.std.specs.Prelude.{ℕ, ◌≡◌, ◌==◌, ◌+◌, ◌<◌, ◌≤◌, if◌then◌else◌}
use Rattle.std.specs.Prelude.{List, [], ◌∷◌, ◌++◌, length, drop, map, slice_index, count_by}
use Rattle.rly_core.specs.declared.ids.HopId.{HopId}
use Rattle.rly_machine.specs.declared.command.Command.{Command}
use Rattle.rly_machine.specs.declared.command.Command.TheVariants.{Take, Pick}
use Rattle.rly_machine.specs.declared.hop.Item.{Item}
use Rattle.rly_machine.specs.declared.reply.Reply.{Reply}
use Rattle.rly_machine.specs.declared.reply.Reply.TheVariants.{Taken, Picked, Nothing}
use Rattle.rly_machine.specs.State.{State, HopState}
use Rattle.rly_machine.specs.Step.{step}

-- the account of a hop from replies: the ids that were taken for it, dropped from its queue, expired there, and sent
-- into flight with their custody numbers
pub record HopAccount : Type 0 where
  pub taken : List ℕ
  pub dropped : List ℕ
  pub expired : List ℕ
  pub sent : List ℕ
  pub numbers : List ℕ

-- the empty account
abbrev pub empty_account : HopAccount
empty_account = record { taken = []; dropped = []; expired = []; sent = []; numbers = [] }

-- the account of one reply for a hop
abbrev pub account_of : {P : Type 0} → HopId → Command P → Reply → HopAccount
account_of hop (Take peer number to stamp limit payload) (Taken id) =
    if to.0 == hop.0
    then record { taken = id ∷ []; dropped = []; expired = []; sent = []; numbers = [] }
    else empty_account
account_of hop (Pick to now) (Picked number id expired dropped) =
    if to.0 == hop.0
    then record { taken = []; dropped = dropped; expired = expired; sent = id ∷ []; numbers = number ∷ [] }
    else empty_account
account_of hop (Pick to now) (Nothing expired) =
    if to.0 == hop.0
    then record { taken = []; dropped = []; expired = expired; sent = []; numbers = [] }
    else empty_account
account_of hop _ _ = empty_account

-- the sum of an account and the next
abbrev pub and_then : HopAccount → HopAccount → HopAccount
and_then a b = record {
  taken = a.taken ++ b.taken;
  dropped = a.dropped ++ b.dropped;
  expired = a.expired ++ b.expired;
  sent = a.sent ++ b.sent;
  numbers = a.numbers ++ b.numbers;
}

-- the account of all replies to a list of commands
abbrev pub account_along : {P : Type 0} → (P → ℕ) → HopId → State P → List (Command P) → HopAccount
account_along len hop s [] = empty_account
account_along len hop s (command ∷ commands) =
    and_then (account_of hop command (step len s command).1) (account_along len hop (step len s command).0 commands)

-- the ids of items, in order
abbrev pub ids_of : {P : Type 0} → List (Item P) → List ℕ
ids_of items = map (λ item. item.id) items

-- the number of occurrences of an id in a list
abbrev pub times : ℕ → List ℕ → ℕ
times id ids = count_by (λ other. other == id) ids

-- the items of a hop from a new spool on: its current state agrees with the account of the replies
pub record KeepsCustody {P : Type 0} (h : HopState P) (account : HopAccount) : Type 0 where
  -- no id is taken twice
  pub once : (id : ℕ) → times id account.taken ≤ 1
  -- each id that was taken waits, was dropped, expired, or went into flight
  pub placed : (id : ℕ)
      → times id account.taken
      ≡ times id account.dropped + times id account.expired + times id account.sent + times id (ids_of h.queue)
  -- those in flight are those that went into flight, less those that were released
  pub flight : ids_of h.flight ≡ drop h.released account.sent
  pub released : h.released ≤ length account.sent
  -- the custody numbers of those that went into flight are 1, 2, 3, ..
  pub count : length account.numbers ≡ length account.sent
  pub numbered : (k : ℕ) → k < length account.numbers → slice_index account.numbers k ≡ k + 1
