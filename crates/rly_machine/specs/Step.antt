-- The machine's step: the effect of each command on a state, and the room that it needs.
use Rattle.std.specs.Prelude.{ℕ, ◌≡◌, ◌+◌, ◌-◌, ◌<◌, ◌≤◌, ◌⊎◌, slice_index, None}
use Rattle.rly_core.specs.declared.ids.HopId.{HopId}
use Rattle.rly_machine.specs.declared.command.Command.{Command}
use Rattle.rly_machine.specs.declared.command.Command.TheVariants.{Take, Pick, Release}
use Rattle.rly_machine.specs.declared.reply.Reply.{Reply}
use Rattle.rly_machine.specs.State.{RoomState, State, Spool, hop_at}
use Rattle.rly_machine.specs.Expiry.{expired_count}
use Rattle.rly_machine.specs.Take.{take_refusal, take_step}
use Rattle.rly_machine.specs.Pick.{pick_outcome, pick_refusal, pick_step}
use Rattle.rly_machine.specs.Release.{release_step}

-- the state after a command, and the reply to it; len gives a payload's length
abbrev pub step : {P : Type 0} → (P → ℕ) → State P → Command P → State P × Reply
step len s (Take peer number hop stamp limit payload) = take_step len s peer number hop stamp limit payload
step len s (Pick hop now) = pick_step len s hop now
step len s (Release hop number) = release_step s hop number

-- the number of items that expire at a Pick that passes all checks, and the number that it drops after those
abbrev pub expires_of : {P : Type 0} → State P → HopId → ℕ → ℕ
expires_of s hop now = expired_count (hop_at s hop) now

abbrev pub drops_of : {P : Type 0} → (P → ℕ) → State P → HopId → ℕ → ℕ
drops_of len s hop now = (pick_outcome len s.params (hop_at s hop) now).dropped

-- the numbers of ids in the reply to a command: of the items that expire at a Pick, and of those that it drops
abbrev pub listed_count : {P : Type 0} → (P → ℕ) → State P → Command P → ℕ
listed_count len s (Take peer number hop stamp limit payload) = 0
listed_count len s (Pick hop now) = expires_of s hop now + drops_of len s hop now
listed_count len s (Release hop number) = 0

-- the room for a command, with which it allocates nothing: for a Take that passes all checks a spare place in its hop's
-- queue; for a Pick that passes all checks a spare place in its hop's flight, and in each list one for each id that the
-- reply has there
abbrev pub HasRoom : {P : Type 0} → (P → ℕ) → Spool P → RoomState → Command P → Type 0
HasRoom len spool room (Take peer number hop stamp limit payload) =
    take_refusal len spool.state peer number hop stamp limit (len payload) ≡ None
    → 0 < slice_index spool.queue_spare (hop.0 - 1)
HasRoom len spool room (Pick hop now) = pick_refusal spool.state hop now ≡ None
    → (0 < slice_index spool.flight_spare (hop.0 - 1)) × (expires_of spool.state hop now ≤ room.expired)
    × (drops_of len spool.state hop now ≤ room.dropped)
HasRoom len spool room (Release hop number) = Unit {0}

-- a command that allocates: a Take that passes all checks and whose hop's queue has no spare place; and a Pick that
-- passes all checks and whose hop's flight has no spare place, or whose reply lists ids of expired or dropped items
abbrev pub NeedsRoom : {P : Type 0} → (P → ℕ) → Spool P → Command P → Type 0
NeedsRoom len spool (Take peer number hop stamp limit payload) =
    (take_refusal len spool.state peer number hop stamp limit (len payload) ≡ None)
    × (slice_index spool.queue_spare (hop.0 - 1) ≡ 0)
NeedsRoom len spool (Pick hop now) = (pick_refusal spool.state hop now ≡ None)
    × ((slice_index spool.flight_spare (hop.0 - 1) ≡ 0) ⊎ (0 < listed_count len spool.state (Pick hop now)))
NeedsRoom len spool (Release hop number) = ⊥
