-- The state with bytes that a journal shows in contracts; its payloads stay on the device (docs/reference/DEFINITIONS.md,
-- "Showing").
use Rattle.std.specs.Prelude.{ℕ, List, ◌++◌, length, replicate, take}
use Rattle.rly_machine.specs.Fold.{fold}
use Rattle.rly_machine.specs.Map.{map_state}
use Rattle.rly_machine.specs.State.{State}
use Rattle.rly_segment_checkpoint.specs.Stored.{payload_in, stored_length}
use Rattle.rly_segment_checkpoint.specs.declared.stored.Stored.{Stored}
use Rattle.rly_journal.specs.GroupAddresses.{Commands}

-- the payload that an image has at a device address, cut or padded to the address's length, so it has that length even
-- if the image is shorter
abbrev pub shown_in : List ℕ → Stored → List ℕ
shown_in image p = take (stored_length p) (payload_in image p ++ replicate (stored_length p) 0)

-- the recovered state of a spool of device addresses over an image, followed by the commands accepted since
abbrev pub shown_state : List ℕ → State Stored → Commands → State (List ℕ)
shown_state image s commands = fold length (map_state (shown_in image) s) commands
