-- The result of a fetch, and its device calls (docs/reference/DEFINITIONS.md, "Showing").
use Rattle.std.specs.Prelude.{◌≡◌, ℕ, List, [], ◌∷◌, length, Option, Result, Ok, Err}
use Rattle.rly_core.specs.declared.refusal.Refusal.{Refusal}
use Rattle.rly_core.specs.declared.refusal.Refusal.TheVariants.{DeviceRead, OutOfMemory}
use Rattle.rly_disk.specs.DiskModel.{DiskState}
use Rattle.rly_machine.specs.declared.reply.Reply.{Reply}
use Rattle.rly_machine.specs.declared.reply.Reply.TheVariants.{Bytes, Refused}
use Rattle.rly_segment_checkpoint.specs.Stored.{stored_length}
use Rattle.rly_segment_checkpoint.specs.declared.stored.DeviceAddress.{DeviceAddress}
use Rattle.rly_journal_fetch.specs.FetchReads.{stored_at_address, row_for}
use Rattle.rly_disk.specs.Trials.{Try}

-- as many bytes as the machine's reply has, on an honest disk the same bytes
abbrev pub IsFetchedAs : DiskState → Reply → List ℕ → Type 0
IsFetchedAs disk (Bytes payload limit) bytes = (length bytes ≡ length payload) × (disk.honest → bytes ≡ payload)
IsFetchedAs disk _ bytes = ⊥

-- the refusals for a payload that has bytes: its read failed, or memory allocation did
abbrev pub IsLostRead : Refusal → Type 0
IsLostRead DeviceRead = Unit {0}
IsLostRead OutOfMemory = Unit {0}
IsLostRead _ = ⊥

-- the result of a fetch, as a reply
abbrev pub reply_to_fetch : {A : Type 0} → Result A Refusal → Reply
reply_to_fetch (Ok found) = Bytes [] 0
reply_to_fetch (Err refusal) = Refused refusal

-- the calls of a fetch by the machine's reply: for a payload with bytes one read of that length, which failed if the
-- result is 13, and wasn't made if it is 14; else none
abbrev pub AreFetching : Reply → Reply → List Try → Type 0
AreFetching (Bytes payload limit) told rows =
    (at : Option DeviceAddress) × (stored_length (stored_at_address at) ≡ length payload)
    × (rows ≡ row_for at told ∷ [])
AreFetching _ told rows = rows ≡ []
