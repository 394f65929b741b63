-- Helpers of private functions: pending reply text, between the text of a command (Text, Playing) and its writer.
use Rattle.std.specs.Prelude.{◌≡◌, ℕ, ◌<◌, ◌≤◌, ◌^◌, List, [], ◌∷◌, ◌++◌, length, Option}
use Rattle.std.specs.Io.KnownBytes.{Appends}
use Rattle.rly_core.specs.Limits.{IsWithinLimits}
use Rattle.rly_core.specs.declared.params.Params.{Params}
use Rattle.rly_machine.specs.declared.reply.Reply.TheVariants.{Bytes}
use Rattle.rly_daemon_reply.specs.Replies.{reply_text}
use Rattle.rly_daemon_reply.specs.declared.reply_line.Subject.{Subject}

-- the bytes of a writer, if they are known, and the pending reply text
pub record Outflow : Type 0 where
  pub written : Option (List ℕ)
  pub held : List ℕ

abbrev pub outflow_of : Option (List ℕ) → List ℕ → Outflow
outflow_of written held = record { written = written; held = held }

-- a text was added: a prefix of the pending text and this text is written, and the rest is pending
abbrev pub Adds : Outflow → Outflow → List ℕ → Type 0
Adds old new text = (moved : List ℕ) × Appends old.written new.written moved × (old.held ++ text ≡ moved ++ new.held)

-- a prefix of it was
abbrev pub AddsBeginning : Outflow → Outflow → List ℕ → Type 0
AddsBeginning old new text = (moved rest : List ℕ) × Appends old.written new.written moved
    × (old.held ++ text ≡ moved ++ (new.held ++ rest))

-- a prefix of a pending text is left
abbrev pub LeavesBeginning : List ℕ → List ℕ → Type 0
LeavesBeginning old new = (rest : List ℕ) × (old ≡ new ++ rest)

-- in this many bytes there is room for text that isn't written yet and for the line of a reply with a payload, which is
-- no longer than that of a spool within its limits
abbrev pub HasRoomForPayload : ℕ → Type 0
HasRoomForPayload room = (params : Params) (held : List ℕ) (subject : Subject) (payload : List ℕ) (limit : ℕ)
    → IsWithinLimits params → length held < 65536 → length payload ≤ params.payload
    → subject.hop.0 < 2 ^ 64 → subject.number < 2 ^ 64 → limit < 2 ^ 64
    → length (held ++ reply_text subject (Bytes payload limit) ++ 10 ∷ []) ≤ room
