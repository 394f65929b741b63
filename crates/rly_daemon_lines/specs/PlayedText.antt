-- The text that `play` writes for lines, and the state of its journal after it.
use Rattle.std.specs.Prelude.{◌≡◌, ◌⊎◌, ◌≤◌, ℕ, List, [], ◌∷◌, ◌++◌, length, map}
use Rattle.std.specs.Prelude.{Bool, true, false, if◌then◌else◌, Option, Some, None, ⊤}
use Rattle.std.specs.Io.KnownBytes.{Appends}
use Rattle.std.specs.List.{AllByRecursion, list_any}
use Rattle.rly_core.specs.Refusals.{refusal_line}
use Rattle.rly_core.specs.declared.refusal.Refusal.{Refusal}
use Rattle.rly_core.specs.declared.refusal.Refusal.TheVariants.{Broken, DeviceRead, Line, OutOfMemory, Unsure}
use Rattle.rly_disk.specs.DiskModel.{DiskState, Later, HasFailed}
use Rattle.rly_journal.specs.Journal.{HasFailedRead, is_command, JournalState, OnlyReadsFailed}
use Rattle.rly_journal.specs.Log.{IsDurable, IsFull}
use Rattle.rly_journal.specs.Rounds.{MayWantBytes, MayWantMemory}
use Rattle.rly_machine.specs.Ask.{ask_step}
use Rattle.rly_machine.specs.History.{is_failure, without_bytes}
use Rattle.rly_machine.specs.declared.command.Ask.{Ask}
use Rattle.rly_machine.specs.declared.reply.Reply.{Reply}
use Rattle.rly_machine.specs.declared.reply.Reply.TheVariants.{Refused}
use Rattle.rly_daemon_reply.specs.Beginnings.{AppendsBeginning}
use Rattle.rly_daemon_lines.specs.Grammar.{ask_in_line}
use Rattle.rly_daemon_lines.specs.Lines.{lines_of}
use Rattle.rly_daemon_reply.specs.Replies.{subject_of, reply_text}
use Rattle.rly_daemon_lines.specs.Text.{ByteState, ask_answer, replies_from}

-- the ask of a line, if it is a command or a query, and its reply
abbrev pub ServedLine : Type 0
ServedLine = Option Ask × Reply

-- the reply line; a line without an ask is refused
abbrev pub reply_line : Option Ask → Reply → List ℕ
reply_line None reply = refusal_line Line
reply_line (Some ask) reply = reply_text (subject_of ask) reply

-- a reply line for each line, with a newline
abbrev pub served_text : List ServedLine → List ℕ
served_text [] = []
served_text (first ∷ more) = reply_line first.0 first.1 ++ 10 ∷ served_text more

-- the state after a line: a refusal by the journal leaves it unchanged
abbrev pub state_behind : ByteState → Option Ask → Reply → ByteState
state_behind s None reply = s
state_behind s (Some ask) reply = if is_failure reply then s else (ask_step s ask).0

-- a reply is the machine's; on a disk that isn't honest a Fetch may have any bytes
abbrev pub IsMachineReply : DiskState → Reply → Reply → Type 0
IsMachineReply disk right reply = (without_bytes reply ≡ without_bytes right) × (disk.honest → reply ≡ right)

-- a line is lost: memory was refused for it, or a read failed
abbrev pub IsLost : Reply → Type 0
IsLost reply = (reply ≡ Refused OutOfMemory) ⊎ (reply ≡ Refused DeviceRead)

-- a line was served on a disk: the reply is the machine's, or the line is lost
abbrev pub IsLineServed : DiskState → ByteState → Option Ask → Reply → Type 0
IsLineServed disk s None reply = reply ≡ Refused Line
IsLineServed disk s (Some ask) reply = IsMachineReply disk (ask_step s ask).1 reply ⊎ IsLost reply

-- lines were served one after the other, each in the state that those before it left
abbrev pub AreLinesServed : DiskState → ByteState → List ServedLine → ByteState → Type 0
AreLinesServed disk s [] t = t ≡ s
AreLinesServed disk s (first ∷ more) t = IsLineServed disk s first.0 first.1
    × AreLinesServed disk (state_behind s first.0 first.1) more t

-- a line was answered by a refusal of the journal
abbrev pub IsLineRefused : Refusal → Option Ask → Reply → Type 0
IsLineRefused refusal None reply = reply ≡ Refused Line
IsLineRefused refusal (Some ask) reply = reply ≡ Refused refusal

-- all lines were
abbrev pub AreLinesRefused : Refusal → List ServedLine → Type 0
AreLinesRefused refusal told = AllByRecursion (λ one. IsLineRefused refusal one.0 one.1) told

-- only reads of the device failed: all lines were served, and the journal goes on
pub record PlayGoesOn {D : Type 0} (state : D → DiskState) (old new : JournalState D)
    (told : List ServedLine) : Type 0 where
  pub running : old.broken ≡ false
  pub goes : new.broken ≡ false
  pub served : AreLinesServed (state old.disk) old.state told new.state
  pub calm : OnlyReadsFailed (state old.disk) (state new.disk)

-- a write or a sync failed: the lines before that round were served, those of the round, at most a round's number,
-- may or may not be durable, and the journal is broken for all after them
pub record PlayBreaks {D : Type 0} (batch : ℕ) (state : D → DiskState) (old new : JournalState D)
    (told : List ServedLine) : Type 0 where
  pub running : old.broken ≡ false
  pub broken : new.broken ≡ true
  pub front : List ServedLine
  pub round : List ServedLine
  pub few : length round ≤ batch
  pub rest : List ServedLine
  pub parts : told ≡ front ++ (round ++ rest)
  pub last : ByteState
  pub served : AreLinesServed (state old.disk) old.state front last
  pub unsure : AreLinesRefused Unsure round
  pub after : AreLinesRefused Broken rest
  pub rose : HasFailed (state old.disk) (state new.disk)

-- the journal was broken, and is unchanged
pub record PlayIsRefused {D : Type 0} (old new : JournalState D) (told : List ServedLine) : Type 0 where
  pub broken : old.broken ≡ true
  pub refused : AreLinesRefused Broken told
  pub same : new ≡ old

-- the possible outcomes of lines
abbrev pub PlayCourse : {D : Type 0} → ℕ → (D → DiskState) → JournalState D → JournalState D → List ServedLine → Type 0
PlayCourse batch state old new told =
    PlayGoesOn state old new told ⊎ PlayBreaks batch state old new told ⊎ PlayIsRefused old new told

-- the state after lines that were answered in order
abbrev pub state_behind_all : ByteState → List ServedLine → ByteState
state_behind_all s [] = s
state_behind_all s (first ∷ more) = state_behind_all (state_behind s first.0 first.1) more

-- a line whose ask may be refused memory
abbrev pub LineMayWantMemory : ByteState → Option Ask → Type 0
LineMayWantMemory s None = ⊥
LineMayWantMemory s (Some ask) = MayWantMemory s ask

-- a line that asks for a payload that is not empty
abbrev pub LineMayWantBytes : ByteState → Option Ask → Type 0
LineMayWantBytes s None = ⊥
LineMayWantBytes s (Some ask) = MayWantBytes s ask

-- of lines that were answered in order, 14 is the reply only to those that may take memory, and 13 only to a Fetch
-- of bytes
abbrev pub AreLinesLostWhereWanted : ByteState → List ServedLine → Type 0
AreLinesLostWhereWanted s [] = ⊤
AreLinesLostWhereWanted s (first ∷ more) =
    (first.1 ≡ Refused OutOfMemory → LineMayWantMemory s first.0)
    × (first.1 ≡ Refused DeviceRead → LineMayWantBytes s first.0)
    × AreLinesLostWhereWanted (state_behind s first.0 first.1) more

-- whether the ask of a line is a command
abbrev pub asked_command : Option Ask → Bool
asked_command None = false
asked_command (Some ask) = is_command ask

-- the lines of a round, with a command among them, all got 14, or all 13: its journal was in this state, a segment
-- was due, on its device too, and none was opened
pub record AreLostForHead {D : Type 0} (state : D → DiskState) (disk : D) (s : ByteState) (round : List ServedLine)
    : Type 0 where
  pub command : list_any (λ one. asked_command one.0) round ≡ true
  pub refused : AreLinesRefused OutOfMemory round ⊎ AreLinesRefused DeviceRead round
  pub journal : JournalState D
  pub running : journal.broken ≡ false
  pub disk_is : journal.disk ≡ disk
  pub state_is : journal.state ≡ s
  pub full : IsFull journal.tail
  pub durable : (state journal.disk).honest → IsDurable (state journal.disk) journal.tail s

-- 13 is a reply only if this holds
abbrev pub AreUnreadOnlyWhere : Type 0 → List ServedLine → Type 0
AreUnreadOnlyWhere Holds told = AllByRecursion (λ one. one.1 ≡ Refused DeviceRead → Holds) told

-- the lines of a round, from one disk to another, are lost only if they take memory or bytes, or all of them are;
-- 13 is a reply only if a read of that round failed
pub record IsLossyRound {D : Type 0} (state : D → DiskState) (old new : D) (s : ByteState) (round : List ServedLine)
    : Type 0 where
  pub wanted : AreLinesLostWhereWanted s round ⊎ AreLostForHead state old s round
  pub unread : AreUnreadOnlyWhere (HasFailedRead (state old) (state new)) round
  pub later : Later (state old) (state new)

-- lines were answered in rounds, each on the disk after those before it
abbrev pub AreLossyRounds : {D : Type 0} → (D → DiskState) → D → D → ByteState → List (List ServedLine) → Type 0
AreLossyRounds state old new s [] = new ≡ old
AreLossyRounds {D} state old new s (round ∷ rounds) =
    (mid : D) × IsLossyRound state old mid s round × AreLossyRounds state mid new (state_behind_all s round) rounds

-- the lines of rounds
abbrev pub lines_in : List (List ServedLine) → List ServedLine
lines_in [] = []
lines_in (round ∷ rounds) = round ++ lines_in rounds

-- lines are lost only if they take memory or bytes: they are those of rounds within the maximum length
pub record IsLostInRounds {D : Type 0} (batch : ℕ) (state : D → DiskState) (old new : JournalState D)
    (told : List ServedLine) : Type 0 where
  pub rounds : List (List ServedLine)
  pub lines : told ≡ lines_in rounds
  pub few : AllByRecursion (λ round. length round ≤ batch) rounds
  pub lossy : AreLossyRounds state old.disk new.disk old.state rounds

-- a line was answered by the machine
abbrev pub IsMachineLine : DiskState → ByteState → Option Ask → Reply → Type 0
IsMachineLine disk s None reply = reply ≡ Refused Line
IsMachineLine disk s (Some ask) reply = IsMachineReply disk (ask_step s ask).1 reply

-- all lines were, in order
abbrev pub AreMachineLines : DiskState → ByteState → List ServedLine → Type 0
AreMachineLines disk s [] = ⊤
AreMachineLines disk s (first ∷ more) =
    IsMachineLine disk s first.0 first.1 × AreMachineLines disk (ask_answer s first.0).0 more

-- no line was refused memory
abbrev pub NoneStarved : List ServedLine → Type 0
NoneStarved told = AllByRecursion (λ one. one.1 ≡ Refused OutOfMemory → ⊥) told

-- lines were played on a journal, this many per round, and this is the text for them. If the journal is whole, no
-- call of its device failed and no memory was refused, the machine answered all lines; on an honest device it is
-- the machine's text
pub record Plays {D : Type 0} (batch : ℕ) (state : D → DiskState) (old new : JournalState D)
    (lines : List (List ℕ)) (text : List ℕ) : Type 0 where
  pub told : List ServedLine
  pub asked : map (λ one. one.0) told ≡ map ask_in_line lines
  pub written : text ≡ served_text told
  pub course : PlayCourse batch state old new told
  pub lost : IsLostInRounds batch state old new told
  pub later : Later (state old.disk) (state new.disk)
  pub right : old.broken ≡ false → (HasFailed (state old.disk) (state new.disk) → ⊥) → NoneStarved told
      → AreMachineLines (state old.disk) old.state told
  pub exact : (state old.disk).honest → old.broken ≡ false → (HasFailed (state old.disk) (state new.disk) → ⊥)
      → NoneStarved told → text ≡ replies_from old.state lines

-- all lines of the remaining known bytes were played, and their text was written
abbrev pub PlaysAll : {D : Type 0} → ℕ → (D → DiskState) → JournalState D → JournalState D
    → Option (List ℕ) → Option (List ℕ) → Option (List ℕ) → Type 0
PlaysAll batch state j k None old new = ⊤
PlaysAll batch state j k (Some xs) old new = (text : List ℕ) × Plays batch state j k (lines_of xs) text
    × Appends old new text

-- the first of them were played, and a prefix of their text was written
abbrev pub PlaysFront : {D : Type 0} → ℕ → (D → DiskState) → JournalState D → JournalState D
    → Option (List ℕ) → Option (List ℕ) → Option (List ℕ) → Type 0
PlaysFront batch state j k None old new = ⊤
PlaysFront batch state j k (Some xs) old new = (front rest : List (List ℕ)) × (lines_of xs ≡ front ++ rest)
    × (text : List ℕ) × Plays batch state j k front text × AppendsBeginning old new text
