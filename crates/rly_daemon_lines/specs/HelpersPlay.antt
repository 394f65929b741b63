-- Helpers of `play`'s private functions: the effect of a play (Playing), with the bytes read ahead, the pending
-- replies, and the lines read for a round.
use Rattle.std.specs.Prelude.{◌≡◌, ◌⊎◌, ℕ, List, [], ◌∷◌, ◌++◌, map, false, Option, Some, None, ⊤}
use Rattle.std.specs.List.{zip}
use Rattle.rly_core.specs.Bounds.{IsIn}
use Rattle.rly_core.specs.Refusals.{refusal_line}
use Rattle.rly_core.specs.declared.refusal.Refusal.TheVariants.{Line}
use Rattle.rly_disk.specs.DiskModel.{DiskState}
use Rattle.rly_journal.specs.Journal.{HasFailedRead, IsRound, IsShut, JournalState}
use Rattle.rly_journal.specs.Log.{IsDurable}
use Rattle.rly_journal.specs.Rounds.{AreLostWhereWanted, AreUnreadWhere}
use Rattle.rly_machine.specs.declared.call.Answer.{Answer}
use Rattle.rly_machine.specs.declared.call.Call.{Call}
use Rattle.rly_machine.specs.declared.command.Ask.{Ask}
use Rattle.rly_daemon_lines.specs.Grammar.{ask_in_line}
use Rattle.rly_daemon_lines.specs.HelpersOutflow.{Adds, AddsBeginning, Outflow}
use Rattle.rly_daemon_lines.specs.Lines.{lines_of}
use Rattle.rly_daemon_lines.specs.PlayedText.{Plays}
use Rattle.rly_daemon_reply.specs.Replies.{subject_of, reply_text}
use Rattle.rly_daemon_lines.specs.declared.line_batch.LineBatch.{LineBatch}
use Rattle.rly_daemon_reply.specs.declared.reply_line.Subject.{Subject}

-- all lines of the remaining known bytes were played, and their text was added to the pending replies
abbrev pub AddsPlay : {D : Type 0} → ℕ → (D → DiskState) → JournalState D → JournalState D
    → Option (List ℕ) → Outflow → Outflow → Type 0
AddsPlay batch state j k None old new = ⊤
AddsPlay batch state j k (Some xs) old new = (text : List ℕ) × Plays batch state j k (lines_of xs) text
    × Adds old new text

-- the first of them were played, and a prefix of their text was added
abbrev pub BeginsPlay : {D : Type 0} → ℕ → (D → DiskState) → JournalState D → JournalState D
    → Option (List ℕ) → Outflow → Outflow → Type 0
BeginsPlay batch state j k None old new = ⊤
BeginsPlay batch state j k (Some xs) old new = (front rest : List (List ℕ)) × (lines_of xs ≡ front ++ rest)
    × (text : List ℕ) × Plays batch state j k front text × AddsBeginning old new text

-- with the bytes that remain: the first lines were played, their text was added, and the others remain
abbrev pub PlaysSome : {D : Type 0} → ℕ → (D → DiskState) → JournalState D → JournalState D
    → Option (List ℕ) → Option (List ℕ) → Outflow → Outflow → Type 0
PlaysSome batch state j k None left old new = ⊤
PlaysSome batch state j k (Some xs) None old new = ⊥
PlaysSome batch state j k (Some xs) (Some ys) old new = (front : List (List ℕ)) × (lines_of xs ≡ front ++ lines_of ys)
    × (text : List ℕ) × Plays batch state j k front text × Adds old new text

-- the lines end there, if the remaining bytes are known
abbrev pub EndsAt : Option (List ℕ) → Option (List ℕ) → Type 0
EndsAt None left = ⊤
EndsAt (Some xs) None = ⊥
EndsAt (Some xs) (Some ys) = lines_of ys ≡ []

-- the asks among those of lines
abbrev pub asks_in : List (Option Ask) → List Ask
asks_in [] = []
asks_in (None ∷ asked) = asks_in asked
asks_in (Some ask ∷ asked) = ask ∷ asks_in asked

-- the parts that the reply to a line repeats, if it has an ask
abbrev pub subject_in : Option Ask → Option Subject
subject_in None = None
subject_in (Some ask) = Some (subject_of ask)

-- the reply line of a line: the first answer's, if it has an ask
abbrev pub slot_text : Option Subject → List Answer → List ℕ
slot_text None answers = refusal_line Line ++ 10 ∷ []
slot_text (Some subject) [] = []
slot_text (Some subject) (answer ∷ answers) = reply_text subject answer.reply ++ 10 ∷ []

-- the remaining answers, for the lines after it
abbrev pub answers_behind : Option Subject → List Answer → List Answer
answers_behind None answers = answers
answers_behind (Some subject) [] = []
answers_behind (Some subject) (answer ∷ answers) = answers

-- the reply lines of a round, in the order of its lines
abbrev pub round_text : List (Option Subject) → List Answer → List ℕ
round_text [] answers = []
round_text (slot ∷ slots) answers = slot_text slot answers ++ round_text slots (answers_behind slot answers)

-- the asks of calls
abbrev pub asks_of : List Call → List Ask
asks_of calls = map (λ call. call.ask) calls

-- lines were read for a round, if the remaining bytes are known
abbrev pub Gathers : Option (List ℕ) → Option (List ℕ) → List (Option Subject) → List Ask → Type 0
Gathers None left slots asks = ⊤
Gathers (Some xs) None slots asks = ⊥
Gathers (Some xs) (Some ys) slots asks = (front : List (List ℕ)) × (lines_of xs ≡ front ++ lines_of ys)
    × (slots ≡ map subject_in (map ask_in_line front)) × (asks ≡ asks_in (map ask_in_line front))

-- a batch without lines
pub record IsEmptyBatch (batch : LineBatch) : Type 0 where
  pub most : IsIn 1 64 batch.most
  pub slots : batch.slots.items ≡ []
  pub calls : batch.calls.items ≡ []
  pub answers : batch.answers.items ≡ []

-- the ask of a line is after those of the lines before it
pub record IsPut (asked : Option Ask) (old new : LineBatch) : Type 0 where
  pub slots : new.slots.items ≡ old.slots.items ++ subject_in asked ∷ []
  pub asks : asks_of new.calls.items ≡ asks_of old.calls.items ++ asks_in (asked ∷ [])
  pub answers : new.answers ≡ old.answers
  pub most : new.most ≡ old.most

-- 14 was answered only to calls that may take memory, and 13 only to a Fetch of bytes; or either to all, if a
-- segment is due that was not opened. 13 was answered only if a read failed; the journal ends with its device
pub record IsScarceRound {D : Type 0} (state : D → DiskState) (old new : JournalState D) (calls : List Call)
    (given : List Answer) : Type 0 where
  pub wanted : AreLostWhereWanted old.state (zip calls given) ⊎ IsShut old new calls given
  pub unread : AreUnreadWhere (HasFailedRead (state old.disk) (state new.disk)) (zip calls given)
  pub durable : (state old.disk).honest → old.broken ≡ false → IsDurable (state old.disk) old.tail old.state

-- calls were answered, or there was none
abbrev pub IsAnsweredBy : {D : Type 0} → (D → DiskState) → JournalState D → JournalState D
    → List Call → List Answer → Type 0
IsAnsweredBy state old new calls given =
    ((calls ≡ []) × (given ≡ []) × (new ≡ old))
    ⊎ (IsRound state old new calls given × IsScarceRound state old new calls given)
