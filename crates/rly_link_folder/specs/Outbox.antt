-- The state of an outbox in contracts, and the answers to a Data.
use Rattle.std.specs.Prelude.{◌≡◌, ◌⊎◌, ◌+◌, ◌≤◌, ℕ, true, false}
use Rattle.rly_core.specs.declared.refusal.Refusal.TheVariants.{Full}
use Rattle.rly_folder.specs.FolderModel.{File, FolderState}
use Rattle.rly_hop.specs.declared.receiving.event.TakeAnswer.{TakeAnswer}
use Rattle.rly_hop.specs.declared.receiving.event.TakeAnswer.TheVariants as answer
use Rattle.rly_link_folder.specs.OutboxCalls.{FailsToList, HandsOut, HasRoom}
use Rattle.rly_link_folder.specs.declared.outbox.Outbox.{Outbox}

abbrev pub folder_of : {F : Type 0} → Outbox F → F
folder_of outbox = outbox.folder

-- the greatest number of which custody was answered
abbrev pub greatest_of : {F : Type 0} → Outbox F → ℕ
greatest_of outbox = outbox.greatest

-- at this number of files none is added
abbrev pub most_of : {F : Type 0} → Outbox F → ℕ
most_of outbox = outbox.most

-- the number of files that may be added before the folder is listed again
abbrev pub spare_of : {F : Type 0} → Outbox F → ℕ
spare_of outbox = outbox.spare

-- so many may be added now
abbrev pub FindsRoom : {F : Type 0} → (F → FolderState) → Outbox F → Outbox F → Type 0
FindsRoom state old new = HasRoom state (most_of old) (spare_of old) (spare_of new) (folder_of old) (folder_of new)

-- the calls of the folder for the next Data, and its answer: so many files may be added before it and after it
abbrev pub Takes : {D : Type 0} → (D → FolderState) → (most spare left greatest number : ℕ) → File → TakeAnswer → D → D
    → Type 0
Takes {D} state most spare left greatest number file answer.Taken old new =
    (listed : D) × HasRoom state most spare (left + 1) old listed × HandsOut state greatest number file true listed new
Takes state most spare left greatest number file (answer.Already last) old new = ⊥
Takes state most spare left greatest number file (answer.Refused refusal) old new =
    (refusal ≡ Full) × (left ≡ 0) × HasRoom state most spare 0 old new
Takes {D} state most spare left greatest number file answer.Other old new = (left ≡ 0)
    × (FailsToList state spare old new
    ⊎ ((listed : D) × (room : ℕ) × (1 ≤ room) × HasRoom state most spare room old listed
    × HandsOut state greatest number file false listed new))

-- the greatest number after an answer to the Data of a number
abbrev pub greatest_after : ℕ → ℕ → TakeAnswer → ℕ
greatest_after greatest number answer.Taken = number
greatest_after greatest number (answer.Already last) = greatest
greatest_after greatest number (answer.Refused refusal) = greatest
greatest_after greatest number answer.Other = greatest
