-- Helpers of `sim`'s private functions: the text for an input (Text), with the bytes read ahead and the pending
-- replies.
use Rattle.std.specs.Prelude.{◌≡◌, List, [], ◌++◌, ℕ, IfSome, Bool, true, false, Option, Some, None, ⊤}
use Rattle.rly_daemon_lines.specs.HelpersOutflow.{Adds, AddsBeginning, Outflow}
use Rattle.rly_daemon_lines.specs.Text.{ByteState, text_for}

-- the effect of answering the next line, if the remaining bytes are known: there was none, or its reply line was
-- added
abbrev pub AnswersLine : Bool → Option (List ℕ) → Option (List ℕ) → Outflow → Outflow → ByteState → ByteState → Type 0
AnswersLine more None left old new s t = ⊤
AnswersLine more (Some xs) None old new s t = ⊥
AnswersLine false (Some xs) (Some ys) old new s t = (xs ≡ []) × Adds old new []
AnswersLine true (Some xs) (Some ys) old new s t = (reply : List ℕ) × Adds old new reply
    × (text_for s xs ≡ reply ++ text_for t ys)

-- if that stops early, a prefix of the text was added
abbrev pub BeginsAnswer : Option (List ℕ) → Outflow → Outflow → ByteState → Type 0
BeginsAnswer left old new s = IfSome left (λ xs. AddsBeginning old new (text_for s xs))

-- all lines were answered
abbrev pub AnswersAll : Option (List ℕ) → Outflow → Outflow → ByteState → Type 0
AnswersAll left old new s = IfSome left (λ xs. Adds old new (text_for s xs))
