-- The text written as lines are answered, in order.
use Rattle.std.proofs.Common.{◌≡◌, ℕ, List, [], ◌∷◌, ◌++◌, length, IfSome, Bool, true, false, nat_lt, Option, Some, None, refl, sym, ◌∙◌, ap, arith, append_assoc}
use Rattle.std.specs.Bool.{⊤}
use Rattle.std.specs.Io.KnownBytes.{Appends, prepend_known}
use Rattle.std.proofs.lemmas.Bool.{lt-ltb, ltb-true, ltb-false}
use Rattle.std.proofs.lemmas.List.{length-take, take_all}
use Rattle.rly_daemon_lines.specs.Grammar.{ask_in_line}
use Rattle.rly_daemon_lines.specs.HelpersLineReader.{line_front, TakesLine}
use Rattle.rly_daemon_lines.specs.Lines.{lines_of, longest_line}
use Rattle.rly_daemon_lines.specs.HelpersOutflow.{Adds, AddsBeginning, Outflow, outflow_of}
use Rattle.rly_daemon_lines.specs.Text.{ByteState, answer_of, text_for, replies_from, ask_answer}
use Rattle.rly_daemon_lines.specs.HelpersAnswers.{AnswersAll, AnswersLine, BeginsAnswer}
use Rattle.rly_daemon_lines.proofs.Outflows.{adds_adds, adds_begins, adds_none, begins_added, begins_nothing, begins_whole, ends_begun, ends_written}
use Rattle.rly_daemon_reply.specs.Beginnings.{AppendsBeginning}

-- a line that is kept in part has the ask of the whole line
by_length : (line : List ℕ) (long : Bool) → nat_lt longest_line (length line) ≡ long → ask_in_line (line_front line) ≡ ask_in_line line
by_length line true long =
    let kept : nat_lt longest_line (length (line_front line)) ≡ true = lt-ltb _ _ (omega (arith, length-take 20481 line, ltb-true _ _ long)) in
    rw (long, kept) refl
by_length line false short =
    let whole : line_front line ≡ line = take_all 20481 line (omega (arith, ltb-false _ _ short)) in
    ap ask_in_line whole

pub kept_asks : (line : List ℕ) → ask_in_line (line_front line) ≡ ask_in_line line
kept_asks line = by_length line (nat_lt longest_line (length line)) refl

-- so far: the added text and the text of the remaining lines are the text of all
abbrev pub HasAnswered : Option (List ℕ) → Option (List ℕ) → Outflow → Outflow → ByteState → ByteState → Type 0
HasAnswered None left old new s t = ⊤
HasAnswered (Some xs) None old new s t = ⊥
HasAnswered (Some xs) (Some ys) old new s t = (added : List ℕ) × Adds old new added × (text_for s xs ≡ added ++ text_for t ys)

-- nothing is answered yet
pub answered_start : (known : Option (List ℕ)) (now : Outflow) (s : ByteState) → HasAnswered known known now now s s
answered_start None now s = tt
answered_start (Some xs) now s = ([], adds_none now, refl)

pub answered_more : (all left rest : Option (List ℕ)) (first old new : Outflow) (s t u : ByteState) → HasAnswered all left first old s t → AnswersLine true left rest old new t u → HasAnswered all rest first new s u
answered_more None left rest first old new s t u h k = tt
answered_more (Some xs) None rest first old new s t u h k = absurd h
answered_more (Some xs) (Some ys) None first old new s t u h k = absurd k
answered_more (Some xs) (Some ys) (Some zs) first old new s t u h k =
    let more : h.0 ++ text_for t ys ≡ (h.0 ++ k.0) ++ text_for u zs = rw k.2 (sym (append_assoc h.0 k.0 (text_for u zs))) in
    (h.0 ++ k.0, adds_adds first old new h.0 k.0 h.1 k.1, h.2 ∙ more)

pub answered_end : (all left rest : Option (List ℕ)) (first old new : Outflow) (s t u : ByteState) → HasAnswered all left first old s t → AnswersLine false left rest old new t u → AnswersAll all first new s
answered_end None left rest first old new s t u h k = tt
answered_end (Some xs) None rest first old new s t u h k = absurd h
answered_end (Some xs) (Some ys) None first old new s t u h k = absurd k
answered_end (Some xs) (Some ys) (Some zs) first old new s t u h k =
    let whole : h.0 ++ text_for t ys ≡ h.0 ++ [] = ap (λ l. h.0 ++ text_for t l) k.0 in
    rw (h.2 ∙ whole) (adds_adds first old new h.0 [] h.1 k.1)

pub answered_stop : (all left : Option (List ℕ)) (first old new : Outflow) (s t : ByteState) → HasAnswered all left first old s t → BeginsAnswer left old new t → BeginsAnswer all first new s
answered_stop None left first old new s t h k = tt
answered_stop (Some xs) None first old new s t h k = absurd h
answered_stop (Some xs) (Some ys) first old new s t h k = rw h.2 (adds_begins first old new h.0 (text_for t ys) h.1 k)

-- a failure before the line was answered
pub begins_answer : (left : Option (List ℕ)) (old new : Outflow) (s : ByteState) → AddsBeginning old new [] → BeginsAnswer left old new s
begins_answer None old new s h = tt
begins_answer (Some xs) old new s h = begins_nothing old new (text_for s xs) h

-- the reply line of a line, and then the text of the remaining lines
line_text : (xs ys line kept reply : List ℕ) (s t : ByteState) → lines_of xs ≡ line ∷ lines_of ys → kept ≡ line_front line
    → t ≡ (answer_of s kept).0 → reply ≡ (answer_of s kept).1 ++ 10 ∷ [] → text_for s xs ≡ reply ++ text_for t ys
line_text xs ys line kept reply s t lines part state text =
    let same : answer_of s kept ≡ answer_of s line = rw part (ap (ask_answer s) (kept_asks line)) in
    let first : text_for s xs ≡ (answer_of s line).1 ++ 10 ∷ text_for (answer_of s line).0 ys = ap (replies_from s) lines in
    let joined : reply ++ text_for t ys ≡ (answer_of s line).1 ++ 10 ∷ text_for (answer_of s line).0 ys = rw (text, state, same) (append_assoc (answer_of s line).1 (10 ∷ []) (text_for (answer_of s line).0 ys)) in
    first ∙ sym joined

pub answers_line : (left rest : Option (List ℕ)) (old new : Outflow) (kept reply : List ℕ) (s t : ByteState) → TakesLine true left rest kept
    → t ≡ (answer_of s kept).0 → reply ≡ (answer_of s kept).1 ++ 10 ∷ [] → Adds old new reply → AnswersLine true left rest old new s t
answers_line None rest old new kept reply s t h state text k = tt
answers_line (Some xs) None old new kept reply s t h state text k = absurd h
answers_line (Some xs) (Some ys) old new kept reply s t h state text k = (reply, k, line_text xs ys h.0 kept reply s t h.1 h.2 state text)

pub begins_line : (left rest : Option (List ℕ)) (old new : Outflow) (kept reply : List ℕ) (s t : ByteState) → TakesLine true left rest kept
    → t ≡ (answer_of s kept).0 → reply ≡ (answer_of s kept).1 ++ 10 ∷ [] → AddsBeginning old new reply → BeginsAnswer left old new s
begins_line None rest old new kept reply s t h state text k = tt
begins_line (Some xs) None old new kept reply s t h state text k = absurd h
begins_line (Some xs) (Some ys) old new kept reply s t h state text k =
    rw (line_text xs ys h.0 kept reply s t h.1 h.2 state text) (begins_whole old new reply (text_for t ys) k)

-- ---- the pending text is flushed at the end

pub text_written : (known a b c : Option (List ℕ)) (ahead none held : List ℕ) (s t : ByteState) → ahead ≡ [] → none ≡ [] → s ≡ t
    → AnswersAll (prepend_known ahead known) (outflow_of a none) (outflow_of b held) s → Appends b c held → IfSome known (λ input. Appends a c (text_for t input))
text_written None a b c ahead none held s t front empty state h k = tt
text_written (Some xs) a b c ahead none held s t front empty state h k =
    ends_written a b c held (text_for t xs) (rw (front, empty, state) at h) k

pub text_begun : (known a b c : Option (List ℕ)) (ahead none held : List ℕ) (s t : ByteState) → ahead ≡ [] → none ≡ [] → s ≡ t
    → BeginsAnswer (prepend_known ahead known) (outflow_of a none) (outflow_of b held) s → AppendsBeginning b c held → IfSome known (λ input. AppendsBeginning a c (text_for t input))
text_begun None a b c ahead none held s t front empty state h k = tt
text_begun (Some xs) a b c ahead none held s t front empty state h k =
    ends_begun a b c held (text_for t xs) (rw (front, empty, state) at h) k

pub begins_text : (left : Option (List ℕ)) (old new : Outflow) (s : ByteState) → AnswersAll left old new s → BeginsAnswer left old new s
begins_text None old new s h = tt
begins_text (Some xs) old new s h = begins_added old new (text_for s xs) h
