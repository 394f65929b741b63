-- The replies to lines, in order.
use Rattle.std.proofs.Common.{◌≡◌, ℕ, List, [], ◌∷◌, ◌++◌, length, map, true, false, cond, Option, Some, None, refl, sym, ◌∙◌, ap, subst, arith, append_assoc, inl, inr}
use Rattle.std.specs.List.{AllByRecursion}
use Rattle.rly_core.specs.declared.refusal.Refusal.{Refusal}
use Rattle.rly_core.specs.declared.refusal.Refusal.TheVariants.{Broken, DeviceRead, Line, OutOfMemory}
use Rattle.rly_disk.specs.DiskModel.{DiskState}
use Rattle.rly_machine.specs.Ask.{ask_step}
use Rattle.rly_machine.specs.History.{is_failure, without_bytes}
use Rattle.rly_machine.specs.declared.command.Ask.{Ask}
use Rattle.rly_machine.specs.declared.reply.Reply.{Reply}
use Rattle.rly_machine.specs.declared.reply.Reply.TheVariants.{Bytes, Refused}
use Rattle.rly_machine.proofs.RealReplies.{real_reply}
use Rattle.rly_daemon_lines.specs.Grammar.{ask_in_line}
use Rattle.rly_daemon_lines.specs.PlayedText.{AreLinesRefused, AreLinesServed, AreMachineLines, AreUnreadOnlyWhere, IsLineRefused, IsLineServed, IsLost, IsMachineLine, NoneStarved, ServedLine, reply_line, served_text, state_behind, state_behind_all}
use Rattle.rly_daemon_reply.specs.Replies.{reply_text, subject_of}
use Rattle.rly_daemon_lines.specs.Text.{ByteState, answer_of, ask_answer, replies_from}

-- ---- lines, and then others

pub served_append : (disk : DiskState) (s t u : ByteState) (xs ys : List ServedLine) → AreLinesServed disk s xs t → AreLinesServed disk t ys u → AreLinesServed disk s (xs ++ ys) u
served_append disk s t u [] ys h k = subst (λ r. AreLinesServed disk r ys u) h k
served_append disk s t u (x ∷ xs) ys h k = (h.0, served_append disk (state_behind s x.0 x.1) t u xs ys h.1 k)

pub refused_append : (refusal : Refusal) (xs ys : List ServedLine) → AreLinesRefused refusal xs → AreLinesRefused refusal ys → AreLinesRefused refusal (xs ++ ys)
refused_append refusal [] ys h k = k
refused_append refusal (x ∷ xs) ys h k = (h.0, refused_append refusal xs ys h.1 k)

pub refused_split : (refusal : Refusal) (xs ys : List ServedLine) → AreLinesRefused refusal (xs ++ ys) → AreLinesRefused refusal xs × AreLinesRefused refusal ys
refused_split refusal [] ys h = (tt, h)
refused_split refusal (x ∷ xs) ys h = let more = refused_split refusal xs ys h.1 in ((h.0, more.0), more.1)

pub text_append : (xs ys : List ServedLine) → served_text (xs ++ ys) ≡ served_text xs ++ served_text ys
text_append [] ys = refl
text_append (x ∷ xs) ys =
    ap (λ t. reply_line x.0 x.1 ++ 10 ∷ t) (text_append xs ys) ∙ sym (append_assoc (reply_line x.0 x.1) (10 ∷ served_text xs) (served_text ys))

pub states_append : (s : ByteState) (xs ys : List ServedLine) → state_behind_all s (xs ++ ys) ≡ state_behind_all (state_behind_all s xs) ys
states_append s [] ys = refl
states_append s (x ∷ xs) ys = states_append (state_behind s x.0 x.1) xs ys

pub served_behind : (disk : DiskState) (s t : ByteState) (told : List ServedLine) → AreLinesServed disk s told t → t ≡ state_behind_all s told
served_behind disk s t [] h = h
served_behind disk s t (one ∷ told) h = served_behind disk (state_behind s one.0 one.1) t told h.1

-- ---- on another disk, which is honest only if the first is

line_on : (a b : DiskState) → (b.honest → a.honest) → (s : ByteState) (asked : Option Ask) (reply : Reply) → IsLineServed a s asked reply → IsLineServed b s asked reply
line_on a b right s None reply h = h
line_on a b right s (Some ask) reply h =
    elim h [
      | inl same ↦ inl (same.0, λ honest. same.1 (right honest))
      | inr lost ↦ inr lost
    ]

pub served_on : (a b : DiskState) → (b.honest → a.honest) → (s t : ByteState) (told : List ServedLine) → AreLinesServed a s told t → AreLinesServed b s told t
served_on a b right s t [] h = h
served_on a b right s t (one ∷ told) h = (line_on a b right s one.0 one.1 h.0, served_on a b right (state_behind s one.0 one.1) t told h.1)

-- ---- lines that were all refused so

not_told : (refusal other : Refusal) → (Refused refusal ≡ Refused other → ⊥) → (Refused Line ≡ Refused other → ⊥) → (asked : Option Ask) (reply : Reply)
    → IsLineRefused refusal asked reply → reply ≡ Refused other → ⊥
not_told refusal other differs line None reply refused same = line (sym refused ∙ same)
not_told refusal other differs line (Some ask) reply refused same = differs (sym refused ∙ same)

-- were not refused otherwise
pub broken_not_starved : (asked : Option Ask) (reply : Reply) → IsLineRefused Broken asked reply → reply ≡ Refused OutOfMemory → ⊥
broken_not_starved asked reply refused = not_told Broken OutOfMemory (λ same. cc) (λ same. cc) asked reply refused

pub broken_not_unread : (asked : Option Ask) (reply : Reply) → IsLineRefused Broken asked reply → reply ≡ Refused DeviceRead → ⊥
broken_not_unread asked reply refused = not_told Broken DeviceRead (λ same. cc) (λ same. cc) asked reply refused

-- and left the state unchanged, if the refusal is a failure
line_lost : (disk : DiskState) (refusal : Refusal) → IsLost (Refused refusal) → (s : ByteState) (asked : Option Ask) (reply : Reply) → IsLineRefused refusal asked reply
    → IsLineServed disk s asked reply
line_lost disk refusal lost s None reply refused = refused
line_lost disk refusal lost s (Some ask) reply refused = inr (subst IsLost (sym refused) lost)

line_stays : (refusal : Refusal) → is_failure (Refused refusal) ≡ true → (s : ByteState) (asked : Option Ask) (reply : Reply) → IsLineRefused refusal asked reply
    → state_behind s asked reply ≡ s
line_stays refusal fails s None reply refused = refl
line_stays refusal fails s (Some ask) reply refused = ap (λ b. cond b s (ask_step s ask).0) (ap is_failure refused ∙ fails)

pub lost_served : (disk : DiskState) (refusal : Refusal) → is_failure (Refused refusal) ≡ true → IsLost (Refused refusal) → (s : ByteState) (told : List ServedLine) → AreLinesRefused refusal told
    → AreLinesServed disk s told s
lost_served disk refusal fails lost s [] refused = refl
lost_served disk refusal fails lost s (one ∷ told) refused = (
  line_lost disk refusal lost s one.0 one.1 refused.0,
  subst (λ r. AreLinesServed disk r told s) (sym (line_stays refusal fails s one.0 one.1 refused.0)) (lost_served disk refusal fails lost s told refused.1),
)

-- ---- a line that isn't lost was answered by the machine

abbrev NoneLost : List ServedLine → Type 0
NoneLost told = AllByRecursion (λ one. IsLost one.1 → ⊥) told

none_lost : (told : List ServedLine) → NoneStarved told → AreUnreadOnlyWhere ⊥ told → NoneLost told
none_lost [] fed read = tt
none_lost (one ∷ told) fed read = (
  (λ lost. elim lost [
    | inl starved ↦ fed.0 starved
    | inr unread ↦ read.0 unread
  ]),
  none_lost told fed.1 read.1,
)

-- a failure has no bytes
shown_failure : (reply : Reply) → is_failure (without_bytes reply) ≡ is_failure reply
shown_failure (Bytes payload limit) = refl
shown_failure reply = refl

line_right : (disk : DiskState) (s : ByteState) (asked : Option Ask) (reply : Reply) → IsLineServed disk s asked reply → (IsLost reply → ⊥)
    → IsMachineLine disk s asked reply × (state_behind s asked reply ≡ (ask_answer s asked).0)
line_right disk s None reply h kept = (h, refl)
line_right disk s (Some ask) reply h kept =
    elim h [
      | inl right ↦
          let real : is_failure reply ≡ false =
          sym (shown_failure reply) ∙ ap is_failure right.0 ∙ shown_failure (ask_step s ask).1 ∙ real_reply s ask in
          (right, ap (λ b. cond b s (ask_step s ask).0) real)
      | inr lost ↦ absurd (kept lost)
    ]

lines_right : (disk : DiskState) (s t : ByteState) (told : List ServedLine) → AreLinesServed disk s told t → NoneLost told → AreMachineLines disk s told
lines_right disk s t [] h kept = tt
lines_right disk s t (one ∷ told) h kept =
    let first = line_right disk s one.0 one.1 h.0 kept.0 in
    (first.0, subst (λ r. AreMachineLines disk r told) first.1 (lines_right disk (state_behind s one.0 one.1) t told h.1 kept.1))

pub machine_lines : (disk : DiskState) (s t : ByteState) (told : List ServedLine) → AreLinesServed disk s told t → NoneStarved told → AreUnreadOnlyWhere ⊥ told
    → AreMachineLines disk s told
machine_lines disk s t told h fed read = lines_right disk s t told h (none_lost told fed read)

-- on an honest disk their text is the machine's

line_exact : (disk : DiskState) → disk.honest → (s : ByteState) (asked : Option Ask) (reply : Reply) → IsMachineLine disk s asked reply
    → reply_line asked reply ≡ (ask_answer s asked).1
line_exact disk honest s None reply h = refl
line_exact disk honest s (Some ask) reply h = ap (reply_text (subject_of ask)) (h.1 honest)

pub text_exact : (disk : DiskState) → disk.honest → (s : ByteState) (lines : List (List ℕ)) (told : List ServedLine) → map (λ one. one.0) told ≡ map ask_in_line lines
    → AreMachineLines disk s told → served_text told ≡ replies_from s lines
text_exact disk honest s [] [] asked h = refl
text_exact disk honest s [] (one ∷ told) asked h = absurd (omega (arith, ap length asked))
text_exact disk honest s (line ∷ lines) [] asked h = absurd (omega (arith, ap length asked))
text_exact disk honest s (line ∷ lines) (one ∷ told) asked h =
    let head : one.0 ≡ ask_in_line line = cc in
    let tail : map (λ one. one.0) told ≡ map ask_in_line lines = cc in
    let first : reply_line one.0 one.1 ≡ (answer_of s line).1 = line_exact disk honest s one.0 one.1 h.0 ∙ ap (λ a. (ask_answer s a).1) head in
    let state : (ask_answer s one.0).0 ≡ (answer_of s line).0 = ap (λ a. (ask_answer s a).0) head in
    let more = text_exact disk honest (ask_answer s one.0).0 lines told tail h.1 in
    ap (λ l. l ++ 10 ∷ served_text told) first ∙ ap (λ l. (answer_of s line).1 ++ 10 ∷ l) (more ∙ ap (λ r. replies_from r lines) state)
