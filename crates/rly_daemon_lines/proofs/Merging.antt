-- The replies to the lines of a round, from its answers.
use Rattle.std.proofs.Common.{◌≡◌, ℕ, List, [], ◌∷◌, ◌++◌, length, map, Bool, true, false, Option, Some, None, refl, sym, ◌∙◌, ap, subst, arith, append_assoc, inl, inr, ⊎_elim}
use Rattle.std.specs.Prelude.{◌||◌}
use Rattle.std.specs.List.{AllByRecursion, list_any, zip}
use Rattle.rly_core.specs.declared.refusal.Refusal.{Refusal}
use Rattle.rly_core.specs.declared.refusal.Refusal.TheVariants.{DeviceRead, Line, OutOfMemory}
use Rattle.rly_core.specs.Refusals.{refusal_line}
use Rattle.rly_disk.specs.DiskModel.{DiskState}
use Rattle.rly_journal.specs.Journal.{holds_command, is_command}
use Rattle.rly_journal.specs.Rounds.{AreLostWhereWanted, AreUnreadWhere, IsFetch, OnlyLost, refusals}
use Rattle.rly_machine.specs.Ask.{ask_step}
use Rattle.rly_machine.specs.History.{LegalBy, harm, is_failure, next_state, state_after, without_bytes}
use Rattle.rly_machine.specs.declared.call.Answer.{Answer}
use Rattle.rly_machine.specs.declared.call.Call.{Call}
use Rattle.rly_machine.specs.declared.command.Ask.{Ask}
use Rattle.rly_machine.specs.declared.reply.Reply.{Reply}
use Rattle.rly_machine.specs.declared.reply.Reply.TheVariants.{Refused}
use Rattle.rly_daemon_lines.specs.HelpersPlay.{asks_in, asks_of, round_text, subject_in}
use Rattle.rly_daemon_lines.specs.PlayedText.{AreLinesLostWhereWanted, AreLinesRefused, AreLinesServed, AreUnreadOnlyWhere, IsLineServed, IsLost, ServedLine, asked_command, served_text}
use Rattle.rly_daemon_reply.specs.Replies.{reply_text, subject_of}
use Rattle.rly_daemon_lines.specs.Text.{ByteState}

abbrev pub merge : List (Option Ask) → List Answer → List ServedLine
merge [] given = []
merge (None ∷ asked) given = (None, Refused Line) ∷ merge asked given
merge (Some ask ∷ asked) [] = (Some ask, Refused Line) ∷ merge asked []
merge (Some ask ∷ asked) (answer ∷ given) = (Some ask, answer.reply) ∷ merge asked given

pub merge_asked : (asked : List (Option Ask)) (given : List Answer) → map (λ one. one.0) (merge asked given) ≡ asked
merge_asked [] given = refl
merge_asked (None ∷ asked) given = ap (λ l. None ∷ l) (merge_asked asked given)
merge_asked (Some ask ∷ asked) [] = ap (λ l. Some ask ∷ l) (merge_asked asked [])
merge_asked (Some ask ∷ asked) (answer ∷ given) = ap (λ l. Some ask ∷ l) (merge_asked asked given)

pub merge_text : (asked : List (Option Ask)) (given : List Answer) → length given ≡ length (asks_in asked) → round_text (map subject_in asked) given ≡ served_text (merge asked given)
merge_text [] given count = refl
merge_text (None ∷ asked) given count =
    append_assoc (refusal_line Line) (10 ∷ []) (round_text (map subject_in asked) given)
    ∙ ap (λ l. refusal_line Line ++ 10 ∷ l) (merge_text asked given count)
merge_text (Some ask ∷ asked) [] count = absurd (omega (arith, count))
merge_text (Some ask ∷ asked) (answer ∷ given) count =
    append_assoc (reply_text (subject_of ask) answer.reply) (10 ∷ []) (round_text (map subject_in asked) given)
    ∙ ap (λ l. reply_text (subject_of ask) answer.reply ++ 10 ∷ l) (merge_text asked given (omega (arith, count)))

-- ---- calls that were answered in order

module _ (disk : DiskState) where
  one_served : (s : ByteState) (ask : Ask) (reply : Reply) (fails : Bool) → is_failure reply ≡ fails
      → (is_failure reply ≡ false → without_bytes reply ≡ without_bytes (ask_step s ask).1) → (disk.honest → is_failure reply ≡ false → reply ≡ (ask_step s ask).1)
      → (is_failure reply ≡ true → IsLost reply) → IsLineServed disk s (Some ask) reply
  one_served s ask reply true fails alike exact only = inr (only fails)
  one_served s ask reply false fails alike exact only = inl (alike fails, λ honest. exact honest fails)

  pub merge_served : (asked : List (Option Ask)) (calls : List Call) (given : List Answer) (harmed : ℕ) (s : ByteState) → asks_of calls ≡ asks_in asked → length given ≡ length calls
      → LegalBy without_bytes harmed s (zip calls given) → (disk.honest → LegalBy (λ reply. reply) harmed s (zip calls given)) → AllByRecursion OnlyLost (zip calls given)
      → AreLinesServed disk s (merge asked given) (state_after s (zip calls given))
  merge_served [] [] given harmed s same count legal exact only = refl
  merge_served [] (call ∷ calls) given harmed s same count legal exact only = absurd (omega (arith, ap length same))
  merge_served (None ∷ asked) calls given harmed s same count legal exact only = (refl, merge_served asked calls given harmed s same count legal exact only)
  merge_served (Some ask ∷ asked) [] given harmed s same count legal exact only = absurd (omega (arith, ap length same))
  merge_served (Some ask ∷ asked) (call ∷ calls) [] harmed s same count legal exact only = absurd (omega (arith, count))
  merge_served (Some ask ∷ asked) (call ∷ calls) (answer ∷ given) harmed s same count legal exact only =
      let head : call.ask ≡ ask = cc in
      let tail : asks_of calls ≡ asks_in asked = cc in
      let lost : is_failure answer.reply ≡ true → IsLost answer.reply =
      λ fails. ⊎_elim (λ (memory : answer.reply ≡ Refused OutOfMemory). inl memory) (λ (unread : (answer.reply ≡ Refused DeviceRead) × IsFetch call.ask). inr unread.0) (only.0 fails) in
      let first : IsLineServed disk s (Some call.ask) answer.reply =
      one_served s call.ask answer.reply (is_failure answer.reply) refl legal.0.reply (λ honest. (exact honest).0.reply) lost in
      let more = merge_served asked calls given (harm answer.reply) (next_state s (call, answer)) tail (omega (arith, count)) legal.1 (λ honest. (exact honest).1) only.1 in
      subst (λ x. AreLinesServed disk s ((Some x, answer.reply) ∷ merge asked given) (state_after (next_state s (call, answer)) (zip calls given))) head (first, more)

-- ---- calls that were all refused

pub merge_refused : (refusal : Refusal) (position : ℕ) (asked : List (Option Ask)) (calls : List Call) → asks_of calls ≡ asks_in asked
    → AreLinesRefused refusal (merge asked (refusals refusal position calls))
merge_refused refusal position [] calls same = tt
merge_refused refusal position (None ∷ asked) calls same = (refl, merge_refused refusal position asked calls same)
merge_refused refusal position (Some ask ∷ asked) [] same = absurd (omega (arith, ap length same))
merge_refused refusal position (Some ask ∷ asked) (call ∷ calls) same =
    let tail : asks_of calls ≡ asks_in asked = cc in
    (refl, merge_refused refusal position asked calls tail)

-- ---- calls that were lost

pub merge_wanted : (asked : List (Option Ask)) (calls : List Call) (given : List Answer) (s : ByteState) → asks_of calls ≡ asks_in asked → length given ≡ length calls
    → AreLostWhereWanted s (zip calls given) → AreLinesLostWhereWanted s (merge asked given)
merge_wanted [] calls given s same count wanted = tt
merge_wanted (None ∷ asked) calls given s same count wanted = (
  (λ starved. absurd (let e : Refused Line ≡ Refused OutOfMemory = starved in cc)),
  (λ unread. absurd (let e : Refused Line ≡ Refused DeviceRead = unread in cc)),
  merge_wanted asked calls given s same count wanted,
)
merge_wanted (Some ask ∷ asked) [] given s same count wanted = absurd (omega (arith, ap length same))
merge_wanted (Some ask ∷ asked) (call ∷ calls) [] s same count wanted = absurd (omega (arith, count))
merge_wanted (Some ask ∷ asked) (call ∷ calls) (answer ∷ given) s same count wanted =
    let head : call.ask ≡ ask = cc in
    let tail : asks_of calls ≡ asks_in asked = cc in
    let more = merge_wanted asked calls given (next_state s (call, answer)) tail (omega (arith, count)) wanted.2 in
    subst (λ x. AreLinesLostWhereWanted s ((Some x, answer.reply) ∷ merge asked given)) head (wanted.0, wanted.1, more)

pub merge_unread : (Holds : Type 0) (asked : List (Option Ask)) (calls : List Call) (given : List Answer) → asks_of calls ≡ asks_in asked → length given ≡ length calls
    → AreUnreadWhere Holds (zip calls given) → AreUnreadOnlyWhere Holds (merge asked given)
merge_unread Holds [] calls given same count unread = tt
merge_unread Holds (None ∷ asked) calls given same count unread =
    ((λ told. absurd (let e : Refused Line ≡ Refused DeviceRead = told in cc)), merge_unread Holds asked calls given same count unread)
merge_unread Holds (Some ask ∷ asked) [] given same count unread = absurd (omega (arith, ap length same))
merge_unread Holds (Some ask ∷ asked) (call ∷ calls) [] same count unread = absurd (omega (arith, count))
merge_unread Holds (Some ask ∷ asked) (call ∷ calls) (answer ∷ given) same count unread =
    let tail : asks_of calls ≡ asks_in asked = cc in
    (unread.0, merge_unread Holds asked calls given tail (omega (arith, count)) unread.1)

-- ---- the same of them are commands

pub merge_commands : (asked : List (Option Ask)) (calls : List Call) (given : List Answer) → asks_of calls ≡ asks_in asked → length given ≡ length calls
    → list_any (λ one. asked_command one.0) (merge asked given) ≡ holds_command calls
merge_commands [] [] given same count = refl
merge_commands [] (call ∷ calls) given same count = absurd (omega (arith, ap length same))
merge_commands (None ∷ asked) calls given same count = merge_commands asked calls given same count
merge_commands (Some ask ∷ asked) [] given same count = absurd (omega (arith, ap length same))
merge_commands (Some ask ∷ asked) (call ∷ calls) [] same count = absurd (omega (arith, count))
merge_commands (Some ask ∷ asked) (call ∷ calls) (answer ∷ given) same count =
    let head : call.ask ≡ ask = cc in
    let tail : asks_of calls ≡ asks_in asked = cc in
    ap (λ b. is_command ask || b) (merge_commands asked calls given tail (omega (arith, count))) ∙ ap (λ a. is_command a || holds_command calls) (sym head)
