-- Answers that refuse all calls, and those of a served round, after a history.
use Rattle.std.proofs.Common.{ℕ, ◌≡◌, ◌≤◌, ◌⊎◌, ◌++◌, ◌∷◌, [], List, Bool, true, false, true≢false, cond, length, refl, sym, ap, subst, ⊎_elim, ◌∙◌, arith, append_assoc}
use Rattle.std.specs.List.{AllByRecursion, zip}
use Rattle.std.proofs.lemmas.List.{map-append}
use Rattle.std.proofs.lemmas.Slice.Zip.{firsts-zip}
use Rattle.rly_core.specs.declared.refusal.Refusal.{Refusal}
use Rattle.rly_core.specs.declared.refusal.Refusal.TheVariants.{Broken, DeviceRead, OutOfMemory, Unsure}
use Rattle.rly_machine.specs.declared.call.Answer.{Answer}
use Rattle.rly_machine.specs.declared.call.Call.{Call}
use Rattle.rly_machine.specs.declared.reply.Reply.{Reply}
use Rattle.rly_machine.specs.declared.reply.Reply.TheVariants.{Refused}
use Rattle.rly_machine.specs.Ask.{ask_step}
use Rattle.rly_machine.specs.History.{Entry, IsAnswered, accepted_by, accepted_of, LegalBy, harm, harm_after, is_failure, next_state, state_after}
use Rattle.rly_machine.specs.declared.command.Ask.{Ask}
use Rattle.rly_machine.specs.declared.command.Ask.TheVariants as asked
use Rattle.rly_machine.specs.State.{State}
use Rattle.rly_machine.proofs.RealReplies.{harmless}
use Rattle.rly_journal.specs.Rounds.{AreUnreadWhere, IsFetch, OnlyLost, refusal_of, refusals}
use Rattle.rly_line.specs.ResponderView.{calls_in}
use Rattle.rly_flush.specs.FlusherHistory.{AreHarmless, IsTruthful}

-- the calls of a history that goes on
pub calls_in_append : (xs ys : List Entry) → calls_in (xs ++ ys) ≡ calls_in xs ++ calls_in ys
calls_in_append xs ys = map-append (λ (e : Entry). e.0) xs ys

pub calls_in_zip : (calls : List Call) (given : List Answer) → length given ≡ length calls → calls_in (zip calls given) ≡ calls
calls_in_zip calls given count = firsts-zip calls given count

-- a property of each entry may hold for a weaker reason
pub all_weaker : (P Q : Entry → Type 0) → ((x : Entry) → P x → Q x) → (xs : List Entry) → AllByRecursion P xs → AllByRecursion Q xs
all_weaker P Q more [] all = tt
all_weaker P Q more (x ∷ xs) all = (more x all.0, all_weaker P Q more xs all.1)

pub all_append : (P : Entry → Type 0) (xs ys : List Entry) → AllByRecursion P xs → AllByRecursion P ys → AllByRecursion P (xs ++ ys)
all_append P [] ys all more = more
all_append P (x ∷ xs) ys all more = (all.0, all_append P xs ys all.1 more)

-- a call that is refused leaves the state
stays_at : (refusal : Refusal) (p : ℕ) (s : State (List ℕ)) (call : Call) → is_failure (Refused refusal) ≡ true → next_state s (call, refusal_of refusal p call) ≡ s
stays_at refusal p s call fails = ap (λ b. cond b s (ask_step s call.ask).0) fails

pub refused_stays : (refusal : Refusal) (p : ℕ) (s : State (List ℕ)) (calls : List Call) → is_failure (Refused refusal) ≡ true
    → state_after s (zip calls (refusals refusal p calls)) ≡ s
refused_stays refusal p s [] fails = refl
refused_stays refusal p s (call ∷ calls) fails =
    ap (λ x. state_after x (zip calls (refusals refusal p calls))) (stays_at refusal p s call fails) ∙ refused_stays refusal p s calls fails

-- at the position of that state it may be in a history, if no more harm was reported before
refused_answer : (refusal : Refusal) (p harmed : ℕ) (s : State (List ℕ)) (call : Call) → is_failure (Refused refusal) ≡ true → harmed ≤ harm (Refused refusal) → p ≡ s.seq
    → IsAnswered (λ reply. reply) harmed s (call, refusal_of refusal p call)
refused_answer refusal p harmed s call fails low at = record {
  seat = refl;
  number = refl;
  reply = λ real. absurd (true≢false (sym fails ∙ real));
  position = at ∙ ap (λ (x : State (List ℕ)). x.seq) (sym (stays_at refusal p s call fails));
  harm = low;
}

pub refused_legal : (refusal : Refusal) (p harmed : ℕ) (s : State (List ℕ)) (calls : List Call) → is_failure (Refused refusal) ≡ true → harmed ≤ harm (Refused refusal) → p ≡ s.seq
    → LegalBy (λ reply. reply) harmed s (zip calls (refusals refusal p calls))
refused_legal refusal p harmed s [] fails low at = tt
refused_legal refusal p harmed s (call ∷ calls) fails low at = (
  refused_answer refusal p harmed s call fails low at,
  subst (λ (x : State (List ℕ)). LegalBy (λ reply. reply) (harm (Refused refusal)) x (zip calls (refusals refusal p calls))) (sym (stays_at refusal p s call fails))
      (refused_legal refusal p (harm (Refused refusal)) s calls fails (omega arith) at),
)

-- a property of each refusal of a round holds for all of them
pub all_refused : (P : Entry → Type 0) (refusal : Refusal) (p : ℕ) → ((call : Call) → P (call, refusal_of refusal p call)) → (calls : List Call)
    → AllByRecursion P (zip calls (refusals refusal p calls))
all_refused P refusal p each [] = tt
all_refused P refusal p each (call ∷ calls) = (each call, all_refused P refusal p each calls)

module _ (failed broken unread : Type 0) where
  abbrev AreTruthful : List Entry → Type 0
  AreTruthful entries = AllByRecursion (IsTruthful failed broken unread) entries

  pub unsure_truthful : (p : ℕ) (calls : List Call) → failed → AreTruthful (zip calls (refusals Unsure p calls))
  unsure_truthful p calls rose = all_refused (IsTruthful failed broken unread) Unsure p (λ call. record {
    unsure = λ _. rose;
    broken_before = λ e. absurd (let h : Refused Unsure ≡ Refused Broken = e in cc);
    unreadable = λ e. absurd (let h : Refused Unsure ≡ Refused DeviceRead = e in cc);
  }) calls

  pub broken_truthful : (p : ℕ) (calls : List Call) → broken → AreTruthful (zip calls (refusals Broken p calls))
  broken_truthful p calls was = all_refused (IsTruthful failed broken unread) Broken p (λ call. record {
    unsure = λ e. absurd (let h : Refused Broken ≡ Refused Unsure = e in cc);
    broken_before = λ _. was;
    unreadable = λ e. absurd (let h : Refused Broken ≡ Refused DeviceRead = e in cc);
  }) calls

  -- a failure is true for a weaker reason
  pub still_truthful : (failed' broken' unread' : Type 0) → (failed → failed') → (broken → broken') → (unread → unread') → (xs : List Entry)
      → AreTruthful xs → AllByRecursion (IsTruthful failed' broken' unread') xs
  still_truthful failed' broken' unread' fails breaks reads xs all = all_weaker (IsTruthful failed broken unread) (IsTruthful failed' broken' unread')
      (λ x t. record { unsure = λ e. fails (t.unsure e); broken_before = λ e. breaks (t.broken_before e); unreadable = λ e. reads (t.unreadable e) }) xs all

  -- if no harm is reported, no write and no sync failed
  pub harmless_truthful : (xs : List Entry) → AreHarmless xs → AreUnreadWhere unread xs → AreTruthful xs
  harmless_truthful [] none all = tt
  harmless_truthful (x ∷ xs) none all = (
    record {
      unsure = λ e. absurd (omega (arith, ap harm e, none.0));
      broken_before = λ e. absurd (omega (arith, ap harm e, none.0));
      unreadable = all.0;
    },
    harmless_truthful xs none.1 all.1,
  )

-- refused memory and a failed read do no harm
harmless_by : (Fetches : Type 0) (reply : Reply) (fails : Bool) → is_failure reply ≡ fails
    → (is_failure reply ≡ true → (reply ≡ Refused OutOfMemory) ⊎ ((reply ≡ Refused DeviceRead) × Fetches)) → harm reply ≡ 0
harmless_by Fetches reply true is only = ⊎_elim (λ memory. ap harm memory) (λ read. ap harm read.0) (only is)
harmless_by Fetches reply false is only = harmless reply is

pub served_harmless : (xs : List Entry) → AllByRecursion OnlyLost xs → AreHarmless xs
served_harmless xs only = all_weaker OnlyLost (λ x. harm x.1.reply ≡ 0) (λ x lost. harmless_by (IsFetch x.0.ask) x.1.reply (is_failure x.1.reply) refl lost) xs only

pub harmless_after : (harmed : ℕ) (xs : List Entry) → AreHarmless xs → harmed ≡ 0 → harm_after harmed xs ≡ 0
harmless_after harmed [] all none = none
harmless_after harmed (x ∷ xs) all none = harmless_after (harm x.1.reply) xs all.1 all.0

-- no harm is above that of a journal that is broken
most : (reply : Reply) → harm reply ≤ harm (Refused Broken)
most (Refused Broken) = omega arith
most (Refused Unsure) = omega arith
most (Refused _) = omega arith
most _ = omega arith

pub most_after : (harmed : ℕ) (xs : List Entry) → harmed ≤ harm (Refused Broken) → harm_after harmed xs ≤ harm (Refused Broken)
most_after harmed [] low = low
most_after harmed (x ∷ xs) low = most_after (harm x.1.reply) xs (most x.1.reply)

-- harm never falls, so if none was reported last, none was reported before
lowest : (shown : Reply → Reply) (harmed : ℕ) (s : State (List ℕ)) (xs : List Entry) → LegalBy shown harmed s xs → harmed ≤ harm_after harmed xs
lowest shown harmed s [] legal = omega arith
lowest shown harmed s (x ∷ xs) legal = let rest = lowest shown (harm x.1.reply) (next_state s x) xs legal.1 in omega (arith, legal.0.harm, rest)

pub all_harmless : (shown : Reply → Reply) (harmed : ℕ) (s : State (List ℕ)) (xs : List Entry) → LegalBy shown harmed s xs → harm_after harmed xs ≡ 0 → AreHarmless xs
all_harmless shown harmed s [] legal none = tt
all_harmless shown harmed s (x ∷ xs) legal none = (
  (let rest = lowest shown (harm x.1.reply) (next_state s x) xs legal.1 in omega (arith, rest, none)),
  all_harmless shown (harm x.1.reply) (next_state s x) xs legal.1 none,
)

-- so a round that broke the journal isn't in a history without harm
pub harmful : (before round rest : List Entry) → 1 ≤ length round → AllByRecursion (λ (entry : Entry). entry.1.reply ≡ Refused Unsure) round
    → AreHarmless (before ++ (round ++ rest)) → {A : Type 0} → A
harmful (x ∷ before) round rest some unsure none = harmful before round rest some unsure none.1
harmful [] [] rest some unsure none = absurd (omega (arith, some))
harmful [] (x ∷ round) rest some unsure none = absurd (omega (arith, ap harm unsure.0, none.0))

-- the accepted commands of a history that goes on
pub accepted_append : (xs ys : List Entry) → accepted_of (xs ++ ys) ≡ accepted_of xs ++ accepted_of ys
accepted_append [] ys = refl
accepted_append (x ∷ xs) ys =
    ap (λ l. accepted_by x.0.ask x.1.reply ++ l) (accepted_append xs ys) ∙ sym (append_assoc (accepted_by x.0.ask x.1.reply) (accepted_of xs) (accepted_of ys))

-- none of a refused call
none_unsure : (ask : Ask) → accepted_by ask (Refused Unsure) ≡ []
none_unsure (asked.Command command) = refl
none_unsure (asked.Query query) = refl

none_broken : (ask : Ask) → accepted_by ask (Refused Broken) ≡ []
none_broken (asked.Command command) = refl
none_broken (asked.Query query) = refl

pub accepts_none : (refusal : Refusal) (p : ℕ) → ((ask : Ask) → accepted_by ask (Refused refusal) ≡ []) → (calls : List Call) → accepted_of (zip calls (refusals refusal p calls)) ≡ []
accepts_none refusal p none [] = refl
accepts_none refusal p none (call ∷ calls) = (λ i. none call.ask i ++ accepts_none refusal p none calls i)

pub unsure_accepts_none : (p : ℕ) (calls : List Call) → accepted_of (zip calls (refusals Unsure p calls)) ≡ []
unsure_accepts_none p calls = accepts_none Unsure p none_unsure calls

pub broken_accepts_none : (p : ℕ) (calls : List Call) → accepted_of (zip calls (refusals Broken p calls)) ≡ []
broken_accepts_none p calls = accepts_none Broken p none_broken calls

pub all_broken : (p : ℕ) (calls : List Call) → AllByRecursion (λ (entry : Entry). entry.1.reply ≡ Refused Broken) (zip calls (refusals Broken p calls))
all_broken p calls = all_refused (λ (entry : Entry). entry.1.reply ≡ Refused Broken) Broken p (λ call. refl) calls

pub all_unsure : (p : ℕ) (calls : List Call) → AllByRecursion (λ (entry : Entry). entry.1.reply ≡ Refused Unsure) (zip calls (refusals Unsure p calls))
all_unsure p calls = all_refused (λ (entry : Entry). entry.1.reply ≡ Refused Unsure) Unsure p (λ call. refl) calls
