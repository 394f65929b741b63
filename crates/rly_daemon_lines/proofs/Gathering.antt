-- How lines are read for a round, in order.
use Rattle.std.proofs.Common.{◌≡◌, ◌+◌, ◌≤◌, ℕ, List, [], ◌∷◌, ◌++◌, length, map, Option, Some, None, true, false, refl, sym, ◌∙◌, ap, arith, append_assoc, length-append}
use Rattle.std.proofs.lemmas.List.{length-map, map-append}
use Rattle.rly_machine.specs.declared.call.Call.{Call}
use Rattle.rly_machine.specs.declared.command.Ask.{Ask}
use Rattle.rly_daemon_lines.specs.Grammar.{ask_in_line}
use Rattle.rly_daemon_lines.specs.HelpersLineReader.{TakesLine}
use Rattle.rly_daemon_lines.specs.Lines.{lines_of}
use Rattle.rly_daemon_lines.specs.HelpersPlay.{EndsAt, Gathers, asks_in, asks_of, subject_in}
use Rattle.rly_daemon_reply.specs.declared.reply_line.Subject.{Subject}
use Rattle.rly_daemon_lines.proofs.Texts.{kept_asks}

asks_push : (asked : List (Option Ask)) (one : Option Ask) → asks_in (asked ++ one ∷ []) ≡ asks_in asked ++ asks_in (one ∷ [])
asks_push [] one = refl
asks_push (None ∷ asked) one = asks_push asked one
asks_push (Some ask ∷ asked) one = ap (λ asks. ask ∷ asks) (asks_push asked one)

asks_few : (one : Option Ask) → length (asks_in (one ∷ [])) ≤ 1
asks_few None = omega arith
asks_few (Some ask) = omega arith

-- one line more
pub gathers_more : (first left rest : Option (List ℕ)) (kept : List ℕ) (slots more : List (Option Subject)) (asks others : List Ask)
    → Gathers first left slots asks → TakesLine true left rest kept
    → more ≡ slots ++ subject_in (ask_in_line kept) ∷ [] → others ≡ asks ++ asks_in (ask_in_line kept ∷ []) → Gathers first rest more others
gathers_more None left rest kept slots more asks others h k slot ask = tt
gathers_more (Some xs) None rest kept slots more asks others h k slot ask = absurd h
gathers_more (Some xs) (Some ys) None kept slots more asks others h k slot ask = absurd k
gathers_more (Some xs) (Some ys) (Some zs) kept slots more asks others h k slot ask =
    let front = h.0 in
    let line = k.0 in
    let same : ask_in_line kept ≡ ask_in_line line = ap ask_in_line k.2 ∙ kept_asks line in
    let lines : lines_of xs ≡ (front ++ line ∷ []) ++ lines_of zs = h.1 ∙ ap (λ ls. front ++ ls) k.1 ∙ sym (append_assoc front (line ∷ []) (lines_of zs)) in
    let asked : map ask_in_line (front ++ line ∷ []) ≡ map ask_in_line front ++ ask_in_line line ∷ [] = map-append ask_in_line front (line ∷ []) in
    let slots_are : more ≡ map subject_in (map ask_in_line (front ++ line ∷ [])) =
    slot ∙ ap (λ a. slots ++ subject_in a ∷ []) same ∙ ap (λ ss. ss ++ subject_in (ask_in_line line) ∷ []) h.2
    ∙ sym (map-append subject_in (map ask_in_line front) (ask_in_line line ∷ [])) ∙ ap (map subject_in) (sym asked) in
    let asks_are : others ≡ asks_in (map ask_in_line (front ++ line ∷ [])) =
    ask ∙ ap (λ a. asks ++ asks_in (a ∷ [])) same ∙ ap (λ qs. qs ++ asks_in (ask_in_line line ∷ [])) h.3
    ∙ sym (asks_push (map ask_in_line front) (ask_in_line line)) ∙ ap asks_in (sym asked) in
    (front ++ line ∷ [], lines, slots_are, asks_are)

-- there are no more calls than lines
pub few_calls : (calls others : List Call) (slots more : List (Option Subject)) (one : Option Ask) → length calls ≤ length slots
    → more ≡ slots ++ subject_in one ∷ [] → asks_of others ≡ asks_of calls ++ asks_in (one ∷ []) → length others ≤ length more
few_calls calls others slots more one few slot ask =
    let more_slots : length more ≡ length slots + 1 = ap length slot ∙ length-append slots (subject_in one ∷ []) in
    let more_calls : length others ≡ length calls + length (asks_in (one ∷ [])) =
    sym (length-map others (λ call. call.ask)) ∙ ap length ask ∙ length-append (asks_of calls) (asks_in (one ∷ []))
    ∙ ap (λ n. n + length (asks_in (one ∷ []))) (length-map calls (λ call. call.ask)) in
    let one_at_most = asks_few one in
    omega (arith, few, more_slots, more_calls, one_at_most)

-- the input ended
pub ends : (first left rest : Option (List ℕ)) (kept : List ℕ) (slots : List (Option Subject)) (asks : List Ask)
    → Gathers first left slots asks → TakesLine false left rest kept → EndsAt first rest
ends None left rest kept slots asks h k = tt
ends (Some xs) None rest kept slots asks h k = absurd h
ends (Some xs) (Some ys) None kept slots asks h k = absurd k
ends (Some xs) (Some ys) (Some zs) kept slots asks h k = ap lines_of k.1
