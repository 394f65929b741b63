-- Histories that are extended or cut, and the fold of their accepted commands.
use Rattle.std.proofs.Common.{ℕ, ◌≡◌, ◌+◌, Bool, true, false, true≢false, cond, List, [], ◌∷◌, ◌++◌, length, refl, sym, ap, ◌∙◌, subst, add-zero, length-append, arith}
use Rattle.rly_machine.specs.declared.command.Ask.{Ask}
use Rattle.rly_machine.specs.declared.command.Ask.TheVariants as ask
use Rattle.rly_machine.specs.declared.command.Command.{Command}
use Rattle.rly_machine.specs.declared.reply.Reply.{Reply}
use Rattle.rly_machine.specs.declared.reply.Reply.TheVariants.{Bytes, Refused}
use Rattle.rly_machine.specs.Accepted.{is_accepted}
use Rattle.rly_machine.specs.Ask.{ask_step}
use Rattle.rly_machine.specs.Fold.{AllAccepted, fold}
use Rattle.rly_machine.specs.History.{Entry, LegalBy, accepted_by, accepted_of, harm, harm_after, is_failure, next_state, state_after, without_bytes}
use Rattle.rly_machine.specs.State.{State}
use Rattle.rly_machine.specs.Step.{step}
use Rattle.rly_machine.proofs.Folding.{accepted_append, fold_append}
use Rattle.rly_machine.proofs.RealReplies.{counted, unaccepted}

pub state_after-append : (s : State (List ℕ)) (xs ys : List Entry) → state_after s (xs ++ ys) ≡ state_after (state_after s xs) ys
state_after-append s [] ys = refl
state_after-append s (x ∷ xs) ys = state_after-append (next_state s x) xs ys

pub harm_after-append : (harmed : ℕ) (xs ys : List Entry) → harm_after harmed (xs ++ ys) ≡ harm_after (harm_after harmed xs) ys
harm_after-append harmed [] ys = refl
harm_after-append harmed (x ∷ xs) ys = harm_after-append (harm x.1.reply) xs ys

-- a legal history can be extended
pub legal_append : (shown : Reply → Reply) (harmed : ℕ) (s : State (List ℕ)) (xs ys : List Entry)
    → LegalBy shown harmed s xs → LegalBy shown (harm_after harmed xs) (state_after s xs) ys → LegalBy shown harmed s (xs ++ ys)
legal_append shown harmed s [] ys legal more = more
legal_append shown harmed s (x ∷ xs) ys legal more = (legal.0, legal_append shown (harm x.1.reply) (next_state s x) xs ys legal.1 more)

-- a legal history is legal but for bytes
pub legal_but_for_bytes : (harmed : ℕ) (s : State (List ℕ)) (xs : List Entry) → LegalBy (λ reply. reply) harmed s xs → LegalBy without_bytes harmed s xs
legal_but_for_bytes harmed s [] legal = tt
legal_but_for_bytes harmed s (x ∷ xs) legal = (
  record {
    seat = legal.0.seat;
    number = legal.0.number;
    reply = λ real. ap without_bytes (legal.0.reply real);
    position = legal.0.position;
    harm = legal.0.harm;
  },
  legal_but_for_bytes (harm x.1.reply) (next_state s x) xs legal.1,
)

-- a reply accepts if the machine's does, whatever its bytes
accepted_without : (reply : Reply) → is_accepted (without_bytes reply) ≡ is_accepted reply
accepted_without (Bytes bytes limit) = refl
accepted_without _ = refl

-- a failure doesn't accept
failure_unaccepted : (reply : Reply) → is_failure reply ≡ true → is_accepted reply ≡ false
failure_unaccepted (Refused refusal) fails = refl
failure_unaccepted _ fails = absurd (true≢false (sym fails))

-- for a command, from its reply and the machine's
adds_command : (s : State (List ℕ)) (command : Command (List ℕ)) (fails is stood : Bool) → (fails ≡ true → is ≡ false)
    → (fails ≡ false → is ≡ stood) → is_accepted (step length s command).1 ≡ stood
    → (cond fails s (step length s command).0 ≡ fold length s (cond is (command ∷ []) []))
    × AllAccepted length s (cond is (command ∷ []) []) × ((cond fails s (step length s command).0).seq ≡ s.seq + length (cond is (command ∷ []) []))
adds_command s command true true stood none same was = absurd (true≢false (none refl))
adds_command s command true false stood none same was = (refl, tt, sym (add-zero s.seq))
adds_command s command false true stood none same was =
    let stood_so : is_accepted (step length s command).1 ≡ true = was ∙ sym (same refl) in
    (refl, (stood_so, tt), omega (arith, counted length s command stood_so))
adds_command s command false false stood none same was =
    let stays = unaccepted length s command (was ∙ sym (same refl)) in (stays, tt, omega (arith, ap (λ (x : State (List ℕ)). x.seq) stays))

same_both : (b : Bool) (s : State (List ℕ)) → cond b s s ≡ s
same_both true s = refl
same_both false s = refl

-- for a request
adds_ask : (s : State (List ℕ)) (an : Ask) (reply : Reply) → (is_failure reply ≡ false → without_bytes reply ≡ without_bytes (ask_step s an).1)
    → (cond (is_failure reply) s (ask_step s an).0 ≡ fold length s (accepted_by an reply))
    × AllAccepted length s (accepted_by an reply) × ((cond (is_failure reply) s (ask_step s an).0).seq ≡ s.seq + length (accepted_by an reply))
adds_ask s (ask.Command command) reply same = adds_command s command (is_failure reply) (is_accepted reply) (is_accepted (step length s command).1)
    (failure_unaccepted reply) (λ real. sym (accepted_without reply) ∙ ap is_accepted (same real) ∙ accepted_without (step length s command).1) refl
adds_ask s (ask.Query query) reply same =
    let stays = same_both (is_failure reply) s in (stays, tt, omega (arith, ap (λ (x : State (List ℕ)). x.seq) stays))

-- a history that is legal but for bytes is the fold of its accepted commands
pub folds : (harmed : ℕ) (s : State (List ℕ)) (history : List Entry) → LegalBy without_bytes harmed s history
    → (state_after s history ≡ fold length s (accepted_of history)) × AllAccepted length s (accepted_of history)
    × ((state_after s history).seq ≡ s.seq + length (accepted_of history))
folds harmed s [] legal = (refl, tt, sym (add-zero s.seq))
folds harmed s (x ∷ xs) legal =
    let one = adds_ask s x.0.ask x.1.reply legal.0.reply in
    let rest = folds (harm x.1.reply) (next_state s x) xs legal.1 in
    let first : List (Command (List ℕ)) = accepted_by x.0.ask x.1.reply in
    let more : List (Command (List ℕ)) = accepted_of xs in (
      rest.0 ∙ ap (λ y. fold length y more) one.0 ∙ sym (fold_append length s first more),
      accepted_append length s first more one.1 (subst (λ y. AllAccepted length y more) one.0 rest.1),
      omega (arith, rest.2, one.2, length-append first more),
    )
