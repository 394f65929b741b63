-- The requests and messages of the two cores, as far as they concern custody.
use Rattle.std.proofs.Common.{ℕ, ◌≡◌, ◌+◌, ◌-◌, ◌^◌, ◌≤◌, Bool, true, false, true≢false, not, ◌&&◌, ◌==◌, nat_lt}
use Rattle.std.proofs.Common.{nat_le, max, if◌then◌else◌, List, [], ◌∷◌, ◌++◌, refl, arith}
use Rattle.std.proofs.Common.{sym, ap, subst, Option, Some, None, is_some, is_none}
use Rattle.std.specs.List.{AllByRecursion}
use Rattle.std.specs.Option.{option_map, option_map_or}
use Rattle.std.proofs.lemmas.Bool.{and_parts}
use Rattle.std.proofs.lemmas.List.{append-nil}
use Rattle.rly_core.specs.declared.ids.HopId.{HopId}
use Rattle.rly_core.specs.declared.ids.PeerId.{PeerId}
use Rattle.rly_core.specs.declared.refusal.Refusal.TheVariants.{Gap}
use Rattle.rly_hop.specs.declared.message.Message.{Message}
use Rattle.rly_hop.specs.declared.message.Message.TheVariants as message
use Rattle.rly_hop.specs.declared.receiving.event.InAction.TheVariants as in_action
use Rattle.rly_hop.specs.declared.receiving.event.InEvent.TheVariants as in_event
use Rattle.rly_hop.specs.declared.receiving.event.TakeAnswer.{TakeAnswer}
use Rattle.rly_hop.specs.declared.receiving.event.TakeAnswer.TheVariants as answer
use Rattle.rly_hop.specs.declared.sending.event.OutAction.{OutAction}
use Rattle.rly_hop.specs.declared.sending.event.OutAction.TheVariants as out_action
use Rattle.rly_hop.specs.declared.sending.event.OutEvent.{OutEvent}
use Rattle.rly_hop.specs.declared.sending.event.OutEvent.TheVariants.{Turn, WindowIs, Picked, Nothing, Fetched}
use Rattle.rly_hop.specs.declared.sending.event.OutEvent.TheVariants.{Released, Unchanged, Refused, Other, Heard}
use Rattle.rly_hop.specs.declared.sending.event.OutEvent.TheVariants.{Timeout}
use Rattle.rly_hop.specs.Receiver.{Receiver}
use Rattle.rly_hop.specs.Receiving.{ReceivingResult, after_answer, custody_message, is_reported_refusal, receiving_step}
use Rattle.rly_hop.specs.Receiving.{refusal_message, take_reply}
use Rattle.rly_hop.specs.Sender.{Sender}
use Rattle.rly_hop.specs.Sending.{SendingResult, after_release, is_unsure, sending_step, turn_action}
use Rattle.rly_machine.specs.declared.command.Ask.{Ask}
use Rattle.rly_machine.specs.declared.command.Ask.TheVariants.{Command, Query}
use Rattle.rly_machine.specs.declared.command.Command.TheVariants as command
use Rattle.rly_machine.specs.declared.command.Query.TheVariants as query
use Rattle.rly_world.specs.PairCores.{receiver_asks, receiver_sends, sender_asks, sender_sends}
use Rattle.rly_world.specs.PairPayloads.{IsPrefix, Numbered}
use Rattle.rly_world.proofs.PairFetch.{IsUnder}
use Rattle.rly_world.proofs.PairLists.{get_in_front}

-- given: the datagrams that the upper durably picked for the lower; kept: the number that the lower durably took

-- a message has nothing that either could lose
abbrev pub IsSafe : List (Numbered (List ℕ)) → ℕ → Message (List ℕ) → Type 0
IsSafe given kept (message.Data from to number limit payload) = IsUnder given number limit payload
IsSafe given kept (message.Custody from to last) = last ≤ kept
IsSafe given kept (message.Refused from to number refusal) = Unit {0}
IsSafe given kept (message.Heard from to last bits) = Unit {0}

-- a request of the sending core: it releases only taken datagrams, and fetches from its hop
abbrev pub IsSafeAsk : HopId → ℕ → Ask → Type 0
IsSafeAsk hop kept (Command (command.Release to number)) = number ≤ kept
IsSafeAsk hop kept (Command (command.Take peer number to stamp limit payload)) = Unit {0}
IsSafeAsk hop kept (Command (command.Pick to now)) = Unit {0}
IsSafeAsk hop kept (Query (query.Fetch to number)) = to ≡ hop
IsSafeAsk hop kept (Query (query.Window to)) = Unit {0}
IsSafeAsk hop kept (Query (query.Show to)) = Unit {0}

-- an event of the sending core: custody of taken datagrams, and bytes that were picked
abbrev pub IsSafeEvent : List (Numbered (List ℕ)) → ℕ → OutEvent (List ℕ) → Type 0
IsSafeEvent given kept (Heard m) = IsSafe given kept m
IsSafeEvent given kept (Fetched number limit payload) = IsUnder given number limit payload
IsSafeEvent given kept (Turn is_open) = Unit {0}
IsSafeEvent given kept (WindowIs first next) = Unit {0}
IsSafeEvent given kept (Picked number) = Unit {0}
IsSafeEvent given kept Nothing = Unit {0}
IsSafeEvent given kept Released = Unit {0}
IsSafeEvent given kept Unchanged = Unit {0}
IsSafeEvent given kept (Refused refusal) = Unit {0}
IsSafeEvent given kept Other = Unit {0}
IsSafeEvent given kept Timeout = Unit {0}

-- all that it knows to be acknowledged was taken
abbrev pub IsKept : ℕ → Option ℕ → Type 0
IsKept kept None = Unit {0}
IsKept kept (Some a) = a ≤ kept

-- its new state, requests and messages
pub record SendsSafely (given : List (Numbered (List ℕ))) (kept : ℕ) (hop : HopId) (moment : ℕ)
    (result : SendingResult) : Type 0 where
  pub acked : IsKept kept result.0.acked
  pub asks : AllByRecursion (IsSafeAsk hop kept) (sender_asks hop moment result.1)
  pub sends : AllByRecursion (IsSafe given kept) (sender_sends result.1)

-- a property of either branch
pub either : {A : Type 0} (b : Bool) (x y : A) (P : A → Type 0) → P x → P y → P (if b then x else y)
either true x y P p q = p
either false x y P p q = q

-- no request is made
silent : (given : List (Numbered (List ℕ))) (kept : ℕ) (hop : HopId) (moment : ℕ) (s : Sender) → IsKept kept s.acked
    → SendsSafely given kept hop moment (s, None)
silent given kept hop moment s acked = record { acked = acked; asks = tt; sends = tt }

release_safe : (kept : ℕ) (hop : HopId) (moment : ℕ) (acked : Option ℕ) → IsKept kept acked
    → AllByRecursion (IsSafeAsk hop kept)
    (sender_asks hop moment (option_map (λ (n : ℕ). let a : OutAction (List ℕ) = out_action.Release n in a) acked))
release_safe kept hop moment None safe = tt
release_safe kept hop moment (Some a) safe = (safe, tt)

release_silent : (given : List (Numbered (List ℕ))) (kept : ℕ) (acked : Option ℕ)
    → AllByRecursion (IsSafe given kept)
    (sender_sends (option_map (λ (n : ℕ). let a : OutAction (List ℕ) = out_action.Release n in a) acked))
release_silent given kept None = tt
release_silent given kept (Some a) = tt

-- a property of each case of a turn holds for the turn's requests
turn_rows : (s : Sender) (is_open : Bool) (P : Option (OutAction (List ℕ)) → Type 0)
    → P (Some out_action.AskWindow)
    → P (option_map (λ (n : ℕ). let a : OutAction (List ℕ) = out_action.Release n in a) s.acked) → P None
    → P (Some (out_action.Fetch s.cursor)) → P (Some out_action.Pick) → P (turn_action s is_open)
turn_rows s is_open P window release none fetch pick =
    either (not s.ready) _ _ P window
    (either (is_some s.acked) _ _ P release
    (either (not is_open) _ _ P none
    (either (nat_lt s.cursor s.next) _ _ P fetch
    (either ((s.cursor == s.next) && nat_lt (s.next - s.first) s.window) _ _ P pick none))))

acked_after_release : (kept : ℕ) (s : Sender) (acked : Option ℕ) → IsKept kept s.acked
    → IsKept kept (after_release s acked).acked
acked_after_release kept s None safe = safe
acked_after_release kept s (Some a) safe = tt

greater_kept : (kept : ℕ) (acked : Option ℕ) (last : ℕ) → IsKept kept acked → last ≤ kept
    → option_map_or (λ a. max a last) acked last ≤ kept
greater_kept kept None last safe below = below
greater_kept kept (Some a) last safe below = omega arith

pub sends_safely : (given : List (Numbered (List ℕ))) (kept : ℕ) (hop : HopId) (moment : ℕ) (s : Sender)
    (event : OutEvent (List ℕ))
    → IsKept kept s.acked → IsSafeEvent given kept event → SendsSafely given kept hop moment (sending_step s event)
sends_safely given kept hop moment s (Turn is_open) acked safe = record {
  acked = acked;
  asks = turn_rows s is_open (λ a. AllByRecursion (IsSafeAsk hop kept) (sender_asks hop moment a)) (tt, tt)
      (release_safe kept hop moment s.acked acked) tt (refl, tt) (tt, tt);
  sends = turn_rows s is_open (λ a. AllByRecursion (IsSafe given kept) (sender_sends a)) tt
      (release_silent given kept s.acked) tt tt tt;
}
sends_safely given kept hop moment s (WindowIs first next) acked safe =
    either (nat_le first next) (record s { ready = true; first = first; next = next; cursor = first; acked = None }) s
    (λ x. SendsSafely given kept hop moment (x, None))
    (silent given kept hop moment
    (record s { ready = true; first = first; next = next; cursor = first; acked = None }) tt)
    (silent given kept hop moment s acked)
sends_safely given kept hop moment s (Picked number) acked safe =
    either (s.ready && (number == s.next) && nat_lt number (2 ^ 64 - 1)) (record s { next = number + 1 }) s
    (λ x. SendsSafely given kept hop moment (x, None))
    (silent given kept hop moment (record s { next = number + 1 }) acked) (silent given kept hop moment s acked)
sends_safely given kept hop moment s (Fetched number limit payload) acked safe =
    either (s.ready && (number == s.cursor) && nat_lt s.cursor s.next)
    (record s { cursor = number + 1 }, Some (out_action.Send (message.Data s.own s.hop number limit payload))) (s, None)
    (SendsSafely given kept hop moment)
    (record { acked = acked; asks = tt; sends = (safe, tt) }) (silent given kept hop moment s acked)
sends_safely given kept hop moment s Released acked safe = silent given kept hop moment (after_release s s.acked)
    (acked_after_release kept s s.acked acked)
sends_safely given kept hop moment s Unchanged acked safe = silent given kept hop moment (after_release s s.acked)
    (acked_after_release kept s s.acked acked)
sends_safely given kept hop moment s (Heard (message.Custody from to last)) acked safe =
    either ((from.0 == s.hop.0) && (to.0 == s.own.0) && s.ready && nat_le s.first last && nat_lt last s.next)
    (record s { acked = Some (option_map_or (λ a. max a last) s.acked last) }) s
    (λ x. SendsSafely given kept hop moment (x, None))
    (silent given kept hop moment (record s { acked = Some (option_map_or (λ a. max a last) s.acked last) })
    (greater_kept kept s.acked last acked safe))
    (silent given kept hop moment s acked)
sends_safely given kept hop moment s
    (Heard (message.Data from to number limit payload)) acked safe = silent given kept hop moment s acked
sends_safely given kept hop moment s
    (Heard (message.Refused from to number refusal)) acked safe = silent given kept hop moment s acked
sends_safely given kept hop moment s
    (Heard (message.Heard from to last bits)) acked safe = silent given kept hop moment s acked
sends_safely given kept hop moment s Timeout acked safe = silent given kept hop moment
    (record s { cursor = s.first }) acked
sends_safely given kept hop moment s (Refused refusal) acked safe =
    either (is_unsure refusal) (record s { ready = false }) s (λ x. SendsSafely given kept hop moment (x, None))
    (silent given kept hop moment (record s { ready = false }) acked) (silent given kept hop moment s acked)
sends_safely given kept hop moment s Nothing acked safe = silent given kept hop moment s acked
sends_safely given kept hop moment s Other acked safe = silent given kept hop moment s acked

-- ---- a safe state stays safe

under_later : {P : Type 0} (xs ys : List (Numbered P)) (number limit : ℕ) (payload : P) → IsPrefix xs ys
    → IsUnder xs number limit payload → IsUnder ys number limit payload
under_later xs ys number limit payload p under =
    record {
      counted = under.counted;
      found = get_in_front xs p.0 (number - 1)
          (record { number = number; limit = limit; payload = payload }) p.1 under.found;
    }

pub safe_later : (given more : List (Numbered (List ℕ))) (kept rest : ℕ) → IsPrefix given more → kept ≤ rest
    → (m : Message (List ℕ)) → IsSafe given kept m → IsSafe more rest m
safe_later given more kept rest p below
    (message.Data from to number limit payload) safe = under_later given more number limit payload p safe
safe_later given more kept rest p below (message.Custody from to last) safe = omega (arith, safe, below)
safe_later given more kept rest p below (message.Refused from to number refusal) safe = tt
safe_later given more kept rest p below (message.Heard from to last bits) safe = tt

pub event_later : (given more : List (Numbered (List ℕ))) (kept rest : ℕ) → IsPrefix given more → kept ≤ rest
    → (event : OutEvent (List ℕ)) → IsSafeEvent given kept event → IsSafeEvent more rest event
event_later given more kept rest p below (Heard m) safe = safe_later given more kept rest p below m safe
event_later given more kept rest p below
    (Fetched number limit payload) safe = under_later given more number limit payload p safe
event_later given more kept rest p below (Turn is_open) safe = tt
event_later given more kept rest p below (WindowIs first next) safe = tt
event_later given more kept rest p below (Picked number) safe = tt
event_later given more kept rest p below Nothing safe = tt
event_later given more kept rest p below Released safe = tt
event_later given more kept rest p below Unchanged safe = tt
event_later given more kept rest p below (Refused refusal) safe = tt
event_later given more kept rest p below Other safe = tt
event_later given more kept rest p below Timeout safe = tt

pub ask_later : (hop : HopId) (kept rest : ℕ) → kept ≤ rest → (ask : Ask) → IsSafeAsk hop kept ask
    → IsSafeAsk hop rest ask
ask_later hop kept rest below (Command (command.Release to number)) safe = omega (arith, safe, below)
ask_later hop kept rest below (Command (command.Take peer number to stamp limit payload)) safe = tt
ask_later hop kept rest below (Command (command.Pick to now)) safe = tt
ask_later hop kept rest below (Query (query.Fetch to number)) safe = safe
ask_later hop kept rest below (Query (query.Window to)) safe = tt
ask_later hop kept rest below (Query (query.Show to)) safe = tt

pub acked_later : (kept rest : ℕ) → kept ≤ rest → (acked : Option ℕ) → IsKept kept acked → IsKept rest acked
acked_later kept rest below None safe = tt
acked_later kept rest below (Some a) safe = omega (arith, safe, below)

-- ---- the receiving core

-- a request of a receiving core is a Take of a picked datagram
abbrev pub IsSafeTake : PeerId → List (Numbered (List ℕ)) → Ask → Type 0
IsSafeTake peer given (Command (command.Take from number to stamp limit payload)) = (from ≡ peer)
    × IsUnder given number limit payload
IsSafeTake peer given (Command (command.Pick to now)) = ⊥
IsSafeTake peer given (Command (command.Release to number)) = ⊥
IsSafeTake peer given (Query any) = ⊥

pub take_later : (peer : PeerId) (given more : List (Numbered (List ℕ))) → IsPrefix given more → (ask : Ask)
    → IsSafeTake peer given ask → IsSafeTake peer more ask
take_later peer given more p (Command (command.Take from number to stamp limit payload)) safe =
    (safe.0, under_later given more number limit payload p safe.1)
take_later peer given more p (Command (command.Pick to now)) safe = safe
take_later peer given more p (Command (command.Release to number)) safe = safe
take_later peer given more p (Query any) safe = safe

-- the reply to the Take of a number acknowledges only kept ones
abbrev pub IsTrueAnswer : ℕ → ℕ → TakeAnswer → Type 0
IsTrueAnswer kept number answer.Taken = number ≤ kept
IsTrueAnswer kept number (answer.Already last) = last ≤ kept
IsTrueAnswer kept number (answer.Refused (Gap expected)) = expected ≤ kept + 1
IsTrueAnswer kept number (answer.Refused refusal) = Unit {0}
IsTrueAnswer kept number answer.Other = Unit {0}

pub answer_later : (kept rest number : ℕ) → kept ≤ rest → (a : TakeAnswer) → IsTrueAnswer kept number a
    → IsTrueAnswer rest number a
answer_later kept rest number below answer.Taken is = omega (arith, is, below)
answer_later kept rest number below (answer.Already last) is = omega (arith, is, below)
answer_later kept rest number below (answer.Refused (Gap expected)) is = omega (arith, is, below)
answer_later kept rest number below (answer.Refused refusal) is = tt
answer_later kept rest number below answer.Other is = tt

-- the numbers of Takes
abbrev pub take_number : Ask → List ℕ
take_number (Command (command.Take from number to stamp limit payload)) = number ∷ []
take_number (Command (command.Pick to now)) = []
take_number (Command (command.Release to number)) = []
take_number (Query any) = []

abbrev pub numbers_in : List Ask → List ℕ
numbers_in [] = []
numbers_in (ask ∷ asks) = take_number ask ++ numbers_in asks

-- the number that waits, if one does
abbrev pub waiting : Option ℕ → List ℕ
waiting None = []
waiting (Some number) = number ∷ []

-- its new state, requests and messages on a packet
pub record HearsSafely (given : List (Numbered (List ℕ))) (kept : ℕ) (peer : PeerId) (hop : HopId) (stamp : ℕ)
    (r : Receiver) (result : ReceivingResult) : Type 0 where
  pub asks : AllByRecursion (IsSafeTake peer given) (receiver_asks peer hop stamp result.1)
  pub sends : AllByRecursion (IsSafe given kept) (receiver_sends result.1)
  pub pending : waiting r.pending ++ numbers_in (receiver_asks peer hop stamp result.1) ≡ waiting result.0.pending

deaf : (given : List (Numbered (List ℕ))) (kept : ℕ) (peer : PeerId) (hop : HopId) (stamp : ℕ) (r : Receiver)
    → HearsSafely given kept peer hop stamp r (r, None)
deaf given kept peer hop stamp r = record { asks = tt; sends = tt; pending = append-nil (waiting r.pending) }

nothing_waits : (o : Option ℕ) → is_none o ≡ true → waiting o ≡ []
nothing_waits None is = refl
nothing_waits (Some n) is = absurd (true≢false (sym is))

pub either_known : {A : Type 0} (b : Bool) (x y : A) (P : A → Type 0) → (b ≡ true → P x) → P y → P (if b then x else y)
either_known true x y P p q = p refl
either_known false x y P p q = q

pub hears_safely : (given : List (Numbered (List ℕ))) (kept : ℕ) (peer : PeerId) (hop : HopId) (stamp : ℕ)
    (r : Receiver) (m : Message (List ℕ))
    → IsSafe given kept m → HearsSafely given kept peer hop stamp r (receiving_step r (in_event.Heard m))
hears_safely given kept peer hop stamp r (message.Data from to number limit payload) safe =
    either_known ((from.0 == r.peer.0) && (to.0 == r.own.0) && is_none r.pending)
    (record r { pending = Some number }, Some (in_action.Take number limit payload)) (r, None)
    (HearsSafely given kept peer hop stamp r)
    (λ test. record {
      asks = ((refl, safe), tt);
      sends = tt;
      pending = ap (λ l. l ++ number ∷ [])
          (nothing_waits r.pending (and_parts ((from.0 == r.peer.0) && (to.0 == r.own.0)) (is_none r.pending) test).1);
    })
    (deaf given kept peer hop stamp r)
hears_safely given kept peer hop stamp r (message.Custody from to last) safe = deaf given kept peer hop stamp r
hears_safely given kept peer hop stamp r
    (message.Refused from to number refusal) safe = deaf given kept peer hop stamp r
hears_safely given kept peer hop stamp r (message.Heard from to last bits) safe = deaf given kept peer hop stamp r

-- its message on the reply
pub reply_safe : (given : List (Numbered (List ℕ))) (kept : ℕ) (r : Receiver) (number : ℕ) (a : TakeAnswer)
    → IsTrueAnswer kept number a → AllByRecursion (IsSafe given kept) (receiver_sends (take_reply r number a))
reply_safe given kept r number answer.Taken is = (is, tt)
reply_safe given kept r number (answer.Already last) is = (is, tt)
reply_safe given kept r number (answer.Refused (Gap expected)) is =
    either (expected == 0) None (custody_message r (expected - 1))
    (λ a. AllByRecursion (IsSafe given kept) (receiver_sends a)) tt (omega (arith, is), tt)
reply_safe given kept r number (answer.Refused refusal) is =
    either (is_reported_refusal refusal) (refusal_message r number refusal) None
    (λ a. AllByRecursion (IsSafe given kept) (receiver_sends a)) (tt, tt) tt
reply_safe given kept r number answer.Other is = tt

reply_asks_none : (peer : PeerId) (hop : HopId) (stamp : ℕ) (r : Receiver) (number : ℕ) (a : TakeAnswer)
    → receiver_asks peer hop stamp (take_reply r number a) ≡ []
reply_asks_none peer hop stamp r number answer.Taken = refl
reply_asks_none peer hop stamp r number (answer.Already last) = refl
reply_asks_none peer hop stamp r number (answer.Refused (Gap expected)) =
    either (expected == 0) None (custody_message r (expected - 1)) (λ a. receiver_asks peer hop stamp a ≡ []) refl refl
reply_asks_none peer hop stamp r number (answer.Refused refusal) =
    either (is_reported_refusal refusal) (refusal_message r number refusal) None
    (λ a. receiver_asks peer hop stamp a ≡ []) refl refl
reply_asks_none peer hop stamp r number answer.Other = refl

-- its new state, requests and messages on the reply to its Take
pub record AnswersSafely (given : List (Numbered (List ℕ))) (kept : ℕ) (peer : PeerId) (hop : HopId) (stamp : ℕ)
    (result : ReceivingResult) : Type 0 where
  pub asks : receiver_asks peer hop stamp result.1 ≡ []
  pub sends : AllByRecursion (IsSafe given kept) (receiver_sends result.1)
  pub pending : result.0.pending ≡ None

pub answers_safely : (given : List (Numbered (List ℕ))) (kept : ℕ) (peer : PeerId) (hop : HopId) (stamp : ℕ)
    (r : Receiver) (number : ℕ) (a : TakeAnswer)
    → r.pending ≡ Some number → IsTrueAnswer kept number a
    → AnswersSafely given kept peer hop stamp (receiving_step r (in_event.Answered a))
answers_safely given kept peer hop stamp r number a waits is =
    subst (λ (o : Option ℕ). AnswersSafely given kept peer hop stamp (after_answer r o a)) (sym waits)
    (record {
      asks = reply_asks_none peer hop stamp r number a;
      sends = reply_safe given kept r number a is;
      pending = refl;
    })
