-- The invariant of the lower end: the datagrams that it took are a prefix of those picked for it, and its replies
-- acknowledge only those.
use Rattle.std.proofs.Common.{ℕ, zero, suc, ◌≡◌, ◌+◌, ◌-◌, ◌^◌, ◌≤◌, Bool, true, false, true≢false, ◌==◌, nat_le}
use Rattle.std.proofs.Common.{nat_lt, not, max, cond, if◌then◌else◌, ◌⊎◌, inl, inr, List, [], ◌∷◌, ◌++◌}
use Rattle.std.proofs.Common.{length, map, get_or, set, take, replicate, refl, arith, sym, ◌∙◌, ap, subst, Option}
use Rattle.std.proofs.Common.{Some, None, append_assoc}
use Rattle.std.specs.Prelude.{slice_get}
use Rattle.std.specs.List.{AllByRecursion}
use Rattle.std.proofs.Math.Seq.{take-length}
use Rattle.std.proofs.lemmas.Bool.{cases_eq, eq-eqb, ne_eqb}
use Rattle.std.proofs.lemmas.List.{append-nil, get_or-set_same, length-append, length-take}
use Rattle.std.proofs.lemmas.List.{map-append, take-append-le, take-take}
use Rattle.rly_core.specs.declared.ids.HopId.{HopId}
use Rattle.rly_core.specs.declared.ids.PeerId.{PeerId}
use Rattle.rly_core.specs.declared.params.Params.{Params}
use Rattle.rly_core.specs.declared.refusal.Refusal.TheVariants as refusal
use Rattle.rly_hop.specs.Receiver.{Receiver}
use Rattle.rly_machine.specs.declared.command.Ask.{Ask}
use Rattle.rly_machine.specs.declared.command.Ask.TheVariants as ask
use Rattle.rly_machine.specs.declared.command.Command.{Command}
use Rattle.rly_machine.specs.declared.command.Command.TheVariants.{Take, Pick, Release}
use Rattle.rly_machine.specs.declared.reply.Reply.{Reply}
use Rattle.rly_machine.specs.declared.reply.Reply.TheVariants as reply
use Rattle.rly_machine.specs.Accepted.{is_accepted, max_seq, unless}
use Rattle.rly_machine.specs.Fold.{fold}
use Rattle.rly_machine.specs.History.{accepted_by, is_failure}
use Rattle.rly_machine.specs.State.{State, has_hop, has_peer, last_at, new_state}
use Rattle.rly_machine.specs.Step.{step}
use Rattle.rly_machine.specs.Take.{is_full, take_refusal}
use Rattle.rly_machine.proofs.Folding.{fold_append}
use Rattle.rly_machine.proofs.RealReplies.{unaccepted}
use Rattle.rly_machine.proofs.Refusals.{among, may_take}
use Rattle.rly_world.specs.PairCores.{is_for_receiver, take_answer}
use Rattle.rly_world.specs.PairEnd.{Asked, End, CallFate, Replied, Done, Unsure, Broken, DeviceRead, OutOfMemory}
use Rattle.rly_world.specs.PairEnd.{accepted_after, after_call, harm_by, is_made, durable_commands, may_go, reply_at, reply_by}
use Rattle.rly_world.specs.PairEnd.{state_of, reported_by, with_crash, with_made, with_other, end_after_answer}
use Rattle.rly_world.specs.PairPayloads.{IsPrefix, Numbered, taken_payloads, taken_by}
use Rattle.rly_world.proofs.PairCoreSteps.{IsSafeTake, IsTrueAnswer, answer_later, either, either_known, take_later}
use Rattle.rly_world.proofs.PairCoreSteps.{take_number, waiting}
use Rattle.rly_world.proofs.PairFetch.{IsUnder}
use Rattle.rly_world.proofs.PairLists.{all_append, all_weaker, prefix_again, prefix_length, prefix_more}
use Rattle.rly_world.proofs.PairLists.{prefix_of_take, prefix_take}
use Rattle.rly_world.proofs.PairRuns.{takes_from_new, takes_step, taken_append}
use Rattle.rly_world.proofs.PairUpper.{grown, more_cases, told_within}

-- the datagrams taken by more commands extend those taken before
pub taken_front : (peer : PeerId) (s : State (List ℕ)) (xs ys : List (Command (List ℕ))) → IsPrefix xs ys
    → IsPrefix (taken_payloads length peer s xs) (taken_payloads length peer s ys)
taken_front peer s xs ys p =
    (taken_payloads length peer (fold length s xs) p.0, ap (taken_payloads length peer s) p.1 ∙ taken_append length peer s xs p.0)

-- the number that an end has durably taken
abbrev pub kept_by : PeerId → End → ℕ
kept_by peer e = length (taken_payloads length peer (new_state e.params) (durable_commands e))

-- the numbers of the Takes of one core, and the one that it waits for
abbrev pub numbers_at : ℕ → List Asked → List ℕ
numbers_at core [] = []
numbers_at core (c ∷ calls) = (if c.core == core then take_number c.ask else []) ++ numbers_at core calls

abbrev pub idle : Receiver
idle = record { own = record { 0 = 0 }; peer = record { 0 = 0 }; pending = None }

abbrev pub pending_at : List Receiver → ℕ → List ℕ
pending_at receivers core = waiting (get_or receivers core idle).pending

-- a pending reply acknowledges only datagrams taken by its position
abbrev pub IsTrueTake : ℕ → Ask → Reply → Type 0
IsTrueTake kept (ask.Command (Take from number hop stamp limit payload)) r = IsTrueAnswer kept number (take_answer r)
IsTrueTake kept (ask.Command (Pick hop now)) r = ⊥
IsTrueTake kept (ask.Command (Release hop number)) r = ⊥
IsTrueTake kept (ask.Query q) r = ⊥

pub record IsTrueReply (peer : PeerId) (params : Params) (accepted : List (Command (List ℕ)))
    (r : Replied) : Type 0 where
  pub position : r.position ≤ length accepted
  pub told : IsTrueTake (length (taken_payloads length peer (new_state params) (take r.position accepted))) r.call.ask r.reply

abbrev pub calls_of : End → List Asked
calls_of e = map (λ (r : Replied). r.call) e.replied ++ e.asked

-- the lower end, if the upper has durably given these
pub record IsLower (peer : PeerId) (given : List (Numbered (List ℕ))) (e : End)
    (receivers : List Receiver) : Type 0 where
  pub there : has_peer (new_state {P = List ℕ} e.params) peer ≡ true
  pub told : e.told ≤ length e.accepted
  pub asked : AllByRecursion (λ c. IsSafeTake peer given c.ask) e.asked
  pub replied : AllByRecursion (IsTrueReply peer e.params e.accepted) e.replied
  pub pending : (core : ℕ) → numbers_at core (calls_of e) ≡ pending_at receivers core
  pub order : IsPrefix (taken_payloads length peer (new_state e.params) e.accepted) given

pub lower_later : (peer : PeerId) (given more : List (Numbered (List ℕ))) (e : End) (receivers : List Receiver)
    → IsPrefix given more → IsLower peer given e receivers → IsLower peer more e receivers
lower_later peer given more e receivers p low = record {
  there = low.there;
  told = low.told;
  asked = all_weaker (λ (c : Asked). IsSafeTake peer given c.ask) (λ (c : Asked). IsSafeTake peer more c.ask)
      (λ c. take_later peer given more p c.ask) e.asked low.asked;
  replied = low.replied;
  pending = low.pending;
  order = prefix_again (taken_payloads length peer (new_state e.params) e.accepted) given more low.order p;
}

-- ---- the datagrams that a command takes

-- a Take of the peer takes the datagram that was picked under its number
abbrev pub TakesGiven : PeerId → List (Numbered (List ℕ)) → Command (List ℕ) → Type 0
TakesGiven peer given (Take from number hop stamp limit payload) = from.0 ≡ peer.0 → IsUnder given number limit payload
TakesGiven peer given (Pick hop now) = Unit {0}
TakesGiven peer given (Release hop number) = Unit {0}

abbrev pub AskTakesGiven : PeerId → List (Numbered (List ℕ)) → Ask → Type 0
AskTakesGiven peer given (ask.Command c) = TakesGiven peer given c
AskTakesGiven peer given (ask.Query q) = Unit {0}

pub own_takes : (peer : PeerId) (given : List (Numbered (List ℕ))) (an : Ask) → IsSafeTake peer given an
    → AskTakesGiven peer given an
own_takes peer given (ask.Command (Take from number hop stamp limit payload)) safe = λ same. safe.1
own_takes peer given (ask.Command (Pick hop now)) safe = tt
own_takes peer given (ask.Command (Release hop number)) safe = tt
own_takes peer given (ask.Query q) safe = tt

pub others_take : (peer : PeerId) (given : List (Numbered (List ℕ))) (an : Ask) → is_for_receiver peer an ≡ false
    → AskTakesGiven peer given an
others_take peer given (ask.Command (Take from number hop stamp limit payload)) other = λ same. absurd
    (true≢false (sym (eq-eqb from.0 peer.0 same) ∙ other))
others_take peer given (ask.Command (Pick hop now)) other = tt
others_take peer given (ask.Command (Release hop number)) other = tt
others_take peer given (ask.Query q) other = tt

-- one command took nothing, or a picked datagram
record IsGiven (given more : List (Numbered (List ℕ))) : Type 0 where
  one : (more ≡ []) ⊎ ((x : Numbered (List ℕ)) × (more ≡ x ∷ []) × (slice_get given (x.number - 1) ≡ Some x))

is_given : (peer : PeerId) (given : List (Numbered (List ℕ))) (c : Command (List ℕ)) (r : Reply)
    → TakesGiven peer given c → IsGiven given (taken_by peer c r)
is_given peer given (Take from number hop stamp limit payload) (reply.Taken id) takes =
    let x : Numbered (List ℕ) = record { number = number; limit = limit; payload = payload } in
    elim (cases_eq from.0 peer.0) [
      | inl same ↦ record {
        one = inr
            (x, ap (λ b. cond b (x ∷ []) []) (eq-eqb from.0 peer.0 same), (takes same).found);
      }
      | inr differ ↦ record { one = inl (ap (λ b. cond b (x ∷ []) []) (ne_eqb from.0 peer.0 differ)) }
    ]
is_given peer given (Take from number hop stamp limit payload) (reply.Already last) takes = record { one = inl refl }
is_given peer given (Take from number hop stamp limit payload) (reply.Picked n id expired dropped) takes =
    record { one = inl refl }
is_given peer given (Take from number hop stamp limit payload) (reply.Nothing expired) takes = record { one = inl refl }
is_given peer given (Take from number hop stamp limit payload) (reply.Released count) takes = record { one = inl refl }
is_given peer given (Take from number hop stamp limit payload) reply.Unchanged takes = record { one = inl refl }
is_given peer given (Take from number hop stamp limit payload) (reply.Bytes bytes limit') takes =
    record { one = inl refl }
is_given peer given (Take from number hop stamp limit payload) (reply.WindowIs first next) takes =
    record { one = inl refl }
is_given peer given (Take from number hop stamp limit payload) (reply.Shown status) takes = record { one = inl refl }
is_given peer given (Take from number hop stamp limit payload) (reply.Refused refusal) takes = record { one = inl refl }
is_given peer given (Pick hop now) r takes = record { one = inl refl }
is_given peer given (Release hop number) r takes = record { one = inl refl }

-- one more command keeps the order
order_more : (peer : PeerId) (given : List (Numbered (List ℕ))) (params : Params) (accepted : List (Command (List ℕ)))
    (c : Command (List ℕ))
    → has_peer (new_state {P = List ℕ} params) peer ≡ true → TakesGiven peer given c
    → IsPrefix (taken_payloads length peer (new_state params) accepted) given
    → IsPrefix (taken_payloads length peer (new_state params) (accepted ++ c ∷ [])) given
order_more peer given params accepted c there takes order =
    let s : State (List ℕ) = fold length (new_state params) accepted in
    let old : List (Numbered (List ℕ)) = taken_payloads length peer (new_state params) accepted in
    let more : List (Numbered (List ℕ)) = taken_by peer c (step length s c).1 in
    let found = among _ peer.0 there in
    let from_new = takes_from_new length params accepted peer there in
    let now = takes_step length (fold length (new_state params) accepted) c peer found.0 in
    let all : taken_payloads length peer (new_state params) (accepted ++ c ∷ []) ≡ old ++ more =
    taken_append length peer (new_state params) accepted (c ∷ []) ∙ ap (λ l. old ++ l) (append-nil more) in
    subst (λ (l : List (Numbered (List ℕ))). IsPrefix l given) (sym all)
    (elim (is_given peer given c (step length s c).1 takes).one [
      | inl none ↦ subst (λ (l : List (Numbered (List ℕ))). IsPrefix (old ++ l) given) (sym none)
          (subst (λ (l : List (Numbered (List ℕ))). IsPrefix l given) (sym (append-nil old)) order)
      | inr one ↦ (let at = now.numbered 0 one.0 (ap (λ (l : List (Numbered (List ℕ))). slice_get l 0) one.1) in
          let last = from_new.last in
          let place : one.0.number - 1 ≡ length (taken_payloads length peer (new_state params) accepted) = omega
          (arith, at, last) in
          subst (λ (l : List (Numbered (List ℕ))). IsPrefix (old ++ l) given) (sym one.1)
          (prefix_more old given one.0 order (ap (slice_get given) (sym place) ∙ one.2)))
    ])

-- ---- a call is made

replied_grown : (peer : PeerId) (params : Params) (accepted more : List (Command (List ℕ))) (r : Replied)
    → IsTrueReply peer params accepted r → IsTrueReply peer params (accepted ++ more) r
replied_grown peer params accepted more r is = record {
  position = omega (arith, is.position, length-append accepted more);
  told = subst (λ (l : List (Command (List ℕ))). IsTrueTake
      (length (taken_payloads length peer (new_state params) l)) r.call.ask r.reply)
      (sym (take-append-le r.position accepted more is.position)) is.told;
}

lower_grown : (peer : PeerId) (given : List (Numbered (List ℕ))) (e : End) (receivers : List Receiver)
    (more : List (Command (List ℕ))) (harm : ℕ)
    → IsPrefix (taken_payloads length peer (new_state e.params) (e.accepted ++ more)) given → IsLower peer given e receivers
    → IsLower peer given (grown e more harm) receivers
lower_grown peer given e receivers more harm order low = record {
  there = low.there;
  told = omega (arith, low.told, length-append e.accepted more);
  asked = low.asked;
  replied = all_weaker (IsTrueReply peer e.params e.accepted) (IsTrueReply peer e.params (e.accepted ++ more))
      (replied_grown peer e.params e.accepted more) e.replied low.replied;
  pending = low.pending;
  order = order;
}

takes_of : (peer : PeerId) (given : List (Numbered (List ℕ))) (an : Ask) (c : Command (List ℕ)) → an ≡ ask.Command c
    → AskTakesGiven peer given an → TakesGiven peer given c
takes_of peer given an c is takes = subst (AskTakesGiven peer given) is takes

pub lower_called : (peer : PeerId) (given : List (Numbered (List ℕ))) (e : End) (receivers : List Receiver) (an : Ask)
    (outcome : CallFate)
    → AskTakesGiven peer given an → IsLower peer given e receivers
    → IsLower peer given (after_call e an outcome) receivers
lower_called peer given e receivers an outcome takes low =
    more_cases (state_of e) an outcome (λ more. IsLower peer given (grown e more (harm_by outcome)) receivers)
    (lower_grown peer given e receivers [] (harm_by outcome)
    (subst (λ (l : List (Command (List ℕ))). IsPrefix (taken_payloads length peer (new_state e.params) l) given)
    (sym (append-nil e.accepted)) low.order) low)
    (λ c is accepts. lower_grown peer given e receivers (c ∷ []) (harm_by outcome)
    (order_more peer given e.params e.accepted c low.there (takes_of peer given an c is takes) low.order) low)

kept_called : (peer : PeerId) (e : End) (an : Ask) (outcome : CallFate) → e.told ≤ length e.accepted
    → kept_by peer (after_call e an outcome) ≡ kept_by peer e
kept_called peer e an outcome told =
    ap (λ (l : List (Command (List ℕ))). length (taken_payloads length peer (new_state e.params) l))
    (take-append-le e.told e.accepted (if is_made outcome then accepted_by an (reply_at e an) else []) told)

-- a check's reply acknowledges only taken datagrams
record IsTrueCheck (kept number : ℕ) (o : Option Reply) : Type 0 where
  refuses : (r : Reply) → o ≡ Some r → IsTrueAnswer kept number (take_answer r)

row : (kept number : ℕ) (b : Bool) (r : Reply) (rest : Option Reply) → IsTrueAnswer kept number (take_answer r)
    → IsTrueCheck kept number rest → IsTrueCheck kept number (cond b (Some r) rest)
row kept number true r rest this others = record {
  refuses = λ x is.
      (let same : r ≡ x = (cc) in subst (λ (y : Reply). IsTrueAnswer kept number (take_answer y)) same this);
}
row kept number false r rest this others = others

passes : (kept number : ℕ) → IsTrueCheck kept number None
passes kept number = record {
  refuses = λ r is. absurd
      (let e : (let o : Option Reply = None in o) ≡ Some r = is in cc);
}

checks : (s : State (List ℕ)) (peer : PeerId) (number : ℕ) (hop : HopId) (stamp limit bytes : ℕ)
    → IsTrueCheck (last_at s peer) number (take_refusal length s peer number hop stamp limit bytes)
checks s peer number hop stamp limit bytes =
    row (last_at s peer) number (not (has_peer s peer)) (reply.Refused refusal.NoSuchPeer) _ tt
    (row (last_at s peer) number (not (has_hop s hop)) (reply.Refused refusal.NoSuchHop) _ tt
    (row (last_at s peer) number (nat_le (2 ^ 52) stamp) (reply.Refused refusal.BadMoment) _ tt
    (row (last_at s peer) number (nat_le (2 ^ 40) limit) (reply.Refused refusal.BadMoment) _ tt
    (row (last_at s peer) number (nat_lt s.params.payload bytes) (reply.Refused refusal.TooLong) _ tt
    (row (last_at s peer) number (nat_le number (last_at s peer)) (reply.Already (last_at s peer)) _ (omega arith)
    (row (last_at s peer) number (nat_lt (last_at s peer + 1) number)
    (reply.Refused (refusal.Gap (last_at s peer + 1))) _ (omega arith)
    (row (last_at s peer) number (is_full length s bytes) (reply.Refused refusal.Full) _ tt
    (row (last_at s peer) number (nat_le max_seq s.seq) (reply.Refused refusal.Spent) _ tt
    (passes (last_at s peer) number)))))))))

comes_true : (s : State (List ℕ)) (peer : PeerId) (number : ℕ) (o : Option Reply) (accepted : State (List ℕ) × Reply)
    → IsTrueCheck (last_at s peer) number o
    → (o ≡ None → IsTrueAnswer (last_at accepted.0 peer) number (take_answer accepted.1))
    → IsTrueAnswer (last_at (unless o s accepted).0 peer) number (take_answer (unless o s accepted).1)
comes_true s peer number None accepted check may = may refl
comes_true s peer number (Some r) accepted check may = check.refuses r refl

answer_true : (s : State (List ℕ)) (peer : PeerId) (number : ℕ) (hop : HopId) (stamp limit : ℕ) (payload : List ℕ)
    → IsTrueAnswer (last_at (step length s (Take peer number hop stamp limit payload)).0 peer) number
    (take_answer (step length s (Take peer number hop stamp limit payload)).1)
answer_true s peer number hop stamp limit payload =
    comes_true s peer number (take_refusal length s peer number hop stamp limit (length payload)) _
    (checks s peer number hop stamp limit (length payload))
    (λ none. (let may = may_take length s peer number hop stamp limit (length payload) none in
    let last : get_or (set s.lasts (peer.0 - 1) number) (peer.0 - 1) 0 ≡ number = get_or-set_same s.lasts
    (peer.0 - 1) number 0 (omega (arith, may.peer_from, may.peer_to)) in
    omega (arith, last)))

-- the state after a command was made, accepted or not
state_made : (s : State (List ℕ)) (c : Command (List ℕ))
    → fold length s (accepted_by (ask.Command c) (step length s c).1) ≡ (step length s c).0
state_made s c =
    elim (is_accepted (step length s c).1) as
    (λ b. is_accepted (step length s c).1 ≡ b → fold length s (if b then c ∷ [] else []) ≡ (step length s c).0) [
      | true ↦ λ is. refl
      | false ↦ λ is. sym (unaccepted length s c is)
    ] refl

zero_more : (n : ℕ) → 0 + n ≡ n
zero_more n = omega arith

due_true : (peer : PeerId) (given : List (Numbered (List ℕ))) (e : End) (an : Ask) (outcome : CallFate)
    → has_peer (new_state {P = List ℕ} e.params) peer ≡ true → IsSafeTake peer given an
    → IsTrueTake (length (taken_payloads length peer (new_state e.params) (accepted_after e an outcome))) an
    (reply_by outcome (reply_at e an))
due_true peer given e (ask.Command (Take from number hop stamp limit payload)) Done there safe =
    let c : Command (List ℕ) = Take from number hop stamp limit payload in
    let all : List (Command (List ℕ)) =
    accepted_after e (ask.Command (Take from number hop stamp limit payload)) Done in
    let whole : fold length (new_state e.params)
    (accepted_after e (ask.Command (Take from number hop stamp limit payload)) Done) ≡
    (step length (state_of e) (Take from number hop stamp limit payload)).0 =
    fold_append length (new_state e.params) e.accepted (accepted_by (ask.Command c) (step length (state_of e) c).1)
    ∙ state_made (state_of e) c in
    let last : last_at (step length (state_of e) (Take from number hop stamp limit payload)).0 peer ≡ length
    (taken_payloads length peer (new_state e.params)
    (accepted_after e (ask.Command (Take from number hop stamp limit payload)) Done)) =
    ap (λ (s : State (List ℕ)). last_at s peer) (sym whole) ∙ (takes_from_new length e.params all peer there).last
    ∙ zero_more (length (taken_payloads length peer (new_state e.params) all)) in
    subst (λ (kept : ℕ). IsTrueAnswer kept number
    (take_answer (step length (state_of e) (Take from number hop stamp limit payload)).1)) last
    (subst (λ (p : PeerId). IsTrueAnswer
    (last_at (step length (state_of e) (Take from number hop stamp limit payload)).0 p) number
    (take_answer (step length (state_of e) (Take from number hop stamp limit payload)).1)) safe.0
    (answer_true (state_of e) from number hop stamp limit payload))
due_true peer given e (ask.Command (Take from number hop stamp limit payload)) (Unsure stands) there safe = tt
due_true peer given e (ask.Command (Take from number hop stamp limit payload)) Broken there safe = tt
due_true peer given e (ask.Command (Take from number hop stamp limit payload)) DeviceRead there safe = tt
due_true peer given e (ask.Command (Take from number hop stamp limit payload)) OutOfMemory there safe = tt
due_true peer given e (ask.Command (Pick hop now)) outcome there safe = absurd safe
due_true peer given e (ask.Command (Release hop number)) outcome there safe = absurd safe
due_true peer given e (ask.Query q) outcome there safe = absurd safe

-- as many as the reply acknowledges
due_told : (peer : PeerId) (given : List (Numbered (List ℕ))) (e : End) (an : Ask) (outcome : CallFate)
    → has_peer (new_state {P = List ℕ} e.params) peer ≡ true → IsSafeTake peer given an
    → IsTrueTake (length (taken_payloads length peer (new_state e.params)
    (take (reported_by outcome (length (accepted_after e an outcome))) (accepted_after e an outcome)))) an
    (reply_by outcome (reply_at e an))
due_told peer given e an Done there safe =
    subst (λ (l : List (Command (List ℕ))). IsTrueTake (length (taken_payloads length peer (new_state e.params) l)) an
    (reply_by Done (reply_at e an))) (sym (take-length (accepted_after e an Done)))
    (due_true peer given e an Done there safe)
due_told peer given e (ask.Command (Take from number hop stamp limit payload)) (Unsure stands) there safe = tt
due_told peer given e (ask.Command (Take from number hop stamp limit payload)) Broken there safe = tt
due_told peer given e (ask.Command (Take from number hop stamp limit payload)) DeviceRead there safe = tt
due_told peer given e (ask.Command (Take from number hop stamp limit payload)) OutOfMemory there safe = tt
due_told peer given e (ask.Command (Pick hop now)) (Unsure stands) there safe = absurd safe
due_told peer given e (ask.Command (Pick hop now)) Broken there safe = absurd safe
due_told peer given e (ask.Command (Pick hop now)) DeviceRead there safe = absurd safe
due_told peer given e (ask.Command (Pick hop now)) OutOfMemory there safe = absurd safe
due_told peer given e (ask.Command (Release hop number)) (Unsure stands) there safe = absurd safe
due_told peer given e (ask.Command (Release hop number)) Broken there safe = absurd safe
due_told peer given e (ask.Command (Release hop number)) DeviceRead there safe = absurd safe
due_told peer given e (ask.Command (Release hop number)) OutOfMemory there safe = absurd safe
due_told peer given e (ask.Query q) (Unsure stands) there safe = absurd safe
due_told peer given e (ask.Query q) Broken there safe = absurd safe
due_told peer given e (ask.Query q) DeviceRead there safe = absurd safe
due_told peer given e (ask.Query q) OutOfMemory there safe = absurd safe

-- an end that keeps its invariant, and has durably taken at least as many as before
abbrev pub GoesOn : PeerId → List (Numbered (List ℕ)) → List Receiver → ℕ → End → Type 0
GoesOn peer given receivers kept e = IsLower peer given e receivers × (kept ≤ kept_by peer e)

pub lower_made : (peer : PeerId) (given : List (Numbered (List ℕ))) (e : End) (receivers : List Receiver)
    (outcome : CallFate) (calls : List Asked) → e.asked ≡ calls
    → IsLower peer given e receivers → GoesOn peer given receivers (kept_by peer e) (with_made e outcome calls)
lower_made peer given e receivers outcome [] is low = (low, omega arith)
lower_made peer given e receivers outcome (call ∷ calls) is low =
    let asked : AllByRecursion (λ (c : Asked). IsSafeTake peer given c.ask) (call ∷ calls) = subst
    (AllByRecursion (λ (c : Asked). IsSafeTake peer given c.ask)) is low.asked in
    let called = lower_called peer given e receivers call.ask outcome (own_takes peer given call.ask asked.0) low in
    let all : List (Command (List ℕ)) = accepted_after e call.ask outcome in
    let due : Replied = record {
      call = call;
      reply = reply_by outcome (reply_at e call.ask);
      position = reported_by outcome (length (accepted_after e call.ask outcome));
    } in
    let shown : Replied → Asked = λ r. r.call in
    let line : map (λ (r : Replied). r.call) (e.replied ++ due ∷ []) ++ calls ≡ map
    (λ (r : Replied). r.call) e.replied ++ e.asked =
    ap (λ (l : List Asked). l ++ calls) (map-append shown e.replied (due ∷ []))
    ∙ append_assoc (map shown e.replied) (call ∷ []) calls
    ∙ ap (λ (l : List Asked). map shown e.replied ++ l) (sym is) in
    let same = kept_called peer e call.ask outcome low.told in
    either (may_go e call.ask outcome)
    (record (after_call e call.ask outcome) { asked = calls; replied = e.replied ++ due ∷ [] }) e
    (GoesOn peer given receivers (kept_by peer e)) (
      record {
        there = called.there;
        told = called.told;
        asked = asked.1;
        replied = all_append (IsTrueReply peer e.params all) e.replied (due ∷ []) called.replied (
          record {
            position = told_within outcome (length all);
            told = due_told peer given e call.ask outcome low.there asked.0;
          },
          tt,
        );
        pending = λ core. ap (numbers_at core) line ∙ low.pending core;
        order = called.order;
      },
      omega (arith, same),
    )
    (low, omega arith)

-- ---- a reply is given

told_safe : (peer : PeerId) (given : List (Numbered (List ℕ))) (e : End) (receivers : List Receiver) (told : ℕ)
    → told ≤ length e.accepted → e.told ≤ told → IsLower peer given e receivers
    → GoesOn peer given receivers (kept_by peer e) (record e { told = told })
told_safe peer given e receivers told within more low = (
  record {
    there = low.there;
    told = within;
    asked = low.asked;
    replied = low.replied;
    pending = low.pending;
    order = low.order;
  },
  prefix_length (taken_payloads length peer (new_state e.params) (take e.told e.accepted))
      (taken_payloads length peer (new_state e.params) (take told e.accepted))
      (taken_front peer (new_state e.params) (take e.told e.accepted) (take told e.accepted)
      (prefix_take e.told told e.accepted more)),
)

pub lower_told : (peer : PeerId) (given : List (Numbered (List ℕ))) (e : End) (receivers : List Receiver) (r : Reply)
    (position : ℕ) → position ≤ length e.accepted
    → IsLower peer given e receivers → GoesOn peer given receivers (kept_by peer e) (end_after_answer e r position)
lower_told peer given e receivers r position within low =
    either (is_failure r) e.told (max e.told position)
    (λ told. GoesOn peer given receivers (kept_by peer e) (record e { told = told }))
    (told_safe peer given e receivers e.told low.told (omega arith) low)
    (told_safe peer given e receivers (max e.told position) (omega (arith, low.told, within)) (omega arith) low)

-- the datagrams in the core's event are then durably taken
failed_answer : (kept number : ℕ) (r : Reply) → is_failure r ≡ true → IsTrueAnswer kept number (take_answer r)
failed_answer kept number (reply.Taken id) fails = absurd (true≢false (sym fails))
failed_answer kept number (reply.Already last) fails = absurd (true≢false (sym fails))
failed_answer kept number (reply.Refused (refusal.Gap expected)) fails = absurd (true≢false (sym fails))
failed_answer kept number (reply.Refused other) fails = tt
failed_answer kept number (reply.Picked n id expired dropped) fails = tt
failed_answer kept number (reply.Nothing expired) fails = tt
failed_answer kept number (reply.Released count) fails = tt
failed_answer kept number reply.Unchanged fails = tt
failed_answer kept number (reply.Bytes payload limit) fails = tt
failed_answer kept number (reply.WindowIs first next) fails = tt
failed_answer kept number (reply.Shown status) fails = tt

pub answer_told : (peer : PeerId) (e : End) (number : ℕ) (r : Reply) (position : ℕ)
    → IsTrueAnswer (length (taken_payloads length peer (new_state e.params) (take position e.accepted))) number (take_answer r)
    → IsTrueAnswer (kept_by peer (end_after_answer e r position)) number (take_answer r)
answer_told peer e number r position is =
    either_known (is_failure r) e.told (max e.told position)
    (λ told. IsTrueAnswer (length (taken_payloads length peer (new_state e.params) (take told e.accepted))) number
    (take_answer r))
    (λ fails. failed_answer (length (taken_payloads length peer (new_state e.params) (take e.told e.accepted))) number r fails)
    (answer_later (length (taken_payloads length peer (new_state e.params) (take position e.accepted)))
    (length (taken_payloads length peer (new_state e.params) (take (max e.told position) e.accepted))) number
    (prefix_length (taken_payloads length peer (new_state e.params) (take position e.accepted))
    (taken_payloads length peer (new_state e.params) (take (max e.told position) e.accepted))
    (taken_front peer (new_state e.params) (take position e.accepted) (take (max e.told position) e.accepted)
    (prefix_take position (max e.told position) e.accepted (omega arith))))
    (take_answer r) is)

-- ---- another client's call

pub lower_served : (peer : PeerId) (given : List (Numbered (List ℕ))) (e : End) (receivers : List Receiver) (an : Ask)
    (outcome : CallFate) (is_answered : Bool) → is_for_receiver peer an ≡ false
    → IsLower peer given e receivers
    → GoesOn peer given receivers (kept_by peer e) (with_other e an outcome is_answered)
lower_served peer given e receivers an outcome is_answered other low =
    let after : End = after_call e an outcome in
    let called = lower_called peer given e receivers an outcome (others_take peer given an other) low in
    let same = kept_called peer e an outcome low.told in
    either (may_go e an outcome)
    (if is_answered then end_after_answer after (reply_by outcome (reply_at e an)) (length after.accepted) else after) e
    (GoesOn peer given receivers (kept_by peer e))
    (either is_answered (end_after_answer after (reply_by outcome (reply_at e an)) (length after.accepted)) after
    (GoesOn peer given receivers (kept_by peer e))
    (subst (λ (kept : ℕ). GoesOn peer given receivers kept
    (end_after_answer after (reply_by outcome (reply_at e an)) (length after.accepted))) same
    (lower_told peer given after receivers (reply_by outcome (reply_at e an)) (length after.accepted)
    (omega arith) called))
    (called, omega (arith, same)))
    (low, omega arith)

-- ---- a crash

pub new_cores : (n core : ℕ) (r : Receiver) → r.pending ≡ None → pending_at (replicate n r) core ≡ []
new_cores zero core r none = refl
new_cores (suc n) zero r none = ap waiting none
new_cores (suc n) (suc core) r none = new_cores n core r none

pub lower_crashed : (peer : PeerId) (given : List (Numbered (List ℕ))) (e : End) (receivers : List Receiver)
    (count : ℕ) (new : Receiver) (n : ℕ) (opens : Bool) → e.told ≤ n → new.pending ≡ None
    → IsLower peer given e receivers → GoesOn peer given (replicate count new) (kept_by peer e) (with_crash e n opens)
lower_crashed peer given e receivers count new n opens within none low =
    let same = ap (λ (l : List (Command (List ℕ))). length (taken_payloads length peer (new_state e.params) l))
    (take-take e.told n e.accepted within) in (
      record {
        there = low.there;
        told = omega (arith, length-take n e.accepted, low.told, within);
        asked = tt;
        replied = tt;
        pending = λ core. sym (new_cores count core new none);
        order = prefix_again (taken_payloads length peer (new_state e.params) (take n e.accepted))
            (taken_payloads length peer (new_state e.params) e.accepted) given
            (taken_front peer (new_state e.params) (take n e.accepted) e.accepted
            (prefix_of_take n e.accepted)) low.order;
      },
      omega (arith, same),
    )
