-- The invariant of the upper end: it releases only datagrams that the lower has taken, and the replies to its Fetches
-- have picked ones.
use Rattle.std.proofs.Common.{ℕ, ◌≡◌, ◌+◌, ◌<◌, ◌≤◌, Bool, true, false, true≢false, max}
use Rattle.std.proofs.Common.{if◌then◌else◌, inl, inr, List, [], ◌∷◌, ◌++◌, length, take, drop, refl, arith}
use Rattle.std.proofs.Common.{sym, ◌∙◌, ap, subst, None}
use Rattle.std.specs.List.{AllByRecursion}
use Rattle.std.proofs.Math.Seq.{take-length}
use Rattle.std.proofs.lemmas.Bool.{cases_eq, eq-eqb}
use Rattle.std.proofs.lemmas.List.{length-append, length-take, take-append-drop, take-append-le, take-take}
use Rattle.rly_core.specs.declared.ids.HopId.{HopId}
use Rattle.rly_core.specs.declared.params.Params.{Params}
use Rattle.rly_hop.specs.Sender.{Sender}
use Rattle.rly_machine.specs.declared.command.Ask.{Ask}
use Rattle.rly_machine.specs.declared.command.Ask.TheVariants as ask
use Rattle.rly_machine.specs.declared.command.Command.{Command}
use Rattle.rly_machine.specs.declared.command.Command.TheVariants.{Take, Pick, Release}
use Rattle.rly_machine.specs.declared.command.Query.TheVariants as query
use Rattle.rly_machine.specs.declared.reply.Reply.{Reply}
use Rattle.rly_machine.specs.declared.reply.Reply.TheVariants as reply
use Rattle.rly_machine.specs.Accepted.{accept, is_accepted}
use Rattle.rly_machine.specs.Ask.{ask_step}
use Rattle.rly_machine.specs.Fold.{fold}
use Rattle.rly_machine.specs.History.{accepted_by, is_failure}
use Rattle.rly_machine.specs.Pick.{after_pick, pick_refusal}
use Rattle.rly_machine.specs.Query.{query_reply}
use Rattle.rly_machine.specs.Release.{covered_count, release_refusal, with_released}
use Rattle.rly_machine.specs.State.{HopState, State, has_hop, hop_at, new_state}
use Rattle.rly_machine.specs.Step.{step}
use Rattle.rly_machine.specs.Take.{take_refusal, with_taken}
use Rattle.rly_machine.proofs.Folding.{fold_append}
use Rattle.rly_machine.proofs.Refusals.{among, may_pick, may_release, may_take}
use Rattle.rly_world.specs.PairCores.{fetched_event, is_for_sender, sender_event}
use Rattle.rly_world.specs.PairEnd.{Asked, End, CallFate, Replied, Done, Unsure, Broken, DeviceRead, OutOfMemory}
use Rattle.rly_world.specs.PairEnd.{accepted_after, after_call, harm_by, is_made, durable_commands, may_go, reply_at, reply_by}
use Rattle.rly_world.specs.PairEnd.{state_of, reported_by, with_crash, with_made, with_other, end_after_answer}
use Rattle.rly_world.specs.PairPayloads.{IsPrefix, Numbered, picked_payloads}
use Rattle.rly_world.proofs.PairCoreSteps.{IsKept, IsSafeAsk, IsSafeEvent, acked_later, ask_later, either, either_known}
use Rattle.rly_world.proofs.PairCoreSteps.{event_later}
use Rattle.rly_world.proofs.PairFetch.{fetched_is_picked}
use Rattle.rly_world.proofs.PairLists.{all_append, all_weaker, prefix_all, prefix_same, prefix_take}
use Rattle.rly_world.proofs.PairRuns.{either_way, flows_fold, flows_from_new, other_hop, own_hop, picked_append}

-- a call adds no command to the accepted ones, or its own, if that is accepted
pub more_cases : (s : State (List ℕ)) (an : Ask) (outcome : CallFate) (Q : List (Command (List ℕ)) → Type 0)
    → Q [] → ((c : Command (List ℕ)) → an ≡ ask.Command c → is_accepted (step length s c).1 ≡ true → Q (c ∷ []))
    → Q (if is_made outcome then accepted_by an (ask_step s an).1 else [])
more_cases s (ask.Query q) outcome Q none one = elim (is_made outcome) as
    (λ b. Q (if b then [] else [])) [ true ↦ none | false ↦ none ]
more_cases s (ask.Command c) outcome Q none one =
    elim (is_made outcome) as (λ b. Q (if b then accepted_by (ask.Command c) (step length s c).1 else [])) [
      | true ↦ elim (is_accepted (step length s c).1) as
          (λ b. is_accepted (step length s c).1 ≡ b → Q (if b then c ∷ [] else [])) [
            | true ↦ λ is. one c refl is
            | false ↦ λ is. none
          ] refl
      | false ↦ none
    ]

-- the datagrams picked by more commands extend those picked before
pub picked_front : (hop : HopId) (s : State (List ℕ)) (xs ys : List (Command (List ℕ))) → IsPrefix xs ys
    → IsPrefix (picked_payloads length hop s xs) (picked_payloads length hop s ys)
picked_front hop s xs ys p =
    (picked_payloads length hop (fold length s xs) p.0, ap (picked_payloads length hop s) p.1 ∙ picked_append length hop s xs p.0)

-- the datagrams that an end has durably given, by its own replies
abbrev pub given_by : HopId → End → List (Numbered (List ℕ))
given_by hop e = picked_payloads length hop (new_state e.params) (durable_commands e)

-- a pending reply has datagrams picked by its position
pub record IsTrueReply (hop : HopId) (params : Params) (accepted : List (Command (List ℕ))) (r : Replied) : Type 0 where
  pub position : r.position ≤ length accepted
  pub told : IsSafeEvent (picked_payloads length hop (new_state params) (take r.position accepted)) 0
      (sender_event r.call.ask r.reply)

-- the upper end, if the lower has durably taken this many
pub record IsUpper (hop : HopId) (kept : ℕ) (e : End) (s : Sender) : Type 0 where
  pub there : has_hop (new_state {P = List ℕ} e.params) hop ≡ true
  pub told : e.told ≤ length e.accepted
  pub acked : IsKept kept s.acked
  pub asked : AllByRecursion (λ c. IsSafeAsk hop kept c.ask) e.asked
  pub replied : AllByRecursion (IsTrueReply hop e.params e.accepted) e.replied
  pub released : (hop_at (state_of e) hop).released ≤ kept

pub upper_later : (hop : HopId) (kept rest : ℕ) (e : End) (s : Sender) → kept ≤ rest → IsUpper hop kept e s
    → IsUpper hop rest e s
upper_later hop kept rest e s below up = record {
  there = up.there;
  told = up.told;
  acked = acked_later kept rest below s.acked up.acked;
  asked = all_weaker (λ (c : Asked). IsSafeAsk hop kept c.ask) (λ (c : Asked). IsSafeAsk hop rest c.ask)
      (λ c. ask_later hop kept rest below c.ask) e.asked up.asked;
  replied = up.replied;
  released = omega (arith, up.released, below);
}

-- ---- the datagrams that a command releases

-- a command releases at the hop only datagrams that the lower has taken
abbrev pub ReleasesKept : HopId → ℕ → Command (List ℕ) → Type 0
ReleasesKept hop kept (Release to number) = to.0 ≡ hop.0 → number ≤ kept
ReleasesKept hop kept (Take from number to stamp limit payload) = Unit {0}
ReleasesKept hop kept (Pick to now) = Unit {0}

released_at : (s : State (List ℕ)) (hop to : HopId) (h : HopState (List ℕ)) (kept : ℕ) → 0 < hop.0 → 0 < to.0
    → to.0 ≤ length s.hops
    → (hop_at s hop).released ≤ kept → (to.0 ≡ hop.0 → h.released ≤ kept) → (hop_at (accept s to h) hop).released ≤ kept
released_at s hop to h kept hop_from from below old new = elim (cases_eq to.0 hop.0) [
  | inl same ↦ subst (λ (after : HopState (List ℕ)). after.released ≤ kept) (sym (own_hop s hop to h from below same))
      (new same)
  | inr differ ↦ subst (λ (after : HopState (List ℕ)). after.released ≤ kept)
      (sym (other_hop s hop to h from hop_from differ)) old
]

released_step : (s : State (List ℕ)) (c : Command (List ℕ)) (hop : HopId) (kept : ℕ) → 0 < hop.0
    → ReleasesKept hop kept c
    → (hop_at s hop).released ≤ kept → (hop_at (step length s c).0 hop).released ≤ kept
released_step s (Take from number to stamp limit payload) hop kept there only old =
    either_way length s (Take from number to stamp limit payload)
    (take_refusal length s from number to stamp limit (length payload)) _ refl
    (λ after reply. (hop_at after hop).released ≤ kept) (λ reply refuses. old)
    (λ none. (let may = may_take length s from number to stamp limit (length payload) none in
    released_at s hop to (with_taken (hop_at s to) (s.seq + 1) stamp limit payload) kept there may.hop_from
    may.hop_to old
    (λ same. (let here : (hop_at s to).released ≡ (hop_at s hop).released = ap
    (λ n. (let id : HopId = record { 0 = n } in (hop_at s id).released)) same in omega (arith, here, old)))))
released_step s (Pick to now) hop kept there only old =
    either_way length s (Pick to now) (pick_refusal s to now) _ refl
    (λ after reply. (hop_at after hop).released ≤ kept) (λ reply refuses. old)
    (λ none. (let may = may_pick s to now none in
    released_at s hop to (after_pick length s.params (hop_at s to) now) kept there may.hop_from may.hop_to old
    (λ same. (let here : (hop_at s to).released ≡ (hop_at s hop).released = ap
    (λ n. (let id : HopId = record { 0 = n } in (hop_at s id).released)) same in omega (arith, here, old)))))
released_step s (Release to number) hop kept there only old =
    either_way length s (Release to number) (release_refusal s to number) _ refl
    (λ after reply. (hop_at after hop).released ≤ kept) (λ reply refuses. old)
    (λ none. (let may = may_release s to number none in
    released_at s hop to
    (with_released (hop_at s to) (covered_count (hop_at s to) number)) kept there may.hop_from may.hop_to old
    (λ same. (let all = only same in omega (arith, all, may.some)))))

-- a request of the sending core, or of another client, does so too
abbrev pub AskReleasesKept : HopId → ℕ → Ask → Type 0
AskReleasesKept hop kept (ask.Command c) = ReleasesKept hop kept c
AskReleasesKept hop kept (ask.Query q) = Unit {0}

pub own_releases : (hop : HopId) (kept : ℕ) (an : Ask) → IsSafeAsk hop kept an → AskReleasesKept hop kept an
own_releases hop kept (ask.Command (Release to number)) safe = λ same. safe
own_releases hop kept (ask.Command (Take peer number to stamp limit payload)) safe = tt
own_releases hop kept (ask.Command (Pick to now)) safe = tt
own_releases hop kept (ask.Query q) safe = tt

pub others_release : (hop : HopId) (kept : ℕ) (an : Ask) → is_for_sender hop an ≡ false → AskReleasesKept hop kept an
others_release hop kept (ask.Command (Release to number)) other = λ same. absurd
    (true≢false (sym (eq-eqb to.0 hop.0 same) ∙ other))
others_release hop kept (ask.Command (Take peer number to stamp limit payload)) other = tt
others_release hop kept (ask.Command (Pick to now)) other = tt
others_release hop kept (ask.Query q) other = tt

command_of : (hop : HopId) (kept : ℕ) (an : Ask) (c : Command (List ℕ)) → an ≡ ask.Command c
    → AskReleasesKept hop kept an → ReleasesKept hop kept c
command_of hop kept an c is releases = subst (AskReleasesKept hop kept) is releases

-- ---- a call is made

-- more commands are accepted
abbrev pub grown : End → List (Command (List ℕ)) → ℕ → End
grown e more harm = record e { accepted = e.accepted ++ more; harm = harm }

replied_grown : (hop : HopId) (params : Params) (accepted more : List (Command (List ℕ))) (r : Replied)
    → IsTrueReply hop params accepted r → IsTrueReply hop params (accepted ++ more) r
replied_grown hop params accepted more r is = record {
  position = omega (arith, is.position, length-append accepted more);
  told = subst (λ (l : List (Command (List ℕ))). IsSafeEvent (picked_payloads length hop (new_state params) l) 0
      (sender_event r.call.ask r.reply)) (sym (take-append-le r.position accepted more is.position)) is.told;
}

pub given_grown : (hop : HopId) (e : End) (more : List (Command (List ℕ))) (harm : ℕ) → e.told ≤ length e.accepted
    → given_by hop (grown e more harm) ≡ given_by hop e
given_grown hop e more harm told = ap (picked_payloads length hop (new_state e.params))
    (take-append-le e.told e.accepted more told)

upper_grown : (hop : HopId) (kept : ℕ) (e : End) (s : Sender) (more : List (Command (List ℕ))) (harm : ℕ)
    → IsUpper hop kept e s
    → (hop_at (fold length (state_of e) more) hop).released ≤ kept → IsUpper hop kept (grown e more harm) s
upper_grown hop kept e s more harm up released = record {
  there = up.there;
  told = omega (arith, up.told, length-append e.accepted more);
  acked = up.acked;
  asked = up.asked;
  replied = all_weaker (IsTrueReply hop e.params e.accepted) (IsTrueReply hop e.params (e.accepted ++ more))
      (replied_grown hop e.params e.accepted more) e.replied up.replied;
  released = subst (λ (x : State (List ℕ)). (hop_at x hop).released ≤ kept)
      (sym (fold_append length (new_state e.params) e.accepted more)) released;
}

pub upper_called : (hop : HopId) (kept : ℕ) (e : End) (s : Sender) (an : Ask) (outcome : CallFate)
    → AskReleasesKept hop kept an → IsUpper hop kept e s → IsUpper hop kept (after_call e an outcome) s
upper_called hop kept e s an outcome releases up =
    let found = among _ hop.0 up.there in
    more_cases (state_of e) an outcome (λ more. IsUpper hop kept (grown e more (harm_by outcome)) s)
    (upper_grown hop kept e s [] (harm_by outcome) up up.released)
    (λ c is accepts. upper_grown hop kept e s (c ∷ []) (harm_by outcome) up
    (released_step (state_of e) c hop kept found.0 (command_of hop kept an c is releases) up.released))

-- the machine's reply to a request of the sending core is safe
told_of : (xs : List (Numbered (List ℕ))) (an : Ask) (r : Reply)
    → ((payload : List ℕ) (limit : ℕ) → r ≡ reply.Bytes payload limit
    → IsSafeEvent xs 0 (fetched_event an payload limit))
    → IsSafeEvent xs 0 (sender_event an r)
told_of xs an (reply.Bytes payload limit) bytes = bytes payload limit refl
told_of xs an (reply.WindowIs first next) bytes = tt
told_of xs an (reply.Picked number id expired dropped) bytes = tt
told_of xs an (reply.Nothing expired) bytes = tt
told_of xs an (reply.Released count) bytes = tt
told_of xs an reply.Unchanged bytes = tt
told_of xs an (reply.Refused refusal) bytes = tt
told_of xs an (reply.Taken id) bytes = tt
told_of xs an (reply.Already last) bytes = tt
told_of xs an (reply.Shown status) bytes = tt

machine_told : (hop : HopId) (kept : ℕ) (params : Params) (accepted : List (Command (List ℕ))) (an : Ask)
    → has_hop (new_state {P = List ℕ} params) hop ≡ true → IsSafeAsk hop kept an
    → IsSafeEvent (picked_payloads length hop (new_state params) accepted) 0
    (sender_event an (ask_step (fold length (new_state params) accepted) an).1)
machine_told hop kept params accepted (ask.Query (query.Fetch to number)) there safe =
    told_of (picked_payloads length hop (new_state params) accepted) (ask.Query (query.Fetch to number))
    (query_reply (fold length (new_state params) accepted) (query.Fetch to number))
    (λ payload limit is. fetched_is_picked (fold length (new_state params) accepted) hop number payload limit
    (picked_payloads length hop (new_state params) accepted)
    (flows_from_new length params accepted hop there)
    (subst (λ (h : HopId). query_reply (fold length (new_state params) accepted)
    (query.Fetch h number) ≡ reply.Bytes payload limit) safe is))
machine_told hop kept params accepted (ask.Query (query.Window to)) there safe =
    told_of (picked_payloads length hop (new_state params) accepted) (ask.Query (query.Window to))
    (query_reply (fold length (new_state params) accepted) (query.Window to)) (λ payload limit is. tt)
machine_told hop kept params accepted (ask.Query (query.Show to)) there safe =
    told_of (picked_payloads length hop (new_state params) accepted) (ask.Query (query.Show to))
    (query_reply (fold length (new_state params) accepted) (query.Show to)) (λ payload limit is. tt)
machine_told hop kept params accepted (ask.Command c) there safe =
    told_of (picked_payloads length hop (new_state params) accepted) (ask.Command c)
    (step length (fold length (new_state params) accepted) c).1 (λ payload limit is. tt)

-- the accepted commands are a prefix of those after a call, and the given ones are unchanged
pub called_front : (e : End) (an : Ask) (outcome : CallFate)
    → IsPrefix e.accepted (take (length (accepted_after e an outcome)) (accepted_after e an outcome))
called_front e an outcome =
    ((if is_made outcome then accepted_by an (reply_at e an) else []), take-length (accepted_after e an outcome))

-- a reply acknowledges at most the existing commands
pub told_within : (outcome : CallFate) (count : ℕ) → reported_by outcome count ≤ count
told_within Done count = omega arith
told_within (Unsure stands) count = omega arith
told_within Broken count = omega arith
told_within DeviceRead count = omega arith
told_within OutOfMemory count = omega arith

-- the event of the core is safe
due_safe : (hop : HopId) (e : End) (an : Ask) (outcome : CallFate)
    → IsSafeEvent (picked_payloads length hop (new_state e.params) e.accepted) 0 (sender_event an (reply_at e an))
    → IsSafeEvent (picked_payloads length hop (new_state e.params)
    (take (reported_by outcome (length (accepted_after e an outcome))) (accepted_after e an outcome))) 0
    (sender_event an (reply_by outcome (reply_at e an)))
due_safe hop e an Done safe =
    let all : List (Command (List ℕ)) = accepted_after e an Done in
    event_later (picked_payloads length hop (new_state e.params) e.accepted)
    (picked_payloads length hop (new_state e.params) (take (length all) all)) 0 0
    (picked_front hop (new_state e.params) e.accepted (take (length all) all) (called_front e an Done))
    (omega arith)
    (sender_event an (reply_at e an)) safe
due_safe hop e an (Unsure stands) safe = tt
due_safe hop e an Broken safe = tt
due_safe hop e an DeviceRead safe = tt
due_safe hop e an OutOfMemory safe = tt

given_called : (hop : HopId) (e : End) (an : Ask) (outcome : CallFate) → e.told ≤ length e.accepted
    → given_by hop (after_call e an outcome) ≡ given_by hop e
given_called hop e an outcome told = given_grown hop e (if is_made outcome then accepted_by an (reply_at e an) else [])
    (harm_by outcome) told

-- an end that keeps its invariant, and has given at least as many as before
abbrev pub GoesOn : HopId → ℕ → Sender → List (Numbered (List ℕ)) → End → Type 0
GoesOn hop kept s given e = IsUpper hop kept e s × IsPrefix given (given_by hop e)

pub upper_made : (hop : HopId) (kept : ℕ) (e : End) (s : Sender) (outcome : CallFate) (calls : List Asked)
    → e.asked ≡ calls → IsUpper hop kept e s
    → GoesOn hop kept s (given_by hop e) (with_made e outcome calls)
upper_made hop kept e s outcome [] is up = (up, prefix_all (given_by hop e))
upper_made hop kept e s outcome (call ∷ calls) is up =
    let asked : AllByRecursion (λ (c : Asked). IsSafeAsk hop kept c.ask) (call ∷ calls) = subst
    (AllByRecursion (λ (c : Asked). IsSafeAsk hop kept c.ask)) is up.asked in
    let called = upper_called hop kept e s call.ask outcome (own_releases hop kept call.ask asked.0) up in
    let all : List (Command (List ℕ)) = accepted_after e call.ask outcome in
    let due : Replied = record {
      call = call;
      reply = reply_by outcome (reply_at e call.ask);
      position = reported_by outcome (length (accepted_after e call.ask outcome));
    } in
    let told = due_safe hop e call.ask outcome
    (machine_told hop kept e.params e.accepted call.ask up.there asked.0) in
    either (may_go e call.ask outcome)
    (record (after_call e call.ask outcome) { asked = calls; replied = e.replied ++ due ∷ [] }) e
    (GoesOn hop kept s (given_by hop e)) (
      record {
        there = called.there;
        told = called.told;
        acked = called.acked;
        asked = asked.1;
        replied = all_append (IsTrueReply hop e.params all) e.replied (due ∷ []) called.replied
            (record { position = told_within outcome (length all); told = told }, tt);
        released = called.released;
      },
      prefix_same (given_by hop e) (given_by hop (after_call e call.ask outcome))
          (given_called hop e call.ask outcome up.told),
    )
    (up, prefix_all (given_by hop e))

-- ---- a reply is given

told_safe : (hop : HopId) (kept : ℕ) (e : End) (s : Sender) (told : ℕ) → told ≤ length e.accepted → e.told ≤ told
    → IsUpper hop kept e s
    → GoesOn hop kept s (given_by hop e) (record e { told = told })
told_safe hop kept e s told within more up = (
  record {
    there = up.there;
    told = within;
    acked = up.acked;
    asked = up.asked;
    replied = up.replied;
    released = up.released;
  },
  picked_front hop (new_state e.params) (take e.told e.accepted) (take told e.accepted)
      (prefix_take e.told told e.accepted more),
)

pub upper_told : (hop : HopId) (kept : ℕ) (e : End) (s : Sender) (r : Reply) (position : ℕ)
    → position ≤ length e.accepted → IsUpper hop kept e s
    → GoesOn hop kept s (given_by hop e) (end_after_answer e r position)
upper_told hop kept e s r position within up =
    either (is_failure r) e.told (max e.told position)
    (λ told. GoesOn hop kept s (given_by hop e) (record e { told = told }))
    (told_safe hop kept e s e.told up.told (omega arith) up)
    (told_safe hop kept e s (max e.told position) (omega (arith, up.told, within)) (omega arith) up)

-- the datagrams in the core's event are then durably given
failed_told : (xs : List (Numbered (List ℕ))) (an : Ask) (r : Reply) → is_failure r ≡ true
    → IsSafeEvent xs 0 (sender_event an r)
failed_told xs an (reply.Bytes payload limit) fails = absurd (true≢false (sym fails))
failed_told xs an (reply.WindowIs first next) fails = tt
failed_told xs an (reply.Picked number id expired dropped) fails = tt
failed_told xs an (reply.Nothing expired) fails = tt
failed_told xs an (reply.Released count) fails = tt
failed_told xs an reply.Unchanged fails = tt
failed_told xs an (reply.Refused refusal) fails = tt
failed_told xs an (reply.Taken id) fails = tt
failed_told xs an (reply.Already last) fails = tt
failed_told xs an (reply.Shown status) fails = tt

pub event_told : (hop : HopId) (e : End) (r : Replied) → IsTrueReply hop e.params e.accepted r
    → IsSafeEvent (given_by hop (end_after_answer e r.reply r.position)) 0 (sender_event r.call.ask r.reply)
event_told hop e r is =
    either_known (is_failure r.reply) e.told (max e.told r.position)
    (λ told. IsSafeEvent (picked_payloads length hop (new_state e.params) (take told e.accepted)) 0
    (sender_event r.call.ask r.reply))
    (λ fails. failed_told (picked_payloads length hop (new_state e.params) (take e.told e.accepted)) r.call.ask r.reply fails)
    (event_later (picked_payloads length hop (new_state e.params) (take r.position e.accepted))
    (picked_payloads length hop (new_state e.params) (take (max e.told r.position) e.accepted)) 0 0
    (picked_front hop (new_state e.params) (take r.position e.accepted) (take (max e.told r.position) e.accepted)
    (prefix_take r.position (max e.told r.position) e.accepted (omega arith)))
    (omega arith) (sender_event r.call.ask r.reply) is.told)

-- ---- another client's call

pub upper_served : (hop : HopId) (kept : ℕ) (e : End) (s : Sender) (an : Ask) (outcome : CallFate) (is_answered : Bool)
    → is_for_sender hop an ≡ false → IsUpper hop kept e s
    → GoesOn hop kept s (given_by hop e) (with_other e an outcome is_answered)
upper_served hop kept e s an outcome is_answered other up =
    let after : End = after_call e an outcome in
    let called = upper_called hop kept e s an outcome (others_release hop kept an other) up in
    let same = given_called hop e an outcome up.told in
    either (may_go e an outcome)
    (if is_answered then end_after_answer after (reply_by outcome (reply_at e an)) (length after.accepted) else after) e
    (GoesOn hop kept s (given_by hop e))
    (either is_answered (end_after_answer after (reply_by outcome (reply_at e an)) (length after.accepted)) after
    (GoesOn hop kept s (given_by hop e))
    (subst (λ (given : List (Numbered (List ℕ))). GoesOn hop kept s given
    (end_after_answer after (reply_by outcome (reply_at e an)) (length after.accepted))) same
    (upper_told hop kept after s (reply_by outcome (reply_at e an)) (length after.accepted) (omega arith) called))
    (called, prefix_same (given_by hop e) (given_by hop after) same))
    (up, prefix_all (given_by hop e))

-- ---- a crash

pub upper_crashed : (hop : HopId) (kept : ℕ) (e : End) (s new : Sender) (n : ℕ) (opens : Bool) → e.told ≤ n
    → new.acked ≡ None → IsUpper hop kept e s
    → GoesOn hop kept new (given_by hop e) (with_crash e n opens)
upper_crashed hop kept e s new n opens within none up =
    let found = among _ hop.0 up.there in
    let fewer = (flows_fold length (fold length (new_state e.params) (take n e.accepted))
    (drop n e.accepted) hop found.0).fewer in
    let whole : fold length (fold length (new_state e.params) (take n e.accepted)) (drop n e.accepted) ≡ state_of e =
    sym (fold_append length (new_state e.params) (take n e.accepted) (drop n e.accepted))
    ∙ ap (fold length (new_state e.params)) (take-append-drop n e.accepted) in
    let released_is = ap (λ (x : State (List ℕ)). (hop_at x hop).released) whole in (
      record {
        there = up.there;
        told = omega (arith, length-take n e.accepted, up.told, within);
        acked = subst (IsKept kept) (sym none) tt;
        asked = tt;
        replied = tt;
        released = omega (arith, fewer, released_is, up.released);
      },
      prefix_same (given_by hop e) (given_by hop (with_crash e n opens))
          (ap (picked_payloads length hop (new_state e.params)) (take-take e.told n e.accepted within)),
    )
