-- The requests of two simulated relays' cores on an event, and the model state after it.
use Rattle.std.proofs.Common.{ℕ, ◌≡◌, List, [], ◌∷◌, ◌++◌, length, map, take, drop, replicate, Bool, true, false, refl, sym, ◌∙◌, ap, subst, Option, Some, None}
use Rattle.std.specs.Prelude.{nat_lt, ◌+◌, ◌-◌, ◌&&◌, ◌==◌, is_none, slice_get, slice_set}
use Rattle.std.specs.List.{ItemBy}
use Rattle.std.proofs.lemmas.Bool.{cond_both}
use Rattle.std.proofs.lemmas.List.{append-nil, set-get_or}
use Rattle.std.proofs.Math.Seq.{drop-length, take-length}
use Rattle.std.proofs.lemmas.Simd.{splat_is_map}
use Rattle.std.proofs.lemmas.Option.{get_or_from_slice_get, none-some, slice_get_past, slice_get_read}
use Rattle.rly_core.specs.declared.ids.HopId.{HopId}
use Rattle.rly_core.specs.declared.ids.PeerId.{PeerId}
use Rattle.rly_core.specs.declared.params.Params.{Params}
use Rattle.rly_core.specs.declared.refusal.Refusal.TheVariants.{Gap}
use Rattle.rly_hop.specs.declared.message.Message.{Message}
use Rattle.rly_hop.specs.declared.message.Message.TheVariants.{Data, Custody, Refused, Heard}
use Rattle.rly_hop.specs.declared.receiving.event.InAction.{InAction}
use Rattle.rly_hop.specs.declared.receiving.event.InAction.TheVariants as in_action
use Rattle.rly_hop.specs.declared.message.StationId.{StationId}
use Rattle.rly_hop.specs.declared.receiving.event.InEvent.{InEvent}
use Rattle.rly_hop.specs.declared.receiving.event.InEvent.TheVariants as in_event
use Rattle.rly_hop.specs.declared.receiving.event.TakeAnswer.{TakeAnswer}
use Rattle.rly_hop.specs.declared.receiving.event.TakeAnswer.TheVariants as answer
use Rattle.rly_hop.specs.declared.sending.event.OutAction.{OutAction}
use Rattle.rly_hop.specs.declared.sending.event.OutAction.TheVariants as action
use Rattle.rly_hop.specs.declared.sending.event.OutEvent.TheVariants as event
use Rattle.rly_hop.specs.Payloads.{message_map}
use Rattle.rly_hop.specs.Receiver.{Receiver}
use Rattle.rly_hop.specs.Receiving.{ReceivingResult, after_answer, custody_message, is_reported_refusal, receiving_step, refusal_message, take_reply}
use Rattle.rly_hop.specs.Sender.{Sender}
use Rattle.rly_hop.specs.Sending.{SendingResult, sending_step}
use Rattle.rly_hop.proofs.ReceivingLaws.{received-take, waiting}
use Rattle.rly_machine.specs.declared.command.Ask.{Ask}
use Rattle.rly_machine.specs.declared.command.Ask.TheVariants as ask
use Rattle.rly_machine.specs.declared.command.Command.TheVariants as command
use Rattle.rly_machine.specs.declared.command.Query.TheVariants as query
use Rattle.rly_machine.specs.declared.reply.Reply.{Reply}
use Rattle.rly_machine.specs.declared.reply.Reply.TheVariants as reply
use Rattle.rly_world.specs.PairCores.{receiver_asks, receiver_sends, sender_event, take_answer}
use Rattle.rly_world.specs.PairEnd.{Asked, End, Replied, with_asked, end_after_answer}
use Rattle.rly_world.specs.PairWorld.{PairWorld, lower_answers, lower_hears, pair_step, receiver_answered, unless_failed, upper_answers, upper_hears}
use Rattle.rly_world.specs.PairWorld.{with_receiver, with_sender}
use Rattle.rly_world_pair.specs.PairSteps.{setup_of}
use Rattle.rly_world.specs.PairWorld.{LowerAnswers, LowerHears, UpperAnswers, UpperHears}

-- no call waits if none was requested
pub none_asked : (e : End) (core : ℕ) → with_asked e core [] ≡ e
none_asked e core = ap (λ (l : List Asked). record e { asked = l }) (append-nil e.asked)

-- a core that makes no request changes itself alone
pub named_none : (w : PairWorld) (moment : ℕ) (is_sent : Bool) (s : Sender) → with_sender w moment is_sent (s, None) ≡ record w { sender = s }
named_none w moment true s =
    ap (λ (e : End). record w { upper = e; sender = s; packets = w.packets ++ [] }) (none_asked w.upper 0)
    ∙ ap (λ (l : List (Message (List ℕ))). record w { sender = s; packets = l }) (append-nil w.packets)
named_none w moment false s =
    ap (λ (e : End). record w { upper = e; sender = s; packets = w.packets ++ [] }) (none_asked w.upper 0)
    ∙ ap (λ (l : List (Message (List ℕ))). record w { sender = s; packets = l }) (append-nil w.packets)

-- a packet for a sending core makes no request
pub heard_names : (s : Sender) (m : Message (List ℕ)) → (sending_step s (event.Heard m)).1 ≡ None
heard_names s (Data from to number limit payload) = refl
heard_names s (Custody from to last) = refl
heard_names s (Refused from to number refusal) = refl
heard_names s (Heard from to last bits) = refl

-- two relays by their parts
abbrev pub shown : Params → Params → End → Sender → End → List Receiver → List (Message (List ℕ)) → PairWorld
shown upper_params lower_params upper sender lower receivers packets =
    record { setup = setup_of upper_params lower_params; upper = upper; sender = sender; lower = lower; receivers = receivers; packets = packets }

-- the result of a look-up
pub item_found : {R X : Type 0} (now : R → X) (xs : List X) (i : ℕ) (r : Option R) (x : R) → r ≡ Some x → ItemBy now xs i i r → slice_get xs i ≡ Some (now x)
item_found {R} {X} now xs i r x is item =
    let it : ItemBy now xs i i (Some x) = subst (ItemBy now xs i i) is item in slice_get_read xs (length xs) i (now x) refl it.3.0 it.1

pub item_missing : {R X : Type 0} (now : R → X) (xs : List X) (i : ℕ) (r : Option R) → r ≡ None → ItemBy now xs i i r → slice_get xs i ≡ None
item_missing {R} {X} now xs i r is item =
    let it : ItemBy now xs i i None = subst (ItemBy now xs i i) is item in slice_get_past xs i it.3

-- ---- the upper

pub unheard_by_upper : (w : PairWorld) (packet : ℕ) → slice_get w.packets packet ≡ None → w ≡ pair_step w (UpperHears packet)
unheard_by_upper w packet missing = ap (upper_hears w) (sym missing)

-- a packet changes the core alone
pub heard_by_upper : (w : PairWorld) (packet : ℕ) (m : Message (List ℕ)) (s : Sender) → slice_get w.packets packet ≡ Some m
    → s ≡ (sending_step w.sender (event.Heard m)).0 → record w { sender = s } ≡ pair_step w (UpperHears packet)
heard_by_upper w packet m s found is =
    ap (λ (x : Sender). record w { sender = x }) is
    ∙ sym (named_none w 0 true (sending_step w.sender (event.Heard m)).0)
    ∙ ap (λ (a : Option (OutAction (List ℕ))). with_sender w 0 true ((sending_step w.sender (event.Heard m)).0, a)) (sym (heard_names w.sender m))
    ∙ ap (upper_hears w) (sym found)

-- the message of an action that sends one
abbrev message_sent : Message (List ℕ) → Option (OutAction (List ℕ)) → Message (List ℕ)
message_sent other (Some (action.Send m)) = m
message_sent other (Some action.AskWindow) = other
message_sent other (Some (action.Release number)) = other
message_sent other (Some (action.Fetch number)) = other
message_sent other (Some action.Pick) = other
message_sent other None = other

-- the message of a core on a reply has the payload of the reply
sent_payload : (s : Sender) (an : Ask) (r : Reply) (m : Message (List ℕ)) (payload : List ℕ) → (sending_step s (sender_event an r)).1 ≡ Some (action.Send m)
    → ((p : List ℕ) (limit : ℕ) → r ≡ reply.Bytes p limit → payload ≡ p) → message_map (λ (_ : List ℕ). payload) m ≡ m
sent_payload s (ask.Query (query.Fetch hop number)) (reply.Bytes p limit) m payload is same =
    let handed : Message (List ℕ) = Data s.own s.hop number limit p in
    cond_both (s.ready && (number == s.cursor) && nat_lt s.cursor s.next) (record s { cursor = number + 1 }, Some (action.Send handed)) (s, None)
    (λ (result : SendingResult). result.1 ≡ Some (action.Send m) → message_map (λ (_ : List ℕ). payload) m ≡ m)
    (λ _. λ sends. subst (λ (x : Message (List ℕ)). message_map (λ (_ : List ℕ). payload) x ≡ x) (ap (message_sent handed) sends)
    (ap (λ (bytes : List ℕ). Data s.own s.hop number limit bytes) (same p limit refl)))
    (λ _. λ sends. absurd (none-some (action.Send m) sends)) is
sent_payload s (ask.Query (query.Window hop)) (reply.Bytes p limit) m payload is same = absurd (none-some (action.Send m) is)
sent_payload s (ask.Query (query.Show hop)) (reply.Bytes p limit) m payload is same = absurd (none-some (action.Send m) is)
sent_payload s (ask.Command any) (reply.Bytes p limit) m payload is same = absurd (none-some (action.Send m) is)
sent_payload s an (reply.WindowIs first next) m payload is same = absurd (none-some (action.Send m) is)
sent_payload s an (reply.Picked number id expired dropped) m payload is same = absurd (none-some (action.Send m) is)
sent_payload s an (reply.Nothing expired) m payload is same = absurd (none-some (action.Send m) is)
sent_payload s an (reply.Released count) m payload is same = absurd (none-some (action.Send m) is)
sent_payload s an reply.Unchanged m payload is same = absurd (none-some (action.Send m) is)
sent_payload s an (reply.Refused refusal) m payload is same = absurd (none-some (action.Send m) is)
sent_payload s an (reply.Taken id) m payload is same = absurd (none-some (action.Send m) is)
sent_payload s an (reply.Already last) m payload is same = absurd (none-some (action.Send m) is)
sent_payload s an (reply.Shown status) m payload is same = absurd (none-some (action.Send m) is)

-- its message on a reply is among the packets
pub sent_by_upper : (w : PairWorld) (e : End) (r : Replied) (rest : List Replied) (s : Sender) (m : Message (List ℕ)) (payload : List ℕ)
    → w.upper.replied ≡ r ∷ rest → e ≡ end_after_answer (record w.upper { replied = rest }) r.reply r.position
    → s ≡ (sending_step w.sender (sender_event r.call.ask r.reply)).0 → Some (action.Send m) ≡ (sending_step w.sender (sender_event r.call.ask r.reply)).1
    → ((p : List ℕ) (limit : ℕ) → r.reply ≡ reply.Bytes p limit → payload ≡ p)
    → record w { upper = e; sender = s; packets = w.packets ++ message_map (λ (_ : List ℕ). payload) m ∷ [] } ≡ pair_step w (UpperAnswers true)
sent_by_upper w e r rest s m payload is told steps sends same =
    let after : End = end_after_answer (record w.upper { replied = rest }) r.reply r.position in
    let result : SendingResult = sending_step w.sender (sender_event r.call.ask r.reply) in
    ap (λ (x : End). record w { upper = x; sender = s; packets = w.packets ++ message_map (λ (_ : List ℕ). payload) m ∷ [] }) told
    ∙ ap (λ (x : Sender). record w { upper = after; sender = x; packets = w.packets ++ message_map (λ (_ : List ℕ). payload) m ∷ [] }) steps
    ∙ ap (λ (x : Message (List ℕ)). record w { upper = after; sender = result.0; packets = w.packets ++ x ∷ [] })
    (sent_payload w.sender r.call.ask r.reply m payload (sym sends) same)
    ∙ ap (λ (x : End). record w { upper = x; sender = result.0; packets = w.packets ++ m ∷ [] }) (sym (none_asked after 0))
    ∙ ap (λ (a : Option (OutAction (List ℕ))). with_sender (record w { upper = after }) 0 true (result.0, a)) sends
    ∙ ap (upper_answers w true) (sym is)

-- ---- the lower

-- the action of a receiving core on a reply: a message without a payload, or none
abbrev IsPlain : Option (InAction (List ℕ)) → Type 0
IsPlain (Some (in_action.Send m)) = message_map (λ (_ : List ℕ). []) m ≡ m
IsPlain (Some (in_action.Take number limit payload)) = ⊥
IsPlain None = Unit {0}

plain_reply : (r : Receiver) (number : ℕ) (a : TakeAnswer) → IsPlain (take_reply r number a)
plain_reply r number answer.Taken = refl
plain_reply r number (answer.Already last) = refl
plain_reply r number (answer.Refused (Gap expected)) = cond_both (expected == 0) None (custody_message r (expected - 1)) IsPlain (λ _. tt) (λ _. refl)
plain_reply r number (answer.Refused refusal) = cond_both (is_reported_refusal refusal) (refusal_message r number refusal) None IsPlain (λ _. refl) (λ _. tt)
plain_reply r number answer.Other = tt

plain_after : (r : Receiver) (pending : Option ℕ) (a : TakeAnswer) → IsPlain (after_answer r pending a).1
plain_after r None a = tt
plain_after r (Some number) a = plain_reply r number a

plain_asks : (peer : PeerId) (hop : HopId) (stamp : ℕ) (named : Option (InAction (List ℕ))) → IsPlain named → receiver_asks peer hop stamp named ≡ []
plain_asks peer hop stamp (Some (in_action.Send m)) plain = refl
plain_asks peer hop stamp (Some (in_action.Take number limit payload)) plain = absurd plain
plain_asks peer hop stamp None plain = refl

-- its message on a reply is among the packets, unless the send failed
pub answered_by_lower : (w : PairWorld) (e : End) (r : Replied) (rest : List Replied) (it next : Receiver) (is_sent : Bool) (packets : List (Message (List ℕ)))
    → w.lower.replied ≡ r ∷ rest → e ≡ end_after_answer (record w.lower { replied = rest }) r.reply r.position → slice_get w.receivers r.call.core ≡ Some it
    → next ≡ (receiving_step it (in_event.Answered (take_answer r.reply))).0
    → packets ≡ w.packets ++ unless_failed is_sent (receiver_sends (receiving_step it (in_event.Answered (take_answer r.reply))).1)
    → record w { lower = e; receivers = slice_set w.receivers r.call.core next; packets = packets } ≡ pair_step w (LowerAnswers is_sent)
answered_by_lower w e r rest it next is_sent packets is told found steps sends =
    let after : End = end_after_answer (record w.lower { replied = rest }) r.reply r.position in
    let result : ReceivingResult = receiving_step it (in_event.Answered (take_answer r.reply)) in
    let left : PairWorld = record w { lower = after } in
    ap (λ (x : End). record w { lower = x; receivers = slice_set w.receivers r.call.core next; packets = packets }) told
    ∙ ap (λ (x : Receiver). record w { lower = after; receivers = slice_set w.receivers r.call.core x; packets = packets }) steps
    ∙ ap (λ (x : List (Message (List ℕ))). record w { lower = after; receivers = slice_set w.receivers r.call.core result.0; packets = x }) sends
    ∙ ap (λ (x : End). record w {
      lower = x;
      receivers = slice_set w.receivers r.call.core result.0;
      packets = w.packets ++ unless_failed is_sent (receiver_sends result.1);
    }) (sym (none_asked after r.call.core))
    ∙ ap (λ (asks : List Ask). record w {
      lower = with_asked after r.call.core asks;
      receivers = slice_set w.receivers r.call.core result.0;
      packets = w.packets ++ unless_failed is_sent (receiver_sends result.1);
    }) (sym (plain_asks w.setup.peer (record { 0 = 0 }) 0 result.1 (plain_after it it.pending (take_answer r.reply))))
    ∙ ap (receiver_answered left r.call.core is_sent r) (sym found)
    ∙ ap (lower_answers w is_sent) (sym is)

-- ---- the lower receives

abbrev message_in : Message (List ℕ) → InEvent (List ℕ) → Message (List ℕ)
message_in other (in_event.Heard m) = m
message_in other (in_event.Answered a) = other
message_in other in_event.Lost = other

-- a core requests a Take only if none waits, and only for a Data
none_waits : (r : Receiver) (m : Message (List ℕ)) (taken : InAction (List ℕ)) (pending : Option ℕ) → r.pending ≡ pending
    → (receiving_step r (in_event.Heard m)).1 ≡ Some taken → r.pending ≡ None
none_waits r m taken None is takes = is
none_waits r m taken (Some number) is takes =
    absurd (none-some taken (ap (λ (x : ReceivingResult). x.1) (sym (waiting r number m is)) ∙ takes))

heard_data : (r : Receiver) (m : Message (List ℕ)) (number limit : ℕ) (payload : List ℕ)
    → (receiving_step r (in_event.Heard m)).1 ≡ Some (in_action.Take number limit payload) → m ≡ Data r.peer r.own number limit payload
heard_data r m number limit payload takes = ap (message_in m) (received-take r (in_event.Heard m) number limit payload takes).0

-- it requests the call of its Take
pub heard_by_lower : (w : PairWorld) (packet core : ℕ) (hop : HopId) (stamp : ℕ) (r next : Receiver) (m : Message (List ℕ)) (number limit : ℕ) (named payload : List ℕ)
    → slice_get w.packets packet ≡ Some m → slice_get w.receivers core ≡ Some r → next ≡ (receiving_step r (in_event.Heard m)).0
    → Some (in_action.Take number limit named) ≡ (receiving_step r (in_event.Heard m)).1
    → ((from to : StationId) (n l : ℕ) (p : List ℕ) → m ≡ Data from to n l p → payload ≡ p)
    → record w {
      lower = with_asked w.lower core (ask.Command (command.Take w.setup.peer number hop stamp limit payload) ∷ []);
      receivers = slice_set w.receivers core next;
    } ≡ pair_step w (LowerHears packet core hop stamp)
heard_by_lower w packet core hop stamp r next m number limit named payload found there steps names same =
    let result : ReceivingResult = receiving_step r (in_event.Heard m) in
    let asked : List ℕ → End = λ p. with_asked w.lower core (ask.Command (command.Take w.setup.peer number hop stamp limit p) ∷ []) in
    ap (λ (p : List ℕ). record w { lower = asked p; receivers = slice_set w.receivers core next }) (same r.peer r.own number limit named (heard_data r m number limit named (sym names)))
    ∙ ap (λ (x : Receiver). record w { lower = asked named; receivers = slice_set w.receivers core x }) steps
    ∙ ap (λ (l : List (Message (List ℕ))). record w { lower = asked named; receivers = slice_set w.receivers core result.0; packets = l }) (sym (append-nil w.packets))
    ∙ ap (λ (a : Option (InAction (List ℕ))). with_receiver w core hop stamp true (result.0, a)) names
    ∙ ap (λ (o : Option Receiver). lower_hears w core hop stamp o (Some m)) (sym there)
    ∙ ap (lower_hears w core hop stamp (slice_get w.receivers core)) (sym found)

-- on a message, it requests its Take or nothing
abbrev IsTakeOrNone : Option (InAction (List ℕ)) → Type 0
IsTakeOrNone (Some (in_action.Take number limit payload)) = Unit {0}
IsTakeOrNone (Some (in_action.Send m)) = ⊥
IsTakeOrNone None = Unit {0}

take_or_none : (r : Receiver) (m : Message (List ℕ)) → IsTakeOrNone (receiving_step r (in_event.Heard m)).1
take_or_none r (Data from to number limit payload) =
    cond_both ((from.0 == r.peer.0) && (to.0 == r.own.0) && is_none r.pending) (record r { pending = Some number }, Some (in_action.Take number limit payload)) (r, None)
    (λ (result : ReceivingResult). IsTakeOrNone result.1) (λ _. tt) (λ _. tt)
take_or_none r (Custody from to last) = tt
take_or_none r (Refused from to number refusal) = tt
take_or_none r (Heard from to last bits) = tt

none_left : (named : Option (InAction (List ℕ))) → IsTakeOrNone named → ((number limit : ℕ) (payload : List ℕ) → named ≡ Some (in_action.Take number limit payload) → ⊥)
    → named ≡ None
none_left (Some (in_action.Take number limit payload)) either other = absurd (other number limit payload refl)
none_left (Some (in_action.Send m)) either other = absurd either
none_left None either other = refl

-- if it requests no Take, it changes itself alone
pub passed_by_lower : (w : PairWorld) (packet core : ℕ) (hop : HopId) (stamp : ℕ) (r next : Receiver) (m : Message (List ℕ))
    → slice_get w.packets packet ≡ Some m → slice_get w.receivers core ≡ Some r → next ≡ (receiving_step r (in_event.Heard m)).0
    → ((number limit : ℕ) (payload : List ℕ) → (receiving_step r (in_event.Heard m)).1 ≡ Some (in_action.Take number limit payload) → ⊥)
    → record w { receivers = slice_set w.receivers core next } ≡ pair_step w (LowerHears packet core hop stamp)
passed_by_lower w packet core hop stamp r next m found there steps other =
    let result : ReceivingResult = receiving_step r (in_event.Heard m) in
    ap (λ (x : Receiver). record w { receivers = slice_set w.receivers core x }) steps
    ∙ ap (λ (e : End). record w { lower = e; receivers = slice_set w.receivers core result.0 }) (sym (none_asked w.lower core))
    ∙ ap (λ (l : List (Message (List ℕ))). record w { lower = with_asked w.lower core []; receivers = slice_set w.receivers core result.0; packets = l }) (sym (append-nil w.packets))
    ∙ ap (λ (a : Option (InAction (List ℕ))). with_receiver w core hop stamp true (result.0, a)) (sym (none_left result.1 (take_or_none r m) other))
    ∙ ap (λ (o : Option Receiver). lower_hears w core hop stamp o (Some m)) (sym there)
    ∙ ap (lower_hears w core hop stamp (slice_get w.receivers core)) (sym found)

-- a core that drops its Take is in the state before the Data
forgets : (r : Receiver) (m : Message (List ℕ)) → record (receiving_step r (in_event.Heard m)).0 { pending = None } ≡ record r { pending = None }
forgets r (Data from to number limit payload) =
    cond_both ((from.0 == r.peer.0) && (to.0 == r.own.0) && is_none r.pending) (record r { pending = Some number }, Some (in_action.Take number limit payload)) (r, None)
    (λ (result : ReceivingResult). record result.0 { pending = None } ≡ record r { pending = None }) (λ _. refl) (λ _. refl)
forgets r (Custody from to last) = refl
forgets r (Refused from to number refusal) = refl
forgets r (Heard from to last bits) = refl

pub forgotten_by_lower : (receivers : List Receiver) (core : ℕ) (r next last : Receiver) (m : Message (List ℕ)) (taken : InAction (List ℕ))
    → slice_get receivers core ≡ Some r → next ≡ (receiving_step r (in_event.Heard m)).0 → Some taken ≡ (receiving_step r (in_event.Heard m)).1
    → last ≡ (receiving_step next in_event.Lost).0 → slice_set receivers core last ≡ receivers
forgotten_by_lower receivers core r next last m taken there steps names lost =
    let none : r.pending ≡ None = none_waits r m taken r.pending refl (sym names) in
    let same : last ≡ r =
    lost ∙ ap (λ (x : Receiver). record x { pending = None }) steps
    ∙ forgets r m
    ∙ ap (λ (p : Option ℕ). record r { pending = p }) (sym none) in
    ap (λ (x : Receiver). slice_set receivers core x) (same ∙ sym (get_or_from_slice_get receivers core r r there)) ∙ set-get_or receivers core r

-- if each of them restarts, all do
pub all_anew : {X : Type 0} (xs : List X) (n : ℕ) (y : X) → n ≡ length xs → map (λ (_ : X). y) (take n xs) ++ drop n xs ≡ replicate (length xs) y
all_anew {X} xs n y all =
    ap (λ (k : ℕ). map (λ (_ : X). y) (take k xs) ++ drop k xs) all
    ∙ ap (λ (l : List X). map (λ (_ : X). y) l ++ drop (length xs) xs) (take-length xs)
    ∙ ap (λ (l : List X). map (λ (_ : X). y) xs ++ l) (drop-length xs)
    ∙ append-nil (map (λ (_ : X). y) xs)
    ∙ sym (splat_is_map xs (length xs) y refl)
