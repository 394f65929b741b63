-- No reply of the machine is a failure, and a command changes the state only if its reply accepts it.
use Rattle.std.proofs.Common.{ℕ, ◌≡◌, ◌+◌, ◌-◌, ◌^◌, ◌||◌, not, map, take, drop, Bool, true, false, true≢false, cond, List, [], ◌∷◌, Option, Some, None, Result, Ok, Err, length, refl, sym, ◌∙◌}
use Rattle.std.specs.Prelude.{nat_eq, nat_le, nat_lt, slice_get}
use Rattle.std.specs.Option.{ok_or}
use Rattle.std.proofs.lemmas.Bool.{or_parts}
use Rattle.rly_core.specs.declared.refusal.Refusal.{Refusal}
use Rattle.rly_core.specs.declared.refusal.Refusal.TheVariants.{Broken, Unsure, NoSuchPeer, NoSuchHop, BadMoment, Gap, TooLong, Full, WindowFull, Empty, NeverSent, NotInFlight, Spent}
use Rattle.rly_core.specs.declared.ids.HopId.{HopId}
use Rattle.rly_core.specs.declared.ids.PeerId.{PeerId}
use Rattle.rly_machine.specs.declared.command.Ask.{Ask}
use Rattle.rly_machine.specs.declared.command.Ask.TheVariants as ask
use Rattle.rly_machine.specs.declared.command.Command.{Command}
use Rattle.rly_machine.specs.declared.command.Command.TheVariants.{Take, Pick, Release}
use Rattle.rly_machine.specs.declared.command.Query.{Query}
use Rattle.rly_machine.specs.declared.command.Query.TheVariants.{Fetch, Window, Show}
use Rattle.rly_machine.specs.declared.hop.Item.{Item}
use Rattle.rly_machine.specs.declared.reply.Reply.{Reply}
use Rattle.rly_machine.specs.declared.reply.Reply.TheVariants.{Already, Refused, Shown, Unchanged, WindowIs}
use Rattle.rly_machine.specs.State.{HopState, State, has_hop, has_peer, hop_at, last_at, next_number}
use Rattle.rly_machine.specs.Accepted.{is_accepted, max_seq, unless}
use Rattle.rly_machine.specs.Take.{is_full, take_refusal}
use Rattle.rly_machine.specs.Expiry.{expired_count}
use Rattle.rly_machine.specs.Pick.{is_idle, pick_outcome, pick_refusal, pick_reply, picked_reply}
use Rattle.rly_machine.specs.Release.{covered_count, release_refusal}
use Rattle.rly_machine.specs.Step.{step}
use Rattle.rly_machine.specs.Query.{fetch_reply, item_of, query_reply, status_of}
use Rattle.rly_machine.specs.Ask.{ask_step}
use Rattle.rly_machine.specs.History.{is_failure, harm}

-- a check's reply is no failure, and doesn't accept
abbrev Refuses : Option Reply → Type 0
Refuses None = Unit {0}
Refuses (Some reply) = is_failure reply || is_accepted reply ≡ false

record Checks (o : Option Reply) : Type 0 where
  refuses : Refuses o

-- a list of checks
row : (b : Bool) (reply : Reply) (rest : Option Reply) → is_failure reply || is_accepted reply ≡ false → Checks rest → Checks (cond b (Some reply) rest)
row true reply rest this others = record { refuses = this }
row false reply rest this others = others

passes : Checks None
passes = record { refuses = tt }

checks_take : {P : Type 0} (len : P → ℕ) (s : State P) (peer : PeerId) (number : ℕ) (hop : HopId) (stamp limit bytes : ℕ) → Checks (take_refusal len s peer number hop stamp limit bytes)
checks_take len s peer number hop stamp limit bytes =
    row (not (has_peer s peer)) (Refused NoSuchPeer) _ refl (row (not (has_hop s hop)) (Refused NoSuchHop) _ refl (row (nat_le (2 ^ 52) stamp) (Refused BadMoment) _ refl
    (row (nat_le (2 ^ 40) limit) (Refused BadMoment) _ refl (row (nat_lt s.params.payload bytes) (Refused TooLong) _ refl (row (nat_le number (last_at s peer)) (Already (last_at s peer)) _ refl
    (row (nat_lt (last_at s peer + 1) number) (Refused (Gap (last_at s peer + 1))) _ refl (row (is_full len s bytes) (Refused Full) _ refl
    (row (nat_le max_seq s.seq) (Refused Spent) _ refl passes))))))))

checks_pick : {P : Type 0} (s : State P) (hop : HopId) (now : ℕ) → Checks (pick_refusal s hop now)
checks_pick s hop now =
    row (not (has_hop s hop)) (Refused NoSuchHop) _ refl (row (nat_le (2 ^ 52) now) (Refused BadMoment) _ refl
    (row (nat_le s.params.window (length (hop_at s hop).flight)) (Refused WindowFull) _ refl (row (is_idle (hop_at s hop)) (Refused Empty) _ refl
    (row (nat_le max_seq s.seq) (Refused Spent) _ refl passes))))

checks_release : {P : Type 0} (s : State P) (hop : HopId) (number : ℕ) → Checks (release_refusal s hop number)
checks_release s hop number =
    row (not (has_hop s hop)) (Refused NoSuchHop) _ refl (row (nat_le (next_number (hop_at s hop)) number) (Refused NeverSent) _ refl
    (row (nat_eq (covered_count (hop_at s hop) number) 0) Unchanged _ refl (row (nat_le max_seq s.seq) (Refused Spent) _ refl passes)))

-- the result of a step: a check's reply and the unchanged state, or an accepted command's
record Comes {P : Type 0} (s : State P) (after : State P × Reply) : Type 0 where
  real : is_failure after.1 ≡ false
  stays : is_accepted after.1 ≡ false → after.0 ≡ s
  counts : is_accepted after.1 ≡ true → after.0.seq ≡ s.seq + 1

comes : {P : Type 0} (o : Option Reply) (s : State P) (accepted : State P × Reply) → Checks o
    → is_failure accepted.1 ≡ false → is_accepted accepted.1 ≡ true → accepted.0.seq ≡ s.seq + 1 → Comes s (unless o s accepted)
comes None s accepted checks real accepts seq = record { real = real; stays = λ refuses. absurd (true≢false (sym accepts ∙ refuses)); counts = λ _. seq }
comes (Some reply) s accepted checks real accepts seq =
    let both = or_parts (is_failure reply) (is_accepted reply) checks.refuses in
    record { real = both.0; stays = λ _. refl; counts = λ accept. absurd (true≢false (sym accept ∙ both.1)) }

picked_real : {P : Type 0} (number : ℕ) (expired dropped : List ℕ) (items : List (Item P)) → is_failure (picked_reply number expired dropped items) ≡ false
picked_real number expired dropped [] = refl
picked_real number expired dropped (item ∷ items) = refl

picked_counts : {P : Type 0} (number : ℕ) (expired dropped : List ℕ) (items : List (Item P)) → is_accepted (picked_reply number expired dropped items) ≡ true
picked_counts number expired dropped [] = refl
picked_counts number expired dropped (item ∷ items) = refl

pick_real : {P : Type 0} (h : HopState P) (late count : ℕ) → is_failure (pick_reply h late count) ≡ false
pick_real {P} h late count =
    picked_real (next_number h) (map (λ (item : Item P). item.id) (take late h.queue)) (map (λ (item : Item P). item.id) (take count (drop late h.queue))) (drop count (drop late h.queue))

pick_counts : {P : Type 0} (h : HopState P) (late count : ℕ) → is_accepted (pick_reply h late count) ≡ true
pick_counts {P} h late count =
    picked_counts (next_number h) (map (λ (item : Item P). item.id) (take late h.queue)) (map (λ (item : Item P). item.id) (take count (drop late h.queue))) (drop count (drop late h.queue))

step_comes : {P : Type 0} (len : P → ℕ) (s : State P) (command : Command P) → Comes s (step len s command)
step_comes len s (Take peer number hop stamp limit payload) = comes (take_refusal len s peer number hop stamp limit (len payload)) s _ (checks_take len s peer number hop stamp limit (len payload)) refl refl refl
step_comes len s (Pick hop now) =
    comes (pick_refusal s hop now) s _ (checks_pick s hop now) (pick_real (hop_at s hop) (expired_count (hop_at s hop) now) (pick_outcome len s.params (hop_at s hop) now).dropped)
    (pick_counts (hop_at s hop) (expired_count (hop_at s hop) now) (pick_outcome len s.params (hop_at s hop) now).dropped) refl
step_comes len s (Release hop number) = comes (release_refusal s hop number) s _ (checks_release s hop number) refl refl refl

-- no reply to a command is a failure
pub real_step : {P : Type 0} (len : P → ℕ) (s : State P) (command : Command P) → is_failure (step len s command).1 ≡ false
real_step len s command = (step_comes len s command).real

-- a command that was not accepted leaves the state unchanged
pub unaccepted : {P : Type 0} (len : P → ℕ) (s : State P) (command : Command P) → is_accepted (step len s command).1 ≡ false → (step len s command).0 ≡ s
unaccepted len s command = (step_comes len s command).stays

-- an accepted one adds one to the count
pub counted : {P : Type 0} (len : P → ℕ) (s : State P) (command : Command P) → is_accepted (step len s command).1 ≡ true → (step len s command).0.seq ≡ s.seq + 1
counted len s command = (step_comes len s command).counts

abbrev Fetches : {P : Type 0} → Result (Item P) Refusal → Type 0
Fetches (Ok item) = Unit {0}
Fetches (Err refusal) = is_failure (Refused refusal) ≡ false

record RealFetch {P : Type 0} (r : Result (Item P) Refusal) : Type 0 where
  fetches : Fetches r

fetched_real : (r : Result (Item (List ℕ)) Refusal) → RealFetch r → is_failure (fetch_reply r) ≡ false
fetched_real (Ok item) real = refl
fetched_real (Err refusal) real = real.fetches

fetch_row : {P : Type 0} (b : Bool) (refusal : Refusal) (rest : Result (Item P) Refusal) → is_failure (Refused refusal) ≡ false → RealFetch rest → RealFetch (cond b (Err refusal) rest)
fetch_row true refusal rest real others = record { fetches = real }
fetch_row false refusal rest real others = others

fetch_end : {P : Type 0} (o : Option (Item P)) → RealFetch (ok_or o NotInFlight)
fetch_end None = record { fetches = refl }
fetch_end (Some item) = record { fetches = tt }

real_cond : (b : Bool) (x y : Reply) → is_failure x ≡ false → is_failure y ≡ false → is_failure (cond b x y) ≡ false
real_cond true x y real others = real
real_cond false x y real others = others

-- nor is one to a query
pub real_query : (s : State (List ℕ)) (query : Query) → is_failure (query_reply s query) ≡ false
real_query s (Fetch hop number) = fetched_real (item_of s hop number)
    (fetch_row (not (has_hop s hop)) NoSuchHop _ refl (fetch_row (nat_le (next_number (hop_at s hop)) number) NeverSent _ refl
    (fetch_row (nat_le number (hop_at s hop).released) NotInFlight _ refl (fetch_end (slice_get (hop_at s hop).flight (number - (hop_at s hop).released - 1))))))
real_query s (Window hop) =
    let h = hop_at s hop in
    real_cond (has_hop s hop) (WindowIs (cond (nat_eq (length h.flight) 0) (next_number h) (h.released + 1)) (next_number h)) (Refused NoSuchHop) refl refl
real_query s (Show hop) = real_cond (has_hop s hop) (Shown (status_of (hop_at s hop))) (Refused NoSuchHop) refl refl

-- no reply to a request is a failure
pub real_reply : (s : State (List ℕ)) (an : Ask) → is_failure (ask_step s an).1 ≡ false
real_reply s (ask.Command command) = (step_comes length s command).real
real_reply s (ask.Query query) = real_query s query

-- a reply that isn't a failure reports no damage
pub harmless : (reply : Reply) → is_failure reply ≡ false → harm reply ≡ 0
harmless (Refused Broken) real = absurd (true≢false real)
harmless (Refused Unsure) real = absurd (true≢false real)
harmless _ real = refl
