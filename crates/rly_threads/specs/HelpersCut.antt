-- Helpers of private functions: the record of a worker's clock, and the result of a worker's thread.
use Rattle.std.specs.Prelude.{◌≡◌, ℕ, Bool, true, List, map, Option, None, Some, IfSome}
use Rattle.std.specs.List.{AllByRecursion}
use Rattle.std.specs.declared.thread.PromisedHandle.{PromisedHandle}
use Rattle.std.specs.Option.{is_some}
use Rattle.std.specs.declared.sync.OnceToken.{OnceToken}
use Rattle.rly_core.specs.declared.ids.HopId.{HopId}
use Rattle.rly_core.specs.declared.params.Params.{Params}
use Rattle.rly_line.specs.EndViews.{ClosedView, names_of}
use Rattle.rly_line.specs.Replies.{ReplyId}
use Rattle.rly_line.specs.ResponderView.{IsSeatOf, IsReportedBy}
use Rattle.rly_line.specs.Seats.{Caller}
use Rattle.rly_line.specs.Submission.{LineId}
use Rattle.rly_plan.specs.ContactPlan.{ContactPlan}
use Rattle.http_server.specs.declared.log.Log.{Log}
use Rattle.rly_threads.specs.declared.relay.Duty.{Duty}
use Rattle.rly_threads.specs.declared.relay.Ended.{Ended}
use Rattle.rly_threads.specs.declared.relay.Left.{Left}
use Rattle.rly_link.specs.declared.post.Post.{Post}
use Rattle.rly_link.specs.declared.turn.Go.{Go}
use Rattle.rly_link.specs.declared.turn.Point.{Point}
use Rattle.rly_link.specs.declared.turn.Worker.{Worker}
use Rattle.rly_threads.specs.declared.seat_desk.SeatExchange.{SeatExchange}
use Rattle.rly_threads.specs.declared.seat_desk.SeatExchange.TheVariants.{One, Several}
use Rattle.rly_threads_workers.specs.DeskExchanges.{Asked, HasPut, batch_outcome, call_asked}
use Rattle.rly_threads.specs.Cut.{Look, all_on, is_cut_short, was_cut}
use Rattle.rly_link.specs.LinkHistory.{Handed, Hearing, TellsMore}
use Rattle.rly_threads.specs.Relay.{HasEnded}

-- what a log has
abbrev pub looks_in : Log (Worker × Point) (Go × Bool) → List Look
looks_in log = map (λ e. record { handed = (e.0.0, e.0.1, e.1.0); cut = e.1.1 }) log.items

-- the flag that was read, if it was, is that of this lock, and it says that the relay is cut
abbrev pub IsHeard : ℕ → Option (OnceToken Bool) → Type 0
IsHeard lock heard = IfSome heard (λ said. (said.of ≡ lock) × (said.value ≡ true))

-- a batch of asks to a seat, and its outcome, as a log has it
abbrev pub exchange : SeatExchange → Asked
exchange (One ask outcome) = call_asked ask.value outcome.value
exchange (Several asks outcome answers) = (asks.value.items, batch_outcome outcome.value answers.value.items)

abbrev pub asked_in : Log SeatExchange (Unit {0}) → List Asked
asked_in log = map (λ e. exchange e.0) log.items

-- the model of a worker's seat within its crate: the seat, and its asks
pub record SeatDeskView : Type 0 where
  pub seat : Caller
  pub asked : List Asked

-- its invariant, given the seat at first
abbrev pub IsTelling : Option Caller → SeatDeskView → Type 0
IsTelling first d = IfSome first (λ seat. HasPut seat d.asked d.seat)

-- the model of a stoppable clock within its crate: the clock, the lock of the stop flag, the flag as read at the
-- stop, and the ticks
pub record CutView (T : Type 0) : Type 0 where
  pub turn : T
  pub lock : ℕ
  pub heard : Option (OnceToken Bool)
  pub looks : List Look

-- its invariant, given the first ticks, whether the clock never stops, and the lock of the stop flag
pub record IsCutting {T : Type 0} (told : T → Option (List Handed)) (without_end : T → Bool)
    (first : Option (List Handed)) (is_endless : Bool) (lock : ℕ) (c : CutView T) : Type 0 where
  pub endless : without_end c.turn ≡ is_endless
  pub on : is_endless ≡ true → all_on c.looks ≡ true
  pub turns : TellsMore first (told c.turn) (map (λ l. l.handed) c.looks)
  pub cut : is_some c.heard ≡ was_cut c.looks
  pub early : is_cut_short c.looks ≡ true
  pub of : c.lock ≡ lock
  pub hears : IsHeard lock c.heard

-- the post and the seat for which a thread was started, if it was
abbrev pub IsFor : {L T W : Type 0} → ContactPlan → Params → ℕ → Post L T W × Caller
    → Option (PromisedHandle (Left L T W) (Duty L T W)) → Type 0
IsFor plan params lock given thread =
    IfSome thread (λ t. (t.promise.plan.value ≡ plan) × (t.promise.params ≡ params) × (t.promise.post.value ≡ given.0)
    × (t.promise.stop_flag.value.id ≡ lock) × (t.promise.seat.value ≡ given.1))

-- the result of a worker, if it had a thread
abbrev pub GivesBack : {H R : Type 0} → (H → R → Type 0) → Option H → Option R → Type 0
GivesBack Gives None result = result ≡ None
GivesBack Gives (Some thread) None = ⊥
GivesBack Gives (Some thread) (Some left) = Gives thread left

-- the result of a worker's thread: its worker did at its post as promised, and was stopped only if the flag was
-- set; and its seat is related to the closed end of its queues
abbrev pub IsJoined : {L T W : Type 0} → (L → Option (List Hearing)) → (L → Option (List (List ℕ)))
    → (T → Option (List Handed)) → (T → Bool) → (W → Option (List HopId)) → Bool → ClosedView
    → PromisedHandle (Left L T W) (Duty L T W) → Ended L T W → Type 0
IsJoined heard sent handed endless woken said lines thread ended =
    HasEnded heard sent handed endless woken thread.promise.plan.value thread.promise.params
    (thread.promise.post.value, thread.promise.seat.value) ended.post ended.seat.value ended.was_cut
    × (ended.was_cut ≡ true → said ≡ true) × IsReportedBy lines ended.seat.value
    × IsSeatOf lines.of (names_of lines.lines) ended.seat.value

-- the seats of threads are of these queues
abbrev pub AreSeatsOf : {L T W : Type 0} → LineId → List (Option ReplyId)
    → List (Option (PromisedHandle (Left L T W) (Duty L T W))) → Type 0
AreSeatsOf of names threads =
    AllByRecursion (λ thread. IfSome thread (λ t. IsSeatOf of names t.promise.seat.value)) threads
