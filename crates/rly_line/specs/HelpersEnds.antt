-- Helpers of private functions: the two queues as their channels represent them, and the ends of a seat.
use Rattle.std.specs.Prelude.{ℕ, ◌≡◌, ◌⊎◌, List, [], ◌++◌, length, vec_capacity}
use Rattle.std.specs.Prelude.{Bool, true, false, Option, Some, None}
use Rattle.std.specs.Global.{Vec}
use Rattle.crossbeam_channel.specs.Claims.{Pass}
use Rattle.rly_core.specs.Bounds.{IsIn}
use Rattle.rly_machine.specs.declared.call.Answer.{Answer}
use Rattle.rly_machine.specs.declared.call.Call.{Call}
use Rattle.rly_machine.specs.declared.call.SeatId.{SeatId}
use Rattle.rly_machine.specs.declared.command.Ask.{Ask}
use Rattle.rly_machine.specs.History.{Entry, LegalButForBytes}
use Rattle.rly_machine.specs.State.{State}
use Rattle.rly_line.specs.declared.replies.ReplyView.{ReplyView}
use Rattle.rly_line.specs.declared.submission.LineView.{LineView}
use Rattle.rly_line.specs.Batches.{AnswersView, BatchView, calls_in_batch}
use Rattle.rly_line.specs.Replies.{ExtendsHistory, ReplyId, entries_of}
use Rattle.rly_line.specs.Seats.{Caller, WaitingCaller, after_put}
use Rattle.rly_line.specs.Submission.{IsNext, LineId}

-- ---- the submission queue

-- the model of the receiver's token, and that of a seat's token
abbrev pub taking_view : ℕ → List Call → LineView
taking_view seats taken = record { puts = false; seat = 0; put = []; takes = true; seats = seats; taken = taken }

abbrev pub putting_view : ℕ → List Call → LineView
putting_view seat put = record { puts = true; seat = seat; put = put; takes = false; seats = 0; taken = [] }

-- the joined knowledge of both, and the rest of a token that was given up
abbrev pub merged_view : LineView → LineView → LineView
merged_view taker putter = record taker { puts = true; seat = putter.seat; put = putter.put }

abbrev pub idle_view : LineView
idle_view = record { puts = false; seat = 0; put = []; takes = false; seats = 0; taken = [] }

-- the queue of a token
abbrev pub line_of : Pass (Option BatchView) LineView → LineId
line_of pass = record { table = pass.table_id; key = pass.me.0.of }

-- the receiver's new knowledge after an element was received: a batch, or a seat that leaves
abbrev pub IsTaken : LineView → Option BatchView → LineView → Type 0
IsTaken v None w = w ≡ v
IsTaken v (Some batch) w = (w ≡ record v { taken = v.taken ++ calls_in_batch batch }) × IsNext v.seats v.taken batch

-- the model of a seat's end of the queue, and of the receiving end
pub record Putter : Type 0 where
  pub of : LineId
  pub seat : ℕ
  pub put : List Call
  -- the queue refused a batch
  pub refused : Bool

pub record Taker : Type 0 where
  pub of : LineId
  -- the queue holds this many batches
  pub capacity : ℕ
  pub seats : ℕ
  pub taken : List Call
  -- a wait found no batch and no seat left
  pub over : Bool

-- and of the closed receiving end
pub record Taken : Type 0 where
  pub of : LineId
  pub seats : ℕ
  pub taken : List Call

-- ---- an answer queue

-- the model of the first token, which splits into those of the two ends
abbrev pub both_ends : ReplyView
both_ends = record {
  tells = true;
  hears = true;
  seat = 0;
  base = None;
  known = [];
  base_before = None;
  known_before = [];
  told = [];
}

abbrev pub replying_view : ℕ → ReplyView
replying_view seat = record both_ends { hears = false; seat = seat }

abbrev pub hearing_view : ℕ → ReplyView
hearing_view seat = record both_ends { tells = false; seat = seat }

-- the joined knowledge of both, with the base that the seat knows as the one before; and the rest of a token that
-- was given up
abbrev pub both_known : ReplyView → ReplyView → ReplyView
both_known teller hearer = record teller { hears = true; known = hearer.known; base_before = hearer.base }

abbrev pub silent_view : ReplyView
silent_view = record both_ends { tells = false; hears = false }

-- the queue of a token
abbrev pub replies_of : Pass (Option AnswersView) ReplyView → ReplyId
replies_of pass = record { table = pass.table_id; key = pass.me.0.of }

-- the model of its receiving end
pub record Hearer : Type 0 where
  pub of : Option ReplyId
  pub seat : ℕ
  pub base : Option (State (List ℕ))
  pub known : List Entry
  -- it stopped listening
  pub deaf : Bool

-- one that received nothing
abbrev pub new_hearer : Option ReplyId → ℕ → Hearer
new_hearer of seat = record { of = of; seat = seat; base = None; known = []; deaf = false }

-- its knowledge, given that of its token: if it stopped listening, the last answers added none
abbrev pub heard_by : ReplyId → ReplyView → Bool → Hearer
heard_by of v false = record { of = Some of; seat = v.seat; base = v.base; known = v.known; deaf = false }
heard_by of v true = record { of = Some of; seat = v.seat; base = v.base_before; known = v.known_before; deaf = true }

-- the knowledge from a batch of answers: the base is the same in all of them
pub record Teaches (seat : ℕ) (base known_base : Option (State (List ℕ))) (before : List Entry) (answers : List Answer)
    (after : List Entry) : Type 0 where
  pub start : State (List ℕ)
  pub same_base : (base ≡ None) ⊎ (base ≡ Some start)
  pub base_is : known_base ≡ Some start
  pub legal : LegalButForBytes start after
  pub goes_on : ExtendsHistory seat before answers after

-- the receiver's new knowledge after an element: a batch of answers, or the close
abbrev pub IsHeard : ReplyView → Option AnswersView → ReplyView → Type 0
IsHeard v None w = w ≡ v
IsHeard v (Some given) w =
    (w ≡ record v { base = w.base; known = w.known; base_before = v.base; known_before = v.known })
    × Teaches v.seat v.base w.base v.known given.answers w.known

-- ---- a seat

-- the two ends belong to one seat; it counts its calls; and while it is open it listens
pub record IsSeated (seat : SeatId) (p : Putter) (h : Hearer) (calls : ℕ) (shut : Bool) : Type 0 where
  pub puts : p.seat ≡ seat.0
  pub hears : h.seat ≡ seat.0
  pub count : calls ≡ length p.put
  pub listens : shut ≡ false → h.deaf ≡ false

-- as many calls of a seat were answered as it submitted
abbrev pub AreAllAnswered : Caller → Type 0
AreAllAnswered c = length (entries_of c.seat.0 c.known) ≡ length c.put

-- a seat that waits for the answers to this many asks
pub record IsWaiting (w : WaitingCaller) (count : ℕ) (now : Caller) : Type 0 where
  pub still_open : w.before.shut ≡ false
  pub answered : AreAllAnswered w.before
  pub some : IsIn 1 64 (length w.asks)
  pub as_many : count ≡ length w.asks
  pub submitted : now ≡ after_put w.before w.asks

-- the lists of a batch have room for 64 each, and for no more
abbrev pub HasBatchRoom : Vec Ask → Vec Answer → Type 0
HasBatchRoom asks answers = (vec_capacity asks ≡ 64) × (vec_capacity answers ≡ 64)

-- and they are empty
abbrev pub AreEmpty : Vec Ask → Vec Answer → Type 0
AreEmpty asks answers = (asks.items ≡ []) × (answers.items ≡ []) × HasBatchRoom asks answers

-- an open seat between its batches
pub record IsIdle (now : Caller) (asks : Vec Ask) (answers : Vec Answer) : Type 0 where
  pub answered : AreAllAnswered now
  pub lists : AreEmpty asks answers
