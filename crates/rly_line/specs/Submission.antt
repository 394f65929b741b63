-- The submission queue, under one rule: for each seat, the calls received, followed by those in the queue, are the
-- calls that it submitted. A seat that leaves puts that into the queue.
use Rattle.std.specs.Prelude.{ℕ, ◌≡◌, ◌+◌, ◌<◌, ◌≤◌, ◌==◌, List, [], ◌∷◌, ◌++◌, true, filter, length}
use Rattle.std.specs.Prelude.{Option, IfSome}
use Rattle.std.specs.List.{AllByRecursion}
use mathlib.Core.Option.{some}
use lib.ListN.{get_elem?}
use Rattle.atomic_table.specs.Seated.{TableId}
use Rattle.atomic_table.specs.declared.badge.Badge.{Badge}
use Rattle.crossbeam_channel.specs.declared.flavors.array.Key.{Key}
use Rattle.rly_machine.specs.declared.call.Call.{Call}
use Rattle.rly_line.specs.declared.submission.LineView.{LineView}
use Rattle.rly_line.specs.Batches.{BatchView, HasAsks, calls_in_line}

-- the calls of one seat
abbrev pub calls_of : ℕ → List Call → List Call
calls_of seat calls = filter (λ call. call.seat.0 == seat) calls

-- calls that are numbered one after another, after a number
abbrev pub AreNumbered : ℕ → List Call → Type 0
AreNumbered last [] = Unit {0}
AreNumbered last (call ∷ calls) = (call.number ≡ last + 1) × AreNumbered (last + 1) calls

-- the invariant of the calls in the queue and the tokens' knowledge, if each seat's owner has its token, the head
-- is the receiver's token, and these calls were received
pub record IsLine (owner : ℕ → ℕ) (head count : ℕ) (gone items : List Call) (views : List LineView) : Type 0 where
  pub seated : (seat : ℕ) → count ≤ seat → calls_of seat (gone ++ items) ≡ []
  pub numbered : (seat : ℕ) → AreNumbered 0 (calls_of seat (gone ++ items))
  pub puts : (pass : ℕ) (v : LineView) → get_elem? views pass ≡ some v → v.puts ≡ true
      → (owner v.seat ≡ pass) × (v.seat < count) × (calls_of v.seat (gone ++ items) ≡ v.put)
  pub takes : (pass : ℕ) (v : LineView) → get_elem? views pass ≡ some v → v.takes ≡ true
      → (pass ≡ head) × (v.seats ≡ count) × (v.taken ≡ gone)

-- the rule, over the elements of the queue: over its calls, consecutively; and each batch has an ask
abbrev pub AreLined : List (Option BatchView) → List LineView → Type 0
AreLined puts views =
    (owner : ℕ → ℕ) × (head : ℕ) × (count : ℕ) × (gone : List Call)
    × IsLine owner head count gone (calls_in_line puts) views × AllByRecursion (λ put. IfSome put HasAsks) puts

-- the identity of the queue, as the channel names it
pub record LineId : Type 0 where
  pub table : TableId
  pub key : Badge (Key (Option BatchView))

-- a batch is the next of its seat, one of this many, after the calls received
pub record IsNext (seats : ℕ) (taken : List Call) (batch : BatchView) : Type 0 where
  pub seat : batch.seat.0 < seats
  pub before : batch.before ≡ length (calls_of batch.seat.0 taken)
  pub asks : HasAsks batch

-- the models of one queue at one moment: that of the receiver's token, and that of a seat's
pub record AreBeside (views : List LineView) (taker putter : LineView) : Type 0 where
  pub head : ℕ
  pub owner : ℕ
  pub head_is : get_elem? views head ≡ some taker
  pub owner_is : get_elem? views owner ≡ some putter
  pub takes : taker.takes ≡ true
  pub puts : putter.puts ≡ true

-- the calls received from a seat are a prefix, ask for ask, of those that it submitted
abbrev pub IsBeginning : ℕ → List Call → List Call → Type 0
IsBeginning seat taken put = (left : List Call) × (put ≡ calls_of seat taken ++ left)
