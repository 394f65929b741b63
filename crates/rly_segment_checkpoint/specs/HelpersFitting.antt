-- Helpers: states that can be read back: each number fits its field, whose width the head's form gives. In a sound
-- state each does. No public contract cites them.
use Rattle.std.specs.Prelude.{ℕ, ◌^◌, ◌<◌, List, length}
use Rattle.std.specs.List.{AllByRecursion}
use Rattle.rly_codel.specs.declared.state.CodelState.{CodelState}
use Rattle.rly_machine.specs.declared.hop.Item.{Item}
use Rattle.rly_machine.specs.State.{HopState}
use Rattle.rly_segment_checkpoint.specs.Widths.{moment_width, count_width, expired_width, limit_width}
use Rattle.rly_segment_checkpoint.specs.declared.head_form.HeadForm.{HeadForm}

-- a number fits this many bytes
abbrev pub FitsBytes : ℕ → ℕ → Type 0
FitsBytes width n = n < 256 ^ width

-- CoDel's numbers fit
pub record CodelFits (which : HeadForm) (c : CodelState) : Type 0 where
  pub first_above_time : FitsBytes (moment_width which) c.first_above_time
  pub drop_next : FitsBytes (moment_width which) c.drop_next
  pub count : FitsBytes (count_width which) c.count
  pub lastcount : FitsBytes (count_width which) c.lastcount

-- an item's numbers fit, its length does, and its content has a form
pub record EntryFits {P : Type 0} (which : HeadForm) (len : P → ℕ) (HasForm : P → Type 0) (item : Item P) : Type 0 where
  pub id : FitsBytes (count_width which) item.id
  pub stamp : FitsBytes (moment_width which) item.stamp
  pub limit : FitsBytes (limit_width which) item.limit
  pub payload : FitsBytes 2 (len item.payload)
  pub form : HasForm item.payload

-- the given items in flight and the waiting ones have entries, and their counts fit
pub record LinesFit {P : Type 0} (which : HeadForm) (len : P → ℕ) (HasForm : P → Type 0) (first second : List (Item P))
    : Type 0 where
  pub in_flight : FitsBytes 2 (length first)
  pub waiting : FitsBytes 4 (length second)
  pub flight : AllByRecursion (EntryFits which len HasForm) first
  pub queue : AllByRecursion (EntryFits which len HasForm) second

-- a hop's numbers fit
pub record HopFits {P : Type 0} (which : HeadForm) (len : P → ℕ) (HasForm : P → Type 0) (h : HopState P)
    : Type 0 where
  pub moment : FitsBytes (moment_width which) h.moment
  pub codel : CodelFits which h.codel
  pub taken : FitsBytes (count_width which) h.taken
  pub dropped : FitsBytes (count_width which) h.dropped
  pub released : FitsBytes (count_width which) h.released
  pub expired : FitsBytes (expired_width which) h.expired
  pub lines : LinesFit which len HasForm h.flight h.queue
